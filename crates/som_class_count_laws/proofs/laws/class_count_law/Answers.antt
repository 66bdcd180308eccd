use Rattle.som_class_count_laws.proofs.Counting.{few_made, fits_made}
use Rattle.som_class_count_laws.proofs.laws.class_count_law.Goals as goal

pub returns-clause-count : goal.returns-clause-count
returns-clause-count c = few_made

pub returns-clause-fits : goal.returns-clause-fits
returns-clause-fits c = fits_made
