use Rattle.som_level_laws.specs.Levels.{level_classes}
use Rattle.som_flat_laws.proofs.Kept.{load, new_kept, old_kept}
use Rattle.som_flat_laws.proofs.laws.owners_kept_law.Goals as goal

pub returns-clause-kept : goal.returns-clause-kept
returns-clause-kept c is f = new_kept (level_classes is) f

pub returns-clause-keeps : goal.returns-clause-keeps
returns-clause-keeps c is f = old_kept (level_classes is) f

pub returns-clause-load : goal.returns-clause-load
returns-clause-load c is f = load (level_classes is) f
