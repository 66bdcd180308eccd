use Rattle.som_wire.proofs.SomeFits.{block_some, part_some}
use Rattle.som_wire.proofs.SelectFields.{selects_some}
use Rattle.som_wire.proofs.laws.what_fits_can_be_written.Goals as goal

pub returns-clause-block : goal.returns-clause-block
returns-clause-block c = λ ranges left known. block_some ranges known left

pub returns-clause-part : goal.returns-clause-part
returns-clause-part c = λ ranges introduced known. part_some ranges known introduced

pub returns-clause-selects : goal.returns-clause-selects
returns-clause-selects c = λ ranges first known. selects_some ranges known first
