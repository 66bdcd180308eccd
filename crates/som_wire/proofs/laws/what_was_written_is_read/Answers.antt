use Rattle.som_image_fields.specs.Spelling.{FitsMethod}
use Rattle.som_image_fields.specs.Fitting.{FitsBlock, FitsPart, FitsSelects}
use Rattle.som_wire.specs.Reading.{block_at, part_at, selects_at}
use Rattle.som_image_fields.specs.SyntaxSpelling as spelling
use Rattle.som_wire.proofs.StmtFields.{block_field}
use Rattle.som_wire.proofs.PartFields.{part_field}
use Rattle.som_wire.proofs.SelectFields.{selects_field}
use Rattle.som_wire.proofs.ReadBack.{read_back}
use Rattle.som_wire.proofs.laws.what_was_written_is_read.Goals as goal

pub returns-clause-block : goal.returns-clause-block
returns-clause-block c = λ ranges left known. read_back (block_at left ranges) spelling.block (FitsBlock left ranges.classes (FitsMethod ranges)) (block_field ranges known left)

pub returns-clause-part : goal.returns-clause-part
returns-clause-part c = λ ranges introduced known. read_back (part_at ranges introduced) spelling.part (FitsPart ranges introduced) (part_field ranges known introduced)

pub returns-clause-selects : goal.returns-clause-selects
returns-clause-selects c = λ ranges first known. read_back (selects_at ranges first) spelling.selects (FitsSelects ranges.classes (FitsMethod ranges) first) (selects_field ranges known first)
