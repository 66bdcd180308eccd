use Rattle.som_image_fields.specs.Spelling.{FitsMethod}
use Rattle.som_image_fields.proofs.Apart.{apart}
use Rattle.som_image_fields.specs.Fitting.{FitsExpr, FitsBlock, FitsPart, FitsSelects}
use Rattle.som_wire.specs.Reading.{expr_at, block_at, part_at, selects_at}
use Rattle.som_image_fields.specs.SyntaxSpelling as spelling
use Rattle.som_wire.proofs.ExprFields.{expr_field}
use Rattle.som_wire.proofs.StmtFields.{block_field}
use Rattle.som_wire.proofs.PartFields.{part_field}
use Rattle.som_wire.proofs.SelectFields.{selects_field}
use Rattle.som_wire.proofs.laws.no_spelling_begins_another.Goals as goal

pub returns-clause-expr : goal.returns-clause-expr
returns-clause-expr c = λ ranges left known. apart (expr_at left ranges) spelling.expr (FitsExpr left ranges.classes (FitsMethod ranges)) (expr_field ranges known left)

pub returns-clause-block : goal.returns-clause-block
returns-clause-block c = λ ranges left known. apart (block_at left ranges) spelling.block (FitsBlock left ranges.classes (FitsMethod ranges)) (block_field ranges known left)

pub returns-clause-part : goal.returns-clause-part
returns-clause-part c = λ ranges introduced known. apart (part_at ranges introduced) spelling.part (FitsPart ranges introduced) (part_field ranges known introduced)

pub returns-clause-selects : goal.returns-clause-selects
returns-clause-selects c = λ ranges first known. apart (selects_at ranges first) spelling.selects (FitsSelects ranges.classes (FitsMethod ranges) first) (selects_field ranges known first)
