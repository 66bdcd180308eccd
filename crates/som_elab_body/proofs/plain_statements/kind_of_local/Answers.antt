use Rattle.som_elab_body.proofs.Stating.{kind_stands, kind_there}
use Rattle.som_elab_body.proofs.plain_statements.kind_of_local.Goals as goal

pub returns-clause-is : goal.returns-clause-is
returns-clause-is c = λ cs. kind_there cs c.args.locals.now c.args.local _ c.requires

pub returns-clause-stands : goal.returns-clause-stands
returns-clause-stands c = λ cs are. kind_stands cs c.args.locals.now c.args.local _ are c.requires
