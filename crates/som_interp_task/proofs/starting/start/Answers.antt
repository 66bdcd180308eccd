use Rattle.std.proofs.Common.{subst}
use Rattle.som_model.specs.declared.syntax.Block.{Block}
use Rattle.som_code_cache.specs.Coded.{AreCodes}
use Rattle.som_interp_task.proofs.starting.start.Goals as goal

pub returns-clause-stands : goal.returns-clause-stands
returns-clause-stands g c os =
    let know = c.know.ensures in
    let known = g.R.ClassKeys.known c.args.runtime.now in
    c.first_law.ensures _ _ (g.R.Runtime.linked c.args.runtime.now) known (g.R.Runtime.program c.args.runtime.now) (g.R.Classes.made c.args.runtime.now) os c.first.result c.in_ok-codes.codes
    know.agree know.loads (subst (λ (main : Block). AreCodes known main c.in_ok-codes.codes) c.main.ensures (c.in_ok-codes.ensures.codes known)) c.first.ensures
