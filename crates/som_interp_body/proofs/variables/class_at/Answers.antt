use Rattle.std.proofs.Common.{sym, ap, subst, ◌∙◌}
use Rattle.som_semantics.specs.Calls.{class_here}
use Rattle.som_values.specs.Shown.{IsNumbered, key_of}
use Rattle.som_interp_state.specs.Standing.{here_shown}
use Rattle.som_interp_body.proofs.Varying.{object_first}
use Rattle.som_interp_body.proofs.variables.class_at.Goals as goal

pub returns-in-Main-clause-numbered : goal.returns-in-Main-clause-numbered
returns-in-Main-clause-numbered g c =
    let known = c.know.ensures in
    let first = object_first (g.R.Classes.keys c.args.runtime.now) (g.R.Classes.world c.args.runtime.now) (g.R.ClassKeys.known c.args.runtime.now) (g.R.Runtime.linked c.args.runtime.now) (g.R.Runtime.program c.args.runtime.now) known.agree known.loads in
    subst (λ n. IsNumbered (g.R.Runtime.linked c.args.runtime.now).keys n) (sym c.new.ensures) first.0

pub returns-in-Main-clause-key : goal.returns-in-Main-clause-key
returns-in-Main-clause-key g c s me same =
    let known = c.know.ensures in
    let first = object_first (g.R.Classes.keys c.args.runtime.now) (g.R.Classes.world c.args.runtime.now) (g.R.ClassKeys.known c.args.runtime.now) (g.R.Runtime.linked c.args.runtime.now) (g.R.Runtime.program c.args.runtime.now) known.agree known.loads in
    ap (key_of (g.R.Runtime.linked c.args.runtime.now).keys) c.new.ensures ∙ first.1 ∙ sym (ap (λ p. class_here (here_shown s me p)) c.in-Main.is)
