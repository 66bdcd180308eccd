use Rattle.std.proofs.Common.{[], None, sym, ap, ◌∙◌}
use Rattle.som_semantics.specs.Calls.{class_here}
use Rattle.som_interp_state.specs.Named.{setting}
use Rattle.som_interp_state.specs.Standing.{here_shown}
use Rattle.som_values.specs.Shown.{key_of}
use Rattle.som_interp_calls.proofs.Naming.{root_number}
use Rattle.som_interp_calls.proofs.parents.class_at.Goals as goal

pub returns-in-Main-clause-key : goal.returns-in-Main-clause-key
returns-in-Main-clause-key g c =
    let r = c.args.runtime.now in
    let known = c.know.ensures in
    ap (key_of (g.R.Classes.keys r)) c.new.ensures
    ∙ (root_number (g.R.Classes.keys r) (g.R.Classes.world r) (g.R.ClassKeys.known r) (g.R.Runtime.linked r) (g.R.Runtime.program r) (g.R.Classes.made r) known.agree known.loads known.numbers).1
    ∙ ap (λ p. class_here (here_shown (setting (g.R.Runtime.linked r) [] []) None p)) (sym c.in-Main.is)
