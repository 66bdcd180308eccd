use Rattle.std.proofs.Common.{ap, ◌∙◌}
use Rattle.std.specs.Option.{is_some}
use Rattle.som_meta.specs.Numbering.{IsToken}
use Rattle.som_values.specs.Shown.{key_of}
use Rattle.som_interp_state.proofs.Asking.{asked_within}
use Rattle.som_interp_builtins.proofs.Firsts.{found_is}
use Rattle.som_interp_builtins.proofs.selves.has_method.Goals as goal

pub returns-clause-has : goal.returns-clause-has
returns-clause-has g c s =
    let key = key_of (g.R.Classes.keys c.args.runtime.now) c.args.class in
    let byname = (g.R.Classes.world c.args.runtime.now).byname in
    c.is_some.ensures
    ∙ found_is (IsToken (g.R.ClassKeys.known c.args.runtime.now)) (g.R.Runtime.linked c.args.runtime.now).method c.find.result (byname key c.in_ok-name.name) c.find.ensures.some c.find.ensures.none
    ∙ ap (λ t. is_some (byname key t)) (c.in_ok-name.ensures s)

pub returns-clause-cost : goal.returns-clause-cost
returns-clause-cost g c n have =
    let r = c.args.runtime.now in
    asked_within (g.R.ClassKeys.known r).classes (g.R.Classes.made r) n have c.in_ok-name.name (key_of (g.R.Classes.keys r) c.args.class) c.requires.made c.args.steps.now c.find.new.steps c.find.ensures.cost
