use Rattle.std.proofs.Common.{Some, sym, ap, ◌∙◌}
use Rattle.som_interp_state.specs.Settings.{class_named as class_in}
use Rattle.som_values.specs.Shown.{key_of}
use Rattle.som_interp_calls.proofs.Naming.{new_key, root_number}
use Rattle.som_interp_calls.proofs.classes.class_named.Goals as goal

pub returns-in_default-clause-key : goal.returns-in_default-clause-key
returns-in_default-clause-key g c =
    let r = c.args.runtime.now in
    let known = c.know.ensures in
    ap (key_of (g.R.Classes.keys r)) c.new.ensures
    ∙ (root_number (g.R.Classes.keys r) (g.R.Classes.world r) (g.R.ClassKeys.known r) (g.R.Runtime.linked r) (g.R.Runtime.program r) (g.R.Classes.made r) known.agree known.loads known.numbers).1
    ∙ ap class_in c.in_default.ensures

pub number_of-requires : goal.number_of-requires
number_of-requires g c =
    let r = c.args.runtime.now in
    let known = c.know.ensures in
    new_key (g.R.Classes.keys r) (g.R.Classes.world r) (g.R.ClassKeys.known r) (g.R.Runtime.linked r) (g.R.Runtime.program r) (g.R.Classes.made r) known.agree known.loads known.numbers c.args.codes.now c.requires c.args.code c.args.at c.in-Some-named_by.class.now
    (sym c.in-Some.ensures ∙ ap (λ i. Some i) c.in-Some-named_by.ensures.some)

pub returns-in-None-clause-key : goal.returns-in-None-clause-key
returns-in-None-clause-key g c =
    let r = c.args.runtime.now in
    let known = c.know.ensures in
    ap (key_of (g.R.Classes.keys r)) c.new-in-None.ensures
    ∙ (root_number (g.R.Classes.keys r) (g.R.Classes.world r) (g.R.ClassKeys.known r) (g.R.Runtime.linked r) (g.R.Runtime.program r) (g.R.Classes.made r) known.agree known.loads known.numbers).1
    ∙ sym c.in-None.ensures.none ∙ ap class_in c.in-Some.ensures
