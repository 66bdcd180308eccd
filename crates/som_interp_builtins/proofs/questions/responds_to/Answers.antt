use Rattle.std.proofs.Common.{Ok, ap, sym, ◌∙◌}
use Rattle.std.specs.Option.{is_some}
use Rattle.som_semantics.specs.Invoked.{first_argument}
use Rattle.som_semantics.specs.State.{Boolean}
use Rattle.som_semantics.specs.Values.{text_of}
use Rattle.som_values.specs.Shown.{all_shown, showing, shown_ref}
use Rattle.som_interp_builtins.proofs.Known.{alone}
use Rattle.som_interp_builtins.proofs.Meant.{of_class, truth_answered}
use Rattle.som_interp_builtins.proofs.questions.responds_to.Goals as goal

pub returns-clause-answers : goal.returns-clause-answers
returns-clause-answers g c xs statics h may =
    let keys = g.R.Classes.keys c.args.runtime.now in
    let world = g.R.Classes.world c.args.runtime.now in
    let known = g.R.ClassKeys.known c.args.runtime.now in
    let linked = g.R.Runtime.linked c.args.runtime.now in
    let made = g.R.Classes.made c.args.runtime.now in
    let s = showing keys xs in
    truth_answered linked made keys xs c.args.objects.now c.in_ok-responds.responds _
    (of_class keys world h (shown_ref s c.args.me) c.in_ok-class.class (λ k. Ok (Boolean (is_some (world.byname k (text_of (first_argument (all_shown s c.args.args.now)))))))
    (c.in_ok-class.ensures.class xs statics h (alone keys world known linked made c.know.ensures.agree xs c.args.objects.now statics h c.args.me c.args.args.now may))
    ∙ ap (λ b. Ok (Boolean b)) (sym (c.in_ok-responds.ensures.has s)))
