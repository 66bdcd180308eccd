use Rattle.std.proofs.Common.{Ok, ap, sym, ◌∙◌}
use Rattle.std.specs.Option.{is_some}
use Rattle.som_semantics.specs.Invoked.{first_argument, stands_for}
use Rattle.som_semantics.specs.State.{Boolean}
use Rattle.som_semantics.specs.Values.{text_of}
use Rattle.som_values.specs.Shown.{all_shown, key_of, showing, shown_ref}
use Rattle.som_interp_builtins.proofs.Meant.{then_ok, truth_answered}
use Rattle.som_interp_builtins.proofs.questions.supports_method.Goals as goal

pub returns-clause-answers : goal.returns-clause-answers
returns-clause-answers g c os xs statics h may =
    let keys = g.R.Classes.keys c.args.runtime.now in
    let world = g.R.Classes.world c.args.runtime.now in
    let known = g.R.ClassKeys.known c.args.runtime.now in
    let linked = g.R.Runtime.linked c.args.runtime.now in
    let made = g.R.Classes.made c.args.runtime.now in
    let s = showing keys xs in
    truth_answered linked made keys xs os c.in_ok-supports.supports _
    (then_ok (stands_for (shown_ref s c.args.me)) (key_of keys c.in_ok-class.class) (λ k. Ok (Boolean (is_some (world.byname k (text_of (first_argument (all_shown s c.args.args.now)))))))
    (c.in_ok-class.ensures.means s)
    ∙ ap (λ b. Ok (Boolean b)) (sym (c.in_ok-supports.ensures.has s)))
