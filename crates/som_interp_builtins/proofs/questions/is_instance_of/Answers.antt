use Rattle.std.proofs.Common.{Err, ap, subst, List, ◌∙◌}
use Rattle.std.proofs.lemmas.Result.{err_from_is_err_and}
use Rattle.som_model.specs.declared.key.ClassKey.{ClassKey}
use Rattle.som_model.specs.Keys.{same_key}
use Rattle.som_values.specs.Shown.{AreApart, all_shown, showing, shown_ref}
use Rattle.som_values.proofs.Places.{same_keys}
use Rattle.som_interp_builtins.proofs.Known.{alone, args_seen, first_class, holds_in}
use Rattle.som_interp_builtins.proofs.Meant.{fault_answered, object_tested, object_untested, truth_answered}
use Rattle.som_interp_builtins.proofs.questions.is_instance_of.Goals as goal

pub returns-in_err-other : goal.returns-in_err-other
returns-in_err-other g c xs statics h may =
    let keys = g.R.Classes.keys c.args.runtime.now in
    let world = g.R.Classes.world c.args.runtime.now in
    let known = g.R.ClassKeys.known c.args.runtime.now in
    let linked = g.R.Runtime.linked c.args.runtime.now in
    let made = g.R.Classes.made c.args.runtime.now in
    let agree = c.know.ensures.agree in
    let os = c.args.objects.now in
    let r = shown_ref (showing keys xs) c.args.me in
    let f = c.in_err-other.field-0.0 in
    let p = err_from_is_err_and c.from_residual-in_err-other.result c.from_residual-in_err-other.ensures.1 in
    fault_answered linked made keys xs os c.from_residual-in_err-other.result f _ (p.1 ∙ ap (λ z. Err z) p.2)
    (object_untested keys world h r (all_shown (showing keys xs) c.args.args.now) same_key c.in_ok-class.class f
    (c.in_ok-class.ensures.class xs statics h (alone keys world known linked made agree xs os statics h c.args.me c.args.args.now may))
    (c.in_err-other.ensures.means (showing keys xs) h (holds_in keys world known linked made agree xs os statics h c.args.me c.args.args.now may) (args_seen keys world known linked made agree xs os statics h c.args.me c.args.args.now may)))

pub returns : goal.returns
returns g c xs statics h may =
    let keys = g.R.Classes.keys c.args.runtime.now in
    let world = g.R.Classes.world c.args.runtime.now in
    let known = g.R.ClassKeys.known c.args.runtime.now in
    let linked = g.R.Runtime.linked c.args.runtime.now in
    let made = g.R.Classes.made c.args.runtime.now in
    let agree = c.know.ensures.agree in
    let os = c.args.objects.now in
    let r = shown_ref (showing keys xs) c.args.me in
    let n = c.in_ok-class.class in
    let m = c.in_ok-other.other in
    let apart : AreApart keys = subst (λ (z : List ClassKey). AreApart z) agree.linked_numbers agree.linked.apart in
    truth_answered linked made keys xs os c.eq.result _
    (object_tested keys world h r (all_shown (showing keys xs) c.args.args.now) same_key n m c.eq.result
    (c.in_ok-class.ensures.class xs statics h (alone keys world known linked made agree xs os statics h c.args.me c.args.args.now may))
    (c.in_ok-other.ensures.means (showing keys xs) h (holds_in keys world known linked made agree xs os statics h c.args.me c.args.args.now may) (args_seen keys world known linked made agree xs os statics h c.args.me c.args.args.now may))
    (c.eq.ensures ∙ same_keys keys n m apart c.in_ok-class.ensures.numbered (first_class keys world known linked made agree xs os statics h c.args.me c.args.args.now may m c.in_ok-other.ensures.held)))
