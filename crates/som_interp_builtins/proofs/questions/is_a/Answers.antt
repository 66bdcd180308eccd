use Rattle.std.proofs.Common.{Err, ap, ◌∙◌}
use Rattle.std.proofs.lemmas.Result.{err_from_is_err_and}
use Rattle.som_values.specs.Shown.{all_shown, showing, shown_ref}
use Rattle.som_interp_builtins.proofs.Known.{alone, args_seen, first_class, holds_in}
use Rattle.som_interp_builtins.proofs.Meant.{fault_answered, object_untested}
use Rattle.som_interp_builtins.proofs.questions.is_a.Goals as goal

pub inherits-is-requires-clause-ancestor : goal.inherits-is-requires-clause-ancestor
inherits-is-requires-clause-ancestor g c =
    let keys = g.R.Classes.keys c.args.runtime.now in
    let world = g.R.Classes.world c.args.runtime.now in
    let known = g.R.ClassKeys.known c.args.runtime.now in
    let linked = g.R.Runtime.linked c.args.runtime.now in
    let made = g.R.Classes.made c.args.runtime.now in
    first_class keys world known linked made c.know.ensures.agree c.requires.0 c.args.objects.now c.requires.1 c.requires.2 c.args.me c.args.args.now c.requires.3 c.in_ok-ancestor.ancestor c.in_ok-ancestor.ensures.held

pub returns-in_err-ancestor : goal.returns-in_err-ancestor
returns-in_err-ancestor g c xs statics h may =
    let keys = g.R.Classes.keys c.args.runtime.now in
    let world = g.R.Classes.world c.args.runtime.now in
    let known = g.R.ClassKeys.known c.args.runtime.now in
    let linked = g.R.Runtime.linked c.args.runtime.now in
    let made = g.R.Classes.made c.args.runtime.now in
    let agree = c.know.ensures.agree in
    let os = c.args.objects.now in
    let r = shown_ref (showing keys xs) c.args.me in
    let f = c.in_err-ancestor.field-0.0 in
    let p = err_from_is_err_and c.from_residual-in_err-ancestor.result c.from_residual-in_err-ancestor.ensures.1 in
    fault_answered linked made keys xs os c.from_residual-in_err-ancestor.result f _ (p.1 ∙ ap (λ z. Err z) p.2)
    (object_untested keys world h r (all_shown (showing keys xs) c.args.args.now) world.is_a c.in_ok-class.class f
    (c.in_ok-class.ensures.class xs statics h (alone keys world known linked made agree xs os statics h c.args.me c.args.args.now may))
    (c.in_err-ancestor.ensures.means (showing keys xs) h (holds_in keys world known linked made agree xs os statics h c.args.me c.args.args.now may) (args_seen keys world known linked made agree xs os statics h c.args.me c.args.args.now may)))
