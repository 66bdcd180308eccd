use Rattle.std.proofs.Common.{◌≡◌, inr, [], ◌∷◌, refl, sym, ap, subst, ◌∙◌, true}
use Rattle.std.proofs.lemmas.Result.{err_from_is_err_and}
use Rattle.som_semantics.specs.State.{Used}
use Rattle.som_machine_laws.specs.Needs.{AreClosed}
use Rattle.som_values.specs.Shown.{IsNumbered, key_of}
use Rattle.som_interp_state.specs.Settings.{Linked}
use Rattle.som_interp_loop.specs.Scene.{scene}
use Rattle.som_interp_loop.proofs.Knowing.{closed_all}
use Rattle.som_interp_body.proofs.Special.{carried, class_begins, class_comes, wants, wants_comes}
use Rattle.som_interp_body.proofs.class.class_object.Goals as goal

pub returns-in_err-reach-clause-comes : goal.returns-in_err-reach-clause-comes
returns-in_err-reach-clause-comes g c os t f is =
    let p = err_from_is_err_and c.from_residual.result c.from_residual.ensures.1 in
    let r = c.reach.new.self in
    let was = scene (g.R.Runtime.linked c.args.runtime.now) (g.R.ClassKeys.known c.args.runtime.now) (g.R.Runtime.program c.args.runtime.now) (g.R.Classes.made c.args.runtime.now) os t f in
    wants_comes was (scene (g.R.Runtime.linked r) (g.R.ClassKeys.known r) (g.R.Runtime.program r) (g.R.Classes.made r) os t f) c.args.body.now _ p.0 c.from_residual.result _ (inr p.2) p.1
    (λ ws s runs fuel. class_begins (g.R.Runtime.linked c.args.runtime.now) (g.R.ClassKeys.known c.args.runtime.now) (g.R.Runtime.program c.args.runtime.now) (g.R.Classes.made c.args.runtime.now) (g.R.Classes.made r) c.reach.ensures.keeps os t f c.args.body.now c.args.class.now is ws s)

pub returns-in_err-push-clause-comes : goal.returns-in_err-push-clause-comes
returns-in_err-push-clause-comes g c os t f is =
    let p = err_from_is_err_and c.from_residual-in_err-push.result c.from_residual-in_err-push.ensures.1 in
    let r = c.reach.new.self in
    let was = scene (g.R.Runtime.linked c.args.runtime.now) (g.R.ClassKeys.known c.args.runtime.now) (g.R.Runtime.program c.args.runtime.now) (g.R.Classes.made c.args.runtime.now) os t f in
    wants_comes was (scene (g.R.Runtime.linked r) (g.R.ClassKeys.known r) (g.R.Runtime.program r) (g.R.Classes.made r) os t f) c.args.body.now _ p.0 c.from_residual-in_err-push.result _ (inr p.2) p.1
    (λ ws s runs fuel. class_begins (g.R.Runtime.linked c.args.runtime.now) (g.R.ClassKeys.known c.args.runtime.now) (g.R.Runtime.program c.args.runtime.now) (g.R.Classes.made c.args.runtime.now) (g.R.Classes.made r) c.reach.ensures.keeps os t f c.args.body.now c.args.class.now is ws s)

pub returns-clause-made : goal.returns-clause-made
returns-clause-made g c = subst (λ k. g.R.Classes.made c.reach.new.self k ≡ true) c.number_of-number.ensures.key c.in_ok-reach.ensures.made

pub returns-clause-comes : goal.returns-clause-comes
returns-clause-comes g c os t f is =
    let r = c.reach.new.self in
    let l = g.R.Runtime.linked c.args.runtime.now in
    let known = c.know.ensures in
    let closed = closed_all (g.R.Classes.keys r) (g.R.Classes.world r) (g.R.ClassKeys.known r) (g.R.Runtime.linked r) known.agree (g.R.Runtime.program r) (g.R.Classes.made r) known.loads known.closed in
    let keys = ap (λ (x : Linked). x.keys) (sym c.reach.ensures.linked) ∙ known.agree.linked_numbers ∙ c.reach.ensures.keys in
    carried (scene l (g.R.ClassKeys.known c.args.runtime.now) (g.R.Runtime.program c.args.runtime.now) (g.R.Classes.made c.args.runtime.now) os t f) c.args.body.now _ (Used c.args.class.now ∷ []) l (g.R.Runtime.linked r) (g.R.ClassKeys.known c.args.runtime.now) (g.R.ClassKeys.known r) (g.R.Runtime.program c.args.runtime.now) (g.R.Runtime.program r) (g.R.Classes.made r) os t f c.reach.ensures.linked c.reach.ensures.known c.reach.ensures.program
    (class_comes l (g.R.ClassKeys.known c.args.runtime.now) (g.R.Runtime.program c.args.runtime.now) (g.R.Classes.made c.args.runtime.now) (g.R.Classes.made r) c.reach.ensures.keeps os t f c.args.body.now c.args.class.now is
    (subst (λ (x : Linked). AreClosed x.world (g.R.Classes.made r)) c.reach.ensures.linked closed)
    (subst (λ k. g.R.Classes.made r k ≡ true) c.number_of-number.ensures.key c.in_ok-reach.ensures.made)
    c.number_of-number.result (subst (λ ks. IsNumbered ks c.number_of-number.result) (sym keys) c.number_of-number.ensures.numbered) (ap (λ ks. key_of ks c.number_of-number.result) keys ∙ c.number_of-number.ensures.key)
    _ (record { levels = refl; me = refl; place = refl; zero = refl; code = refl }) refl c.in_ok-push.ensures refl)

pub returns-in_err-reach-clause-wants : goal.returns-in_err-reach-clause-wants
returns-in_err-reach-clause-wants g c e is = wants (err_from_is_err_and c.from_residual.result c.from_residual.ensures.1) is

pub returns-in_err-push-clause-wants : goal.returns-in_err-push-clause-wants
returns-in_err-push-clause-wants g c e is = wants (err_from_is_err_and c.from_residual-in_err-push.result c.from_residual-in_err-push.ensures.1) is
