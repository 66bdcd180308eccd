use Rattle.std.proofs.Common.{◌≡◌, ◌⊎◌, ◌-◌, suc, true, true≢false, [], ◌∷◌, ◌++◌, Ok, refl, sym, ap, subst, ◌∙◌, arith}
use Rattle.std.proofs.lemmas.Result.{err_from_is_err_and}
use Rattle.som_model.specs.declared.key.ClassKey.{ClassKey}
use Rattle.som_model.specs.Made.{ComesOf}
use Rattle.som_semantics.specs.State.{Used}
use Rattle.som_model.specs.declared.key.ClassKey.TheVariants as made_of
use Rattle.som_machine_laws.specs.Needs.{AreClosed}
use Rattle.som_values.specs.Shown.{IsNumbered, key_of}
use Rattle.som_interp_state.specs.Settings.{Linked}
use Rattle.som_interp_state.specs.Asked.{is_proxy}
use Rattle.som_interp_state.specs.Holding.{Holding, IsUsable}
use Rattle.som_interp_objects.specs.Making.{IsNext}
use Rattle.som_interp_state.specs.declared.frames.Now.TheVariants as nows
use Rattle.som_objects.specs.declared.cell.Cell.TheVariants as cells
use Rattle.som_interp_body.specs.declared.outcome.Outcome.TheVariants as outcomes
use Rattle.std.proofs.Common.{◌+◌}
use Rattle.som_interp_loop.specs.Scene.{scene}
use Rattle.som_interp_loop.specs.declared.stop.Stop.TheVariants as stops
use Rattle.som_interp_loop.proofs.Knowing.{closed_all}
use Rattle.som_interp_body.proofs.Special.{carried}
use Rattle.som_interp_body.proofs.Whole.{short_obeyed, use_obeyed}
use Rattle.som_interp_body.proofs.Building.{keeps_made, keeps_unmade, proxy_begins, proxy_comes, proxy_is}
use Rattle.som_interp_body.proofs.proxy.build.Goals as goal

pub returns-in_err-reach-clause-obeyed : goal.returns-in_err-reach-clause-obeyed
returns-in_err-reach-clause-obeyed g c prefix w =
    let r = c.args.runtime.now in
    let l = g.R.Runtime.linked r in
    let kn = g.R.ClassKeys.known r in
    let main = g.R.Runtime.program r in
    let made = g.R.Classes.made r in
    let os = c.args.objects.now in
    let t = c.args.task.now in
    let f = c.args.fuel.now in
    let b = c.args.body.now in
    let k = c.requires.is.0 in
    let was = scene l kn main made os t f in
    let unit : f ≡ suc (f - 1) = omega (arith, c.requires.unit) in
    let q = c.reach.new.self in
    let only : (x : ClassKey) → g.R.Classes.made q x ≡ true → (made x ≡ true) ⊎ ComesOf kn.classes (made_of.Proxy k ∷ []) x = λ x m. subst (λ y. (made x ≡ true) ⊎ ComesOf kn.classes (y ∷ []) x) c.requires.is.1 (c.reach.ensures.only x m) in
    short_obeyed prefix w was (scene (g.R.Runtime.linked q) (g.R.ClassKeys.known q) (g.R.Runtime.program q) (g.R.Classes.made q) os t f) b b c.from_residual.result (made_of.Proxy k) c.reach.ensures.keeps only (err_from_is_err_and c.from_residual.result c.from_residual.ensures.1) (proxy_begins l kn main made os t f b k c.requires.is.2 (f - 1) unit c.requires.callable)

pub returns-in_err-reach-clause-keeps : goal.returns-in_err-reach-clause-keeps
returns-in_err-reach-clause-keeps g c =
    let r = c.args.runtime.now in
    let l = g.R.Runtime.linked r in
    let kn = g.R.ClassKeys.known r in
    let main = g.R.Runtime.program r in
    let made = g.R.Classes.made r in
    let os = c.args.objects.now in
    let t = c.args.task.now in
    let f = c.args.fuel.now in
    let b = c.args.body.now in
    let k = c.requires.is.0 in
    let was = scene l kn main made os t f in
    let unit : f ≡ suc (f - 1) = omega (arith, c.requires.unit) in
    let q = c.reach.new.self in
    keeps_unmade l (g.R.Runtime.linked q) kn (g.R.ClassKeys.known q) main (g.R.Runtime.program q) made (g.R.Classes.made q) os os t t f f c.reach.ensures.linked c.reach.ensures.known c.reach.ensures.program refl refl refl refl refl

pub make-requires-clause-class : goal.make-requires-clause-class
make-requires-clause-class g c =
    let q = c.reach.new.self in
    let known = c.know.ensures in
    subst (λ ks. IsNumbered ks c.args.class) (sym (known.agree.linked_numbers ∙ c.reach.ensures.keys)) c.requires.class

pub make-requires-clause-made : goal.make-requires-clause-made
make-requires-clause-made g c =
    let q = c.reach.new.self in
    let known = c.know.ensures in
    subst (λ ks. g.R.Classes.made q (key_of ks c.args.class) ≡ true) (sym (known.agree.linked_numbers ∙ c.reach.ensures.keys)) c.in_ok-reach.ensures.made

pub make-requires-clause-target : goal.make-requires-clause-target
make-requires-clause-target g c e =
    let known = c.know.ensures in
    let key = ap (λ ks. key_of ks c.args.class) (known.agree.linked_numbers ∙ c.reach.ensures.keys) ∙ c.requires.is.1 in
    absurd (true≢false (sym (proxy_is c.requires.is.0) ∙ sym (ap is_proxy key) ∙ e))

pub returns-in_err-object-clause-obeyed : goal.returns-in_err-object-clause-obeyed
returns-in_err-object-clause-obeyed g c prefix w =
    let r = c.args.runtime.now in
    let l = g.R.Runtime.linked r in
    let kn = g.R.ClassKeys.known r in
    let main = g.R.Runtime.program r in
    let made = g.R.Classes.made r in
    let os = c.args.objects.now in
    let t = c.args.task.now in
    let f = c.args.fuel.now in
    let b = c.args.body.now in
    let k = c.requires.is.0 in
    let was = scene l kn main made os t f in
    let unit : f ≡ suc (f - 1) = omega (arith, c.requires.unit) in
    let q = c.reach.new.self in
    let only : (x : ClassKey) → g.R.Classes.made q x ≡ true → (made x ≡ true) ⊎ ComesOf kn.classes (made_of.Proxy k ∷ []) x = λ x m. subst (λ y. (made x ≡ true) ⊎ ComesOf kn.classes (y ∷ []) x) c.requires.is.1 (c.reach.ensures.only x m) in
    short_obeyed prefix w was (scene (g.R.Runtime.linked q) (g.R.ClassKeys.known q) (g.R.Runtime.program q) (g.R.Classes.made q) c.make.new.objects (record t { serials = c.make.new.serials }) f) b (record b { operands = c.pop-target.new.operands }) c.from_residual-in_err-object.result (made_of.Proxy k) c.reach.ensures.keeps only (err_from_is_err_and c.from_residual-in_err-object.result c.from_residual-in_err-object.ensures.1) (proxy_begins l kn main made os t f b k c.requires.is.2 (f - 1) unit c.requires.callable)

pub returns-in_err-object-clause-keeps : goal.returns-in_err-object-clause-keeps
returns-in_err-object-clause-keeps g c =
    let r = c.args.runtime.now in
    let l = g.R.Runtime.linked r in
    let kn = g.R.ClassKeys.known r in
    let main = g.R.Runtime.program r in
    let made = g.R.Classes.made r in
    let os = c.args.objects.now in
    let t = c.args.task.now in
    let f = c.args.fuel.now in
    let b = c.args.body.now in
    let k = c.requires.is.0 in
    let was = scene l kn main made os t f in
    let unit : f ≡ suc (f - 1) = omega (arith, c.requires.unit) in
    let q = c.reach.new.self in
    keeps_unmade l (g.R.Runtime.linked q) kn (g.R.ClassKeys.known q) main (g.R.Runtime.program q) made (g.R.Classes.made q) os c.make.new.objects t (record t { serials = c.make.new.serials }) f f c.reach.ensures.linked c.reach.ensures.known c.reach.ensures.program refl c.in_err-object.ensures.err_serials refl refl c.in_err-object.ensures.err

pub returns-in_err-push-clause-obeyed : goal.returns-in_err-push-clause-obeyed
returns-in_err-push-clause-obeyed g c prefix w =
    let r = c.args.runtime.now in
    let l = g.R.Runtime.linked r in
    let kn = g.R.ClassKeys.known r in
    let main = g.R.Runtime.program r in
    let made = g.R.Classes.made r in
    let os = c.args.objects.now in
    let t = c.args.task.now in
    let f = c.args.fuel.now in
    let b = c.args.body.now in
    let k = c.requires.is.0 in
    let was = scene l kn main made os t f in
    let unit : f ≡ suc (f - 1) = omega (arith, c.requires.unit) in
    let q = c.reach.new.self in
    let only : (x : ClassKey) → g.R.Classes.made q x ≡ true → (made x ≡ true) ⊎ ComesOf kn.classes (made_of.Proxy k ∷ []) x = λ x m. subst (λ y. (made x ≡ true) ⊎ ComesOf kn.classes (y ∷ []) x) c.requires.is.1 (c.reach.ensures.only x m) in
    short_obeyed prefix w was (scene (g.R.Runtime.linked q) (g.R.ClassKeys.known q) (g.R.Runtime.program q) (g.R.Classes.made q) c.make.new.objects (record t { serials = c.make.new.serials }) f) b (record b { operands = c.push.new.operands }) c.from_residual-in_err-push.result (made_of.Proxy k) c.reach.ensures.keeps only (err_from_is_err_and c.from_residual-in_err-push.result c.from_residual-in_err-push.ensures.1) (proxy_begins l kn main made os t f b k c.requires.is.2 (f - 1) unit c.requires.callable)

pub returns-in_err-push-clause-keeps : goal.returns-in_err-push-clause-keeps
returns-in_err-push-clause-keeps g c =
    let r = c.args.runtime.now in
    let l = g.R.Runtime.linked r in
    let kn = g.R.ClassKeys.known r in
    let main = g.R.Runtime.program r in
    let made = g.R.Classes.made r in
    let os = c.args.objects.now in
    let t = c.args.task.now in
    let f = c.args.fuel.now in
    let b = c.args.body.now in
    let k = c.requires.is.0 in
    let was = scene l kn main made os t f in
    let unit : f ≡ suc (f - 1) = omega (arith, c.requires.unit) in
    let q = c.reach.new.self in
    keeps_made l (g.R.Runtime.linked q) kn (g.R.ClassKeys.known q) main (g.R.Runtime.program q) made (g.R.Classes.made q) os c.make.new.objects t (record t { serials = c.make.new.serials }) f f c.in_ok-object.object c.reach.ensures.linked c.reach.ensures.known c.reach.ensures.program refl c.in_ok-object.ensures.serials refl refl c.make.ensures.keeps c.in_ok-object.ensures.count c.in_ok-object.ensures.serial c.make.ensures.others

pub returns-clause-keeps : goal.returns-clause-keeps
returns-clause-keeps g c =
    let r = c.args.runtime.now in
    let l = g.R.Runtime.linked r in
    let kn = g.R.ClassKeys.known r in
    let main = g.R.Runtime.program r in
    let made = g.R.Classes.made r in
    let os = c.args.objects.now in
    let t = c.args.task.now in
    let f = c.args.fuel.now in
    let b = c.args.body.now in
    let k = c.requires.is.0 in
    let was = scene l kn main made os t f in
    let unit : f ≡ suc (f - 1) = omega (arith, c.requires.unit) in
    let q = c.reach.new.self in
    keeps_made l (g.R.Runtime.linked q) kn (g.R.ClassKeys.known q) main (g.R.Runtime.program q) made (g.R.Classes.made q) os c.make.new.objects t (record t { serials = c.make.new.serials }) f (f - 1) c.in_ok-object.object c.reach.ensures.linked c.reach.ensures.known c.reach.ensures.program refl c.in_ok-object.ensures.serials refl refl c.make.ensures.keeps c.in_ok-object.ensures.count c.in_ok-object.ensures.serial c.make.ensures.others

pub returns-clause-obeyed : goal.returns-clause-obeyed
returns-clause-obeyed g c prefix w =
    let r = c.args.runtime.now in
    let l = g.R.Runtime.linked r in
    let kn = g.R.ClassKeys.known r in
    let main = g.R.Runtime.program r in
    let made = g.R.Classes.made r in
    let os = c.args.objects.now in
    let t = c.args.task.now in
    let f = c.args.fuel.now in
    let b = c.args.body.now in
    let k = c.requires.is.0 in
    let was = scene l kn main made os t f in
    let unit : f ≡ suc (f - 1) = omega (arith, c.requires.unit) in
    let q = c.reach.new.self in
    let only : (x : ClassKey) → g.R.Classes.made q x ≡ true → (made x ≡ true) ⊎ ComesOf kn.classes (made_of.Proxy k ∷ []) x = λ x m. subst (λ y. (made x ≡ true) ⊎ ComesOf kn.classes (y ∷ []) x) c.requires.is.1 (c.reach.ensures.only x m) in
    let known = c.know.ensures in
    let closed = subst (λ (x : Linked). AreClosed x.world (g.R.Classes.made q)) c.reach.ensures.linked (closed_all (g.R.Classes.keys q) (g.R.Classes.world q) (g.R.ClassKeys.known q) (g.R.Runtime.linked q) known.agree (g.R.Runtime.program q) (g.R.Classes.made q) known.loads known.closed) in
    let keys = ap (λ (x : Linked). x.keys) (sym c.reach.ensures.linked) ∙ known.agree.linked_numbers ∙ c.reach.ensures.keys in
    let mine = subst (λ y. g.R.Classes.made q y ≡ true) c.requires.is.1 c.in_ok-reach.ensures.made in
    let now = (scene (g.R.Runtime.linked q) (g.R.ClassKeys.known q) (g.R.Runtime.program q) (g.R.Classes.made q) c.make.new.objects (record t { serials = c.make.new.serials }) (f - 1)) in
    let b' = record b { at = b.at + 1; operands = c.push.new.operands } in
    use_obeyed prefix w was now b b' (Ok outcomes.GoesOn) (made_of.Proxy k) c.reach.ensures.keeps only (λ e is. absurd cc) mine
    (carried was b (Ok (nows.Running b')) (Used (made_of.Proxy k) ∷ []) l (g.R.Runtime.linked q) kn (g.R.ClassKeys.known q) main (g.R.Runtime.program q) (g.R.Classes.made q) c.make.new.objects (record t { serials = c.make.new.serials }) (f - 1) c.reach.ensures.linked c.reach.ensures.known c.reach.ensures.program
    (proxy_comes l kn main made os t f b k c.requires.is.2 (f - 1) unit c.requires.callable (g.R.Classes.made q) c.reach.ensures.keeps closed c.make.new.objects (record t { serials = c.make.new.serials }) c.in_ok-object.object c.in_ok-object.ensures.serials c.make.ensures.keeps
    c.args.class (ap (λ ks. key_of ks c.args.class) keys ∙ c.requires.is.1) mine c.pop-target.result c.pop-target.ensures.cell b' (record { levels = refl; me = refl; place = refl; zero = refl; code = refl }) refl (c.in_ok-push.ensures ∙ ap (λ cs. cs ++ cells.Object c.in_ok-object.object ∷ []) c.pop-target.ensures.rest) refl
    (λ h holding usable. subst (λ (x : Linked). IsNext x (g.R.Classes.made q) c.args.class c.pop-target.result t.serials c.make.new.objects t.statics.items h c.in_ok-object.object) c.reach.ensures.linked
    (c.in_ok-object.ensures.next t.statics.items h (subst (λ (x : Linked). Holding x (g.R.Classes.made q) t.serials os t.statics.items h) (sym c.reach.ensures.linked) holding) (subst (λ (x : Linked). IsUsable x (g.R.Classes.made q) t.serials os c.pop-target.result) (sym c.reach.ensures.linked) usable)))))
