use Rattle.std.proofs.Common.{◌≡◌, ◌⊎◌, ◌∷◌, [], ℕ, List, Option, Some, None, Err, IfSome, true, ap, sym, subst, ◌∙◌}
use Rattle.std.proofs.lemmas.Result.{err_from_is_err_and}
use Rattle.som_model.specs.declared.key.ClassKey.{ClassKey}
use Rattle.som_model.specs.Made.{ComesOf}
use Rattle.som_values.specs.Shown.{IsNumbered, all_shown, key_of, showing}
use Rattle.som_interp_loop.specs.Scene.{Scene, scene}
use Rattle.som_interp_invoke.specs.Beginning.{Began}
use Rattle.som_interp_invoke.proofs.Found.{carried, class_made, found_is, half_made, none_found, nothing_done}
use Rattle.som_interp_invoke.proofs.finding.begin_finding.Goals as goal

pub returns-in_err-class-clause-began : goal.returns-in_err-class-clause-began
returns-in_err-class-clause-began g c os t f levels me =
    let p = err_from_is_err_and c.from_residual.result c.from_residual.ensures.1 in
    let r = c.args.runtime.now in
    let here : Scene = scene (g.R.Runtime.linked r) (g.R.ClassKeys.known r) (g.R.Runtime.program r) (g.R.Classes.made r) os t f in
    subst (λ z. Began here here c.args.begun levels me c.args.args.now z) (sym (p.1 ∙ ap (λ z. Err z) p.2))
    (nothing_done (g.R.Runtime.linked r) (g.R.ClassKeys.known r) (g.R.Runtime.program r) (g.R.Classes.made r) os t f c.args.begun c.requires levels me c.args.args.now)

pub returns-in_default-clause-began : goal.returns-in_default-clause-began
returns-in_default-clause-began g c os t f levels me =
    let r = c.args.runtime.now in
    let l = g.R.Runtime.linked r in
    let agree = c.know.ensures.agree in
    none_found l (g.R.ClassKeys.known r) (g.R.Runtime.program r) (g.R.Classes.made r) os t f c.args.begun c.requires levels me c.args.args.now
    (found_is (g.R.Classes.keys r) (g.R.Classes.world r) l agree.linked_numbers agree.linked_answers (all_shown (showing l.keys t.serials) c.args.args.now) c.in_ok-class.field-0 None (c.in_ok-class.ensures.key (showing l.keys t.serials)) c.in_default.is)

pub returns-in_err-reach-clause-began : goal.returns-in_err-reach-clause-began
returns-in_err-reach-clause-began g c os t f levels me =
    let p = err_from_is_err_and c.from_residual-in_err-reach.result c.from_residual-in_err-reach.ensures.1 in
    let r = c.args.runtime.now in
    let n = c.reach.new.self in
    let l = g.R.Runtime.linked r in
    let k = g.R.ClassKeys.known r in
    let main = g.R.Runtime.program r in
    let made = g.R.Classes.made r in
    let more = g.R.Classes.made n in
    let agree = c.know.ensures.agree in
    let old : Scene = scene l k main made os t f in
    let new : Scene = scene (g.R.Runtime.linked n) (g.R.ClassKeys.known n) (g.R.Runtime.program n) more os t f in
    subst (λ z. Began old new c.args.begun levels me c.args.args.now z) (sym (p.1 ∙ ap (λ z. Err z) p.2))
    (carried old c.args.begun levels me c.args.args.now _ l (g.R.Runtime.linked n) k (g.R.ClassKeys.known n) main (g.R.Runtime.program n) more os t f c.reach.ensures.linked c.reach.ensures.known c.reach.ensures.program
    (half_made l k main made os t f c.args.begun c.requires levels me c.args.args.now more c.reach.ensures.keeps c.in-Some.class
    (found_is (g.R.Classes.keys r) (g.R.Classes.world r) l agree.linked_numbers agree.linked_answers (all_shown (showing l.keys t.serials) c.args.args.now) c.in_ok-class.field-0 (Some c.in-Some.class) (c.in_ok-class.ensures.key (showing l.keys t.serials)) c.in-Some.is)
    (subst (λ (ks : List ClassKey). (x : ClassKey) → more x ≡ true → (made x ≡ true) ⊎ ComesOf k.classes (key_of ks c.in-Some.class ∷ []) x) (sym agree.linked_numbers) c.reach.ensures.only)))

pub returns-clause-began : goal.returns-clause-began
returns-clause-began g c os t f levels me =
    let r = c.args.runtime.now in
    let n = c.reach.new.self in
    let l = g.R.Runtime.linked r in
    let k = g.R.ClassKeys.known r in
    let main = g.R.Runtime.program r in
    let made = g.R.Classes.made r in
    let more = g.R.Classes.made n in
    let agree = c.know.ensures.agree in
    carried (scene l k main made os t f) c.args.begun levels me c.args.args.now _ l (g.R.Runtime.linked n) k (g.R.ClassKeys.known n) main (g.R.Runtime.program n) more os t f c.reach.ensures.linked c.reach.ensures.known c.reach.ensures.program
    (class_made l k main made os t f c.args.begun c.requires levels me c.args.args.now more c.reach.ensures.keeps c.in-Some.class
    (found_is (g.R.Classes.keys r) (g.R.Classes.world r) l agree.linked_numbers agree.linked_answers (all_shown (showing l.keys t.serials) c.args.args.now) c.in_ok-class.field-0 (Some c.in-Some.class) (c.in_ok-class.ensures.key (showing l.keys t.serials)) c.in-Some.is)
    (subst (λ (ks : List ClassKey). (x : ClassKey) → more x ≡ true → (made x ≡ true) ⊎ ComesOf k.classes (key_of ks c.in-Some.class ∷ []) x) (sym agree.linked_numbers) c.reach.ensures.only)
    (subst (λ (ks : List ClassKey). IsNumbered ks c.in-Some.class) (sym agree.linked_numbers) (subst (λ (o : Option ℕ). IfSome o (IsNumbered (g.R.Classes.keys r))) c.in-Some.is c.in_ok-class.ensures.numbered))
    (subst (λ (ks : List ClassKey). more (key_of ks c.in-Some.class) ≡ true) (sym agree.linked_numbers) c.in_ok-reach.ensures.made))
