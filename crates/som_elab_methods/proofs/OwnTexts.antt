-- Where the bodies of one class are looked at alone.
use Rattle.std.proofs.Common.{◌≡◌, ℕ, Bool, true, false, ◌&&◌, ◌==◌, if◌then◌else◌, List, [], ◌∷◌, ◌++◌, length, flat_map, Result, refl, ap, ◌∙◌, subst}
use Rattle.std.specs.Str.{bytes_eq}
use Rattle.som_model.specs.declared.class.Override.{Override}
use Rattle.som_model.specs.Rules.{RuleBreach}
use Rattle.som_model.specs.Lists.{among, first}
use Rattle.som_model.specs.Class.{introduced}
use Rattle.som_ast.specs.declared.body.BodyText.{BodyText}
use Rattle.som_verify_classes.specs.Told.{Tells}
use Rattle.som_verify_classes.specs.declared.types.VerifyFault.{VerifyFault}
use Rattle.som_sema_drafts.specs.Drafts.{InterfaceDraft}
use Rattle.som_sema_drafts.specs.Demands.{text_demand}
use Rattle.som_elab_methods.specs.Bodies.{entry_has_one, has_one, operations, text_s14, texts_for}
use Rattle.som_elab_methods.specs.Texts.{of_class}

-- all bodies of a method stand among those of its class
pub own_texts : (bs : List BodyText) (class name : List ℕ) → texts_for (of_class bs class) class name ≡ texts_for bs class name
own_texts [] class name = refl
own_texts (b ∷ bs) class name = by (bytes_eq b.class.text class) refl (own_texts bs class name)
  where
    by : (k : Bool) → bytes_eq b.class.text class ≡ k → texts_for (of_class bs class) class name ≡ texts_for bs class name
        → texts_for (if k then b ∷ of_class bs class else of_class bs class) class name ≡ (if k && bytes_eq b.method.text name then b ∷ texts_for bs class name else texts_for bs class name)
    by true e same =
        ap (λ (q : Bool). if q && bytes_eq b.method.text name then b ∷ texts_for (of_class bs class) class name else texts_for (of_class bs class) class name) e
        ∙ ap (λ (z : List BodyText). if bytes_eq b.method.text name then b ∷ z else z) same
    by false e same = same

-- ---- S14

flat_same : {A B : Type 0} (f g : A → List B) → ((x : A) → f x ≡ g x) → (xs : List A) → flat_map f xs ≡ flat_map g xs
flat_same f g e [] = refl
flat_same f g e (x ∷ xs) = ap (λ z. z ++ flat_map f xs) (e x) ∙ ap (λ z. g x ++ z) (flat_same f g e xs)

pub counted_own : (bs : List BodyText) (d : InterfaceDraft) → text_s14 (of_class bs d.class.face.name) d ≡ text_s14 bs d
counted_own bs d =
    let own = of_class bs d.class.face.name in
    ap (λ z. z ++ flat_map (λ (o : Override). has_one own d o.method.name) d.class.overrides)
    (flat_same (entry_has_one own d) (entry_has_one bs d)
    (λ name. ap (λ (z : List BodyText). if among name (operations d.text) then text_demand 14 d name (length z == 1) else []) (own_texts bs d.class.face.name name)) (introduced d.class.face.entries))
    ∙ ap (λ z. flat_map (entry_has_one bs d) (introduced d.class.face.entries) ++ z)
    (flat_same (λ (o : Override). has_one own d o.method.name) (λ (o : Override). has_one bs d o.method.name)
    (λ o. ap (λ (z : List BodyText). text_demand 14 d o.method.name (length z == 1)) (own_texts bs d.class.face.name o.method.name)) d.class.overrides)

-- what is told of the bodies of one class is told of all bodies
pub counted_told : (bs kept : List BodyText) (d : InterfaceDraft) (name : List ℕ) (r : Result (Unit {0}) VerifyFault) → name ≡ d.class.face.name → kept ≡ of_class bs name
    → Tells (first (text_s14 kept d)) r → Tells (first (text_s14 bs d)) r
counted_told bs kept d name r named narrow t =
    subst (λ (z : List RuleBreach). Tells (first z) r) (ap (λ (z : List BodyText). text_s14 z d) (narrow ∙ ap (of_class bs) named) ∙ counted_own bs d) t
