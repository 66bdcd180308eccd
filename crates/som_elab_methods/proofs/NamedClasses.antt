-- The classes of interfaces by their names.
use Rattle.std.proofs.Common.{◌≡◌, ℕ, zero, suc, ◌+◌, Bool, true, false, if◌then◌else◌, List, [], ◌∷◌, ◌++◌, slice_get, Option, Some, None, refl, sym, ap, ◌∙◌, arith}
use Rattle.std.specs.Str.{bytes_eq}
use Rattle.som_model.specs.declared.class.Sig.{Sig}
use Rattle.som_model.specs.declared.class.Override.{Override}
use Rattle.som_model.specs.Lists.{among, find}
use Rattle.som_model.specs.Class.{Class}
use Rattle.som_model.specs.Typing.{class_facts}
use Rattle.som_verify_forms.proofs.Facts.{signature_said}
use Rattle.som_sema_names.specs.Noted.{first_place}
use Rattle.som_sema_drafts.specs.Drafts.{InterfaceDraft}
use Rattle.som_elab_methods.specs.Bodies.{draft_named, overridden_sig, override_sig}
use Rattle.som_elab_methods.specs.Texts.{class_places}

pub unnamed : (n : ℕ) (ds : List InterfaceDraft) (name : List ℕ) → first_place (class_places n ds) name ≡ None → draft_named ds name ≡ None
unnamed n [] name e = refl
unnamed n (d ∷ ds) name e = by (bytes_eq name d.class.face.name) (unnamed (suc n) ds name) e
  where
    by : (b : Bool) → (first_place (class_places (suc n) ds) name ≡ None → draft_named ds name ≡ None)
        → (if b then Some n else first_place (class_places (suc n) ds) name) ≡ None → (if b then Some d else draft_named ds name) ≡ None
    by true f e = absurd (cc)
    by false f e = f e

pub named_from : (n : ℕ) (ds : List InterfaceDraft) (name : List ℕ) (p : ℕ) → first_place (class_places n ds) name ≡ Some p → (k : ℕ) × (p ≡ k + n) × (slice_get ds k ≡ draft_named ds name)
named_from n [] name p e = absurd (cc)
named_from n (d ∷ ds) name p e = by (bytes_eq name d.class.face.name) (named_from (suc n) ds name p) e
  where
    by : (b : Bool) → (first_place (class_places (suc n) ds) name ≡ Some p → (k : ℕ) × (p ≡ k + suc n) × (slice_get ds k ≡ draft_named ds name))
        → (if b then Some n else first_place (class_places (suc n) ds) name) ≡ Some p → (k : ℕ) × (p ≡ k + n) × (slice_get (d ∷ ds) k ≡ (if b then Some d else draft_named ds name))
    by true f e = let same : n ≡ p = cc in (0, omega (arith, same), refl)
    by false f e = let r = f e in (suc r.0, omega (arith, r.1), r.2)

-- ---- names

pub among_both : (name : List ℕ) (xs ys : List (List ℕ)) → among name (xs ++ ys) ≡ (if among name xs then true else among name ys)
among_both name [] ys = refl
among_both name (x ∷ xs) ys = by (bytes_eq name x) (among_both name xs ys)
  where
    by : (b : Bool) → among name (xs ++ ys) ≡ (if among name xs then true else among name ys)
        → (if b then true else among name (xs ++ ys)) ≡ (if (if b then true else among name xs) then true else among name ys)
    by true e = refl
    by false e = e

-- the signature of a method that is overridden
pub signed_override : (cs : List Class) (d : InterfaceDraft) (name shown : List ℕ) (os : List Override) (o : Override) (r : Option Sig) → os ≡ d.class.overrides → shown ≡ name
    → Some o ≡ find (λ (z : Override). bytes_eq shown z.method.name) os → r ≡ (class_facts cs).signature o.method → r ≡ override_sig cs d name
signed_override cs d name shown os o r same named found sig =
    sig ∙ signature_said cs o.method ∙ ap (overridden_sig cs) found
    ∙ ap (λ n. overridden_sig cs (find (λ (z : Override). bytes_eq n z.method.name) os)) named
    ∙ ap (λ (l : List Override). overridden_sig cs (find (λ (z : Override). bytes_eq name z.method.name) l)) same
