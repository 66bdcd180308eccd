-- A class that isn't there descends from none that is.
use Rattle.std.proofs.Common.{◌≡◌, ℕ, suc, ◌<◌, Bool, true, false, if◌then◌else◌, List, [], ◌∷◌, length, None, refl, ap, ◌∙◌, arith}
use Rattle.std.specs.Prelude.{unwrap_or}
use Rattle.som_model.specs.Lists.{place_from, some}
use Rattle.som_model.specs.Keys.{same_key}
use Rattle.som_model.specs.Class.{Class}
use Rattle.som_model.specs.Classes.{hierarchy, is_a}
use Rattle.som_model.specs.Ancestors.{anc_within}
use Rattle.som_model.specs.declared.key.Module.{Module}
use Rattle.som_model.specs.declared.key.ClassKey.{ClassKey}
use Rattle.som_model.specs.declared.key.ClassKey.TheVariants as keys
use Rattle.som_model.proofs.KeyLaws.{exact_keys}
use Rattle.som_model.proofs.NamedLaws.{height_named, hierarchy_same}
use Rattle.som_model_laws.proofs.Members.{not_true}
use Rattle.som_verify_classes.specs.Places.{Finds, key_at, with_kernel}

place_none : (n : ℕ) (cs : List Class) (k : ClassKey) → ((p : ℕ) → p < length cs → key_at cs p ≡ k → ⊥) → place_from n (λ (c : Class). same_key c.key k) cs ≡ None
place_none n [] k f = refl
place_none n (c ∷ cs) k f =
    let fails : same_key c.key k ≡ false = not_true (same_key c.key k) (λ t. f 0 (omega arith) (exact_keys.two c.key k t)) in
    rw fails (place_none (suc n) cs k (λ p lt e. f (suc p) (omega (arith, lt)) e))

if_false : (b : Bool) → b ≡ false → (if b then true else false) ≡ false
if_false true e = e
if_false false e = refl

pub unknown_class : (ds : List Class) (m : Module) (x : List ℕ) (at limit : ℕ) → limit ≡ length (with_kernel ds) → at < length (with_kernel ds) → Finds limit (with_kernel ds) (keys.Named m x) None
    → is_a (with_kernel ds) (keys.Named m x) (key_at (with_kernel ds) at) ≡ false
unknown_class ds m x at limit e there f =
    let cs = with_kernel ds in
    let a = key_at cs at in
    let k = keys.Named m x in
    let absent : (p : ℕ) → p < length cs → key_at cs p ≡ k → ⊥ = λ p lt same. f p (omega (arith, e, lt)) lt same in
    let low : (hierarchy cs).height k ≡ 0 = height_named cs m x ∙ ap (λ o. unwrap_or o 0) (place_none 1 cs k absent) in
    let other : same_key a k ≡ false = not_true (same_key a k) (λ t. absent at there (exact_keys.two a k t)) in
    ap (λ n. some ((hierarchy cs).same a) (anc_within (hierarchy cs) n k)) low
    ∙ if_false ((hierarchy cs).same a k) (hierarchy_same cs a k ∙ other)
