-- Accessors by the places of their names.
use Rattle.std.proofs.Common.{◌≡◌, ℕ, zero, suc, ◌+◌, Bool, true, false, if◌then◌else◌, List, [], ◌∷◌, map, slice_get, Some, None, option_map, refl, sym, ap, ◌∙◌, arith}
use Rattle.std.specs.Str.{bytes_eq}
use Rattle.som_model.specs.Lists.{find}
use Rattle.som_sema_names.specs.Noted.{first_place}
use Rattle.som_elab_methods.specs.declared.accessors.Accessor.{Accessor}
use Rattle.som_elab_methods.specs.Accessors.{Access, access}
use Rattle.som_elab_methods.specs.Tables.{accessed}

abbrev is_named : List ℕ → Access → Bool
is_named name a = bytes_eq name a.name

pub accessed_none : (n : ℕ) (xs : List Access) (name : List ℕ) → first_place (accessed n xs) name ≡ None → find (is_named name) xs ≡ None
accessed_none n [] name e = refl
accessed_none n (a ∷ xs) name e = by (bytes_eq name a.name) (accessed_none (suc n) xs name) e
  where
    by : (b : Bool) → (first_place (accessed (suc n) xs) name ≡ None → find (is_named name) xs ≡ None)
        → (if b then Some n else first_place (accessed (suc n) xs) name) ≡ None → (if b then Some a else find (is_named name) xs) ≡ None
    by true f e = absurd (cc)
    by false f e = f e

accessed_from : (n : ℕ) (xs : List Access) (name : List ℕ) (p : ℕ) → first_place (accessed n xs) name ≡ Some p → (k : ℕ) × (p ≡ k + n) × (slice_get xs k ≡ find (is_named name) xs)
accessed_from n [] name p e = absurd (cc)
accessed_from n (a ∷ xs) name p e = by (bytes_eq name a.name) (accessed_from (suc n) xs name p) e
  where
    by : (b : Bool) → (first_place (accessed (suc n) xs) name ≡ Some p → (k : ℕ) × (p ≡ k + suc n) × (slice_get xs k ≡ find (is_named name) xs))
        → (if b then Some n else first_place (accessed (suc n) xs) name) ≡ Some p → (k : ℕ) × (p ≡ k + n) × (slice_get (a ∷ xs) k ≡ (if b then Some a else find (is_named name) xs))
    by true f e = let same : n ≡ p = cc in (0, omega (arith, same), refl)
    by false f e = let r = f e in (suc r.0, omega (arith, r.1), r.2)

get_access : (xs : List Accessor) (p : ℕ) → option_map access (slice_get xs p) ≡ slice_get (map access xs) p
get_access [] p = refl
get_access (a ∷ xs) zero = refl
get_access (a ∷ xs) (suc p) = get_access xs p

-- at a place that was found stands the first accessor of the name
pub accessed_there : (xs : List Accessor) (name : List ℕ) (p : ℕ) → Some p ≡ first_place (accessed 0 (map access xs)) name → option_map access (slice_get xs p) ≡ find (is_named name) (map access xs)
accessed_there xs name p e =
    let r = accessed_from 0 (map access xs) name p (sym e) in
    let same : p ≡ r.0 = omega (arith, r.1) in
    get_access xs p ∙ ap (slice_get (map access xs)) same ∙ r.2
