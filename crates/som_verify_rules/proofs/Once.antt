-- Names along the ancestors.
use Rattle.std.proofs.Common.{◌≡◌, ℕ, zero, suc, ◌+◌, ◌<◌, inl, inr, List, [], ◌∷◌, ◌++◌, length, map, flat_map, slice_get, slice_index_or, Some, refl, sym, ap, ◌∙◌, arith}
use Rattle.std.specs.Str.{bytes_eq}
use Rattle.som_model.specs.Lists.{Mem, doubles}
use Rattle.som_model.specs.Ancestors.{anc}
use Rattle.som_model.specs.Class.{Class}
use Rattle.som_model.specs.Classes.{class_at, hierarchy}
use Rattle.som_model.specs.Rules.{breach, introduced_by, s8}
use Rattle.som_verify_classes.specs.Along.{introduced_at, s8_at}
use Rattle.som_verify_classes.specs.Places.{with_kernel, class_of_place, key_at}
use Rattle.som_verify_classes.specs.Walk.{AreLists}

introduced_there : (cs : List Class) (a : ℕ) → class_at cs (key_at cs a) ≡ Some (class_of_place cs a) → introduced_by cs (key_at cs a) ≡ introduced_at cs a
introduced_there cs a e = rw e refl

along : (cs : List Class) (all : List (List ℕ)) → AreLists cs all → (xs : List ℕ) → ((a : ℕ) → Mem a xs → a < length cs)
    → flat_map (introduced_by cs) (map (key_at cs) xs) ≡ flat_map (introduced_at cs) xs
along cs all t [] low = refl
along cs all t (x ∷ xs) low =
    ap (λ z. z ++ flat_map (introduced_by cs) (map (key_at cs) xs)) (introduced_there cs x (t.found x (low x (inl refl))))
    ∙ ap (λ z. introduced_at cs x ++ z) (along cs all t xs (λ a m. low a (inr m)))

place_at : (cs : List Class) (i : ℕ) (c : Class) → slice_get cs i ≡ Some c → (i < length cs) × (key_at cs i ≡ c.key)
place_at [] i c e = absurd (cc)
place_at (x ∷ cs) zero c e = let same : x ≡ c = cc in (omega arith, ap (λ (z : Class). z.key) same)
place_at (x ∷ cs) (suc i) c e = let r = place_at cs i c e in (omega (arith, r.0), r.1)

-- a declared class stands after the kernel's
pub all_at : (cs : List Class) (i : ℕ) (c : Class) → slice_get cs i ≡ Some c → (i + 4 < length (with_kernel cs)) × (key_at (with_kernel cs) (i + 4) ≡ c.key)
all_at cs i c e =
    let r = place_at cs i c e in
    let four : suc (suc (suc (suc i))) ≡ i + 4 = omega arith in
    (omega (arith, r.0), ap (key_at (with_kernel cs)) (sym four) ∙ r.1)

pub place_within : (cs : List Class) (all : List (List ℕ)) (i : ℕ) → i < length cs → AreLists (with_kernel cs) all → i + 4 < length all
place_within cs all i lt t = omega (arith, lt, t.long)

pub s8_is : (cs : List Class) (all : List (List ℕ)) (i : ℕ) (c : Class) → AreLists (with_kernel cs) all → slice_get cs i ≡ Some c
    → s8_at (with_kernel cs) (slice_index_or all (i + 4) []) c ≡ s8 (with_kernel cs) c
s8_is cs all i c t at =
    let r = all_at cs i c at in
    ap (λ z. map (breach 8 c) (doubles bytes_eq [] z)) (
    sym (along (with_kernel cs) all t (slice_index_or all (i + 4) []) (t.low (i + 4)))
    ∙ ap (flat_map (introduced_by (with_kernel cs))) (t.by (i + 4) r.0)
    ∙ ap (λ k. flat_map (introduced_by (with_kernel cs)) (anc (hierarchy (with_kernel cs)) k)) r.1)
