-- The classes that introduce what others inherit, by places and by keys.
use Rattle.std.proofs.Common.{◌≡◌, ℕ, ◌<◌, inl, inr, Bool, true, false, if◌then◌else◌, List, [], ◌∷◌, length, map, slice_index_or, Option, Some, None, option_map, refl, sym, ap, ◌∙◌, arith}
use Rattle.std.specs.Prelude.{unwrap_or}
use Rattle.som_model.specs.Lists.{Mem, among, find}
use Rattle.som_model.specs.Class.{Class}
use Rattle.som_model.specs.Rules.{introduced_by}
use Rattle.som_verify_classes.specs.Along.{introduced_at}
use Rattle.som_verify_classes.specs.Places.{key_at}
use Rattle.som_verify_classes.specs.Walk.{AreLists}
use Rattle.som_sema_names.specs.Introducers.{first_introducer}
use Rattle.som_sema_decls.specs.Finished.{introducer}

map_if : {A B : Type 0} (f : A → B) (b : Bool) (x : A) (r : Option A) → option_map f (if b then Some x else r) ≡ (if b then Some (f x) else option_map f r)
map_if f true x r = refl
map_if f false x r = refl

module _ (cs : List Class) (all : List (List ℕ)) (t : AreLists cs all) where
  introduced_there : (p : ℕ) → p < length cs → introduced_by cs (key_at cs p) ≡ introduced_at cs p
  introduced_there p lt = let at = t.found p lt in rw at refl

  find_along : (list : List ℕ) (name : List ℕ) → ((a : ℕ) → Mem a list → a < length cs)
      → find (λ a. among name (introduced_by cs a)) (map (key_at cs) list) ≡ option_map (key_at cs) (first_introducer cs list name)
  find_along [] name low = refl
  find_along (p ∷ ps) name low =
      let there = introduced_there p (low p (inl refl)) in
      let rest = find_along ps name (λ a m. low a (inr m)) in
      ap (λ (z : List (List ℕ)). if among name z then Some (key_at cs p) else find (λ a. among name (introduced_by cs a)) (map (key_at cs) ps)) there
      ∙ ap (λ o. if among name (introduced_at cs p) then Some (key_at cs p) else o) rest
      ∙ sym (map_if (key_at cs) (among name (introduced_at cs p)) p (first_introducer cs ps name))

  unwrap_map : (o : Option ℕ) (i : ℕ) → unwrap_or (option_map (key_at cs) o) (key_at cs i) ≡ key_at cs (unwrap_or o i)
  unwrap_map None i = refl
  unwrap_map (Some p) i = refl

  -- the introducer of a name is the class at the first place where it is introduced
  pub introducer_is : (i : ℕ) (name : List ℕ) → i < length cs
      → introducer cs (key_at cs i) name ≡ key_at cs (unwrap_or (first_introducer cs (slice_index_or all i []) name) i)
  introducer_is i name lt =
      ap (λ z. unwrap_or (find (λ a. among name (introduced_by cs a)) z) (key_at cs i)) (sym (t.by i lt))
      ∙ ap (λ o. unwrap_or o (key_at cs i)) (find_along (slice_index_or all i []) name (λ a m. t.low i a m))
      ∙ unwrap_map (first_introducer cs (slice_index_or all i []) name) i

  low_by : (b : Bool) (q p : ℕ) (o : Option ℕ) → q < length cs → (o ≡ Some p → p < length cs) → (if b then Some q else o) ≡ Some p → p < length cs
  low_by true q p o l f e = let same : q ≡ p = cc in omega (arith, same, l)
  low_by false q p o l f e = f e

  place_low : (list : List ℕ) (name : List ℕ) (p : ℕ) → ((a : ℕ) → Mem a list → a < length cs) → first_introducer cs list name ≡ Some p → p < length cs
  place_low [] name p low e = absurd (cc)
  place_low (q ∷ list) name p low e = low_by (among name (introduced_at cs q)) q p (first_introducer cs list name) (low q (inl refl)) (place_low list name p (λ a m. low a (inr m))) e

  unwrapped : (o : Option ℕ) (i : ℕ) → i < length cs → ((p : ℕ) → o ≡ Some p → p < length cs) → unwrap_or o i < length cs
  unwrapped None i lt f = lt
  unwrapped (Some p) i lt f = f p refl

  -- that place is one of a class
  pub introducer_low : (i : ℕ) (name : List ℕ) → i < length cs → unwrap_or (first_introducer cs (slice_index_or all i []) name) i < length cs
  introducer_low i name lt = unwrapped (first_introducer cs (slice_index_or all i []) name) i lt (λ p e. place_low (slice_index_or all i []) name p (λ a m. t.low i a m) e)
