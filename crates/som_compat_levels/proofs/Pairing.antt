-- A class of the old and its pair in the new.
use Rattle.std.proofs.Common.{◌≡◌, ℕ, ◌+◌, ◌<◌, inl, inr, List, [], ◌∷◌, length, Option, Some, None, slice_index_or, slice_set, refl, sym, ap, ◌∙◌, arith}
use Rattle.std.specs.Prelude.{Result, Ok, Err, OnOk}
use Rattle.std.proofs.lemmas.List.{get_or-set_same, get_or-set_other, length-set}
use Rattle.som_model.specs.declared.key.ClassKey.{ClassKey}
use Rattle.som_model.specs.Lists.{first}
use Rattle.som_model.specs.Class.{Class}
use Rattle.som_model.specs.Classes.{class_at}
use Rattle.som_model.specs.Compatible.{CompatBreach, incompatible, k4, order_of}
use Rattle.som_model_laws.proofs.CompareLists.{none_strays}
use Rattle.som_compat.specs.declared.breach.Breach.{Breach}
use Rattle.som_compat.proofs.Plain.{found_is, map_empty}
use Rattle.som_level_laws.specs.Levels.{level_class_breaks}
use Rattle.som_verify_classes.specs.Places.{class_of_place, key_at, Finds}
use Rattle.som_verify_classes.proofs.Falling.{mem_there}
use Rattle.som_compat_levels.specs.Pairs.{AreBegun, ArePaired, BeginsOrder, IsPair}
use Rattle.som_compat_levels.specs.Told.{pair_breaks}
use Rattle.som_compat_levels.proofs.Known.{AreKnown}
use Rattle.som_compat_levels.proofs.Lists.{less_next}

unknown : (cs : List Class) (k : ClassKey) → Finds (length cs) cs k None → class_at cs k ≡ None
unknown cs k f = by (class_at cs k) refl
  where
    by : (o : Option Class) → class_at cs k ≡ o → o ≡ None
    by None e = refl
    by (Some c) e = absurd (
        let r = found_is cs k c e in
        let p = mem_there cs c r.0 in
        f p.0 p.1 p.1 (ap (λ (z : Class). z.key) p.2 ∙ r.1))

module _ (O N : List Class) (c : Class) where
  abbrev breaks_at : Option Class → List CompatBreach
  breaks_at o = elim o [ None ↦ incompatible 1 c None 0 ∷ [] | Some n ↦ pair_breaks O N c n ]

  pub breaks_missing : (k : ClassKey) → k ≡ c.key → Finds (length N) N k None → first (level_class_breaks O N c) ≡ Some (incompatible 1 c None 0)
  breaks_missing k e f = ap (λ o. first (breaks_at o)) (ap (class_at N) (sym e) ∙ unknown N k f)

  pub breaks_found : AreKnown N → (r : ℕ) → r < length N → key_at N r ≡ c.key → pair_breaks O N c (class_of_place N r) ≡ level_class_breaks O N c
  breaks_found known r lt e = sym (ap breaks_at (ap (class_at N) (sym e) ∙ known.found r lt))

  -- K4 says that the order begins the new one
  pub begins : (n : Class) → None ≡ first (k4 c n) → BeginsOrder c n
  begins n e i name at = none_strays 0 (order_of c) (order_of n) (map_empty _ _ (sym e)) i name at

other_place : (q p : ℕ) → q < p → (q ≡ p → ⊥)
other_place q p lt e = omega (arith, e, lt)

pub next_paired : (O N : List Class) (place other : ℕ) (pairs : List ℕ) → place < length O → IsPair O N place other → ArePaired O N place pairs → ArePaired O N (place + 1) (slice_set pairs place other)
next_paired O N place other pairs lt is so =
    let long = so.long in
    let within : place < length pairs = omega (arith, long, lt) in
    record {
      long = length-set pairs place other ∙ so.long;
      by = λ p less. elim (less_next p place less) [
        | inl under ↦ rw (get_or-set_other pairs place p other 0 (other_place p place under)) (so.by p under)
        | inr e ↦ rw (e, get_or-set_same pairs place other 0 within) is
      ];
    }

pub begun_kept : (O N : List Class) (place other : ℕ) (pairs : List ℕ) → AreBegun O N place pairs → AreBegun O N place (slice_set pairs place other)
begun_kept O N place other pairs so p less = rw (get_or-set_other pairs place p other 0 (other_place p place less)) (so p less)

pub next_begun : (O N : List Class) (place : ℕ) (pairs : List ℕ) → BeginsOrder (class_of_place O place) (class_of_place N (slice_index_or pairs place 0)) → AreBegun O N place pairs → AreBegun O N (place + 1) pairs
next_begun O N place pairs is so p less = elim (less_next p place less) [ inl under ↦ so p under | inr e ↦ rw e is ]

pub always_ok : {P : Type 0} (r : Result (Unit {0}) Breach) → P → OnOk r P
always_ok (Ok u) p = p
always_ok (Err b) p = tt
