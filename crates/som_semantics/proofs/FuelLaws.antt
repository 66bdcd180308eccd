-- What the laws of acts say of whole runs: exact fuel, more fuel, objects.
use Rattle.std.proofs.Common.{◌≡◌, ℕ, ◌+◌, ◌-◌, ◌≤◌, ◌<◌, List, [], ◌∷◌, ◌++◌, refl, sym, ap, ◌∙◌, subst, arith}
use Rattle.som_model.specs.declared.key.ClassKey.{ClassKey}
use Rattle.som_semantics.specs.State.{Event, Printed, Called, Used, used, State}
use Rattle.som_semantics.specs.Runs.{Faulted, Spent, Ran, Goes, Ends, end_of, with_more, IsPrefix, IsLater, IsMore, Lawful}
use Rattle.som_semantics.specs.Acts.{prefix_self, later_self}
use Rattle.som_semantics.specs.Fuel.{with_fuel, left_with, IsOver, IsSpent}

module _ {A : Type 0} (does : State → Ran A) (law : Lawful does) where
  more_at : (n k : ℕ) (s : State) → IsMore k (does (with_fuel n s)) (does (with_fuel (n + k) s))
  more_at n k s = law.more k (with_fuel n s)

  more_to : (n m : ℕ) (s : State) → n ≤ m → IsMore (m - n) (does (with_fuel n s)) (does (with_fuel m s))
  more_to n m s le = let e : n + (m - n) ≡ m = omega (arith, le) in subst (λ z. IsMore (m - n) (does (with_fuel n s)) (does (with_fuel z s))) e (more_at n (m - n) s)

  -- with just so much fuel as was taken the end stays, with nothing left
  none_left : (l : ℕ) (r r' : Ran A) → IsMore l r r' → (l ≡ 0 → r' ≡ r) → IsOver r' → (end_of r').fuel ≡ l → r ≡ left_with 0 r'
  none_left l (Goes a s) r' h same over left =
      let is : (with_more l s).fuel ≡ l = sym (ap (λ (z : Ran A). (end_of z).fuel) h) ∙ left in
      let none : s.fuel ≡ 0 = omega (arith, is) in
      ap (λ n. Goes a (with_fuel n s)) none ∙ sym (ap (left_with 0) h)
  none_left l (Ends (Faulted f at) s) r' h same over left =
      let is : (with_more l s).fuel ≡ l = sym (ap (λ (z : Ran A). (end_of z).fuel) h) ∙ left in
      let none : s.fuel ≡ 0 = omega (arith, is) in
      ap (λ n. Ends (Faulted f at) (with_fuel n s)) none ∙ sym (ap (left_with 0) h)
  none_left l (Ends Spent s) r' h same over left = let none : l ≡ 0 = omega (arith, h.takes, left) in absurd (subst IsOver (same none) over)

  spent_less : (k : ℕ) (r r' : Ran A) → 0 < k → IsMore k r r' → (end_of r').fuel ≡ 0 → IsSpent r
  spent_less k (Goes a s) r' more h none =
      let is : (with_more k s).fuel ≡ 0 = sym (ap (λ (z : Ran A). (end_of z).fuel) h) ∙ none in absurd (omega (arith, is, more))
  spent_less k (Ends (Faulted f at) s) r' more h none =
      let is : (with_more k s).fuel ≡ 0 = sym (ap (λ (z : Ran A). (end_of z).fuel) h) ∙ none in absurd (omega (arith, is, more))
  spent_less k (Ends Spent s) r' more h none = h.nothing_left

  no_fuel_left : (r : Ran A) → (end_of (left_with 0 r)).fuel ≡ 0
  no_fuel_left (Goes a s) = refl
  no_fuel_left (Ends c s) = refl

  module _ (fuel : ℕ) (s : State) (over : IsOver (does (with_fuel fuel s))) where
    abbrev run : Ran A
    run = does (with_fuel fuel s)

    abbrev left : ℕ
    left = (end_of run).fuel

    -- a run that ends with so much left ends so with just as much fuel as it took
    pub exact_same : does (with_fuel (fuel - left) s) ≡ left_with 0 run
    exact_same =
        let le : left ≤ fuel = law.falls (with_fuel fuel s) in
        let e : fuel - left + left ≡ fuel = omega (arith, le) in
        let more : IsMore left (does (with_fuel (fuel - left) s)) run = subst (λ z. IsMore left (does (with_fuel (fuel - left) s)) (does (with_fuel z s))) e (more_at (fuel - left) left s) in
        none_left left (does (with_fuel (fuel - left) s)) run more (λ none. (let z : fuel ≡ fuel - left = omega (arith, none) in ap (λ n. does (with_fuel n s)) z)) over refl

    -- and with any less it is spent
    pub exact_less : (m : ℕ) → m < fuel - left → IsSpent (does (with_fuel m s))
    exact_less m less =
        let le : m ≤ fuel - left = omega (arith, less) in
        let some : 0 < fuel - left - m = omega (arith, less) in
        spent_less (fuel - left - m) (does (with_fuel m s)) (does (with_fuel (fuel - left) s)) some (more_to m (fuel - left) s le) (ap (λ (z : Ran A). (end_of z).fuel) exact_same ∙ no_fuel_left run)

-- what more fuel leaves as it was: the events so far, and the objects
pub more_events : {A : Type 0} (k : ℕ) (r r' : Ran A) → IsMore k r r' → IsPrefix (end_of r).events (end_of r').events
more_events {A = A} k (Goes a s) r' h = subst (λ (z : Ran A). IsPrefix s.events (end_of z).events) (sym h) (prefix_self s.events)
more_events {A = A} k (Ends (Faulted f at) s) r' h = subst (λ (z : Ran A). IsPrefix s.events (end_of z).events) (sym h) (prefix_self s.events)
more_events k (Ends Spent s) r' h = h.events

pub more_objects : {A : Type 0} (k : ℕ) (r r' : Ran A) → IsMore k r r' → IsLater (end_of r).heap (end_of r').heap
more_objects {A = A} k (Goes a s) r' h = subst (λ (z : Ran A). IsLater s.heap (end_of z).heap) (sym h) (later_self s.heap)
more_objects {A = A} k (Ends (Faulted f at) s) r' h = subst (λ (z : Ran A). IsLater s.heap (end_of z).heap) (sym h) (later_self s.heap)
more_objects k (Ends Spent s) r' h = h.objects

-- an end other than Spent stays
pub over_more : {A : Type 0} (k : ℕ) (r r' : Ran A) → IsOver r → IsMore k r r' → r' ≡ left_with ((end_of r).fuel + k) r
over_more k (Goes a s) r' over h = h
over_more k (Ends (Faulted f at) s) r' over h = h
over_more k (Ends Spent s) r' over h = absurd over

-- classes that were used
pub used_both : (es fs : List Event) → used (es ++ fs) ≡ used es ++ used fs
used_both [] fs = refl
used_both (Printed t ∷ es) fs = used_both es fs
used_both (Called r way k ∷ es) fs = used_both es fs
used_both (Used k ∷ es) fs = ap (λ ks. k ∷ ks) (used_both es fs)

pub used_more : (es fs : List Event) → IsPrefix es fs → (ks : List ClassKey) × (used fs ≡ used es ++ ks)
used_more es fs p = (used p.0, ap used p.1 ∙ used_both es p.0)
