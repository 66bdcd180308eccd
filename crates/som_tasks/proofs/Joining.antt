-- All clients after one turn more.
use Rattle.std.proofs.Common.{◌≡◌, ℕ, zero, suc, ◌+◌, ◌<◌, ◌≤◌, ◌==◌, Bool, true, false, cond, List, [], ◌∷◌, ◌++◌, length, set, take, get_or, Option, Some, Result, Ok, refl, sym, ap, subst, ◌∙◌, arith}
use Rattle.std.specs.Prelude.{◌≢◌, slice_get}
use Rattle.std.specs.List.{sum_by}
use Rattle.std.proofs.lemmas.Bool.{eq-eqb, eqb-true, eqb-false}
use Rattle.std.proofs.lemmas.Option.{get_or_from_slice_get, slice_get_within}
use Rattle.std.proofs.lemmas.List.{length-append, length-set, take_all}
use Rattle.std.proofs.lemmas.List.Sums.{sum_by-append, sum_by_more}
use Rattle.som_model.specs.declared.key.ClassKey.{ClassKey}
use Rattle.som_model.specs.declared.syntax.Block.{Block}
use Rattle.som_semantics.specs.World.{World}
use Rattle.som_turn_laws.specs.Turns.{Clients, turns_of}
use Rattle.som_meta.specs.Numbering.{Numbering}
use Rattle.som_objects.specs.Objects.{Objects, live_at}
use Rattle.som_trace.specs.declared.line.Untold.{Untold}
use Rattle.som_values.specs.Shown.{IsMade}
use Rattle.som_interp_state.specs.Settings.{Linked}
use Rattle.som_interp_task.specs.declared.advanced.Advanced.{Advanced}
use Rattle.som_tasks.specs.declared.client.Client.{Client as Held}
use Rattle.som_tasks.specs.Beside.{AreApart}
use Rattle.som_tasks.specs.Taken.{AreKept, objects_after, objects_of}
use Rattle.som_tasks.specs.Turning.{IsKept, Turns}
use Rattle.som_tasks.specs.Stage.{AreAfter, IsAfter, made_by, serials_of}
use Rattle.som_tasks.proofs.Places.{at_place, is_set, map_kept, sum_more, there_else}
use Rattle.som_tasks.proofs.Sparing.{Leaves, longer, spared, still_apart}
use Rattle.som_tasks.proofs.Stepping.{has_turned, turn_leaves, waits_on}

-- ---- counts of turns

counted : (i j : ℕ) (turns : List ℕ) (b : Bool) → (j == i) ≡ b → turns_of i (turns ++ j ∷ []) ≡ turns_of i turns + (0 + cond b 1 0)
counted i j turns b e = sum_by-append (λ k. cond (k == i) 1 0) turns (j ∷ []) ∙ ap (λ c. turns_of i turns + (0 + cond c 1 0)) e

one_counted : (n : ℕ) → n + (0 + 1) ≡ suc n
one_counted n = omega arith

none_counted : (n : ℕ) → n + (0 + 0) ≡ n
none_counted n = omega arith

pub own_turn : (i : ℕ) (turns : List ℕ) → turns_of i (turns ++ i ∷ []) ≡ suc (turns_of i turns)
own_turn i turns = counted i i turns true (eq-eqb i i refl) ∙ one_counted (turns_of i turns)

other_turn : (i j : ℕ) (turns : List ℕ) → (i == j) ≡ false → turns_of j (turns ++ i ∷ []) ≡ turns_of j turns
other_turn i j turns e = counted j i turns false e ∙ none_counted (turns_of j turns)

-- ---- one turn more

module _ {A : Type 0} (keys : A → List ClassKey) (world : A → World) (linked : A → Linked) (known : A → Numbering) (main : A → Block) (made : A → ClassKey → Bool) (first : ℕ) (clients : Clients) (turns : List ℕ) (i : ℕ) (os os' : Objects) (kernels : List A) (helds : List Held) (ends : List Advanced) (kernel kernel' : A) (held held' : Held) (end end' : Advanced) (before after : Option (List ℕ)) (result : Result (Unit {0}) Untold) where
  module _ (all : AreAfter linked known main made first clients turns os kernels helds ends) (at : slice_get kernels i ≡ Some kernel) (at_held : slice_get helds i ≡ Some held) (at_end : slice_get ends i ≡ Some end)
      (kept : IsKept keys world known linked main kernel kernel') (t : Turns linked known main made before after os os' kernel kernel' held held' end end' result) where
    -- the client whose turn it is
    mine : IsAfter linked known main made first (clients i) i (turns_of i turns) os kernel held end
    mine = all.each i kernel held end at at_held at_end

    low : first ≤ length os
    low = let c = all.count in omega (arith, c)

    left : Leaves (serials_of held) (serials_of held') os os'
    left = turn_leaves keys world linked known main made first (clients i) i (turns_of i turns) os os' kernel kernel' held held' end end' before after result t

    -- objects that were made before any turn stay
    pub older_stay : (n : ℕ) → n ≤ first → live_at os' n ≡ live_at os n
    older_stay n le = left.others n (omega (arith, low, le)) (λ m. (let lt : first < n = (mine.own n m).0 in let f : ⊥ = omega (arith, lt, le) in f))

    apart_from : (j : ℕ) (other : Held) → (i == j) ≡ false → slice_get helds j ≡ Some other → AreApart (serials_of held) (serials_of other)
    apart_from j other ne there = all.apart i j held other (λ e. eqb-false i j ne e) at_held there

    module _ (ok : result ≡ Ok tt) where
      own_after : IsAfter linked known main made first (clients i) i (turns_of i (turns ++ i ∷ [])) os' kernel' held' end'
      own_after =
          subst (λ n. IsAfter linked known main made first (clients i) i n os' kernel' held' end') (sym (own_turn i turns))
          (has_turned keys world linked known main made first (clients i) i (turns_of i turns) os os' kernel kernel' held held' end end' before after result mine kept low ok t)

      other_after : (j : ℕ) (k : A) (h : Held) (e : Advanced) → (i == j) ≡ false → slice_get kernels j ≡ Some k → slice_get helds j ≡ Some h → slice_get ends j ≡ Some e
          → IsAfter linked known main made first (clients j) j (turns_of j (turns ++ i ∷ [])) os' k h e
      other_after j k h e ne ak ah ae =
          let theirs = all.each j k h e ak ah ae in
          let given : (n : ℕ) → IsMade (serials_of h) n → n ≤ length os = λ n m. (theirs.own n m).1 in
          subst (λ n. IsAfter linked known main made first (clients j) j n os' k h e) (sym (other_turn i j turns ne))
          (waits_on keys world linked known main made first (clients j) j (turns_of j turns) os os' k h e theirs
          (spared (serials_of held) (serials_of held') os os' left (serials_of h) given (apart_from j h ne ah))
          (longer (serials_of held) (serials_of held') os os' left))

      each_after : (j : ℕ) (k : A) (h : Held) (e : Advanced) → slice_get (set kernels i kernel') j ≡ Some k → slice_get (set helds i held') j ≡ Some h → slice_get (set ends i end') j ≡ Some e
          → IsAfter linked known main made first (clients j) j (turns_of j (turns ++ i ∷ [])) os' k h e
      each_after j k h e ak ah ae = by (i == j) refl
        where
          by : (b : Bool) → (i == j) ≡ b → IsAfter linked known main made first (clients j) j (turns_of j (turns ++ i ∷ [])) os' k h e
          by true is =
              let same : i ≡ j = eqb-true i j is in
              let k_is : k ≡ kernel' = is_set kernels i kernel' k (slice_get_within kernels i kernel at) (subst (λ n. slice_get (set kernels i kernel') n ≡ Some k) (sym same) ak) in
              let h_is : h ≡ held' = is_set helds i held' h (slice_get_within helds i held at_held) (subst (λ n. slice_get (set helds i held') n ≡ Some h) (sym same) ah) in
              let e_is : e ≡ end' = is_set ends i end' e (slice_get_within ends i end at_end) (subst (λ n. slice_get (set ends i end') n ≡ Some e) (sym same) ae) in
              subst (λ n. IsAfter linked known main made first (clients n) n (turns_of n (turns ++ i ∷ [])) os' k h e) same
              (subst (λ z. IsAfter linked known main made first (clients i) i (turns_of i (turns ++ i ∷ [])) os' z h e) (sym k_is)
              (subst (λ (z : Held). IsAfter linked known main made first (clients i) i (turns_of i (turns ++ i ∷ [])) os' kernel' z e) (sym h_is)
              (subst (λ (z : Advanced). IsAfter linked known main made first (clients i) i (turns_of i (turns ++ i ∷ [])) os' kernel' held' z) (sym e_is) own_after)))
          by false is =
              let ne : i ≢ j = λ same. eqb-false i j is same in
              other_after j k h e is (sym (there_else kernels i j kernel' ne) ∙ ak) (sym (there_else helds i j held' ne) ∙ ah) (sym (there_else ends i j end' ne) ∙ ae)

      -- what is at a place after the turn: the client whose turn it was, or another one
      apart_mine : (j : ℕ) (other : Held) → (i == j) ≡ false → slice_get helds j ≡ Some other → AreApart (serials_of held') (serials_of other)
      apart_mine j other ne there =
          still_apart (serials_of held) (serials_of held') os os' left (serials_of other) (λ n m. given n m) (apart_from j other ne there)
        where
          given : (n : ℕ) → IsMade (serials_of other) n → n ≤ length os
          given n m =
              let within : j < length helds = slice_get_within helds j other there in
              let as_kernels : length helds ≡ length kernels = all.all_held in
              let as_ends : length ends ≡ length kernels = all.all_ends in
              let k = at_place kernels j (omega (arith, within, as_kernels)) in
              let e = at_place ends j (omega (arith, within, as_kernels, as_ends)) in
              ((all.each j k.0 other e.0 k.1 there e.1).own n m).1

      apart_after : (j l : ℕ) (one other : Held) → j ≢ l → slice_get (set helds i held') j ≡ Some one → slice_get (set helds i held') l ≡ Some other → AreApart (serials_of one) (serials_of other)
      apart_after j l one other ne aj al = by (i == j) refl (i == l) refl
        where
          here : (m : ℕ) (h : Held) → (i == m) ≡ true → slice_get (set helds i held') m ≡ Some h → h ≡ held'
          here m h is am = is_set helds i held' h (slice_get_within helds i held at_held) (subst (λ n. slice_get (set helds i held') n ≡ Some h) (sym (eqb-true i m is)) am)

          elsewhere : (m : ℕ) (h : Held) → (i == m) ≡ false → slice_get (set helds i held') m ≡ Some h → slice_get helds m ≡ Some h
          elsewhere m h is am = sym (there_else helds i m held' (λ same. eqb-false i m is same)) ∙ am

          by : (b : Bool) → (i == j) ≡ b → (d : Bool) → (i == l) ≡ d → AreApart (serials_of one) (serials_of other)
          by true isj true isl = absurd (ne (sym (eqb-true i j isj) ∙ eqb-true i l isl))
          by true isj false isl = subst (λ (h : Held). AreApart (serials_of h) (serials_of other)) (sym (here j one isj aj)) (apart_mine l other isl (elsewhere l other isl al))
          by false isj true isl = subst (λ (h : Held). AreApart (serials_of one) (serials_of h)) (sym (here l other isl al)) (λ n m k. apart_mine j one isj (elsewhere j one isj aj) n k m)
          by false isj false isl = all.apart j l one other ne (elsewhere j one isj aj) (elsewhere l other isl al)

      count_after : length os' ≡ first + sum_by made_by (set helds i held')
      count_after =
          let more : made_by held' ≡ made_by held + length left.more = ap length left.serials_are ∙ length-append (serials_of held) left.more in
          let sum : sum_by made_by (set helds i held') ≡ sum_by made_by helds + length left.more = sum_more made_by helds i held held' (length left.more) at_held more in
          let c : length os ≡ first + sum_by made_by helds = all.count in
          let d : length os' ≡ length os + length left.more = left.count in
          omega (arith, sum, c, d)

      pub after_turn : AreAfter linked known main made first clients (turns ++ i ∷ []) os' (set kernels i kernel') (set helds i held') (set ends i end')
      after_turn = record {
        all_held = length-set helds i held' ∙ all.all_held ∙ sym (length-set kernels i kernel');
        all_ends = length-set ends i end' ∙ all.all_ends ∙ sym (length-set kernels i kernel');
        each = λ j k h e ak ah ae. each_after j k h e ak ah ae;
        apart = λ j l one other ne aj al. apart_after j l one other ne aj al;
        count = count_after;
      }

-- the kernels are kept where one is
pub kept_more : {A : Type 0} (keys : A → List ClassKey) (world : A → World) (known : A → Numbering) (linked : A → Linked) (main : A → Block) (first kernels : List A) (i : ℕ) (kernel kernel' : A) → slice_get kernels i ≡ Some kernel
    → AreKept keys world known linked main first kernels → IsKept keys world known linked main kernel kernel' → AreKept keys world known linked main first (set kernels i kernel')
kept_more keys world known linked main first kernels i kernel kernel' at all one = record {
  same_keys = map_kept keys kernels i kernel kernel' at one.same_keys ∙ all.same_keys;
  same_worlds = map_kept world kernels i kernel kernel' at one.same_world ∙ all.same_worlds;
  same_classes = map_kept known kernels i kernel kernel' at one.same_classes ∙ all.same_classes;
  same_linked = map_kept linked kernels i kernel kernel' at one.same_linked ∙ all.same_linked;
  same_mains = map_kept main kernels i kernel kernel' at one.same_main ∙ all.same_mains;
}

-- ---- the objects of all

module _ {A : Type 0} (linked : A → Linked) (known : A → Numbering) (main : A → Block) (made : A → ClassKey → Bool) (first : ℕ) (clients : Clients) (turns : List ℕ) (os : Objects) (kernels : List A) (helds : List Held) (ends : List Advanced) (all : AreAfter linked known main made first clients turns os kernels helds ends) where
  made_there : (n : ℕ) (held : Held) → n < length kernels → slice_get helds n ≡ Some held → made_by held ≡ objects_after (clients n) (turns_of n turns)
  made_there n held lt there =
      let as_ends : length ends ≡ length kernels = all.all_ends in
      let k = at_place kernels n lt in
      let e = at_place ends n (omega (arith, lt, as_ends)) in
      (all.each n k.0 held e.0 k.1 there e.1).objects

  sums : (n : ℕ) → n ≤ length kernels → sum_by made_by (take n helds) ≡ objects_of clients turns n
  sums zero le = refl
  sums (suc n) le =
      let as_kernels : length helds ≡ length kernels = all.all_held in
      let lt : n < length helds = omega (arith, le, as_kernels) in
      let one : suc n ≡ n + 1 = omega arith in
      let p = at_place helds n lt in
      let more : sum_by made_by (take (n + 1) helds) ≡ sum_by made_by (take n helds) + made_by (get_or helds n p.0) = sum_by_more made_by helds n p.0 lt in
      ap (λ m. sum_by made_by (take m helds)) one ∙ more
      ∙ ap (λ z. z + made_by (get_or helds n p.0)) (sums n (omega (arith, le)))
      ∙ ap (λ z. objects_of clients turns n + z) (ap made_by (get_or_from_slice_get helds n p.0 p.0 p.1) ∙ made_there n p.0 (omega (arith, le)) p.1)

  pub all_made : sum_by made_by helds ≡ objects_of clients turns (length kernels)
  all_made = ap (sum_by made_by) (sym (take_all (length kernels) helds (let a = all.all_held in omega (arith, a)))) ∙ sums (length kernels) (omega arith)
