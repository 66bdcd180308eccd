-- The rows of variables of loaded classes.
use Rattle.std.proofs.Common.{◌≡◌, ◌≢◌, ◌⊎◌, ◌++◌, ◌^◌, ℕ, zero, suc, ◌+◌, ◌<◌, inl, inr, flat_map, Bool, true, false, if◌then◌else◌, List, [], ◌∷◌, length, map, take, drop, get_or, ◌-◌, Option, Some, None, slice_get, slice_index_or, slice_set, refl, sym, ap, ◌∙◌, subst, arith, IsSome, true≢false}
use Rattle.std.specs.Option.{option_flatten}
use Rattle.std.proofs.Math.Seq.{take-append_seam}
use Rattle.std.proofs.lemmas.Grind.{flat_map-append}
use Rattle.std.proofs.lemmas.List.{get_or-set_other, get_or-set_same, length-append, map-append, take-append-drop, take-map, take_all}
use Rattle.som_model.specs.declared.key.ClassKey.{ClassKey}
use Rattle.som_model.specs.declared.key.ValueType.{ValueType}
use Rattle.som_model.specs.Lists.{Mem}
use Rattle.som_model.specs.Hierarchy.{Falls, Hierarchy, Tells}
use Rattle.som_model.specs.Ancestors.{Descends, anc_within, itself}
use Rattle.som_model.specs.Class.{Class}
use Rattle.som_model.specs.Classes.{ancestors, hierarchy}
use Rattle.som_model.proofs.KeyLaws.{exact_keys}
use Rattle.som_model_laws.proofs.Laws.{ancestors as descents, ancestors_apart}
use Rattle.som_model_laws.proofs.Members.{Apart, mem_left, mem_right, mem_split, not_true}
use Rattle.som_model_laws.proofs.Lists.{map_mem, mem_map}
use Rattle.som_model_laws.proofs.Standing as standing
use Rattle.som_meta.specs.Numbering.{AreNumbered, IsNumbered, Numbering, key_at}
use Rattle.som_tables.specs.Rows.{Added, AreDistinct, AreInherited, HasRow, HaveRowsBelow, IsDeclared, SomeHasToken, class_with, inherited, replaced_at, row_at}
use Rattle.som_class_layout_laws.specs.Laying.{IsScheme, IsToken}
use Rattle.som_class_layout_laws.specs.Places.{HasFirst, IsDataRow, IsPlaced, before, less}
use Rattle.som_class_layout_laws.proofs.DataRows.{parents_place, placed_filled, placed_others, places_apart, variable_shown}
use Rattle.som_class_layout_laws.proofs.FirstParent.{before_behind, before_front, first_ancestors, less_later, not_above}
use Rattle.som_tables.proofs.LateRows.{Filled-set, HasRow-set_same}
use Rattle.som_class_table.specs.Loaded.{AreLoaded}
use Rattle.som_class_variables.specs.Variables.{IsVariable, base_scheme, cell_count, object_variables, own_variables, place_in}
use Rattle.som_class_variables.specs.declared.start.RowStart.{RowStart}
use Rattle.som_class_variables.specs.Placed.{AreCounted, GoesAfter, GoesOn, HaveParentRows, bases_from, shift_in}
use Rattle.som_class_variables.proofs.Filling.{all_over, base_over, distinct_over, has_cell, has_variables, none_over}

place_of_mem : (xs : List ℕ) (m : ℕ) → Mem m xs → (i : ℕ) × (i < length xs) × (get_or xs i 0 ≡ m)
place_of_mem [] m there = absurd there
place_of_mem (x ∷ xs) m (inl e) = (0, omega arith, sym e)
place_of_mem (x ∷ xs) m (inr there) = let r = place_of_mem xs m there in let lt = r.1 in (suc r.0, omega (arith, lt), r.2)

-- a class's ancestors begin with itself
anc_first : {K : Type 0} (h : Hierarchy K) (n : ℕ) (x : K) → (rest : List K) × (anc_within h n x ≡ x ∷ rest)
anc_first h zero x = ([], refl)
anc_first h (suc n) x = (_, refl)

pub proper_above : (k : Numbering) (n : ℕ) (xs : List ℕ) → map (key_at k) xs ≡ ancestors k.classes (key_at k n) → key_at k n ∷ map (key_at k) (take (length xs - 1) (drop 1 xs)) ≡ ancestors k.classes (key_at k n)
proper_above k n xs keys = by xs keys (anc_first (hierarchy k.classes) ((hierarchy k.classes).height (key_at k n)) (key_at k n))
  where
    by : (xs : List ℕ) → map (key_at k) xs ≡ ancestors k.classes (key_at k n) → (rest : List ClassKey) × (ancestors k.classes (key_at k n) ≡ key_at k n ∷ rest)
        → key_at k n ∷ map (key_at k) (take (length xs - 1) (drop 1 xs)) ≡ ancestors k.classes (key_at k n)
    by [] e r = absurd (let f : [] ≡ key_at k n ∷ r.0 = e ∙ r.1 in cc)
    by (y ∷ ys) e r =
        let f : key_at k y ∷ map (key_at k) ys ≡ key_at k n ∷ r.0 = e ∙ r.1 in
        let same : key_at k y ≡ key_at k n = cc in
        let long : length (y ∷ ys) - 1 ≡ length ys = omega arith in
        ap (λ i. key_at k n ∷ map (key_at k) (take i ys)) long ∙ ap (λ zs. key_at k n ∷ map (key_at k) zs) (take_all (length ys) ys (omega arith))
        ∙ ap (λ z. z ∷ map (key_at k) ys) (sym same) ∙ e

within : {A : Type 0} (xs : List A) (n : ℕ) (x : A) → slice_get xs n ≡ Some x → n < length xs
within [] n x e = absurd (cc)
within (y ∷ xs) zero x e = omega arith
within (y ∷ xs) (suc n) x e = let l = within xs n x e in omega (arith, l)

-- the place of a variable is one of the object's
pub place_within : (xs ys : List ValueType) (n i : ℕ) → slice_get xs n ≡ slice_get ys i → i < length ys → n < length xs
place_within xs ys n i e lt = let r = some_at ys i lt in within xs n r.0 (e ∙ r.1)
  where
    some_at : (zs : List ValueType) (j : ℕ) → j < length zs → (z : ValueType) × (slice_get zs j ≡ Some z)
    some_at [] j l = absurd (omega (arith, l))
    some_at (z ∷ zs) zero l = (z, refl)
    some_at (z ∷ zs) (suc j) l = some_at zs j (omega (arith, l))

-- of the proper ancestors of a class so many are served by the row of its first parent, and the variables of the next one stand after theirs
pub record IsServed (k : Numbering) (shift : ℕ → ℕ) (n : ℕ) (ps ns : List ℕ) (served begins : ℕ) : Type 0 where
  pub place : begins ≡ length (own_variables k.classes (key_at k n)) + length (flat_map (own_variables k.classes) (map (key_at k) (take served ns)))
  pub first : (t : ℕ × ℕ) → Mem t.0 (take served ns) → HasFirst (base_scheme k) (own_variables k.classes) shift n ps t

-- what filling a class's row asks and leaves, where it introduces these cells and replaces these, and the variables of the classes that are left begin there
pub record RowFacts (k : Numbering) (rows : List (Option (Added ℕ))) (shift : ℕ → ℕ) (n : ℕ) (ps cells : List ℕ) (bases : List ((ℕ × ℕ) × ℕ)) (begins : ℕ) (left : List ℕ) : Type 0 where
  pub parents : HaveRowsBelow n rows ps
  pub inherited : AreInherited rows ps bases
  pub distinct : AreDistinct bases
  pub placed : (new : List (Option (Added ℕ))) → new ≡ slice_set rows n (Some (class_with ps cells bases)) → IsPlaced (base_scheme k) (own_variables k.classes) shift new
  pub filled : (new : List (Option (Added ℕ))) → new ≡ slice_set rows n (Some (class_with ps cells bases)) → HasRow new n
  pub others : (new : List (Option (Added ℕ))) → new ≡ slice_set rows n (Some (class_with ps cells bases)) → (m : ℕ) → m ≢ n → row_at new m ≡ row_at rows m
  pub counted : (end : ℕ) → end ≡ begins + length (flat_map (own_variables k.classes) (map (key_at k) left)) → end ≡ length (object_variables k.classes (key_at k n))

apart_keys : (k : Numbering) (xs : List ℕ) → Apart (map (key_at k) xs) → Apart xs
apart_keys k [] a = tt
apart_keys k (x ∷ xs) a = ((λ m. a.0 (mem_map (key_at k) x xs m)), apart_keys k xs a.1)

apart_both : {A : Type 0} (xs ys : List A) (a : A) → Apart (xs ++ ys) → Mem a xs → Mem a ys → ⊥
apart_both [] ys a apart m n = m
apart_both (x ∷ xs) ys a apart (inl e) n = apart.0 (subst (λ z. Mem z (xs ++ ys)) e (mem_right a xs ys n))
apart_both (x ∷ xs) ys a apart (inr m) n = apart_both xs ys a apart.1 m n

apart_right : {A : Type 0} (xs ys : List A) → Apart (xs ++ ys) → Apart ys
apart_right [] ys apart = apart
apart_right (x ∷ xs) ys apart = apart_right xs ys apart.1

module _ (k : Numbering) (l : AreLoaded k) where
  abbrev h : Hierarchy ClassKey
  h = hierarchy k.classes

  abbrev own : ClassKey → List ValueType
  own = own_variables k.classes

  pub falls : Falls h
  falls = subst (λ (z : List Class). Falls (hierarchy z)) (sym l.is) (standing.falls l.others l.loads.faces.ordered)

  pub tells : Tells h
  tells = subst (λ (z : List Class). Tells (hierarchy z)) (sym l.is) (standing.tells l.others l.loads.faces.ordered)

  no_choice : (p : ClassKey) → None ≡ Some p → ⊥
  no_choice p e = cc

  pub is_scheme : IsScheme (base_scheme k)
  is_scheme = record {
    falls = falls;
    tells = tells;
    apart = l.apart;
    methods = λ t is. record { own = exact_keys.one (key_at k t.0); picks = record { parent = λ x p e. absurd (no_choice p e); below = λ x p e. absurd (no_choice p e) } };
    introducer = λ t is. refl;
    below = λ t n is lt e. subst (λ (z : ClassKey). Descends h z (key_at k t.0)) (exact_keys.two (key_at k t.0) (key_at k n) e) itself;
  }

  one_key : (n : ℕ) (m : ℕ) → IsNumbered k m → n ≡ m → h.same (key_at k n) (key_at k m) ≡ true
  one_key n m im e = subst (λ z. h.same (key_at k n) (key_at k z) ≡ true) e (tells.one (key_at k n))

  other_key : (n : ℕ) → IsNumbered k n → (m : ℕ) → IsNumbered k m → (n ≡ m → ⊥) → h.same (key_at k n) (key_at k m) ≡ false
  other_key n in_ m im away = not_true (h.same (key_at k n) (key_at k m)) (λ e. away (l.apart n m in_ im (tells.two (key_at k n) (key_at k m) e)))

  abbrev count : ℕ → ℕ
  count m = length (own (key_at k m))

  -- a row's shift is noted as it is filled, and those of other rows stay
  module _ (rows : List (Option (Added ℕ))) (shifts : List ℕ) (long : length shifts ≡ length k.keys) (n : ℕ) (num : IsNumbered k n) (free : IsDeclared rows n) (s : ℕ) where
    pub shift_now : shift_in (slice_set shifts n s) n ≡ s
    shift_now = get_or-set_same shifts n s 0 (subst (λ z. n < z) (sym long) num)

    pub shift_others : (p : ℕ) → p ≢ n → shift_in (slice_set shifts n s) p ≡ shift_in shifts p
    shift_others p away = get_or-set_other shifts n p s 0 away

    pub still_placed : IsPlaced (base_scheme k) own (shift_in shifts) rows → IsPlaced (base_scheme k) own (shift_in (slice_set shifts n s)) rows
    still_placed placed = placed_others (base_scheme k) own (shift_in shifts) (shift_in (slice_set shifts n s)) rows placed (λ p has. shift_others p (λ e. not_free (subst (λ z. HasRow rows z) e has)))
      where
        not_free : HasRow rows n → ⊥
        not_free has = true≢false (sym (subst (λ (o : Option (Option (Added ℕ))). IsSome (option_flatten o)) free has))

    pub cells_now : (cells : List ℕ) (m : ℕ) → ((i : ℕ) → i < m → slice_get cells i ≡ Some (less s i)) → (i : ℕ) → i < m → slice_get cells i ≡ Some (less (shift_in (slice_set shifts n s) n) i)
    cells_now cells m each i lt = each i lt ∙ ap (λ z. Some (less z i)) (sym shift_now)

  -- where a row goes on is where the row of its first parent ends
  module _ (rows : List (Option (Added ℕ))) (counts shifts : List ℕ) (counted : AreCounted k rows counts) (n : ℕ) (num : IsNumbered k n)
      (ps : List ℕ) (ps_are : map (key_at k) ps ≡ h.parents (key_at k n)) (lower : (p : ℕ) → Mem p ps → p < n) (have : HaveParentRows k rows n)
      (ns : List ℕ) (ns_are : map (key_at k) (n ∷ ns) ≡ ancestors k.classes (key_at k n))
      (s : RowStart) (goes : GoesOn k counts shifts n (count n) s) (shift : ℕ → ℕ) (at_n : shift n ≡ s.shift) (elsewhere : (p : ℕ) → p ≢ n → shift p ≡ shift_in shifts p) where
    own_is : (p : ℕ) (t : ℕ × ℕ) (rest : List ClassKey) → ancestors k.classes (key_at k n) ≡ key_at k n ∷ (ancestors k.classes (key_at k p) ++ rest)
        → Mem (key_at k t.0) (ancestors k.classes (key_at k p)) → h.same (key_at k t.0) (key_at k n) ≡ false
        → place_in k.classes (key_at k n) (key_at k t.0) t.1 ≡ count n + place_in k.classes (key_at k p) (key_at k t.0) t.1
    own_is p t rest is m away =
        let a = key_at k t.0 in
        let b = before h.same own a (ancestors k.classes (key_at k p)) in
        let sum : (count n + b) + t.1 ≡ count n + (b + t.1) = omega arith in
        ap (λ (xs : List ClassKey). before h.same own a xs + t.1) is
        ∙ ap (λ (c : Bool). (if c then 0 else count n + before h.same own a (ancestors k.classes (key_at k p) ++ rest)) + t.1) away
        ∙ ap (λ z. (count n + z) + t.1) (before_front h tells own a (ancestors k.classes (key_at k p)) rest m) ∙ sum

    by_parents : (qs : List ℕ) → ps ≡ qs → GoesAfter k counts shifts (map (key_at k) qs) (count n) s → IsServed k shift n ps ns s.served s.place
    by_parents [] e g = record {
      place = g.1 ∙ (let z : count n ≡ count n + 0 = omega arith in z) ∙ ap (λ i. count n + length (flat_map own (map (key_at k) (take i ns)))) (sym g.0);
      first = λ t m. absurd (subst (λ i. Mem t.0 (take i ns)) g.0 m);
    }
    by_parents (q ∷ qs) e g =
        let p = g.0 in
        let here : Mem q ps = subst (λ l. Mem q l) (sym e) (inl refl) in
        let q_low = lower q here in
        let q_numbered : IsNumbered k q = omega (arith, q_low, num) in
        let same : q ≡ p = l.apart q p q_numbered g.1 (sym g.2) in
        let away : q ≢ n = λ f. (let g : ⊥ = omega (arith, q_low, f) in g) in
        let r = first_ancestors h tells falls (key_at k n) (key_at k q) (map (key_at k) qs) (sym ps_are ∙ ap (map (key_at k)) e) in
        let tail : map (key_at k) ns ≡ ancestors k.classes (key_at k q) ++ r.0 = tail_is (key_at k n) (map (key_at k) ns) (ancestors k.classes (key_at k q) ++ r.0) (ns_are ∙ r.1) in
        let front : map (key_at k) (take s.served ns) ≡ ancestors k.classes (key_at k q) =
        sym (take-map (key_at k) s.served ns) ∙ ap (take s.served) tail ∙ ap (λ i. take i (ancestors k.classes (key_at k q) ++ r.0)) g.3 ∙ take-append_seam (ancestors k.classes (key_at k q)) r.0 in
        let row : HasRow rows q = have q q_numbered (subst (λ (z : List ClassKey). Mem (key_at k q) z) ps_are (mem_map (key_at k) q ps here)) in
        record {
          place = g.4 ∙ ap (λ i. count n + slice_index_or counts i 0) (sym same) ∙ ap (λ z. count n + z) (counted q row) ∙ ap (λ (xs : List ClassKey). count n + length (flat_map own xs)) (sym front);
          first = λ t m. (
              let k_in : Mem (key_at k t.0) (ancestors k.classes (key_at k q)) = subst (λ (z : List ClassKey). Mem (key_at k t.0) z) front (mem_map (key_at k) t.0 (take s.served ns) m) in
              let no : h.same (key_at k t.0) (key_at k n) ≡ false = not_true (h.same (key_at k t.0) (key_at k n)) (λ f. not_above h tells falls (key_at k n) (key_at k q)
              (subst (λ z. Mem (key_at k q) z) ps_are (mem_map (key_at k) q ps here)) (subst (λ z. Mem z (ancestors k.classes (key_at k q))) (tells.two (key_at k t.0) (key_at k n) f) k_in)) in
              let now = own_is q t r.0 r.1 k_in no in
              let later : shift n ≡ count n + shift q = at_n ∙ g.5 ∙ ap (λ i. count n + shift_in shifts i) (sym same) ∙ ap (λ z. count n + z) (sym (elsewhere q away)) in
              record {
                first = q;
                others = qs;
                parents_are = e;
                below = (descents h tells falls (key_at k q) (key_at k t.0)).0 k_in;
                same = sym (ap (λ i. less i (place_in k.classes (key_at k n) (key_at k t.0) t.1)) later ∙ ap (less (count n + shift q)) now ∙ less_later (count n) (shift q) (place_in k.classes (key_at k q) (key_at k t.0) t.1));
              });
        }
      where
        tail_is : {A : Type 0} (x : A) (xs ys : List A) → x ∷ xs ≡ x ∷ ys → xs ≡ ys
        tail_is x xs ys e = cc

    pub is_served : IsServed k shift n ps ns s.served s.place
    is_served = by_parents ps refl (subst (λ z. GoesAfter k counts shifts z (count n) s) (sym ps_are) goes)

  -- what the row of a class is made of, where a front of its proper ancestors is served by the row of its first parent
  module _ (rows : List (Option (Added ℕ))) (shift : ℕ → ℕ) (placed : IsPlaced (base_scheme k) own shift rows) (n : ℕ) (num : IsNumbered k n) (free : IsDeclared rows n)
      (ps : List ℕ) (ps_are : map (key_at k) ps ≡ h.parents (key_at k n)) (lower : (p : ℕ) → Mem p ps → p < n) (have : HaveParentRows k rows n)
      (ns : List ℕ) (ns_numbered : AreNumbered k ns) (ns_are : map (key_at k) (n ∷ ns) ≡ ancestors k.classes (key_at k n))
      (served place : ℕ) (goes : IsServed k shift n ps ns served place)
      (cells : List ℕ) (each : (i : ℕ) → i < cell_count (count n) → slice_get cells i ≡ Some (less (shift n) i)) where
    -- the ancestors that are served, and those that are left
    abbrev front : List ℕ
    front = take served ns

    abbrev left : List ℕ
    left = drop served ns

    abbrev bases : List ((ℕ × ℕ) × ℕ)
    bases = bases_from count (shift n) place left

    abbrev pub made : Added ℕ
    made = class_with ps cells bases

    rows_below : (qs : List ℕ) → ((q : ℕ) → Mem q qs → Mem q ps) → HaveRowsBelow n rows qs
    rows_below [] f = tt
    rows_below (q ∷ qs) f =
        let low = lower q (f q (inl refl)) in
        ((low, have q (omega (arith, low, num)) (subst (λ z. Mem (key_at k q) z) ps_are (mem_map (key_at k) q ps (f q (inl refl))))), rows_below qs (λ z m. f z (inr m)))

    numbered_mem : (xs : List ℕ) → AreNumbered k xs → (m : ℕ) → Mem m xs → IsNumbered k m
    numbered_mem xs all m there = let r = place_of_mem xs m there in subst (IsNumbered k) r.2 (all r.0 0 r.1)

    both : front ++ left ≡ ns
    both = take-append-drop served ns

    from_left : (m : ℕ) → Mem m left → Mem m ns
    from_left m there = subst (λ z. Mem m z) both (mem_right m front left there)

    -- the class of a variable of an ancestor is among the proper ones, by its number
    among : (m : ℕ) → IsNumbered k m → m ≢ n → Descends h (key_at k n) (key_at k m) → Mem m ns
    among m im away d =
        let there : Mem (key_at k m) (map (key_at k) (n ∷ ns)) = subst (λ z. Mem (key_at k m) z) (sym ns_are) ((descents h tells falls (key_at k n) (key_at k m)).1 d) in
        let r = map_mem (key_at k) (key_at k m) (n ∷ ns) there in
        by r.0 r.1 r.2
      where
        by : (q : ℕ) → Mem q (n ∷ ns) → key_at k m ≡ key_at k q → Mem m ns
        by q (inl e) f = absurd (away (l.apart m n im num (f ∙ ap (key_at k) e)))
        by q (inr r) f = subst (λ z. Mem z ns) (sym (l.apart m q im (numbered_mem ns ns_numbered q r) f)) r

    apart_all : Apart (n ∷ ns)
    apart_all = apart_keys k (n ∷ ns) (subst (λ (xs : List ClassKey). Apart xs) (sym ns_are) (ancestors_apart h tells (key_at k n)))

    not_itself : Mem n ns → ⊥
    not_itself m = apart_all.0 m

    apart_parts : Apart (front ++ left)
    apart_parts = subst (λ (z : List ℕ). Apart z) (sym both) apart_all.1

    -- the key of a class of one list isn't among those of another that has no class of it
    key_away : (m : ℕ) → IsNumbered k m → (xs : List ℕ) → ((q : ℕ) → Mem q xs → Mem q ns) → (Mem m xs → ⊥) → Mem (key_at k m) (map (key_at k) xs) → ⊥
    key_away m im xs all f there =
        let r = map_mem (key_at k) (key_at k m) xs there in
        f (subst (λ z. Mem z xs) (sym (l.apart m r.0 im (numbered_mem ns ns_numbered r.0 (all r.0 r.1)) r.2)) r.1)

    -- the place of a variable of a class that is left
    left_place : (t : ℕ × ℕ) → IsNumbered k t.0 → t.0 ≢ n → Mem t.0 left → t.1 ≡ 0 → place + before h.same own (key_at k t.0) (map (key_at k) left) ≡ place_in k.classes (key_at k n) (key_at k t.0) t.1
    left_place t im away there first =
        let no : h.same (key_at k t.0) (key_at k n) ≡ false = other_key t.0 im n num away in
        let out : Mem (key_at k t.0) (map (key_at k) front) → ⊥ = key_away t.0 im front (λ q m. subst (λ z. Mem q z) both (mem_left q front left m)) (λ m. apart_both front left t.0 apart_parts m there) in
        let a = key_at k t.0 in
        let keys : map (key_at k) ns ≡ map (key_at k) front ++ map (key_at k) left = ap (map (key_at k)) (sym both) ∙ map-append (key_at k) front left in
        let b = before h.same own a (map (key_at k) left) in
        let f = length (flat_map own (map (key_at k) front)) in
        let sum : (count n + f) + b ≡ count n + (f + b) = omega arith in
        let zeroth : (z : ℕ) → z ≡ z + 0 = λ z. omega arith in
        ap (λ z. z + b) goes.place
        ∙ sum ∙ ap (λ z. count n + z) (sym (before_behind h tells own a (map (key_at k) front) (map (key_at k) left) out))
        ∙ ap (λ (xs : List ClassKey). count n + before h.same own a xs) (sym keys)
        ∙ sym (ap (λ (b : Bool). if b then 0 else count n + before h.same own a (map (key_at k) ns)) no)
        ∙ ap (λ (xs : List ClassKey). before h.same own a xs) ns_are
        ∙ zeroth (before h.same own a (ancestors k.classes (key_at k n))) ∙ ap (λ z. before h.same own a (ancestors k.classes (key_at k n)) + z) (sym first)

    other_cell : (t : ℕ × ℕ) → IsToken (base_scheme k) t → t.0 ≢ n → Mem t.0 front ⊎ Mem t.0 left
        → (replaced_at bases t ≡ Some (less (shift n) (place_in k.classes (key_at k n) (key_at k t.0) t.1))) ⊎ ((replaced_at bases t ≡ None) × HasFirst (base_scheme k) own shift n ps t)
    other_cell t is away (inl there) =
        inr (none_over count (shift n) place left t (λ m. apart_both front left t.0 apart_parts there m), goes.first t there)
    other_cell t is away (inr there) =
        let some = has_variables (count t.0) t.1 is.1 in
        let first : t.1 ≡ 0 = some.1 in
        inl (ap (λ z. replaced_at bases (t.0, z)) first
        ∙ base_over h.same own (key_at k) t.0 (IsNumbered k) (one_key t.0) (other_key t.0 is.0) some.0 (shift n) place left (λ m x. numbered_mem ns ns_numbered m (from_left m x)) there
        ∙ ap (λ z. Some (less (shift n) z)) (left_place t is.0 away there first))

    pub is_row : IsDataRow (base_scheme k) own shift rows n made
    is_row = record {
      numbered = num;
      parents = ps_are;
      below = rows_below ps (λ q m. m);
      first = each;
      not_own = λ i lt. none_over count (shift n) place left (n, i) (λ m. not_itself (from_left n m));
      others = λ t is away d. other_cell t is away (mem_split t.0 front left (subst (λ z. Mem t.0 z) (sym both) (among t.0 is.0 away d)));
    }

    pub row_parents : HaveRowsBelow n rows ps
    row_parents = rows_below ps (λ q m. m)

    base_above : (m p : ℕ) → Mem m left → 0 < count m → SomeHasToken rows ps (m, 0)
    base_above m p there lt =
        let in_all = from_left m there in
        let im = numbered_mem ns ns_numbered m in_all in
        let away : m ≢ n = λ e. not_itself (subst (λ z. Mem z ns) e in_all) in
        let d : Descends h (key_at k n) (key_at k m) = (descents h tells falls (key_at k n) (key_at k m)).0 (subst (λ (xs : List ClassKey). Mem (key_at k m) xs) ns_are (inr (mem_map (key_at k) m ns in_all))) in
        parents_place (base_scheme k) is_scheme own shift rows placed n made num ps_are (rows_below ps (λ q m. m)) (m, 0) (im, has_cell (count m) lt) away d

    pub is_inherited : AreInherited rows ps bases
    is_inherited = all_over (λ r. SomeHasToken rows ps r.0) count (shift n) place left base_above

    pub is_distinct : AreDistinct bases
    is_distinct = distinct_over count (shift n) place left (apart_right front left apart_parts)

    pub now_placed : (new : List (Option (Added ℕ))) → new ≡ slice_set rows n (Some made) → IsPlaced (base_scheme k) own shift new
    now_placed new e =
        subst (λ (z : List (Option (Added ℕ))). IsPlaced (base_scheme k) own shift z) (sym e) (placed_filled (base_scheme k) is_scheme own shift rows placed n made is_row (slice_set rows n (Some made)) (Filled-set rows n made free))

    pub now_filled : (new : List (Option (Added ℕ))) → new ≡ slice_set rows n (Some made) → HasRow new n
    now_filled new e = subst (λ (z : List (Option (Added ℕ))). HasRow z n) (sym e) (HasRow-set_same rows n made free)

    pub now_others : (new : List (Option (Added ℕ))) → new ≡ slice_set rows n (Some made) → (m : ℕ) → m ≢ n → row_at new m ≡ row_at rows m
    now_others new e m away = ap (λ (z : List (Option (Added ℕ))). row_at z m) e ∙ (Filled-set rows n made free).others m away

    -- as many variables as a row tells at its end
    pub all_counted : (end : ℕ) → end ≡ place + length (flat_map own (map (key_at k) left)) → end ≡ length (object_variables k.classes (key_at k n))
    all_counted end e =
        let keys : map (key_at k) ns ≡ map (key_at k) front ++ map (key_at k) left = ap (map (key_at k)) (sym both) ∙ map-append (key_at k) front left in
        let f = flat_map own (map (key_at k) front) in
        let b = flat_map own (map (key_at k) left) in
        let sum : (count n + length f) + length b ≡ count n + (length f + length b) = omega arith in
        e ∙ ap (λ z. z + length b) goes.place ∙ sum
        ∙ ap (λ z. count n + z) (sym (length-append f b) ∙ ap length (sym (flat_map-append own (map (key_at k) front) (map (key_at k) left))) ∙ ap (λ (xs : List ClassKey). length (flat_map own xs)) (sym keys))
        ∙ sym (length-append (own (key_at k n)) (flat_map own (map (key_at k) ns)))
        ∙ ap (λ (xs : List ClassKey). length (flat_map own xs)) ns_are

  -- what is so of a row that goes on there
  module _ (rows : List (Option (Added ℕ))) (counts shifts : List ℕ) (long : length shifts ≡ length k.keys) (counted : AreCounted k rows counts) (placed : IsPlaced (base_scheme k) own (shift_in shifts) rows)
      (n : ℕ) (num : IsNumbered k n) (free : IsDeclared rows n) (ps : List ℕ) (ps_are : map (key_at k) ps ≡ h.parents (key_at k n)) (lower : (p : ℕ) → Mem p ps → p < n) (have : HaveParentRows k rows n)
      (ns : List ℕ) (ns_numbered : AreNumbered k ns) (ns_are : map (key_at k) (n ∷ ns) ≡ ancestors k.classes (key_at k n)) (s : RowStart) (goes : GoesOn k counts shifts n (count n) s) where
    abbrev new_shift : ℕ → ℕ
    new_shift = shift_in (slice_set shifts n s.shift)

    serves : IsServed k new_shift n ps ns s.served s.place
    serves = is_served rows counts shifts counted n num ps ps_are lower have ns ns_are s goes new_shift (shift_now rows shifts long n num free s.shift) (shift_others rows shifts long n num free s.shift)

    pub row_facts : (cells : List ℕ) → ((i : ℕ) → i < cell_count (count n) → slice_get cells i ≡ Some (less s.shift i))
        → RowFacts k rows new_shift n ps cells (bases_from count s.shift s.place (drop s.served ns)) s.place (drop s.served ns)
    row_facts cells each =
        let placed_now = still_placed rows shifts long n num free s.shift placed in
        let each_now = cells_now rows shifts long n num free s.shift cells (cell_count (count n)) each in
        subst (λ z. RowFacts k rows new_shift n ps cells (bases_from count z s.place (drop s.served ns)) s.place (drop s.served ns)) (shift_now rows shifts long n num free s.shift) (record {
          parents = row_parents rows new_shift placed_now n num free ps ps_are lower have ns ns_numbered ns_are s.served s.place serves cells each_now;
          inherited = is_inherited rows new_shift placed_now n num free ps ps_are lower have ns ns_numbered ns_are s.served s.place serves cells each_now;
          distinct = is_distinct rows new_shift placed_now n num free ps ps_are lower have ns ns_numbered ns_are s.served s.place serves cells each_now;
          placed = now_placed rows new_shift placed_now n num free ps ps_are lower have ns ns_numbered ns_are s.served s.place serves cells each_now;
          filled = now_filled rows new_shift placed_now n num free ps ps_are lower have ns ns_numbered ns_are s.served s.place serves cells each_now;
          others = now_others rows new_shift placed_now n num free ps ps_are lower have ns ns_numbered ns_are s.served s.place serves cells each_now;
          counted = all_counted rows new_shift placed_now n num free ps ps_are lower have ns ns_numbered ns_are s.served s.place serves cells each_now;
        })

  -- a variable's place is that of its class's base and its own number

  based : (n : ℕ) (t : ℕ × ℕ) (base : ℕ) → base ≡ place_in k.classes (key_at k n) (key_at k t.0) 0 → base + t.1 ≡ place_in k.classes (key_at k n) (key_at k t.0) t.1
  based n t base e = (let b = before h.same own (key_at k t.0) (ancestors k.classes (key_at k n)) in let first : base ≡ b + 0 = e in omega (arith, first))

  pub has_base : (rows : List (Option (Added ℕ))) (shift : ℕ → ℕ) → IsPlaced (base_scheme k) own shift rows → (n : ℕ) (t : ℕ × ℕ) → HasRow rows n → IsVariable k t → Descends h (key_at k n) (key_at k t.0)
      → inherited rows n (t.0, 0) ≡ Some (less (shift n) (place_in k.classes (key_at k n) (key_at k t.0) 0))
  has_base rows shift placed n t has is d =
      let here = is.1 in
      let some : 0 < count t.0 = omega (arith, here) in
      placed.cells n (t.0, 0) has (is.0, has_cell (count t.0) some) d

  -- the base that a cell tells is the place of the class's first variable
  pub from_base : (rows : List (Option (Added ℕ))) (shift : ℕ → ℕ) → IsPlaced (base_scheme k) own shift rows → (n : ℕ) (t : ℕ × ℕ) → HasRow rows n → IsVariable k t → Descends h (key_at k n) (key_at k t.0)
      → (cell : ℕ) → Some cell ≡ inherited rows n (t.0, 0) → (base : ℕ) → ((place : ℕ) → place < 2 ^ 32 → cell ≡ less (shift n) place → base ≡ place)
      → length (object_variables k.classes (key_at k n)) < 2 ^ 32 → base + t.1 ≡ place_in k.classes (key_at k n) (key_at k t.0) t.1
  from_base rows shift placed n t has is d cell e base tells_place few =
      let two : Some cell ≡ Some (less (shift n) (place_in k.classes (key_at k n) (key_at k t.0) 0)) = e ∙ has_base rows shift placed n t has is d in
      let one : cell ≡ less (shift n) (place_in k.classes (key_at k n) (key_at k t.0) 0) = cc in
      let here = is.1 in
      let some : 0 < count t.0 = omega (arith, here) in
      let inside : place_in k.classes (key_at k n) (key_at k t.0) 0 < length (object_variables k.classes (key_at k n)) =
      place_within (object_variables k.classes (key_at k n)) (own (key_at k t.0)) _ 0 (variable_shown h tells own falls (key_at k n) (key_at k t.0) 0 d some) some in
      based n t base (tells_place _ (omega (arith, few, inside)) one)

  -- the shift that was read is that of the class's row
  pub shift_read : (rows : List (Option (Added ℕ))) (shift : ℕ → ℕ) → IsPlaced (base_scheme k) own shift rows → (shifts : List ℕ) → length shifts ≡ length k.keys → (n number s : ℕ) → HasRow rows n → number ≡ n → s ≡ get_or shifts number s
      → s ≡ shift_in shifts n
  shift_read rows shift placed shifts long n number s has is at = at ∙ ap (λ i. get_or shifts i s) is ∙ whatever shifts n s 0 (subst (λ z. n < z) (sym long) (placed.numbered n has))
    where
      whatever : (xs : List ℕ) (i d e : ℕ) → i < length xs → get_or xs i d ≡ get_or xs i e
      whatever [] i d e lt = absurd (omega (arith, lt))
      whatever (x ∷ xs) zero d e lt = refl
      whatever (x ∷ xs) (suc i) d e lt = whatever xs i d e (omega (arith, lt))

  -- what a place shows

  pub place_kind : (n : ℕ) (t : ℕ × ℕ) → IsVariable k t → Descends h (key_at k n) (key_at k t.0) → slice_get (object_variables k.classes (key_at k n)) (place_in k.classes (key_at k n) (key_at k t.0) t.1) ≡ slice_get (own (key_at k t.0)) t.1
  place_kind n t is d = variable_shown h tells own falls (key_at k n) (key_at k t.0) t.1 d is.1

  pub places_differ : (n : ℕ) (s t : ℕ × ℕ) → IsVariable k s → IsVariable k t → Descends h (key_at k n) (key_at k s.0) → Descends h (key_at k n) (key_at k t.0)
      → place_in k.classes (key_at k n) (key_at k s.0) s.1 ≡ place_in k.classes (key_at k n) (key_at k t.0) t.1 → s ≡ t
  places_differ n s t is it ds dt e =
      let r = places_apart h tells own falls (key_at k n) (key_at k s.0) (key_at k t.0) s.1 t.1 ds dt is.1 it.1 e in
      pair (l.apart s.0 t.0 is.0 it.0 r.0) r.1
    where
      pair : s.0 ≡ t.0 → s.1 ≡ t.1 → s ≡ t
      pair e f = ap (λ (z : ℕ). let p : ℕ × ℕ = (z, s.1) in p) e ∙ ap (λ (z : ℕ). let p : ℕ × ℕ = (t.0, z) in p) f
