-- The ancestors of the parents before the first lost one, and how many there are.
use Rattle.std.proofs.Common.{◌≡◌, ◌↔◌, ℕ, ◌+◌, ◌<◌, ◌≤◌, ◌⊎◌, inl, inr, Bool, true, false, List, [], ◌∷◌, ◌++◌, length, take, map, Option, Some, None, slice_set, slice_index_or, refl, sym, ap, ◌∙◌, subst, arith}
use Rattle.std.proofs.lemmas.Bool.{cases_lt}
use Rattle.som_model.specs.declared.key.ClassKey.{ClassKey}
use Rattle.som_model.specs.Lists.{Mem, first, joined}
use Rattle.som_model.specs.Keys.{same_key}
use Rattle.som_model.specs.Ancestors.{Descends, itself, by_parent}
use Rattle.som_model.specs.Class.{Class}
use Rattle.som_model.specs.Classes.{hierarchy, ancestors, is_a}
use Rattle.som_model.specs.Compatible.{incompatible, declared_name, k3}
use Rattle.som_model.proofs.KeyLaws.{exact_keys}
use Rattle.som_model_laws.proofs.Members.{mem_left, mem_right, mem_split, joined_mem, mem_joined, not_true, Apart}
use Rattle.som_model_laws.proofs.Laws.{ancestors as ancestors_are, descends_test, descends_through}
use Rattle.som_model_laws.proofs.CompareLists.{fails_none}
use Rattle.som_verify_classes.specs.Places.{class_of_place, key_at, face_at, Finds}
use Rattle.som_verify_classes.specs.Plainly.{IsAmong}
use Rattle.som_model_laws.specs.Once.{adds}
use Rattle.som_verify_classes.proofs.DeclaredClasses.{long_map}
use Rattle.som_verify_classes.proofs.PlainLists.{mem_map, map_mem}
use Rattle.som_compat.specs.declared.rows.Row.{Row}
use Rattle.som_compat.specs.Views.{AreRows}
use Rattle.som_compat.specs.Marks.{Marked, count, lost_from, Above, IsReached, IsFront}
use Rattle.som_compat.proofs.Known.{IsKnown}
use Rattle.som_compat.proofs.Plain.{empty_map}
use Rattle.som_compat.proofs.Placed.{among_place}
use Rattle.som_compat.proofs.Filled.{next_take}
use Rattle.som_compat.proofs.Marking.{marked_set}
use Rattle.som_compat.proofs.Viewing.{among_at, parent_among, above_keys, keys_above, number_key}
use Rattle.som_compat.proofs.Lost.{adds_from, adds_left, adds_right, adds_apart, lost_at, counted, splits_at, none_lost}

apart_map : {A B : Type 0} (f : A → B) (xs : List A) → Apart (map f xs) → Apart xs
apart_map f [] d = tt
apart_map f (x ∷ xs) d = ((λ m. d.0 (mem_map f x xs m)), apart_map f xs d.1)

module _ (cs : List Class) (known : IsKnown cs) where
  pub descends_known : (x y : ClassKey) → Descends (hierarchy cs) x y → IsAmong cs x → IsAmong cs y
  descends_known x y itself am = am
  descends_known x y (by_parent p m d) am =
      let r = among_place cs x am in
      descends_known p y d (parent_among cs known r.0 p r.1 (subst (λ z. Mem p z) (ap (hierarchy cs).parents (sym r.2) ∙ known.parents r.0 r.1) m))

  -- a known class doesn't descend from one that isn't known
  pub none_above : (x k : ClassKey) → IsAmong cs x → Finds (length cs) cs k None → is_a cs x k ≡ false
  none_above x k am f = not_true (is_a cs x k) (λ e.
      let d = (descends_test (hierarchy cs) known.tells known.falls x k).0 e in
      let r = among_place cs k (descends_known x k d am) in
      f r.0 r.1 r.1 r.2)

  pub ancestor_is : (x a : ClassKey) → Mem a (ancestors cs x) ↔ Descends (hierarchy cs) x a
  ancestor_is x a = ancestors_are (hierarchy cs) known.tells known.falls x a

  -- the places of keys that are known
  places : (ks : List ClassKey) → ((k : ClassKey) → Mem k ks → IsAmong cs k) → (ps : List ℕ) × (map (key_at cs) ps ≡ ks) × ((p : ℕ) → Mem p ps → p < length cs)
  places [] f = ([], refl, λ p m. absurd m)
  places (k ∷ ks) f =
      let r = among_place cs k (f k (inl refl)) in
      let s = places ks (λ j m. f j (inr m)) in
      (r.0 ∷ s.0, ap (λ z. z ∷ map (key_at cs) s.0) r.2 ∙ ap (λ z. k ∷ z) s.1, λ p m. elim m [ inl e ↦ (let l = r.1 in omega (arith, e, l)) | inr n ↦ s.2 p n ])

  pub front_counted : (own : ℕ) (front : List ClassKey) (marks : List Bool) → own < length cs → ((k : ClassKey) → Mem k front → Mem k (face_at cs own).parents) → IsFront cs own front marks
      → length (adds same_key (key_at cs own ∷ []) (joined (map (ancestors cs) front))) ≡ count marks
  front_counted own front marks lt parents is =
      let start = key_at cs own ∷ [] in
      let all = joined (map (ancestors cs) front) in
      let list = adds same_key start all in
      let one = exact_keys.one in
      let two = exact_keys.two in
      let in_all = λ (a : ClassKey) (m : Mem a all). joined_mem (ancestors cs) a front m in
      let among = λ (a : ClassKey) (m : Mem a list). the_among a (adds_from same_key one two a all start m) in
      let ps = places list among in
      ap length (sym ps.1) ∙ long_map (key_at cs) ps.0 ∙ counted ps.0 (apart_map (key_at cs) ps.0 (subst (λ z. Apart z) (sym ps.1) (adds_apart same_key one two all start ((λ m. m), tt)))) marks (λ k. (
        (λ m. (let w = is.within k m in
            let in_list : Mem (key_at cs k) list = the_listed k (is.sound k m) in
            let r = map_mem (key_at cs) (key_at cs k) ps.0 (subst (λ z. Mem (key_at cs k) z) (sym ps.1) in_list) in
            let same : k ≡ r.0 = known.once k r.0 w (ps.2 r.0 r.1) r.2 in
            subst (λ (z : ℕ). Mem z ps.0) (sym same) r.1)),
        (λ m. (let w = ps.2 k m in
            let in_list : Mem (key_at cs k) list = subst (λ z. Mem (key_at cs k) z) ps.1 (mem_map (key_at cs) k ps.0 m) in
            the_marked k w (adds_from same_key one two (key_at cs k) all start in_list))),
      ))
    where
      the_among : (a : ClassKey) → Mem a (key_at cs own ∷ []) ⊎ Mem a (joined (map (ancestors cs) front)) → IsAmong cs a
      the_among a (inl (inl e)) = subst (IsAmong cs) (sym e) (among_at cs own lt)
      the_among a (inl (inr z)) = absurd z
      the_among a (inr m) = let r = joined_mem (ancestors cs) a front m in
          descends_known r.0 a ((ancestor_is r.0 a).0 r.2) (parent_among cs known own r.0 lt (parents r.0 r.1))

      the_listed : (k : ℕ) → (k ≡ own) ⊎ ((f : ClassKey) × Mem f front × Descends (hierarchy cs) f (key_at cs k)) → Mem (key_at cs k) (adds same_key (key_at cs own ∷ []) (joined (map (ancestors cs) front)))
      the_listed k (inl e) = adds_left same_key exact_keys.one exact_keys.two (key_at cs k) (joined (map (ancestors cs) front)) (key_at cs own ∷ []) (inl (ap (key_at cs) e))
      the_listed k (inr (f, m, d)) = adds_right same_key exact_keys.one exact_keys.two (key_at cs k) (joined (map (ancestors cs) front)) (key_at cs own ∷ [])
          (mem_joined (ancestors cs) (key_at cs k) f front m ((ancestor_is f (key_at cs k)).1 d))

      the_marked : (k : ℕ) → k < length cs → Mem (key_at cs k) (key_at cs own ∷ []) ⊎ Mem (key_at cs k) (joined (map (ancestors cs) front)) → Marked marks k
      the_marked k w (inl (inl e)) = let same : own ≡ k = known.once own k lt w (sym e) in subst (λ (z : ℕ). Marked marks z) same is.itself
      the_marked k w (inl (inr z)) = absurd z
      the_marked k w (inr m) = let r = joined_mem (ancestors cs) (key_at cs k) front m in is.whole k r.0 w r.1 ((ancestor_is r.0 (key_at cs k)).0 r.2)

  -- marks that are set for one key more
  pub keys_more : (marks was : List Bool) (ks : List ClassKey) (i p q : ℕ) (k : ClassKey) → p < length marks → p < length cs → q < length cs → key_at cs p ≡ k → i < length ks → k ≡ slice_index_or ks i k
      → Marked marks q ↔ (Marked was q ⊎ Mem (key_at cs q) (take i ks)) → Marked (slice_set marks p true) q ↔ (Marked was q ⊎ Mem (key_at cs q) (take (i + 1) ks))
  keys_more marks was ks i p q k lm lp lq key lk is before =
      let set = marked_set marks p q lm in
      let more : take (i + 1) ks ≡ take i ks ++ k ∷ [] = next_take ks i k lk is in (
        (λ m. elim (set.0 m) [
          | inl n ↦ elim (before.0 n) [ inl o ↦ inl o | inr o ↦ inr (subst (λ z. Mem (key_at cs q) z) (sym more) (mem_left (key_at cs q) (take i ks) (k ∷ []) o)) ]
          | inr e ↦ inr (subst (λ z. Mem (key_at cs q) z) (sym more) (mem_right (key_at cs q) (take i ks) (k ∷ []) (inl (ap (key_at cs) e ∙ key))))
        ]),
        (λ m. set.1 (elim m [
          | inl o ↦ inl (before.1 (inl o))
          | inr o ↦ elim (mem_split (key_at cs q) (take i ks) (k ∷ []) (subst (λ z. Mem (key_at cs q) z) more o)) [
            | inl n ↦ inl (before.1 (inr n))
            | inr n ↦ elim n [ inl e ↦ inr (known.once q p lq lp (e ∙ sym key)) | inr z ↦ absurd z ]
          ]
        ])),
      )

  module _ (rows : List Row) (are : AreRows cs rows) where
    above_within : (x a : ℕ) → x < length cs → Above rows x a → a < length cs
    above_within x a lt itself = lt
    above_within x a lt (by_parent p m d) = above_within p a (number_key cs known rows are x p lt m).0 d

    -- the marks before a class stand for its first parents
    pub starts_before : (own : ℕ) (front : List ClassKey) (clear start : List Bool) → own < length cs → ((k : ClassKey) → Mem k front → Mem k (face_at cs own).parents) → ((k : ℕ) → Marked clear k → ⊥)
        → ((q : ℕ) → q < length cs → Marked start q ↔ (Marked clear q ⊎ Mem (key_at cs q) front)) → ((q : ℕ) → length cs ≤ q → Marked start q → Marked clear q)
        → (k : ℕ) → Marked start k → (k < own) × Mem (key_at cs k) front
    starts_before own front clear start lt parents none within past k m = elim (cases_lt k (length cs)) [
      | inl l ↦ elim ((within k l).0 m) [
        | inl n ↦ absurd (none k n)
        | inr n ↦ (let s = known.stand own (key_at cs k) lt (parents (key_at cs k) n) in
            let same : s.0 ≡ k = known.once s.0 k (omega (arith, s.1, lt)) l s.2 in
            (omega (arith, same, s.1), n))
      ]
      | inr ge ↦ absurd (none k (past k ge m))
    ]

    pub is_front : (own : ℕ) (front : List ClassKey) (clear start marks : List Bool) → own < length cs → own < length marks → ((k : ClassKey) → Mem k front → Mem k (face_at cs own).parents) → ((k : ℕ) → Marked clear k → ⊥)
        → ((q : ℕ) → q < length cs → Marked start q ↔ (Marked clear q ⊎ Mem (key_at cs q) front)) → ((q : ℕ) → length cs ≤ q → Marked start q → Marked clear q)
        → ((q : ℕ) → Marked marks q ↔ IsReached rows start q) → IsFront cs own front (slice_set marks own true)
    is_front own front clear start marks lt lm parents none within past reached =
        let set = λ (q : ℕ). marked_set marks own q lm in
        let begun = starts_before own front clear start lt parents none within past in
        record {
          within = λ q m. elim ((set q).0 m) [
            | inl n ↦ (let r = (reached q).0 n in let b = begun r.start r.marked in above_within r.start q (omega (arith, b.0, lt)) r.above)
            | inr e ↦ omega (arith, e, lt)
          ];
          sound = λ q m. elim ((set q).0 m) [
            | inl n ↦ (let r = (reached q).0 n in let b = begun r.start r.marked in inr (key_at cs r.start, b.1, above_keys cs known rows are r.start q (omega (arith, b.0, lt)) r.above))
            | inr e ↦ inl e
          ];
          itself = (set own).1 (inr refl);
          whole = λ q k lq m d.
              (let a = among_place cs k (parent_among cs known own k lt (parents k m)) in
              let r = keys_above cs known rows are k (key_at cs q) a.0 d a.1 a.2 in
              let same : r.0 ≡ q = known.once r.0 q r.1 lq r.2 in
              let up : Above rows a.0 q = subst (λ (z : ℕ). Above rows a.0 z) same r.3 in
              let here : Marked start a.0 = (within a.0 a.1).1 (inr (subst (λ z. Mem z front) (sym a.2) m)) in
              (set q).1 (inl ((reached q).1 (record { start = a.0; marked = here; above = up }))));
        }

-- K3 of a class whose parents keep their ancestors
module _ (olds news : List Class) (ko : IsKnown olds) (kn : IsKnown news) (c : Class) (own : ℕ) (lt : own < length olds) (is : class_of_place olds own ≡ c)
    (earlier : (p a : ClassKey) → Mem p c.decl.face.parents → Mem a (ancestors olds p) → Mem a (ancestors news p)) where
  key_is : key_at olds own ≡ c.key
  key_is = ap (λ (z : Class). z.key) is

  parents_are : (hierarchy olds).parents c.key ≡ c.decl.face.parents
  parents_are = ap (hierarchy olds).parents (sym key_is) ∙ ko.parents own lt ∙ ap (λ (z : Class). z.decl.face.parents) is

  new_is : (x a : ClassKey) → (is_a news x a ≡ true) ↔ Descends (hierarchy news) x a
  new_is x a = descends_test (hierarchy news) kn.tells kn.falls x a

  kept_above : (p a : ClassKey) → Mem p c.decl.face.parents → is_a news c.key p ≡ true → Mem a (ancestors olds p) → is_a news c.key a ≡ true
  kept_above p a m e in_old = (new_is c.key a).1 (descends_through (hierarchy news) c.key p a ((new_is c.key p).0 e) ((ancestor_is news kn p a).0 (earlier p a m in_old)))

  pub k3_none : lost_from news c.key 0 c.decl.face.parents ≡ None → first (k3 olds news c) ≡ None
  k3_none e = empty_map _ _ (fails_none (is_a news c.key) 0 (ancestors olds c.key) (λ a m. by a ((ancestor_is olds ko c.key a).0 m)))
    where
      by : (a : ClassKey) → Descends (hierarchy olds) c.key a → is_a news c.key a ≡ true
      by a itself = (new_is c.key c.key).1 itself
      by a (by_parent p m d) =
          let in_list = subst (λ z. Mem p z) parents_are m in
          kept_above p a in_list (none_lost news c.key p c.decl.face.parents 0 e in_list) ((ancestor_is olds ko p a).1 d)

  first_mapped : {A B : Type 0} (f : A → B) (xs : List A) (x : A) → first xs ≡ Some x → first (map f xs) ≡ Some (f x)
  first_mapped f [] x e = absurd (cc)
  first_mapped f (y ∷ ys) x e = let same : y ≡ x = cc in ap (λ z. Some (f z)) same

  k3_first : (n : ℕ) (d : ClassKey) → lost_from news c.key 0 c.decl.face.parents ≡ Some n
      → first (k3 olds news c) ≡ Some (incompatible 3 c (declared_name (slice_index_or c.decl.face.parents n d)) (length (adds same_key (c.key ∷ []) (joined (map (ancestors olds) (take n c.decl.face.parents))))))
  unfolding hierarchy
  k3_first n d e =
      let ks = c.decl.face.parents in
      let s = splits_at news c.key d ks n e in
      first_mapped (λ p. incompatible 3 c (declared_name p.0) p.1) _ _
      (lost_at (hierarchy olds) ko.tells ko.falls (is_a news c.key) c.key (slice_index_or ks n d) (take n ks) s.back (parents_are ∙ s.parts) ((new_is c.key c.key).1 itself) s.lost
      (λ a m. (let r = joined_mem (ancestors olds) a (take n ks) m in
      kept_above r.0 a (subst (λ (z : List ClassKey). Mem r.0 z) (sym s.parts) (mem_left r.0 (take n ks) _ r.1)) (s.front r.0 r.1) r.2)))

  same_told : (o o2 : Option (List ℕ)) (p p2 : ℕ) → o ≡ o2 → p ≡ p2 → incompatible 3 c o2 p2 ≡ incompatible 3 c o p
  same_told o o2 p p2 e g = ap (λ z. incompatible 3 c z p2) (sym e) ∙ ap (λ z. incompatible 3 c o z) (sym g)

  pub k3_some : (n : ℕ) (d : ClassKey) (o : Option (List ℕ)) (p : ℕ) → lost_from news c.key 0 c.decl.face.parents ≡ Some n → o ≡ declared_name (slice_index_or c.decl.face.parents n d)
      → p ≡ length (adds same_key (c.key ∷ []) (joined (map (ancestors olds) (take n c.decl.face.parents)))) → first (k3 olds news c) ≡ Some (incompatible 3 c o p)
  k3_some n d o p e name place = k3_first n d e ∙ ap (λ z. Some z) (same_told o (declared_name (slice_index_or c.decl.face.parents n d)) p (length (adds same_key (c.key ∷ []) (joined (map (ancestors olds) (take n c.decl.face.parents))))) name place)
