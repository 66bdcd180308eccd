-- One class more that is made of others.
use Rattle.std.proofs.Common.{◌≡◌, ◌≢◌, ℕ, zero, suc, ◌<◌, ◌≤◌, inl, inr, List, [], ◌∷◌, ◌++◌, length, map, drop, slice_get, slice_index_or, Some, refl, sym, ap, ◌∙◌, subst, arith, length-append, max}
use Rattle.std.proofs.lemmas.Bool.{cases_lt}
use Rattle.som_model.specs.declared.key.ClassKey.{ClassKey, out-ClassKey, out-roll-ClassKey, fold-roll-ClassKey}
use Rattle.som_model.specs.declared.key.ClassKey.TheOpen.{ClassKey-F}
use Rattle.som_model.specs.declared.key.ClassKey.TheVariants as keys
use Rattle.som_model.specs.declared.key.ClassKey.TheVariants.{rolls-Derived, rolls-Proxy}
use Rattle.som_model.specs.Lists.{Mem}
use Rattle.som_model.specs.Class.{Class}
use Rattle.som_model.specs.Classes.{greatest, hierarchy}
use Rattle.som_model.specs.Kernel.{kernel}
use Rattle.som_model.specs.Loads.{keys_of}
use Rattle.som_model.specs.Metaclass.{rank, rank_step}
use Rattle.som_model.proofs.NamedLaws.{out_named}
use Rattle.som_model_laws.proofs.Members.{map_on}
use Rattle.som_model_laws.proofs.Lists.{get_mem}
use Rattle.som_model_laws.proofs.Standing as standing
use Rattle.som_class_ids.specs.declared.position.Kind.{Kind}
use Rattle.som_class_ids.specs.declared.position.Kind.TheVariants as kinds
use Rattle.som_class_ids.specs.declared.position.Position.{Position}
use Rattle.som_class_ids.specs.Classes.{AreDeclared}
use Rattle.som_class_ids.specs.Positions.{IsMade, IsNext, rank_list}
use Rattle.som_class_ids.specs.Numbers.{ArePlaced, IsNumbers, at, first_key, keys_by, keys_with, made_key, position_key}
use Rattle.som_class_ids.proofs.Declaring.{falls, key_is, keys_length, tells}
use Rattle.som_class_ids.proofs.Placing.{at_end, at_left, get_push, map_length, placed_next, placed_with, row_get}
use Rattle.som_class_ids.proofs.Numbered.{get_within, rank_get}

-- what a made key is made of

pub out_derived : (ks : List ClassKey) → out-ClassKey (keys.Derived ks) ≡ ClassKey-F.Derived ks
out_derived ks = ap out-ClassKey (sym (rolls-Derived ks)) ∙ out-roll-ClassKey (ClassKey-F.Derived ks)

pub out_proxy : (k : ClassKey) → out-ClassKey (keys.Proxy k) ≡ ClassKey-F.Proxy k
out_proxy k = ap out-ClassKey (sym (rolls-Proxy k)) ∙ out-roll-ClassKey (ClassKey-F.Proxy k)

pub one_list : (xs : List ClassKey) → length xs ≡ 1 → xs ≡ first_key xs ∷ []
one_list [] e = absurd (omega (arith, e))
one_list (x ∷ []) e = refl
one_list (x ∷ y ∷ xs) e = absurd (omega (arith, e))

-- two made keys are equal only where their kinds and their parents are
made_one : (k j : Kind) (xs ys : List ClassKey) → k ≢ kinds.Declared → j ≢ kinds.Declared → (k ≡ kinds.Proxy → length xs ≡ 1) → (j ≡ kinds.Proxy → length ys ≡ 1) → made_key k xs ≡ made_key j ys → (k ≡ j) × (xs ≡ ys)
made_one kinds.Declared j xs ys a b f g e = absurd (a refl)
made_one k kinds.Declared xs ys a b f g e = absurd (b refl)
made_one kinds.Derived kinds.Derived xs ys a b f g e =
    let out : ClassKey-F.Derived xs ≡ ClassKey-F.Derived ys = sym (out_derived xs) ∙ ap out-ClassKey e ∙ out_derived ys in (refl, cc)
made_one kinds.Derived kinds.Proxy xs ys a b f g e =
    let out : ClassKey-F.Derived xs ≡ ClassKey-F.Proxy (first_key ys) = sym (out_derived xs) ∙ ap out-ClassKey e ∙ out_proxy (first_key ys) in cc
made_one kinds.Proxy kinds.Derived xs ys a b f g e =
    let out : ClassKey-F.Proxy (first_key xs) ≡ ClassKey-F.Derived ys = sym (out_proxy (first_key xs)) ∙ ap out-ClassKey e ∙ out_derived ys in cc
made_one kinds.Proxy kinds.Proxy xs ys a b f g e =
    let out : ClassKey-F.Proxy (first_key xs) ≡ ClassKey-F.Proxy (first_key ys) = sym (out_proxy (first_key xs)) ∙ ap out-ClassKey e ∙ out_proxy (first_key ys) in
    let same : first_key xs ≡ first_key ys = cc in
    (refl, one_list xs (f refl) ∙ ap (λ z. z ∷ []) same ∙ sym (one_list ys (g refl)))

-- no declared class has a made key
pub not_named : (k : Kind) (xs : List ClassKey) → k ≢ kinds.Declared → (m : _) (n : List ℕ) → made_key k xs ≡ keys.Named m n → ⊥
not_named kinds.Declared xs a m n e = a refl
not_named kinds.Derived xs a m n e = let out : ClassKey-F.Derived xs ≡ ClassKey-F.Named m n = sym (out_derived xs) ∙ ap out-ClassKey e ∙ out_named m n in cc
not_named kinds.Proxy xs a m n e = let out : ClassKey-F.Proxy (first_key xs) ≡ ClassKey-F.Named m n = sym (out_proxy (first_key xs)) ∙ ap out-ClassKey e ∙ out_named m n in cc

-- lists

drop_push : (n : ℕ) (xs : List Position) (x : Position) → n ≤ length xs → drop n (xs ++ x ∷ []) ≡ drop n xs ++ x ∷ []
drop_push zero xs x le = refl
drop_push (suc n) [] x le = absurd (omega (arith, le))
drop_push (suc n) (y ∷ xs) x le = drop_push n xs x (omega (arith, le))

keys_push : (ks : List ClassKey) (ps : List Position) (p : Position) → keys_with ks (ps ++ p ∷ []) ≡ keys_with ks ps ++ position_key (keys_with ks ps) p ∷ []
keys_push ks [] p = refl
keys_push ks (q ∷ ps) p = keys_push (ks ++ position_key ks q ∷ []) ps p

pub keys_first : (ks : List ClassKey) (ps : List Position) (n : ℕ) → n < length ks → at (keys_with ks ps) n ≡ at ks n
keys_first ks [] n lt = refl
keys_first ks (p ∷ ps) n lt =
    let more : n < length (ks ++ position_key ks p ∷ []) = omega (arith, lt, length-append ks (position_key ks p ∷ [])) in
    keys_first (ks ++ position_key ks p ∷ []) ps n more ∙ at_left ks (position_key ks p ∷ []) n lt

same_numbers : (ks : List ClassKey) → ((m n : ℕ) → m < length ks → n < length ks → at ks m ≡ at ks n → m ≡ n) → (ms ns : List ℕ)
    → ((n : ℕ) → Mem n ms → n < length ks) → ((n : ℕ) → Mem n ns → n < length ks) → map (at ks) ms ≡ map (at ks) ns → ms ≡ ns
same_numbers ks apart [] [] a b e = refl
same_numbers ks apart [] (n ∷ ns) a b e = absurd (cc)
same_numbers ks apart (m ∷ ms) [] a b e = absurd (cc)
same_numbers ks apart (m ∷ ms) (n ∷ ns) a b e =
    let head : at ks m ≡ at ks n = cc in
    let tail : map (at ks) ms ≡ map (at ks) ns = cc in
    ap (λ z. z ∷ ms) (apart m n (a m (inl refl)) (b n (inl refl)) head) ∙ ap (λ l. n ∷ l) (same_numbers ks apart ms ns (λ x k. a x (inr k)) (λ x k. b x (inr k)) tail)

pub some_position : (xs : List Position) (i : ℕ) → i < length xs → (c : Position) × (slice_get xs i ≡ Some c)
some_position [] i l = absurd (omega (arith, l))
some_position (x ∷ xs) zero l = (x, refl)
some_position (x ∷ xs) (suc i) l = some_position xs i (omega (arith, l))

max_none : (a : ℕ) → max a 0 ≡ a
max_none a = omega arith

module _ (cs : List Class) (ps : List Position) (ok : IsNumbers cs ps) where
  abbrev ks : List ClassKey
  ks = keys_by cs ps

  -- a declared class has a name
  pub named_at : (n : ℕ) → n < length cs → (m : _) × (x : List ℕ) × (at ks n ≡ keys.Named m x)
  named_at n lt =
      let w : n < length (keys_of cs) = omega (arith, lt, keys_length cs) in
      let r = named cs ok.declared n lt in
      (r.0, r.1, keys_first (keys_of cs) (drop (length cs) ps) n w ∙ r.2)
    where
      some_class : (xs : List Class) (i : ℕ) → i < length xs → (c : Class) × (slice_get xs i ≡ Some c)
      some_class [] i l = absurd (omega (arith, l))
      some_class (x ∷ xs) zero l = (x, refl)
      some_class (x ∷ xs) (suc i) l = some_class xs i (omega (arith, l))

      named : (xs : List Class) → AreDeclared xs → (i : ℕ) → i < length xs → (m : _) × (x : List ℕ) × (at (keys_of xs) i ≡ keys.Named m x)
      named xs d i l =
          let c = some_class xs i l in
          let r = standing.keyed d.others d.ordered c.0 (subst (λ z. Mem c.0 z) d.is (get_mem xs i c.0 c.1)) in
          (r.0, r.1, key_is xs i c.0 c.1 ∙ r.2)

  -- the class of the proxies of a class has that one parent
  pub one_parent : (n : ℕ) (p : Position) → length cs ≤ n → slice_get ps n ≡ Some p → p.kind ≡ kinds.Proxy → length (map (at ks) p.parents) ≡ 1
  one_parent n p le is proxy =
      let key : at ks n ≡ keys.Proxy (first_key (map (at ks) p.parents)) = (ok.made n p le is).1 ∙ ap (λ k. made_key k (map (at ks) p.parents)) proxy in
      let parents : map (at ks) p.parents ≡ first_key (map (at ks) p.parents) ∷ [] =
      ap (map (at ks)) (sym (row_get ps n p is)) ∙ ok.placed.parents n (get_within ps n p is)
      ∙ standing_parents cs ok.declared (at ks n) (first_key (map (at ks) p.parents)) (ap out-ClassKey key ∙ out_proxy (first_key (map (at ks) p.parents))) in
      ap length parents
    where
      standing_parents : (xs : List Class) → AreDeclared xs → (x of : ClassKey) → out-ClassKey x ≡ ClassKey-F.Proxy of → (hierarchy xs).parents x ≡ of ∷ []
      standing_parents xs d = subst (λ (z : List Class). (x of : ClassKey) → out-ClassKey x ≡ ClassKey-F.Proxy of → (hierarchy z).parents x ≡ of ∷ []) (sym d.is) (standing.parents_proxy d.others d.ordered)

  module _ (kind : Kind) (parents : List ℕ) (made : kind ≢ kinds.Declared) (one : kind ≡ kinds.Proxy → length parents ≡ 1) (within : (n : ℕ) → Mem n parents → n < length ks) where
    abbrev pub key : ClassKey
    key = made_key kind (map (at ks) parents)

    one_key : kind ≡ kinds.Proxy → length (map (at ks) parents) ≡ 1
    one_key proxy = map_length (at ks) parents ∙ one proxy

    -- where no class is made so, no number has that key
    pub fresh : ((n : ℕ) → length cs ≤ n → IsMade ps kind parents n → ⊥) → (n : ℕ) → n < length ks → at ks n ≡ key → ⊥
    fresh none n lt e = elim (cases_lt n (length cs)) [
      | inl low ↦ (let r = named_at n low in not_named kind (map (at ks) parents) made r.0 r.1 (sym e ∙ r.2))
      | inr ge ↦ (
          let r = some_position ps n (omega (arith, lt, ok.each)) in
          let m = ok.made n r.0 ge r.1 in
          let same = made_one kind r.0.kind (map (at ks) parents) (map (at ks) r.0.parents) made m.0 one_key (one_parent n r.0 ge r.1) (sym e ∙ m.1) in
          none n ge (record {
            position = r.0;
            there = r.1;
            kind_is = sym same.0;
            parents_are = sym (same_numbers ks ok.apart parents r.0.parents within (λ q k. (let l = ok.placed.low n q (subst (λ l. Mem q l) (sym (row_get ps n r.0 r.1)) k) in omega (arith, l, lt))) same.1);
          }))
    ]

    made_parents : (k : Kind) (xs : List ClassKey) → k ≢ kinds.Declared → (k ≡ kinds.Proxy → length xs ≡ 1) → (hierarchy cs).parents (made_key k xs) ≡ xs
    made_parents k xs a f = subst (λ (z : List Class). (hierarchy z).parents (made_key k xs) ≡ xs) (sym ok.declared.is) (by k xs a f)
      where
        by : (k : Kind) (xs : List ClassKey) → k ≢ kinds.Declared → (k ≡ kinds.Proxy → length xs ≡ 1) → (hierarchy (kernel ++ ok.declared.others)).parents (made_key k xs) ≡ xs
        by kinds.Declared xs a f = absurd (a refl)
        by kinds.Derived xs a f = standing.parents_derived ok.declared.others ok.declared.ordered (keys.Derived xs) xs (out_derived xs)
        by kinds.Proxy xs a f = standing.parents_proxy ok.declared.others ok.declared.ordered (keys.Proxy (first_key xs)) (first_key xs) (out_proxy (first_key xs)) ∙ sym (one_list xs (f refl))

    made_rank : (k : Kind) (xs : List ClassKey) → k ≢ kinds.Declared → (k ≡ kinds.Proxy → length xs ≡ 1) → rank cs (made_key k xs) ≡ greatest (map (rank cs) xs)
    made_rank kinds.Declared xs a f = absurd (a refl)
    made_rank kinds.Derived xs a f = ap (rank cs) (sym (rolls-Derived xs)) ∙ fold-roll-ClassKey ℕ (rank_step cs) (ClassKey-F.Derived xs)
    made_rank kinds.Proxy xs a f =
        ap (rank cs) (sym (rolls-Proxy (first_key xs))) ∙ fold-roll-ClassKey ℕ (rank_step cs) (ClassKey-F.Proxy (first_key xs))
        ∙ sym (max_none (rank cs (first_key xs))) ∙ ap (λ l. greatest (map (rank cs) l)) (sym (one_list xs (f refl)))

    ranks_keyed : (ns : List ℕ) → ((n : ℕ) → Mem n ns → n < length ks) → map (λ n. slice_index_or (rank_list ps) n 0) ns ≡ map (rank cs) (map (at ks) ns)
    ranks_keyed [] all = refl
    ranks_keyed (n ∷ ns) all =
        let lt = all n (inl refl) in
        let r = some_position ps n (omega (arith, lt, ok.each)) in
        ap (λ z. z ∷ map (λ n. slice_index_or (rank_list ps) n 0) ns) (rank_get ps n r.0 r.1 ∙ ok.placed.ranks n r.0 r.1) ∙ ap (λ l. rank cs (at ks n) ∷ l) (ranks_keyed ns (λ x m. all x (inr m)))

    -- and with it numbers stand for what they stood for, and the next one for the new class
    pub added : ((n : ℕ) → length cs ≤ n → IsMade ps kind parents n → ⊥) → length ps < 4294967295 → (p : Position)
        → IsNext ps kind parents (greatest (map (λ n. slice_index_or (rank_list ps) n 0) parents)) p → IsNumbers cs (ps ++ p ∷ []) × (keys_by cs (ps ++ p ∷ []) ≡ ks ++ key ∷ [])
    added none few p next =
        let is_key : position_key ks p ≡ key = ap (λ k. made_key k (map (at ks) p.parents)) next.kind_is ∙ ap (λ l. made_key kind (map (at ks) l)) next.parents_are in
        let all_keys : keys_by cs (ps ++ p ∷ []) ≡ ks ++ key ∷ [] = ap (keys_with (keys_of cs)) (drop_push (length cs) ps p ok.first) ∙ keys_push (keys_of cs) (drop (length cs) ps) p ∙ ap (λ k. ks ++ k ∷ []) is_key in
        let long_keys = length-append ks (key ∷ []) in
        let long = length-append ps (p ∷ []) in
        let end : at (ks ++ key ∷ []) (length ps) ≡ key = ap (at (ks ++ key ∷ [])) ok.each ∙ at_end ks key in
        let room : length ps < length (ks ++ key ∷ []) = omega (arith, long_keys, ok.each) in
        let parents_so : map (at (ks ++ key ∷ [])) parents ≡ (hierarchy cs).parents (at (ks ++ key ∷ []) (length ps)) =
        map_on (at (ks ++ key ∷ [])) (at ks) parents (λ n m. at_left ks (key ∷ []) n (within n m))
        ∙ sym (made_parents kind (map (at ks) parents) made one_key) ∙ ap (hierarchy cs).parents (sym end) in
        let rank_so : greatest (map (λ n. slice_index_or (rank_list ps) n 0) parents) ≡ rank cs (at (ks ++ key ∷ []) (length ps)) =
        ap greatest (ranks_keyed parents within) ∙ sym (made_rank kind (map (at ks) parents) made one_key) ∙ ap (rank cs) (sym end) in
        let more = placed_with cs (falls cs ok.declared) (tells cs ok.declared) ks ps ok.placed (key ∷ []) in
        let placed = placed_next cs (falls cs ok.declared) (tells cs ok.declared) (ks ++ key ∷ []) ps more kind parents (greatest (map (λ n. slice_index_or (rank_list ps) n 0) parents)) p room
        (λ q m. (let w = within q m in omega (arith, w, ok.each))) parents_so rank_so next in (
          record {
            declared = ok.declared;
            few = omega (arith, long, few);
            first = omega (arith, long, ok.first);
            each = (let e = ap length all_keys in omega (arith, long, long_keys, ok.each, e));
            placed = subst (λ l. ArePlaced cs l (ps ++ p ∷ [])) (sym all_keys) placed;
            apart = subst (λ l. (m n : ℕ) → m < length l → n < length l → at l m ≡ at l n → m ≡ n) (sym all_keys) (apart_more (fresh none));
            made = λ n q le e. elim (get_push ps p q n e) [
              | inl old ↦ (
                  let m = ok.made n q le old in
                  let w = get_within ps n q old in
                  (m.0, ap (λ l. at l n) all_keys ∙ at_left ks (key ∷ []) n (omega (arith, w, ok.each)) ∙ m.1 ∙ ap (λ l. made_key q.kind l) (kept_parents n q old) ∙ ap (λ l. position_key l q) (sym all_keys)))
              | inr new ↦ (
                subst (λ (z : Position). z.kind ≢ kinds.Declared) new.1 (λ e. made (sym next.kind_is ∙ e)),
                ap (λ l. at l n) all_keys ∙ ap (at (ks ++ key ∷ [])) new.0 ∙ end
                    ∙ sym (ap (λ l. position_key l q) all_keys ∙ ap (position_key (ks ++ key ∷ [])) (sym new.1) ∙ new_key p next),
              )
            ];
          },
          all_keys,
        )
      where
        apart_more : ((n : ℕ) → n < length ks → at ks n ≡ key → ⊥) → (m n : ℕ) → m < length (ks ++ key ∷ []) → n < length (ks ++ key ∷ []) → at (ks ++ key ∷ []) m ≡ at (ks ++ key ∷ []) n → m ≡ n
        apart_more new m n lm ln e =
            let long = length-append ks (key ∷ []) in
            elim (cases_lt m (length ks)) [
              | inl a ↦ elim (cases_lt n (length ks)) [
                | inl b ↦ ok.apart m n a b (sym (at_left ks (key ∷ []) m a) ∙ e ∙ at_left ks (key ∷ []) n b)
                | inr b ↦ (let is : n ≡ length ks = omega (arith, long, ln, b) in absurd (new m a (sym (at_left ks (key ∷ []) m a) ∙ e ∙ ap (at (ks ++ key ∷ [])) is ∙ at_end ks key)))
              ]
              | inr a ↦ (let is : m ≡ length ks = omega (arith, long, lm, a) in elim (cases_lt n (length ks)) [
                | inl b ↦ absurd (new n b (sym (at_left ks (key ∷ []) n b) ∙ sym e ∙ ap (at (ks ++ key ∷ [])) is ∙ at_end ks key))
                | inr b ↦ omega (arith, long, ln, b, is)
              ])
            ]

        kept_parents : (n : ℕ) (q : Position) → slice_get ps n ≡ Some q → map (at ks) q.parents ≡ map (at (ks ++ key ∷ [])) q.parents
        kept_parents n q is = sym (map_on (at (ks ++ key ∷ [])) (at ks) q.parents (λ x m. at_left ks (key ∷ []) x
            (let l = ok.placed.low n x (subst (λ l. Mem x l) (sym (row_get ps n q is)) m) in let w = get_within ps n q is in omega (arith, l, w, ok.each))))

        new_key : (q : Position) → IsNext ps kind parents (greatest (map (λ n. slice_index_or (rank_list ps) n 0) parents)) q → position_key (ks ++ key ∷ []) q ≡ key
        new_key q next =
            ap (λ k. made_key k (map (at (ks ++ key ∷ [])) q.parents)) next.kind_is ∙ ap (λ l. made_key kind (map (at (ks ++ key ∷ [])) l)) next.parents_are
            ∙ ap (made_key kind) (map_on (at (ks ++ key ∷ [])) (at ks) parents (λ n m. at_left ks (key ∷ []) n (within n m)))
