-- Positions of classes, one class further, and what they say at the keys.
use Rattle.std.proofs.Common.{◌≡◌, ℕ, zero, suc, ◌+◌, ◌<◌, ◌≤◌, ◌==◌, ◌⊎◌, inl, inr, Bool, true, false, if◌then◌else◌, List, [], ◌∷◌, ◌++◌, length, map, slice_get, slice_index_or, Some, refl, sym, ap, ◌∙◌, subst, arith, length-append}
use Rattle.std.proofs.lemmas.Bool.{cases_lt, cases_eq, eqb-true}
use Rattle.std.proofs.lemmas.List.{get_or_past}
use Rattle.std.proofs.Math.ListN.{get_or-append}
use Rattle.std.proofs.Math.Seq.{get_or-append_seam}
use Rattle.som_model.specs.declared.key.ClassKey.{ClassKey}
use Rattle.som_model.specs.Lists.{Mem, joined, some}
use Rattle.som_model.specs.Hierarchy.{Falls, Tells}
use Rattle.som_model.specs.Ancestors.{anc}
use Rattle.som_model.specs.Class.{Class}
use Rattle.som_model.specs.Classes.{ancestors, hierarchy, is_a}
use Rattle.som_model.specs.Kernel.{som_object}
use Rattle.som_model.specs.Metaclass.{rank}
use Rattle.som_model.proofs.NamedLaws.{hierarchy_same}
use Rattle.som_model_laws.proofs.Members.{map_on, not_true, some_mem}
use Rattle.som_model_laws.specs.Once.{adds}
use Rattle.som_model_laws.specs.Rows.{AreAncestors, AreLow, AreMarks, rows_of}
use Rattle.som_model_laws.proofs.Listed.{falls, known_low, next_list}
use Rattle.som_meta.specs.Numbering.{AreApart}
use Rattle.som_meta.proofs.Plans.{same_at}
use Rattle.som_class_ids.specs.declared.position.Kind.{Kind}
use Rattle.som_class_ids.specs.declared.position.Kind.TheVariants as kinds
use Rattle.som_class_ids.specs.declared.position.Position.{Position}
use Rattle.som_class_ids.specs.Positions.{AreMarked, IsNext, lists, rows}
use Rattle.som_class_ids.specs.Numbers.{ArePlaced, at}
use Rattle.som_class_ids.proofs.Moved.{Moves, anc_moved}

-- places of lists

pub at_left : (ks js : List ClassKey) (n : ℕ) → n < length ks → at (ks ++ js) n ≡ at ks n
at_left ks js n lt = get_or-append ks js som_object n lt

pub at_end : (ks : List ClassKey) (k : ClassKey) → at (ks ++ k ∷ []) (length ks) ≡ k
at_end ks k = get_or-append_seam ks k [] som_object

pub map_push : {A B : Type 0} (f : A → B) (xs : List A) (x : A) → map f (xs ++ x ∷ []) ≡ map f xs ++ f x ∷ []
map_push f [] x = refl
map_push f (y ∷ xs) x = ap (λ l. f y ∷ l) (map_push f xs x)

pub map_length : {A B : Type 0} (f : A → B) (xs : List A) → length (map f xs) ≡ length xs
map_length f [] = refl
map_length f (x ∷ xs) = let e = map_length f xs in omega (arith, e)

pub get_push : {A : Type 0} (xs : List A) (y x : A) (n : ℕ) → slice_get (xs ++ y ∷ []) n ≡ Some x → (slice_get xs n ≡ Some x) ⊎ ((n ≡ length xs) × (y ≡ x))
get_push [] y x zero e = inr (refl, cc)
get_push [] y x (suc n) e = absurd (cc)
get_push (z ∷ xs) y x zero e = inl e
get_push (z ∷ xs) y x (suc n) e = elim (get_push xs y x n e) [ inl is ↦ inl is | inr r ↦ inr (let s = r.0 in omega (arith, s), r.1) ]

pub row_get : (ps : List Position) (n : ℕ) (p : Position) → slice_get ps n ≡ Some p → slice_index_or (rows ps) n [] ≡ p.parents
row_get [] n p e = absurd (cc)
row_get (q ∷ ps) zero p e = let is : q ≡ p = cc in ap (λ (z : Position). z.parents) is
row_get (q ∷ ps) (suc n) p e = row_get ps n p e

pub list_get : (ps : List Position) (n : ℕ) (p : Position) → slice_get ps n ≡ Some p → slice_index_or (lists ps) n [] ≡ p.ancestors
list_get [] n p e = absurd (cc)
list_get (q ∷ ps) zero p e = let is : q ≡ p = cc in ap (λ (z : Position). z.ancestors) is
list_get (q ∷ ps) (suc n) p e = list_get ps n p e

rows_left : (ps : List Position) (p : Position) (n : ℕ) → n < length ps → slice_index_or (rows (ps ++ p ∷ [])) n [] ≡ slice_index_or (rows ps) n []
rows_left ps p n lt =
    let within : n < length (rows ps) = omega (arith, lt, map_length (λ (q : Position). q.parents) ps) in
    ap (λ l. slice_index_or l n []) (map_push (λ (q : Position). q.parents) ps p) ∙ get_or-append (rows ps) (p.parents ∷ []) [] n within

rows_end : (ps : List Position) (p : Position) → slice_index_or (rows (ps ++ p ∷ [])) (length ps) [] ≡ p.parents
rows_end ps p =
    ap (λ l. slice_index_or l (length ps) []) (map_push (λ (q : Position). q.parents) ps p)
    ∙ ap (λ n. slice_index_or (rows ps ++ p.parents ∷ []) n []) (sym (map_length (λ (q : Position). q.parents) ps)) ∙ get_or-append_seam (rows ps) p.parents [] []

rows_past : (ps : List Position) (n : ℕ) → length ps ≤ n → slice_index_or (rows ps) n [] ≡ []
rows_past [] n le = refl
rows_past (p ∷ ps) zero le = absurd (omega arith)
rows_past (p ∷ ps) (suc n) le = rows_past ps n (omega arith)

-- a parent's number is lower
low_more : (ps : List Position) (p : Position) → AreLow (rows ps) → ((q : ℕ) → Mem q p.parents → q < length ps) → AreLow (rows (ps ++ p ∷ []))
low_more ps p low lower i q m = elim (cases_lt i (length ps)) [
  | inl lt ↦ low i q (subst (λ l. Mem q l) (rows_left ps p i lt) m)
  | inr ge ↦ elim (cases_eq i (length ps)) [
    | inl e ↦ (let h = lower q (subst (λ l. Mem q l) (ap (λ j. slice_index_or (rows (ps ++ p ∷ [])) j []) e ∙ rows_end ps p) m) in omega (arith, h, e))
    | inr ne ↦ (let more : length (ps ++ p ∷ []) ≤ i = omega (arith, length-append ps (p ∷ []), ge, ne) in absurd (subst (λ l. Mem q l) (rows_past (ps ++ p ∷ []) i more) m))
  ]
]

-- more classes change no ancestors
same_rows : (ps : List Position) (p : Position) → AreLow (rows ps) → Moves (rows_of (rows ps)) (rows_of (rows (ps ++ p ∷ []))) (λ n. n < length ps) (λ n. n)
same_rows ps p low = record {
  closed = λ x q lt m. (let l = low x q m in omega (arith, lt, l));
  parents = λ x lt. rows_left ps p x lt ∙ sym (map_itself (slice_index_or (rows ps) x []));
  same = λ x y lx ly. refl;
}
  where
    map_itself : (xs : List ℕ) → map (λ n. n) xs ≡ xs
    map_itself [] = refl
    map_itself (x ∷ xs) = ap (λ l. x ∷ l) (map_itself xs)

ids : (xs : List ℕ) → map (λ n. n) xs ≡ xs
ids [] = refl
ids (x ∷ xs) = ap (λ l. x ∷ l) (ids xs)

module _ (cs : List Class) (falling : Falls (hierarchy cs)) (telling : Tells (hierarchy cs)) (ks : List ClassKey) (ps : List Position) (placed : ArePlaced cs ks ps) where
  -- the ancestors of a class have no higher numbers
  pub ancestors_low : (p a : ℕ) → Mem a (slice_index_or (lists ps) p []) → a ≤ p
  ancestors_low p a m = known_low (rows ps) (length ps) (lists ps) placed.low placed.ancestors p a m

  module _ (apart : AreApart (record { classes = cs; keys = ks })) where
    moves : Moves (rows_of (rows ps)) (hierarchy cs) (λ n. n < length ps) (at ks)
    moves = record {
      closed = λ x q lt m. (let l = placed.low x q m in omega (arith, lt, l));
      parents = λ x lt. sym (placed.parents x lt);
      same = λ x y lx ly. hierarchy_same cs (at ks x) (at ks y)
          ∙ sym (same_at (record { classes = cs; keys = ks }) apart x y (omega (arith, lx, placed.within)) (omega (arith, ly, placed.within)));
    }

    -- the list of a class's ancestors has their keys in the order of the definition
    pub ancestors_keyed : (n : ℕ) → n < length ps → map (at ks) (slice_index_or (lists ps) n []) ≡ ancestors cs (at ks n)
    ancestors_keyed n lt =
        ap (map (at ks)) (placed.ancestors.by n lt)
        ∙ sym (anc_moved (rows_of (rows ps)) (hierarchy cs) (λ n. n < length ps) (at ks) moves (falls (rows ps) placed.low) falling n lt)

    some_keyed : (a : ℕ) → a < length ps → (xs : List ℕ) → ((x : ℕ) → Mem x xs → x < length ps) → some (λ x. a == x) xs ≡ some ((hierarchy cs).same (at ks a)) (map (at ks) xs)
    some_keyed a lt [] all = refl
    some_keyed a lt (x ∷ xs) all =
        ap (λ (b : Bool). if b then true else some (λ x. a == x) xs) (sym (moves.same a x lt (all x (inl refl))))
        ∙ ap (λ (b : Bool). if (hierarchy cs).same (at ks a) (at ks x) then true else b) (some_keyed a lt xs (λ y m. all y (inr m)))

    -- whether a class is among another's ancestors by numbers
    pub descends_numbered : (n a : ℕ) → n < length ps → a < length ps → some (λ x. a == x) (slice_index_or (lists ps) n []) ≡ is_a cs (at ks n) (at ks a)
    descends_numbered n a ln la =
        some_keyed a la (slice_index_or (lists ps) n []) (λ x m. (let l = ancestors_low n x m in omega (arith, l, ln)))
        ∙ ap (some ((hierarchy cs).same (at ks a))) (ancestors_keyed n ln)

  -- positions so far, and one more
  pub placed_next : (kind : Kind) (parents : List ℕ) (r : ℕ) (p : Position) → length ps < length ks → ((q : ℕ) → Mem q parents → q < length ps)
      → map (at ks) parents ≡ (hierarchy cs).parents (at ks (length ps)) → r ≡ rank cs (at ks (length ps)) → IsNext ps kind parents r p → ArePlaced cs ks (ps ++ p ∷ [])
  placed_next kind parents r p room lower keyed ranked next =
      let lower_is : (q : ℕ) → Mem q p.parents → q < length ps = λ q m. lower q (subst (λ l. Mem q l) next.parents_are m) in
      let low = low_more ps p placed.low lower_is in
      let long = length-append ps (p ∷ []) in
      let kept : AreAncestors (rows (ps ++ p ∷ [])) (length ps) (lists ps) = record {
        long = map_length (λ (q : Position). q.ancestors) ps;
        by = λ i lt. placed.ancestors.by i lt ∙ sym (anc_moved (rows_of (rows ps)) (rows_of (rows (ps ++ p ∷ []))) (λ n. n < length ps) (λ n. n) (same_rows ps p placed.low) (falls (rows ps) placed.low) (falls (rows (ps ++ p ∷ [])) low) i lt ∙ ids (anc (rows_of (rows ps)) i));
      } in
      let sum : length ps + 1 ≡ length (ps ++ p ∷ []) = omega (arith, long) in
      record {
        within = omega (arith, long, room);
        low = low;
        parents = λ n lt. elim (cases_lt n (length ps)) [
          | inl less ↦ ap (map (at ks)) (rows_left ps p n less) ∙ placed.parents n less
          | inr ge ↦ (let e : n ≡ length ps = omega (arith, lt, ge, long) in
              ap (λ i. map (at ks) (slice_index_or (rows (ps ++ p ∷ [])) i [])) e ∙ ap (map (at ks)) (rows_end ps p ∙ next.parents_are) ∙ keyed ∙ ap (λ i. (hierarchy cs).parents (at ks i)) (sym e))
        ];
        ancestors = subst (λ n. AreAncestors (rows (ps ++ p ∷ [])) n (lists (ps ++ p ∷ []))) sum
            (subst (λ l. AreAncestors (rows (ps ++ p ∷ [])) (length ps + 1) l) (sym (map_push (λ (q : Position). q.ancestors) ps p))
            (next_list (rows (ps ++ p ∷ [])) (length ps) (lists ps) p.parents p.ancestors low kept (sym (rows_end ps p))
            (next.ancestors ∙ ap (λ l. adds ◌==◌ [] (length ps ∷ joined (map (λ q. slice_index_or (lists ps) q []) l))) (sym next.parents_are))));
        marks = λ n q e d. elim (get_push ps p q n e) [
          | inl old ↦ placed.marks n q old d
          | inr new ↦ (let s = new.0 in let own : kind ≡ kinds.Declared = sym next.kind_is ∙ ap (λ (z : Position). z.kind) new.1 ∙ d in (
            subst (λ (z : Position). AreMarks z.marks z.ancestors) new.1 (next.marks own),
            ap (λ (z : Position). length z.marks) (sym new.1) ∙ next.long own ∙ ap (λ i. i + 1) (sym s),
          ))
        ];
        ranks = λ n q e. elim (get_push ps p q n e) [
          | inl old ↦ placed.ranks n q old
          | inr new ↦ ap (λ (z : Position). z.rank) (sym new.1) ∙ next.rank_is ∙ ranked ∙ ap (λ i. rank cs (at ks i)) (sym new.0)
        ];
      }

  map_left : (js : List ClassKey) (ns : List ℕ) → ((n : ℕ) → Mem n ns → n < length ks) → map (at (ks ++ js)) ns ≡ map (at ks) ns
  map_left js ns all = map_on (at (ks ++ js)) (at ks) ns (λ n m. at_left ks js n (all n m))

  -- more keys change nothing
  pub placed_with : (js : List ClassKey) → ArePlaced cs (ks ++ js) ps
  placed_with js = record {
    within = (let long = length-append ks js in omega (arith, long, placed.within));
    low = placed.low;
    parents = λ n lt. map_left js (slice_index_or (rows ps) n []) (λ q m. (let l = placed.low n q m in omega (arith, lt, l, placed.within)))
        ∙ placed.parents n lt ∙ ap (hierarchy cs).parents (sym (at_left ks js n (omega (arith, lt, placed.within))));
    ancestors = placed.ancestors;
    marks = placed.marks;
    ranks = λ n p e. placed.ranks n p e ∙ ap (rank cs) (sym (at_left ks js n (let w = get_within ps n p e in omega (arith, w, placed.within))));
  }
    where
      get_within : (xs : List Position) (i : ℕ) (x : Position) → slice_get xs i ≡ Some x → i < length xs
      get_within [] i x e = absurd (cc)
      get_within (y ∷ xs) zero x e = omega arith
      get_within (y ∷ xs) (suc i) x e = let l = get_within xs i x e in omega (arith, l)

-- no class has a position yet
pub none_placed : (cs : List Class) (ks : List ClassKey) → ArePlaced cs ks []
none_placed cs ks = record {
  within = omega arith;
  low = λ i p m. absurd m;
  parents = λ n lt. absurd (omega (arith, lt));
  ancestors = record { long = refl; by = λ i lt. absurd (omega (arith, lt)) };
  marks = λ n p e d. absurd (cc);
  ranks = λ n p e. absurd (cc);
}

-- a mark tells whether a class is an ancestor of a declared one, and what has no mark is none
pub marked_at : (ps : List Position) (n : ℕ) (p : Position) → slice_get ps n ≡ Some p → p.kind ≡ kinds.Declared → AreMarked ps → (a : ℕ) → slice_index_or p.marks a false ≡ some (λ x. a == x) (slice_index_or (lists ps) n [])
marked_at ps n p is own marked a =
    let m = marked.marks n p is own in
    elim (cases_lt a (length p.marks)) [
      | inl lt ↦ m.0.by a lt ∙ ap (some (λ x. a == x)) (sym (list_get ps n p is))
      | inr ge ↦ get_or_past p.marks a false ge ∙ sym (not_true (some (λ x. a == x) (slice_index_or (lists ps) n [])) (λ t.
          let r = some_mem (λ x. a == x) (slice_index_or (lists ps) n []) t in
          let low = marked.low n r.0 r.1 in
          let same : a ≡ r.0 = eqb-true a r.0 r.2 in
          let long = m.1 in
          omega (arith, low, same, long, ge)))
    ]
