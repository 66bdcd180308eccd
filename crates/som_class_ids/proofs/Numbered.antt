-- What the numbers of classes keep, and the positions of the declared ones.
use Rattle.std.proofs.Common.{◌≡◌, ℕ, zero, suc, ◌+◌, ◌<◌, ◌≤◌, ◌==◌, inl, inr, List, [], ◌∷◌, ◌++◌, length, map, drop, take, get_or, max, slice_get, Some, refl, sym, ap, ◌∙◌, subst, arith, length-append, slice_index_or}
use Rattle.std.proofs.lemmas.List.{take_more}
use Rattle.som_model.specs.declared.key.ClassKey.{ClassKey}
use Rattle.som_model.specs.Lists.{Mem, some}
use Rattle.som_model.specs.Class.{Class}
use Rattle.som_model.specs.Classes.{ancestors, greatest, hierarchy, is_a}
use Rattle.som_model.specs.Loads.{keys_of}
use Rattle.som_model.specs.Metaclass.{rank}
use Rattle.som_model_laws.proofs.Members.{mem_split}
use Rattle.som_model_laws.proofs.Lists.{mem_map}
use Rattle.som_meta.specs.Numbering.{AreNumbered, IsNumbered, Numbering, key_at}
use Rattle.som_class_ids.specs.declared.keyed.Keyed.{Keyed}
use Rattle.som_class_ids.specs.declared.position.Kind.TheVariants as kinds
use Rattle.som_class_ids.specs.declared.position.Position.{Position}
use Rattle.som_class_ids.specs.Classes.{AreDeclared, class_of, classes_of}
use Rattle.som_class_ids.specs.Positions.{AreMarked, IsNext, lists, rank_list}
use Rattle.som_class_ids.specs.Numbers.{AreFirst, ArePlaced, IsNumbers, at, keys_by, keys_with, position_key}
use Rattle.som_class_ids.proofs.Items.{get_mem}
use Rattle.som_class_ids.proofs.Declaring.{class_get, classes_length, falls, key_is, keyed, keys_length, numbers_apart, parent_lower, ranked, tells}
use Rattle.som_class_ids.proofs.Placing.{ancestors_keyed, ancestors_low, at_left, descends_numbered, list_get, map_push, placed_next, row_get}

-- one more number

pub numbers_within : (ns : List ℕ) (m bound : ℕ) → ((n : ℕ) → Mem n ns → n < bound) → m < bound → (n : ℕ) → Mem n (ns ++ m ∷ []) → n < bound
numbers_within ns m bound all lt n k = elim (mem_split n ns (m ∷ []) k) [
  | inl old ↦ all n old
  | inr new ↦ elim new [ inl is ↦ subst (λ i. i < bound) (sym is) lt | inr z ↦ absurd z ]
]

pub numbers_keyed : (f : ℕ → ClassKey) (ns : List ℕ) (m : ℕ) (ks : List ClassKey) (i : ℕ) (k : ClassKey) → i < length ks → k ≡ get_or ks i k → map f ns ≡ take i ks → f m ≡ k → map f (ns ++ m ∷ []) ≡ take (i + 1) ks
numbers_keyed f ns m ks i k lt is so e = map_push f ns m ∙ ap (λ l. l ++ f m ∷ []) so ∙ ap (λ z. take i ks ++ z ∷ []) (e ∙ is) ∙ sym (take_more ks i k lt)

-- the next declared class
module _ (kl : List Keyed) (declared : AreDeclared (classes_of kl)) (n : ℕ) (k : Keyed) (is : slice_get kl n ≡ Some k) (ps : List Position)
    (placed : ArePlaced (classes_of kl) (keys_of (classes_of kl)) ps) (each : length ps ≡ n) (ns : List ℕ) (within : (q : ℕ) → Mem q ns → q < length kl) (so : map (at (keys_of (classes_of kl))) ns ≡ k.decl.face.parents) where
  abbrev cs : List Class
  cs = classes_of kl

  pub next_lower : (q : ℕ) → Mem q ns → q < length ps
  next_lower q m =
      let lt : q < length cs = (let w = within q m in omega (arith, w, classes_length kl)) in
      let l = parent_lower cs declared n (class_of k) (class_get kl n k is) q lt (subst (λ l. Mem (at (keys_of cs) q) l) so (mem_map (at (keys_of cs)) q ns m)) in
      omega (arith, l, each)

  pub next_placed : (p : Position) → n < length kl → IsNext ps kinds.Declared ns n p → ArePlaced cs (keys_of cs) (ps ++ p ∷ [])
  next_placed p lt next =
      let room : length ps < length (keys_of cs) = omega (arith, each, lt, keys_length cs, classes_length kl) in
      placed_next cs (falls cs declared) (tells cs declared) (keys_of cs) ps placed kinds.Declared ns n p room next_lower
      (so ∙ sym (keyed cs declared n (class_of k) (class_get kl n k is)) ∙ ap (λ i. (hierarchy cs).parents (at (keys_of cs) i)) (sym each))
      (sym (ranked cs declared n (class_of k) (class_get kl n k is)) ∙ ap (λ i. rank cs (at (keys_of cs) i)) (sym each)) next

-- ranks

pub rank_get : (ps : List Position) (n : ℕ) (p : Position) → slice_get ps n ≡ Some p → slice_index_or (rank_list ps) n 0 ≡ p.rank
rank_get [] n p e = absurd (cc)
rank_get (q ∷ ps) zero p e = let same : q ≡ p = cc in ap (λ (z : Position). z.rank) same
rank_get (q ∷ ps) (suc n) p e = rank_get ps n p e

max_joined : (a b c : ℕ) → max (max a b) c ≡ max a (max b c)
max_joined a b c = omega arith

max_none : (a : ℕ) → max a 0 ≡ a
max_none a = omega arith

pub greatest_more : (f : ℕ → ℕ) (ns : List ℕ) (i n r whole : ℕ) → i < length ns → n ≡ get_or ns i n → max r (greatest (map f (drop i ns))) ≡ whole → max (max r (f n)) (greatest (map f (drop (i + 1) ns))) ≡ whole
greatest_more f [] i n r whole lt is e = absurd (omega (arith, lt))
greatest_more f (m ∷ ns) zero n r whole lt is e = max_joined r (f n) (greatest (map f ns)) ∙ ap (λ z. max r (max (f z) (greatest (map f ns)))) is ∙ e
greatest_more f (m ∷ ns) (suc i) n r whole lt is e = let s : suc i + 1 ≡ suc (i + 1) = omega arith in ap (λ j. max (max r (f n)) (greatest (map f (drop j (m ∷ ns))))) s ∙ greatest_more f ns i n r whole (omega (arith, lt)) is e

drop_none : (A : Type 0) (j : ℕ) → drop {A = A} j [] ≡ []
drop_none A zero = refl
drop_none A (suc j) = refl

pub greatest_all : (f : ℕ → ℕ) (ns : List ℕ) (i r whole : ℕ) → length ns ≤ i → max r (greatest (map f (drop i ns))) ≡ whole → r ≡ whole
greatest_all f [] i r whole le e = sym (ap (λ l. max r (greatest (map f l))) (drop_none ℕ i) ∙ max_none r) ∙ e
greatest_all f (n ∷ ns) zero r whole le e = absurd (omega (arith, le))
greatest_all f (n ∷ ns) (suc i) r whole le e = greatest_all f ns i r whole (omega (arith, le)) e

-- what the numbers keep

pub keys_front : (ks : List ClassKey) (ps : List Position) (n : ℕ) → n < length ks → at (keys_with ks ps) n ≡ at ks n
keys_front ks [] n lt = refl
keys_front ks (p ∷ ps) n lt =
    let more : n < length (ks ++ position_key ks p ∷ []) = omega (arith, lt, length-append ks (position_key ks p ∷ [])) in
    keys_front (ks ++ position_key ks p ∷ []) ps n more ∙ at_left ks (position_key ks p ∷ []) n lt

pub keys_declared : (cs : List Class) (ps : List Position) → length ps ≡ length cs → keys_by cs ps ≡ keys_of cs
keys_declared cs ps e = ap (keys_with (keys_of cs)) (drop_all ps (length cs) e)
  where
    drop_all : (xs : List Position) (i : ℕ) → length xs ≡ i → drop i xs ≡ []
    drop_all [] zero f = refl
    drop_all [] (suc i) f = refl
    drop_all (x ∷ xs) zero f = absurd (omega (arith, f))
    drop_all (x ∷ xs) (suc i) f = drop_all xs i (omega (arith, f))

pub get_within : {A : Type 0} (xs : List A) (i : ℕ) (x : A) → slice_get xs i ≡ Some x → i < length xs
get_within [] i x e = absurd (cc)
get_within (y ∷ xs) zero x e = omega arith
get_within (y ∷ xs) (suc i) x e = let l = get_within xs i x e in omega (arith, l)

pub declared_numbers : (kl : List Keyed) (ps : List Position) → length kl ≤ 8196 → AreDeclared (classes_of kl) → ArePlaced (classes_of kl) (keys_of (classes_of kl)) ps → length ps ≡ length kl → IsNumbers (classes_of kl) ps
declared_numbers kl ps few declared placed each =
    let cs = classes_of kl in
    let long : length ps ≡ length cs = omega (arith, each, classes_length kl) in
    let same = keys_declared cs ps long in
    record {
      declared = declared;
      few = omega (arith, few, each);
      first = omega (arith, long);
      each = long ∙ sym (keys_length cs) ∙ ap length (sym same);
      placed = subst (λ ks. ArePlaced cs ks ps) (sym same) placed;
      apart = subst (λ ks. (m n : ℕ) → m < length ks → n < length ks → at ks m ≡ at ks n → m ≡ n) (sym same) (numbers_apart cs declared);
      made = λ n p le e. absurd (let w = get_within ps n p e in omega (arith, w, le, long));
    }

pub marked : (cs : List Class) (ps : List Position) → IsNumbers cs ps → AreMarked ps
marked cs ps ok = record {
  low = ancestors_low cs (falls cs ok.declared) (tells cs ok.declared) (keys_by cs ps) ps ok.placed;
  marks = ok.placed.marks;
}

module _ (cs : List Class) (ps : List Position) (ok : IsNumbers cs ps) where
  abbrev k : Numbering
  k = record { classes = cs; keys = keys_by cs ps }

  pub within_positions : (n : ℕ) → IsNumbered k n → n < length ps
  within_positions n lt = omega (arith, lt, ok.each)

  pub descent : (n a : ℕ) → IsNumbered k n → IsNumbered k a → some (λ x. a == x) (slice_index_or (lists ps) n []) ≡ is_a cs (key_at k n) (key_at k a)
  descent n a ln la = descends_numbered cs (falls cs ok.declared) (tells cs ok.declared) (keys_by cs ps) ps ok.placed ok.apart n a (within_positions n ln) (within_positions a la)

  module _ (n : ℕ) (p : Position) (is : slice_get ps n ≡ Some p) where
    pub ancestors_numbered : AreNumbered k p.ancestors
    ancestors_numbered i d lt =
        let m = get_mem p.ancestors i d lt in
        let low = ancestors_low cs (falls cs ok.declared) (tells cs ok.declared) (keys_by cs ps) ps ok.placed n (slice_index_or p.ancestors i d) (subst (λ l. Mem (slice_index_or p.ancestors i d) l) (sym (list_get ps n p is)) m) in
        let w = get_within ps n p is in
        omega (arith, low, w, ok.each)

    pub ancestors_keys : map (key_at k) p.ancestors ≡ ancestors cs (key_at k n)
    ancestors_keys =
        ap (map (at (keys_by cs ps))) (sym (list_get ps n p is))
        ∙ ancestors_keyed cs (falls cs ok.declared) (tells cs ok.declared) (keys_by cs ps) ps ok.placed ok.apart n (get_within ps n p is)

    pub parents_low : (q : ℕ) → Mem q p.parents → q < n
    parents_low q m = ok.placed.low n q (subst (λ l. Mem q l) (sym (row_get ps n p is)) m)

    pub parents_keys : map (key_at k) p.parents ≡ (hierarchy cs).parents (key_at k n)
    parents_keys = ap (map (at (keys_by cs ps))) (sym (row_get ps n p is)) ∙ ok.placed.parents n (get_within ps n p is)

    pub rank_key : p.rank ≡ rank cs (key_at k n)
    rank_key = ok.placed.ranks n p is

-- the declared classes have the first numbers
module _ (kl : List Keyed) (ps : List Position) (ok : IsNumbers (classes_of kl) ps) where
  pub few_declared : length kl < 4294967296
  few_declared = (let a = ok.first in let b = ok.few in omega (arith, a, b, classes_length kl))

  pub declared_key : (n : ℕ) → n < length kl → at (keys_by (classes_of kl) ps) n ≡ at (keys_of (classes_of kl)) n
  declared_key n lt = keys_front (keys_of (classes_of kl)) (drop (length (classes_of kl)) ps) n (omega (arith, lt, keys_length (classes_of kl), classes_length kl))

  pub declared_numbered : (n : ℕ) → n < length kl → n < length (keys_by (classes_of kl) ps)
  declared_numbered n lt = (let a = ok.first in let b = ok.each in omega (arith, a, b, lt, classes_length kl))

  pub class_key : (n : ℕ) (k : Keyed) → n < length kl → slice_get kl n ≡ Some k → at (keys_by (classes_of kl) ps) n ≡ k.key
  class_key n k lt is = declared_key n lt ∙ key_is (classes_of kl) n (class_of k) (class_get kl n k is)

  pub are_first : AreFirst (record { classes = classes_of kl; keys = keys_by (classes_of kl) ps })
  are_first = record {
    numbered = λ n c is. (let a = ok.first in let b = ok.each in let w = get_within (classes_of kl) n c is in omega (arith, a, b, w));
    key = λ n c is. (let w = get_within (classes_of kl) n c is in let lt : n < length kl = omega (arith, w, classes_length kl) in declared_key n lt ∙ key_is (classes_of kl) n c is);
  }
