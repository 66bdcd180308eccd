-- Descent by places and marks, and K3.
use Rattle.std.proofs.Common.{◌≡◌, ◌↔◌, ◌⊎◌, ◌==◌, ℕ, zero, suc, ◌+◌, ◌<◌, ◌≤◌, inl, inr, Bool, true, false, List, [], ◌∷◌, map, length, replicate, take, Option, Some, None, slice_get, slice_index_or, slice_set, refl, sym, ap, ◌∙◌, subst, arith}
use Rattle.std.proofs.lemmas.Bool.{cases_lt, eqb-true}
use Rattle.std.proofs.lemmas.List.{get_or-set_same, get_or-set_other, length-set}
use Rattle.som_model.specs.declared.key.ClassKey.{ClassKey}
use Rattle.som_model.specs.declared.key.ClassKey.TheVariants as keys
use Rattle.som_model.specs.declared.key.Module.{Module}
use Rattle.som_model.specs.Lists.{Mem, first, some}
use Rattle.som_model.specs.Ancestors.{Descends, itself, by_parent}
use Rattle.som_model.specs.Class.{Class}
use Rattle.som_model.specs.Classes.{ancestors, hierarchy, is_a}
use Rattle.som_model.specs.Compatible.{CompatBreach, declared_name, incompatible, k3, layer_name}
use Rattle.som_model.proofs.NamedLaws.{out_named}
use Rattle.som_model_laws.proofs.Laws.{ancestors as ancestors_are, ancestors_apart}
use Rattle.som_model_laws.proofs.Members.{Apart, both_or_none, mem_some, not_true, some_mem}
use Rattle.som_verify_classes.specs.Places.{key_at}
use Rattle.som_verify_classes.specs.Walk.{AreLists}
use Rattle.som_verify_classes.proofs.Descending.{is_a_place}
use Rattle.som_verify_classes.proofs.PlainLists.{mem_map}
use Rattle.som_compat.specs.Marks.{Marked, count}
use Rattle.som_compat.proofs.Marking.{mem_at, take_more, marked_set, none_marked}
use Rattle.som_compat.proofs.Lost.{counted}
use Rattle.som_compat_levels.specs.Pairs.{AreAbove, IsPair}
use Rattle.som_compat_levels.proofs.Failing.{first_failing, first_mapped, get_map, map_get, none_failing, nothing_mapped}
use Rattle.som_compat_levels.proofs.Known.{AreKnown}
use Rattle.som_compat_levels.proofs.Lists.{less_next}

-- marks that are numbers

abbrev pub AreMarked : List ℕ → ℕ → List ℕ → Type 0
AreMarked marks mark list = (k : ℕ) → (slice_index_or marks k 0 ≡ mark) ↔ Mem k list

pub none_so_far : (marks list : List ℕ) (mark : ℕ) → ((k : ℕ) → slice_index_or marks k 0 < mark) → AreMarked marks mark (take 0 list)
none_so_far marks list mark f k = (λ e. let l = f k in absurd (omega (arith, l, e)), λ m. absurd m)

set_at : (marks : List ℕ) (p k mark : ℕ) → p < length marks → (k ≡ p) ⊎ (k ≡ p → ⊥) → ((k ≡ p) × (slice_index_or (slice_set marks p mark) k 0 ≡ mark)) ⊎ ((k ≡ p → ⊥) × (slice_index_or (slice_set marks p mark) k 0 ≡ slice_index_or marks k 0))
set_at marks p k mark lt (inl e) = inl (e, rw e (get_or-set_same marks p mark 0 lt))
set_at marks p k mark lt (inr n) = inr (n, get_or-set_other marks p k mark 0 n)

which : (k p : ℕ) → (k ≡ p) ⊎ (k ≡ p → ⊥)
which k p = elim (cases_lt k p) [
  | inl lt ↦ inr (λ e. omega (arith, lt, e))
  | inr ge ↦ elim (cases_lt p k) [ inl lt ↦ inr (λ e. omega (arith, lt, e)) | inr le ↦ inl (omega (arith, ge, le)) ]
]

pub mark_more : (marks list : List ℕ) (mark i : ℕ) → i < length list → slice_index_or list i 0 < length marks → AreMarked marks mark (take i list) → AreMarked (slice_set marks (slice_index_or list i 0) mark) mark (take (i + 1) list)
mark_more marks list mark i li lt so k =
    let p = slice_index_or list i 0 in
    let more = take_more list i 0 k li in
    elim (set_at marks p k mark lt (which k p)) [
      | inl r ↦ (λ e. more.1 (inr r.0), λ m. r.1)
      | inr r ↦ (
        λ e. more.1 (inl ((so k).0 (sym r.1 ∙ e))),
        λ m. r.1 ∙ elim (more.0 m) [ inl n ↦ (so k).1 n | inr e ↦ absurd (r.0 e) ],
      )
    ]

pub mark_below : (marks : List ℕ) (mark p : ℕ) → p < length marks → ((k : ℕ) → slice_index_or marks k 0 < mark + 1) → (k : ℕ) → slice_index_or (slice_set marks p mark) k 0 < mark + 1
mark_below marks mark p lt f k = elim (set_at marks p k mark lt (which k p)) [
  | inl r ↦ (let e = r.1 in omega (arith, e))
  | inr r ↦ (let e = r.1 in let l = f k in omega (arith, e, l))
]

pub eq_true : (a b : ℕ) → a ≡ b → (a == b) ≡ true
eq_true a b e = grind (arith, e)

pub eq_false : (a b : ℕ) → (a ≡ b → ⊥) → (a == b) ≡ false
eq_false a b n = not_true (a == b) (λ e. n (eqb-true a b e))

apart_map : {A B : Type 0} (f : A → B) (xs : List A) → Apart (map f xs) → Apart xs
apart_map f [] d = tt
apart_map f (x ∷ xs) d = ((λ m. d.0 (mem_map f x xs m)), apart_map f xs d.1)

-- as many marks as there are places, of which those on the list are set
abbrev marks_of : List ℕ → ℕ → List Bool
marks_of [] n = replicate n false
marks_of (a ∷ rest) n = slice_set (marks_of rest n) a true

long_none : (n : ℕ) → length (replicate n false) ≡ n
long_none zero = refl
long_none (suc n) = ap suc (long_none n)

long_marks : (list : List ℕ) (n : ℕ) → length (marks_of list n) ≡ n
long_marks [] n = long_none n
long_marks (a ∷ rest) n = length-set (marks_of rest n) a true ∙ long_marks rest n

marked_of : (list : List ℕ) (n : ℕ) → ((a : ℕ) → Mem a list → a < n) → (k : ℕ) → Marked (marks_of list n) k ↔ Mem k list
marked_of [] n f k = (λ m. none_marked n k m, λ m. absurd m)
marked_of (a ∷ rest) n f k =
    let long = long_marks rest n in
    let l = f a (inl refl) in
    let set = marked_set (marks_of rest n) a k (omega (arith, long, l)) in
    let so = marked_of rest n (λ b m. f b (inr m)) k in (
      λ m. elim (set.0 m) [ inl h ↦ inr (so.0 h) | inr e ↦ inl e ],
      λ m. elim m [ inl e ↦ set.1 (inr e) | inr h ↦ set.1 (inl (so.1 h)) ],
    )

-- how many are marked is no more than there are marks
few_marked : (marks : List Bool) → count marks ≤ length marks
few_marked [] = omega arith
few_marked (true ∷ bs) = let l = few_marked bs in omega (arith, l)
few_marked (false ∷ bs) = let l = few_marked bs in omega (arith, l)

module _ (cs : List Class) (known : AreKnown cs) (all : List (List ℕ)) (lists : AreLists cs all) where
  -- the marks of a class's list are those of its ancestors
  pub are_above : (p mark : ℕ) (marks list : List ℕ) → p < length cs → list ≡ slice_index_or all p [] → length marks ≡ length cs → AreMarked marks mark list → AreAbove cs (key_at cs p) marks mark
  are_above p mark marks list lt is long so = record {
    long = long;
    by = λ q lq. both_or_none _ _
        (λ e. is_a_place cs all lists p q lt lq ∙ ap (some (λ b. q == b)) (sym is) ∙ mem_some (λ b. q == b) q list ((so q).0 (eqb-true (slice_index_or marks q 0) mark e)) (eq_true q q refl))
        (λ e. let r = some_mem (λ b. q == b) list (ap (some (λ b. q == b)) is ∙ sym (is_a_place cs all lists p q lt lq) ∙ e) in
        eq_true (slice_index_or marks q 0) mark ((so q).1 (subst (λ z. Mem z list) (sym (eqb-true q r.0 r.2)) r.1)));
  }

  -- ancestors stand no later
  descends_low : (x y : ClassKey) (p : ℕ) → Descends (hierarchy cs) x y → p < length cs → key_at cs p ≡ x → (q : ℕ) × (q ≤ p) × (key_at cs q ≡ y)
  descends_low x y p itself lt e = (p, omega arith, e)
  descends_low x y p (by_parent k m d) lt e =
      let s = known.stand p k lt (subst (λ z. Mem k z) (ap (hierarchy cs).parents (sym e) ∙ known.parents p lt) m) in
      let low = s.1 in
      let r = descends_low k y s.0 d (omega (arith, low, lt)) s.2 in
      let le = r.1 in
      (r.0, omega (arith, low, le), r.2)

  pub listed_low : (p a : ℕ) → p < length cs → Mem a (slice_index_or all p []) → a ≤ p
  listed_low p a lt m =
      let in_list = subst (λ z. Mem (key_at cs a) z) (lists.by p lt) (mem_map (key_at cs) a (slice_index_or all p []) m) in
      let r = descends_low (key_at cs p) (key_at cs a) p ((ancestors_are (hierarchy cs) known.tells known.falls (key_at cs p) (key_at cs a)).0 in_list) lt refl in
      let le = r.1 in
      let same = known.once r.0 a (omega (arith, le, lt)) (lists.low p a m) r.2 in
      omega (arith, same, le)

  -- a list of ancestors is no longer than there are classes
  pub listed_few : (p : ℕ) → p < length cs → length (slice_index_or all p []) ≤ length cs
  listed_few p lt =
      let list = slice_index_or all p [] in
      let marks = marks_of list (length cs) in
      let apart = apart_map (key_at cs) list (subst (λ (z : List ClassKey). Apart z) (sym (lists.by p lt)) (ancestors_apart (hierarchy cs) known.tells (key_at cs p))) in
      let same = counted list apart marks (marked_of list (length cs) (λ a m. lists.low p a m)) in
      let few = few_marked marks in
      let long = long_marks list (length cs) in
      omega (arith, same, few, long)

-- K3

module _ (O N : List Class) (c : Class) where
  abbrev told_lost : ClassKey × ℕ → CompatBreach
  told_lost p = incompatible 3 c (declared_name p.0) p.1

  pub k3_kept : ((i : ℕ) (y : ClassKey) → slice_get (ancestors O c.key) i ≡ Some y → is_a N c.key y ≡ true) → first (k3 O N c) ≡ None
  k3_kept f = nothing_mapped told_lost _ (none_failing (is_a N c.key) (ancestors O c.key) f)

  pub k3_lost : (number : ℕ) (x : ClassKey) (o : Option (List ℕ)) → ((i : ℕ) (y : ClassKey) → i < number → slice_get (ancestors O c.key) i ≡ Some y → is_a N c.key y ≡ true)
      → slice_get (ancestors O c.key) number ≡ Some x → is_a N c.key x ≡ false → declared_name x ≡ o → first (k3 O N c) ≡ Some (incompatible 3 c o number)
  k3_lost number x o f at e name =
      let sum : number + 0 ≡ number = omega arith in
      first_mapped told_lost _ (x, number + 0) (first_failing (is_a N c.key) 0 number (ancestors O c.key) x f at e)
      ∙ ap (λ z. Some (incompatible 3 c z (number + 0))) name ∙ ap (λ z. Some (incompatible 3 c o z)) sum

-- the name of a declared class
pub name_declared : (k : ClassKey) (m : Module) (x : List ℕ) → k ≡ keys.Named m x → declared_name k ≡ Some x
name_declared k m x e = ap declared_name e ∙ ap layer_name (out_named m x)

-- an ancestor on the list of the class at a place
pub record IsListed (cs : List Class) (p number : ℕ) (list : List ℕ) : Type 0 where
  pub low : slice_index_or list number 0 ≤ p
  pub within : slice_index_or list number 0 < length cs
  pub few : length list ≤ length cs
  pub at : slice_get (ancestors cs (key_at cs p)) number ≡ Some (key_at cs (slice_index_or list number 0))

pub listed : (cs : List Class) (known : AreKnown cs) (all : List (List ℕ)) → AreLists cs all → (p number : ℕ) (list : List ℕ) → p < length cs → list ≡ slice_index_or all p [] → number < length list → IsListed cs p number list
listed cs known all lists p number list lt is ln =
    let low = listed_low cs known all lists p (slice_index_or list number 0) lt (subst (λ z. Mem (slice_index_or list number 0) z) is (mem_at list number 0 ln)) in
    record {
      low = low;
      within = omega (arith, low, lt);
      few = subst (λ (z : List ℕ). length z ≤ length cs) (sym is) (listed_few cs known all lists p lt);
      at = ap (λ z. slice_get z number) (sym (ap (map (key_at cs)) is ∙ lists.by p lt)) ∙ map_get (key_at cs) list number 0 ln;
    }

-- past the last there is no more
pub listed_end : (cs : List Class) (all : List (List ℕ)) → AreLists cs all → (p number i : ℕ) (list : List ℕ) (y : ClassKey) → p < length cs → list ≡ slice_index_or all p [] → length list ≤ number → slice_get (ancestors cs (key_at cs p)) i ≡ Some y → i < number
listed_end cs all lists p number i list y lt is le at =
    let l = (get_map (key_at cs) list i y 0 (ap (λ z. slice_get z i) (ap (map (key_at cs)) is ∙ lists.by p lt) ∙ at)).0 in
    omega (arith, l, le)

-- the mark of the counterpart tells whether an ancestor is kept
pub mark_here : (O N : List Class) (k : ClassKey) (marks : List ℕ) (mark a r q : ℕ) → AreAbove N k marks mark → IsPair O N a r → q ≡ slice_index_or marks r 0 → (q == mark) ≡ is_a N k (key_at O a)
mark_here O N k marks mark a r q above pair is = ap (λ z. z == mark) is ∙ above.by r pair.within ∙ ap (is_a N k) pair.same

pub next_kept : (O N : List Class) (k : ClassKey) (n : ℕ) (x : ClassKey) → ((i : ℕ) (y : ClassKey) → i < n → slice_get (ancestors O k) i ≡ Some y → is_a N k y ≡ true) → slice_get (ancestors O k) n ≡ Some x → is_a N k x ≡ true
    → (i : ℕ) (y : ClassKey) → i < n + 1 → slice_get (ancestors O k) i ≡ Some y → is_a N k y ≡ true
next_kept O N k n x f at e i y lt here = elim (less_next i n lt) [
  | inl less ↦ f i y less here
  | inr same ↦ (
      let one : Some x ≡ Some y = sym at ∙ ap (slice_get (ancestors O k)) (sym same) ∙ here in
      let is : x ≡ y = cc in
      ap (is_a N k) (sym is) ∙ e)
]
