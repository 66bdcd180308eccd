-- K6 by places and marks.
use Rattle.std.proofs.Common.{◌≡◌, ◌↔◌, ◌⊎◌, ◌==◌, ◌||◌, ℕ, ◌+◌, ◌<◌, inl, inr, Bool, true, false, List, [], ◌++◌, map, length, Option, Some, None, slice_index_or, slice_set, refl, sym, ap, ◌∙◌, subst, arith, true≢false}
use Rattle.std.proofs.lemmas.Bool.{eqb-true}
use Rattle.std.proofs.lemmas.List.{get_or-set_same, get_or-set_other}
use Rattle.som_model.specs.declared.key.ClassKey.{ClassKey}
use Rattle.som_model.specs.declared.class.ClassFace.{ClassFace}
use Rattle.som_model.specs.Hierarchy.{Hierarchy}
use Rattle.som_model.specs.Lists.{Mem, some}
use Rattle.som_model.specs.Ancestors.{Descends, anc, itself, by_parent}
use Rattle.som_model.specs.Class.{Class}
use Rattle.som_model.specs.Classes.{hierarchy, is_a}
use Rattle.som_model.specs.Kernel.{kernel}
use Rattle.som_model.specs.Metaclass.{meta}
use Rattle.som_model_laws.specs.Metaclasses.{Declares, IsDeclared}
use Rattle.som_model_laws.specs.Rows.{AreLow, rows_of}
use Rattle.som_model_laws.proofs.Laws.{ancestors as ancestors_are, descends_test}
use Rattle.som_model_laws.proofs.Members.{both_or_none, mem_some, some_mem}
use Rattle.som_model_laws.proofs.Metas.{meta_law}
use Rattle.som_model_laws.proofs.Keeping.{known_declared}
use Rattle.som_model_laws.proofs.Standing.{found}
use Rattle.som_release_laws.proofs.Objects.{low_on, on_kernel}
use Rattle.som_verify_classes.specs.Places.{class_of_place, face_at, key_at, IsRows}
use Rattle.som_verify_classes.specs.Walk.{AreLists}
use Rattle.som_verify_classes.proofs.Falling.{mem_there}
use Rattle.som_verify_classes.proofs.Finding.{mem_place}
use Rattle.som_verify_classes.proofs.PlainLists.{map_mem, mem_map}
use Rattle.som_compat.specs.Marks.{Marked, some_marked}
use Rattle.som_compat.specs.Told.{metaclass_marked}
use Rattle.som_compat.proofs.Below.{is_some_marked, some_is}
use Rattle.som_compat_levels.specs.Pairs.{ArePaired}
use Rattle.som_compat_levels.specs.Standing.{AreStanding}
use Rattle.som_compat_levels.specs.Tables.{AreMetaclasses, IsPlaceOf}
use Rattle.som_compat_levels.proofs.Known.{AreKnown, known}
use Rattle.som_compat_levels.proofs.Lists.{less_next}

either : (b c : Bool) → (b || c) ≡ true → (b ≡ true) ⊎ (c ≡ true)
either true c e = inl refl
either false c e = inr e

pub or_first : (b c : Bool) → b ≡ true → (b || c) ≡ true
or_first b c e = rw e refl

pub or_rest : (b c : Bool) → b ≡ false → (b || c) ≡ c
or_rest b c e = rw e refl

or_second : (b c : Bool) → c ≡ true → (b || c) ≡ true
or_second true c e = refl
or_second false c e = e

eq_true : (a b : ℕ) → a ≡ b → (a == b) ≡ true
eq_true a b e = grind (arith, e)

-- one more mark below a class
down : (rows : List (List ℕ)) (top k : ℕ) → Descends (rows_of rows) k top → (k ≡ top) ⊎ ((p : ℕ) × Mem p (slice_index_or rows k []) × Descends (rows_of rows) p top)
down rows top k itself = inl refl
down rows top k (by_parent p m d) = inr (p, m, d)

pub below_more : (rows : List (List ℕ)) (top place : ℕ) (marks : List Bool) (b : Bool) → AreLow rows → place < length marks → ((k : ℕ) → k < place → Marked marks k ↔ Descends (rows_of rows) k top)
    → b ≡ ((place == top) || some_marked (slice_index_or rows place []) marks) → (k : ℕ) → k < place + 1 → Marked (slice_set marks place b) k ↔ Descends (rows_of rows) k top
below_more rows top place marks b low lt so is k less = elim (less_next k place less) [
  | inl under ↦ (
      let other : k ≡ place → ⊥ = λ e. omega (arith, e, under) in
      let same = get_or-set_other marks place k b false other in
      (λ m. (so k under).0 (sym same ∙ m), λ d. same ∙ (so k under).1 d))
  | inr e ↦ subst (λ z. Marked (slice_set marks place b) z ↔ Descends (rows_of rows) z top) (sym e) (
      let same = get_or-set_same marks place b false lt in
      let row = slice_index_or rows place [] in (
        λ m. elim (either (place == top) (some_marked row marks) (sym is ∙ sym same ∙ m)) [
          | inl t ↦ subst (λ z. Descends (rows_of rows) place z) (eqb-true place top t) itself
          | inr t ↦ (let r = some_is row marks t in by_parent r.0 r.1 ((so r.0 (low place r.0 r.1)).0 r.2))
        ],
        λ d. same ∙ is ∙ elim (down rows top place d) [
          | inl t ↦ or_first (place == top) (some_marked row marks) (eq_true place top t)
          | inr r ↦ or_second (place == top) (some_marked row marks) (is_some_marked row marks r.0 r.1 ((so r.0 (low place r.0 r.1)).1 r.2))
        ],
      ))
]

-- descent by places and by keys
module _ (cs : List Class) (known : AreKnown cs) (rows : List (List ℕ)) (are : IsRows cs (length cs) rows) where
  above_keys : (x a : ℕ) → x < length cs → Descends (rows_of rows) x a → Descends (hierarchy cs) (key_at cs x) (key_at cs a)
  above_keys x a lt itself = itself
  above_keys x a lt (by_parent p m d) =
      let low = are.low x p m in
      by_parent (key_at cs p) (subst (λ z. Mem (key_at cs p) z) (are.by x lt ∙ sym (known.parents x lt)) (mem_map (key_at cs) p (slice_index_or rows x []) m))
      (above_keys p a (omega (arith, low, lt)) d)

  step_up : (p q a : ℕ) → Mem q (slice_index_or rows p []) → Descends (rows_of rows) q a → Descends (rows_of rows) p a
  step_up p q a m d = by_parent q m d

  keys_above : (x y : ClassKey) (p : ℕ) → Descends (hierarchy cs) x y → p < length cs → key_at cs p ≡ x → (q : ℕ) × (q < length cs) × (key_at cs q ≡ y) × Descends (rows_of rows) p q
  keys_above x y p itself lt e = (p, lt, e, itself)
  keys_above x y p (by_parent k m d) lt e =
      let r = map_mem (key_at cs) k (slice_index_or rows p []) (subst (λ z. Mem k z) (ap (hierarchy cs).parents (sym e) ∙ known.parents p lt ∙ sym (are.by p lt)) m) in
      let low = are.low p r.0 r.1 in
      let t = keys_above k y r.0 d (omega (arith, low, lt)) (sym r.2) in
      (t.0, t.1, t.2, step_up p r.0 t.0 r.1 t.3)

  pub places_descend : (p q : ℕ) → p < length cs → q < length cs → Descends (hierarchy cs) (key_at cs p) (key_at cs q) ↔ Descends (rows_of rows) p q
  places_descend p q lp lq = (
    λ d. (let r = keys_above (key_at cs p) (key_at cs q) p d lp refl in subst (λ z. Descends (rows_of rows) p z) (known.once r.0 q r.1 lq r.2) r.3),
    above_keys p q lp,
  )

-- the law of metaclasses among classes that can stand
record HaveMetas (cs : List Class) : Type 0 where
  pub two : 1 < length cs
  pub law : (p : ℕ) (n : ClassKey) → p < length cs → IsDeclared n → Descends (hierarchy cs) (meta cs (key_at cs p)) n ↔ (Descends (hierarchy cs) (key_at cs 1) n ⊎ Declares cs (key_at cs p) n)
  pub declared : (p : ℕ) → p < length cs → IsDeclared (key_at cs p)

have_metas : (cs : List Class) → AreStanding cs → HaveMetas cs
have_metas cs s = subst HaveMetas (sym s.are) (
    let own = s.own in
    let o = s.load.ordered in
    record {
      two = omega arith;
      law = λ p n lt dec. (
          let c = class_of_place (kernel ++ own) p in
          let at = found own o c c.key (mem_place (kernel ++ own) p lt) refl in
          let low = on_kernel own o s.parents c.key c at in
          let stands = low_on own o low.0 c.key low.1 low.2 in
          let law = meta_law own o c.key n dec in (
            λ d. elim (law.0 d) [ inl r ↦ inl r.0 | inr r ↦ inr r ],
            λ e. law.1 (elim e [ inl d ↦ inl (d, stands) | inr r ↦ inr r ]),
          ));
      declared = λ p lt. (
          let c = class_of_place (kernel ++ own) p in
          known_declared own o c.key c (found own o c c.key (mem_place (kernel ++ own) p lt) refl));
    })

module _ (cs : List Class) (s : AreStanding cs) (rows lists : List (List ℕ)) (ms : List (Option ℕ)) (are : IsRows cs (length cs) rows) (all : AreLists cs lists) (metas : AreMetaclasses cs ms) where
  k : AreKnown cs
  k = known cs s

  -- the metaclass that the class at a place declares, by its place
  declares_at : (a : ℕ) (m : ClassKey) → a < length cs → (face_at cs a).metaclass ≡ Some m → (q : ℕ) × (slice_index_or ms a None ≡ Some q) × (q < length cs) × (key_at cs q ≡ m)
  declares_at a m lt e = by (slice_index_or ms a None) (subst (λ z. IsPlaceOf cs z (slice_index_or ms a None)) e (metas.by a lt))
    where
      by : (o : Option ℕ) → IsPlaceOf cs (Some m) o → (q : ℕ) × (o ≡ Some q) × (q < length cs) × (key_at cs q ≡ m)
      by None f = absurd f
      by (Some q) f = (q, refl, f.0, f.1)

  at_declares : (a q : ℕ) → a < length cs → slice_index_or ms a None ≡ Some q → (q < length cs) × ((face_at cs a).metaclass ≡ Some (key_at cs q))
  at_declares a q lt e = by (face_at cs a).metaclass (subst (λ z. IsPlaceOf cs (face_at cs a).metaclass z) e (metas.by a lt))
    where
      by : (o : Option ClassKey) → IsPlaceOf cs o (Some q) → (q < length cs) × (o ≡ Some (key_at cs q))
      by None f = absurd f
      by (Some m) f = (f.0, ap (λ z. Some z) (sym f.1))

  module _ (p top : ℕ) (marks : List Bool) (list : List ℕ) (lp : p < length cs) (lt : top < length cs) (is : list ≡ slice_index_or lists p []) (so : (q : ℕ) → q < length cs → Marked marks q ↔ Descends (rows_of rows) q top) where
    abbrev h : Hierarchy ClassKey
    h = hierarchy cs

    abbrev marked_at : ℕ → Bool
    marked_at a = metaclass_marked (slice_index_or ms a None) marks

    keys_are : map (key_at cs) list ≡ anc h (key_at cs p)
    keys_are = ap (map (key_at cs)) is ∙ all.by p lp

    in_list : (y : ClassKey) → Descends h (key_at cs p) y → Mem y (map (key_at cs) list)
    in_list y d = subst (λ z. Mem y z) (sym keys_are) ((ancestors_are h k.tells k.falls (key_at cs p) y).1 d)

    list_low : (a : ℕ) → Mem a list → a < length cs
    list_low a m = all.low p a (subst (λ z. Mem a z) is m)

    above : (a : ℕ) → Mem a list → Descends h (key_at cs p) (key_at cs a)
    above a m = (ancestors_are h k.tells k.falls (key_at cs p) (key_at cs a)).0 (subst (λ z. Mem (key_at cs a) z) keys_are (mem_map (key_at cs) a list m))

    declared_by : (a : ℕ) → Mem a list → (o : Option ℕ) → slice_index_or ms a None ≡ o → metaclass_marked o marks ≡ true → Declares cs (key_at cs p) (key_at cs top)
    declared_by a m None e t = absurd (true≢false (sym t))
    declared_by a m (Some q) e t =
        let la = list_low a m in
        let r = at_declares a q la e in
        record {
          class = class_of_place cs a;
          there = mem_place cs a la;
          above = above a m;
          metaclass = key_at cs q;
          declared = r.1;
          below = (places_descend cs k rows are q top r.0 lt).1 ((so q r.0).0 t);
        }

    face_is : (a : ℕ) (c : Class) → a < length cs → Mem c cs → key_at cs a ≡ c.key → face_at cs a ≡ c.decl.face
    face_is a c la m e =
        let r = mem_there cs c m in
        let same = k.once a r.0 la r.1 (e ∙ ap (λ (z : Class). z.key) (sym r.2)) in
        ap (face_at cs) same ∙ ap (λ (z : Class). z.decl.face) r.2

    marked_by : Declares cs (key_at cs p) (key_at cs top) → some marked_at list ≡ true
    marked_by d =
        let a = map_mem (key_at cs) d.class.key list (in_list d.class.key d.above) in
        let la = list_low a.0 a.1 in
        let here = face_is a.0 d.class la d.there (sym a.2) in
        let r = declares_at a.0 d.metaclass la (ap (λ (z : ClassFace). z.metaclass) here ∙ d.declared) in
        let marked = (so r.0 r.2).1 ((places_descend cs k rows are r.0 top r.2 lt).0 (subst (λ z. Descends h z (key_at cs top)) (sym r.3) d.below)) in
        mem_some marked_at a.0 list a.1 (ap (λ z. metaclass_marked z marks) r.1 ∙ marked)

    pub meta_is : (slice_index_or marks 1 false || some marked_at list) ≡ is_a cs (meta cs (key_at cs p)) (key_at cs top)
    meta_is =
        let m = have_metas cs s in
        let law = m.law p (key_at cs top) lp (m.declared top lt) in
        let test = descends_test h k.tells k.falls (meta cs (key_at cs p)) (key_at cs top) in
        let first = slice_index_or marks 1 false in
        both_or_none (first || some marked_at list) (is_a cs (meta cs (key_at cs p)) (key_at cs top))
        (λ e. test.1 (law.1 (elim (either first (some marked_at list) e) [
          | inl t ↦ inl ((places_descend cs k rows are 1 top m.two lt).1 ((so 1 m.two).0 t))
          | inr t ↦ (let r = some_mem marked_at list t in inr (declared_by r.0 r.1 (slice_index_or ms r.0 None) refl r.2))
        ])))
        (λ e. elim (law.0 (test.0 e)) [
          | inl d ↦ or_first first (some marked_at list) ((so 1 m.two).1 ((places_descend cs k rows are 1 top m.two lt).0 d))
          | inr d ↦ or_second first (some marked_at list) (marked_by d)
        ])

-- the old class's metaclass by its place in the new
pub record IsNewMetaclass (O N : List Class) (place m : ℕ) (pairs : List ℕ) : Type 0 where
  pub within : m < length O
  pub low : m < length pairs
  pub declared : (face_at O place).metaclass ≡ Some (key_at O m)
  pub new : slice_index_or pairs m 0 < length N
  pub same : key_at N (slice_index_or pairs m 0) ≡ key_at O m

pub no_metaclass : (O : List Class) (ms : List (Option ℕ)) (place : ℕ) → AreMetaclasses O ms → place < length O → slice_index_or ms place None ≡ None → (face_at O place).metaclass ≡ None
no_metaclass O ms place metas lt e = by (face_at O place).metaclass (subst (λ z. IsPlaceOf O (face_at O place).metaclass z) e (metas.by place lt))
  where
    by : (o : Option ClassKey) → IsPlaceOf O o None → o ≡ None
    by None f = refl
    by (Some m) f = absurd f

pub new_metaclass : (O N : List Class) (so : AreStanding O) (ms : List (Option ℕ)) (place m : ℕ) (pairs : List ℕ) → AreMetaclasses O ms → place < length O → ArePaired O N (place + 1) pairs → slice_index_or ms place None ≡ Some m → IsNewMetaclass O N place m pairs
new_metaclass O N so ms place m pairs metas lt pair e =
    let r = by (face_at O place).metaclass (subst (λ z. IsPlaceOf O (face_at O place).metaclass z) e (metas.by place lt)) in
    let q = (known O so).metaclass place (key_at O m) lt r.1 in
    let low = q.1 in
    let same = (known O so).once q.0 m (omega (arith, low, lt)) r.0 q.2 in
    let long = pair.long in
    let p = pair.by m (omega (arith, low, same)) in
    record { within = r.0; low = let l = r.0 in omega (arith, long, l); declared = r.1; new = p.within; same = p.same }
  where
    by : (o : Option ClassKey) → IsPlaceOf O o (Some m) → (m < length O) × (o ≡ Some (key_at O m))
    by None f = absurd f
    by (Some z) f = (f.0, ap (λ y. Some y) (sym f.1))
