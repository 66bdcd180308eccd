-- Metaclasses by the marks of classes.
use Rattle.std.proofs.Common.{◌≡◌, ◌↔◌, ℕ, zero, suc, ◌+◌, ◌<◌, ◌⊎◌, inl, inr, Bool, true, false, ◌&&◌, ◌||◌, if◌then◌else◌, List, [], ◌∷◌, length, Option, Some, None, slice_index_or, refl, sym, ap, ◌∙◌, subst, arith, true≢false}
use Rattle.som_model.specs.declared.key.ClassKey.{ClassKey}
use Rattle.som_model.specs.Lists.{Mem, first}
use Rattle.som_model.specs.Ancestors.{Descends}
use Rattle.som_model.specs.Class.{Class}
use Rattle.som_model.specs.Classes.{hierarchy, is_a}
use Rattle.som_model.specs.Kernel.{som_class}
use Rattle.som_model.specs.Metaclass.{meta}
use Rattle.som_model.specs.Compatible.{incompatible, declared_name, k6}
use Rattle.som_model.proofs.KeyLaws.{both}
use Rattle.som_model_laws.proofs.Members.{both_or_none, not_true}
use Rattle.som_model_laws.proofs.Laws.{descends_test}
use Rattle.som_verify_classes.specs.Places.{class_of_place, key_at, face_at, Finds}
use Rattle.som_verify_classes.specs.Plainly.{IsAmong}
use Rattle.som_verify_classes.proofs.Falling.{mem_there}
use Rattle.som_verify_classes.proofs.Finding.{mem_place}
use Rattle.som_compat.specs.declared.rows.Row.{Row}
use Rattle.som_compat.specs.Metaclasses.{IsDeclared, Declares}
use Rattle.som_compat.specs.Views.{AreRows, IsWithin, key_of}
use Rattle.som_compat.specs.Marks.{Marked, Above, AreAbove}
use Rattle.som_compat.specs.Told.{metaclass_marked, some_declares}
use Rattle.som_compat.proofs.Known.{IsKnown}
use Rattle.som_compat.proofs.MetaLaw.{meta_law}
use Rattle.som_compat.proofs.Placed.{among_place}
use Rattle.som_compat.proofs.Viewing.{among_at, above_keys, above_is}
use Rattle.som_compat.proofs.Fronts.{descends_known}

abbrev none_row : Row
none_row = record { numbers = []; count = 0; metaclass = None }

-- a marked class, counted from n, that declares a metaclass marked below
record OneDeclares (n : ℕ) (rows : List Row) (marks below : List Bool) : Type 0 where
  pub place : ℕ
  pub within : place < length rows
  pub marked : Marked marks (place + n)
  pub metaclass : ℕ
  pub is : (slice_index_or rows place none_row).metaclass ≡ Some metaclass
  pub below_it : Marked below metaclass

metaclass_is : (o : Option ℕ) (below : List Bool) → metaclass_marked o below ≡ true → (m : ℕ) × (o ≡ Some m) × Marked below m
metaclass_is None below e = absurd (true≢false (sym e))
metaclass_is (Some m) below e = (m, refl, e)

one_by : (n : ℕ) (r : Row) (rows : List Row) (marks below : List Bool) (b : Bool) → (slice_index_or marks n false && metaclass_marked r.metaclass below) ≡ b → (some_declares (n + 1) rows marks below ≡ true → OneDeclares (n + 1) rows marks below)
    → (if b then true else some_declares (n + 1) rows marks below) ≡ true → OneDeclares n (r ∷ rows) marks below
one_by n r rows marks below true t f e =
    let s = both (slice_index_or marks n false) (metaclass_marked r.metaclass below) t in
    let m = metaclass_is r.metaclass below s.1 in
    let at : 0 + n ≡ n = omega arith in
    record { place = 0; within = omega arith; marked = rw at s.0; metaclass = m.0; is = m.1; below_it = m.2 }
one_by n r rows marks below false t f e =
    let d = f e in
    let at : suc d.place + n ≡ d.place + (n + 1) = omega arith in
    record { place = suc d.place; within = omega (arith, d.within); marked = rw at d.marked; metaclass = d.metaclass; is = d.is; below_it = d.below_it }

one_declares : (n : ℕ) (rows : List Row) (marks below : List Bool) → some_declares n rows marks below ≡ true → OneDeclares n rows marks below
one_declares n [] marks below e = absurd (true≢false (sym e))
one_declares n (r ∷ rows) marks below e = one_by n r rows marks below (slice_index_or marks n false && metaclass_marked r.metaclass below) refl (one_declares (n + 1) rows marks below) e

or_rest : (b c : Bool) → c ≡ true → (if b then true else c) ≡ true
or_rest true c e = refl
or_rest false c e = e

declares_one : (n p m : ℕ) (rows : List Row) (marks below : List Bool) → p < length rows → Marked marks (p + n) → (slice_index_or rows p none_row).metaclass ≡ Some m → Marked below m → some_declares n rows marks below ≡ true
declares_one n p m [] marks below lt a is b = absurd (omega arith)
declares_one n zero m (r ∷ rows) marks below lt a is b =
    let at : 0 + n ≡ n = omega arith in
    let x : slice_index_or marks n false ≡ true = subst (λ (z : ℕ). slice_index_or marks z false ≡ true) at a in
    let y : metaclass_marked r.metaclass below ≡ true = ap (λ o. metaclass_marked o below) is ∙ b in
    rw (x, y) refl
declares_one n (suc p) m (r ∷ rows) marks below lt a is b =
    let at : suc p + n ≡ p + (n + 1) = omega arith in
    or_rest _ _ (declares_one (n + 1) p m rows marks below (omega arith) (subst (λ (z : ℕ). Marked marks z) at a) is b)

or_cases : (b c : Bool) → (b || c) ≡ true → (b ≡ true) ⊎ (c ≡ true)
or_cases true c e = inl refl
or_cases false c e = inr e

pub or_left : (b c : Bool) → b ≡ true → (b || c) ≡ true
or_left true c e = refl
or_left false c e = absurd (true≢false (sym e))

or_right : (b c : Bool) → c ≡ true → (b || c) ≡ true
or_right true c e = refl
or_right false c e = e

module _ (cs : List Class) (known : IsKnown cs) where
  root : (1 < length cs) × (key_at cs 1 ≡ som_class)
  root = let k = known.kernel 1 (omega arith) in (k.0, ap (λ (c : Class). c.key) k.1)

  metaclass_known : (c : Class) (k : ClassKey) → Mem c cs → c.decl.face.metaclass ≡ Some k → IsAmong cs k
  metaclass_known c k m e =
      let r = mem_there cs c m in
      let q = known.metaclass r.0 k r.1 (ap (λ (c : Class). c.decl.face.metaclass) r.2 ∙ e) in
      subst (IsAmong cs) q.2 (among_at cs q.0 q.1)

  -- no metaclass descends from a declared class that isn't known
  pub none_declares : (x k : ClassKey) → IsDeclared k → Finds (length cs) cs k None → is_a cs (meta cs x) k ≡ false
  none_declares x k dec f = not_true (is_a cs (meta cs x) k) (λ e.
      let d = (descends_test (hierarchy cs) known.tells known.falls (meta cs x) k).0 e in
      let am : IsAmong cs k = elim ((meta_law cs known x k dec).0 d) [
        | inl r ↦ descends_known cs known som_class k r (subst (IsAmong cs) root.1 (among_at cs 1 root.0))
        | inr w ↦ descends_known cs known w.metaclass k w.below (metaclass_known w.class w.metaclass w.there w.declared)
      ] in
      let p = among_place cs k am in
      f p.0 p.1 p.1 p.2)

  pub place_declared : (p : ℕ) → p < length cs → IsDeclared (key_at cs p)
  place_declared p lt = let r = known.named p lt in record { module_ = _; name = r.0; is = r.1 }

  module _ (rows : List Row) (are : AreRows cs rows) where
    row_metaclass : (p m : ℕ) → p < length cs → (slice_index_or rows p none_row).metaclass ≡ Some m → (m < length cs) × ((face_at cs p).metaclass ≡ Some (key_at cs m))
    row_metaclass p m lt e =
        let r = are.by p none_row lt in
        (subst (IsWithin cs) e r.within, sym r.metaclass ∙ ap (key_of cs) e)

    metaclass_row : (p : ℕ) (k : ClassKey) → p < length cs → (face_at cs p).metaclass ≡ Some k → (m : ℕ) × ((slice_index_or rows p none_row).metaclass ≡ Some m) × (m < length cs) × (key_at cs m ≡ k)
    metaclass_row p k lt e = by (slice_index_or rows p none_row).metaclass refl
      where
        by : (o : Option ℕ) → (slice_index_or rows p none_row).metaclass ≡ o → (m : ℕ) × ((slice_index_or rows p none_row).metaclass ≡ Some m) × (m < length cs) × (key_at cs m ≡ k)
        by None f = let r = are.by p none_row lt in let g : key_of cs None ≡ Some k = ap (key_of cs) (sym f) ∙ r.metaclass ∙ e in absurd (cc)
        by (Some m) f = let r = row_metaclass p m lt f in let g : Some (key_at cs m) ≡ Some k = sym r.1 ∙ e in (m, f, r.0, cc)

    -- K6 by marks
    pub declares_is : (x : ClassKey) (top : ℕ) (marks below : List Bool) → top < length cs → AreAbove cs x marks → ((k : ℕ) → k < length rows → Marked below k ↔ Above rows k top)
        → (slice_index_or below 1 false || some_declares 0 rows marks below) ≡ is_a cs (meta cs x) (key_at cs top)
    declares_is x top marks below lt above is =
        let dec = place_declared top lt in
        let law = meta_law cs known x (key_at cs top) dec in
        let test = descends_test (hierarchy cs) known.tells known.falls (meta cs x) (key_at cs top) in
        both_or_none (slice_index_or below 1 false || some_declares 0 rows marks below) (is_a cs (meta cs x) (key_at cs top))
        (λ e. test.1 (law.1 (to_law e)))
        (λ e. of_law (law.0 (test.0 e)))
      where
        in_rows : (p : ℕ) → p < length cs → p < length rows
        in_rows p l = omega (arith, are.long, l)

        below_one : (m : ℕ) → m < length cs → Descends (hierarchy cs) (key_at cs m) (key_at cs top) → Marked below m
        below_one m l d = (is m (in_rows m l)).1 ((above_is cs known rows are m top l lt).0 ((descends_test (hierarchy cs) known.tells known.falls (key_at cs m) (key_at cs top)).1 d))

        one_below : (m : ℕ) → m < length cs → Marked below m → Descends (hierarchy cs) (key_at cs m) (key_at cs top)
        one_below m l b = above_keys cs known rows are m top l ((is m (in_rows m l)).0 b)

        to_law : (slice_index_or below 1 false || some_declares 0 rows marks below) ≡ true → Descends (hierarchy cs) som_class (key_at cs top) ⊎ Declares cs x (key_at cs top)
        to_law e = elim (or_cases (slice_index_or below 1 false) (some_declares 0 rows marks below) e) [
          | inl f ↦ inl (subst (λ z. Descends (hierarchy cs) z (key_at cs top)) root.1 (one_below 1 root.0 f))
          | inr f ↦ (let d = one_declares 0 rows marks below f in
              let at : d.place + 0 ≡ d.place = omega arith in
              let lp : d.place < length cs = omega (arith, are.long, d.within) in
              let m = row_metaclass d.place d.metaclass lp d.is in
              let marked : Marked marks d.place = subst (λ (z : ℕ). Marked marks z) at d.marked in
              inr (record {
                class = class_of_place cs d.place;
                there = mem_place cs d.place lp;
                above = (descends_test (hierarchy cs) known.tells known.falls x (key_at cs d.place)).0 (sym (above.by d.place lp) ∙ marked);
                metaclass = key_at cs d.metaclass;
                declared = m.1;
                below = one_below d.metaclass m.0 d.below_it;
              }))
        ]

        of_law : Descends (hierarchy cs) som_class (key_at cs top) ⊎ Declares cs x (key_at cs top) → (slice_index_or below 1 false || some_declares 0 rows marks below) ≡ true
        of_law (inl r) = or_left _ _ (below_one 1 root.0 (subst (λ z. Descends (hierarchy cs) z (key_at cs top)) (sym root.1) r))
        of_law (inr d) =
            let r = mem_there cs d.class d.there in
            let key : key_at cs r.0 ≡ d.class.key = ap (λ (c : Class). c.key) r.2 in
            let m = metaclass_row r.0 d.metaclass r.1 (ap (λ (c : Class). c.decl.face.metaclass) r.2 ∙ d.declared) in
            let at : r.0 ≡ r.0 + 0 = omega arith in
            let marked : Marked marks r.0 = above.by r.0 r.1 ∙ (descends_test (hierarchy cs) known.tells known.falls x (key_at cs r.0)).1 (subst (λ z. Descends (hierarchy cs) x z) (sym key) d.above) in
            or_right _ _ (declares_one 0 r.0 m.0 rows marks below (in_rows r.0 r.1) (subst (λ (z : ℕ). Marked marks z) at marked) m.1
            (below_one m.0 m.2 (subst (λ z. Descends (hierarchy cs) z (key_at cs top)) (sym m.3) d.below)))

-- what K6 says of one declared metaclass
pub k6_none : (cs : List Class) (c : Class) → c.decl.face.metaclass ≡ None → first (k6 cs c) ≡ None
k6_none cs c e = rw e refl

pub k6_kept : (cs : List Class) (c : Class) (k : ClassKey) → c.decl.face.metaclass ≡ Some k → is_a cs (meta cs c.key) k ≡ true → first (k6 cs c) ≡ None
k6_kept cs c k e f = rw e (rw f refl)

pub k6_lost : (cs : List Class) (c : Class) (k : ClassKey) (o : Option (List ℕ)) → c.decl.face.metaclass ≡ Some k → is_a cs (meta cs c.key) k ≡ false → o ≡ declared_name k → first (k6 cs c) ≡ Some (incompatible 6 c o 0)
k6_lost cs c k o e f g = rw e (rw f (ap (λ z. Some (incompatible 6 c z 0)) (sym g)))
