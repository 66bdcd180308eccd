-- The rules for one class, one after the other.
use Rattle.std.proofs.Common.{◌≡◌, ℕ, zero, suc, ◌+◌, ◌-◌, ◌<◌, ◌≤◌, inl, inr, Bool, true, false, if◌then◌else◌, List, [], ◌∷◌, ◌++◌, drop, map, flat_map, length, Option, Some, None, slice_get, slice_index_or, refl, sym, ap, ◌∙◌, subst, arith}
use Rattle.std.specs.Str.{bytes_eq}
use Rattle.std.proofs.lemmas.Bool.{cases_lt}
use Rattle.som_model.specs.declared.key.Module.TheVariants as modules
use Rattle.som_model.specs.declared.key.ClassKey.{ClassKey}
use Rattle.som_model.specs.declared.key.ClassKey.TheVariants as keys
use Rattle.som_model.specs.declared.class.Entry.{Entry}
use Rattle.som_model.specs.declared.class.ClassFace.{ClassFace}
use Rattle.som_model.specs.declared.program.Interface.{Interface}
use Rattle.som_model.specs.Lists.{Mem, first}
use Rattle.som_model.specs.Ancestors.{Descends}
use Rattle.som_model.specs.Class.{Class, entry_name}
use Rattle.som_model.specs.Classes.{class_at, hierarchy, ancestors, is_a}
use Rattle.som_model.specs.Compatible.{CompatBreach, incompatible, order_of, first_changed, k2, k3, k4, k5, k6, class_breaks, first_break}
use Rattle.som_model_laws.proofs.Laws.{descends_test}
use Rattle.som_model_laws.proofs.CompareLists.{none_fails}
use Rattle.som_order.specs.Names.{name_at}
use Rattle.som_order.specs.Difference.{first_difference}
use Rattle.som_verify_classes.specs.Places.{class_of_place, key_at}
use Rattle.som_verify_classes.specs.Plainly.{IsAmong}
use Rattle.som_compat.specs.Conditions.{IsCounted, Conforms}
use Rattle.som_compat.specs.Finding.{FindsName, face_names}
use Rattle.som_compat.specs.Metaclasses.{IsDeclared}
use Rattle.som_compat.specs.Views.{shown, interface, classes_of, IsShown}
use Rattle.som_compat.specs.Marks.{AreAbove}
use Rattle.som_compat.proofs.Plain.{map_empty, class_keeps}
use Rattle.som_compat.proofs.Placed.{shown_at, name_here, long_classes, library_missing}
use Rattle.som_compat.proofs.Transitive.{kernel_same}
use Rattle.som_compat.proofs.Viewing.{known_of, among_at, unknown}
use Rattle.som_compat.proofs.Fronts.{ancestor_is}
use Rattle.som_compat.proofs.Declaring.{place_declared}

-- K4 by the first difference
strayed_none : (n : ℕ) (olds news : List (List ℕ)) → first_difference n olds news ≡ None → first_changed n olds news ≡ []
strayed_none n [] news e = refl
strayed_none n (x ∷ olds) [] e = absurd (cc)
strayed_none n (x ∷ olds) (y ∷ news) e = by (bytes_eq x y) e (strayed_none (n + 1) olds news)
  where
    by : (b : Bool) → (if b then first_difference (n + 1) olds news else Some n) ≡ None → (first_difference (n + 1) olds news ≡ None → first_changed (n + 1) olds news ≡ []) → (if b then first_changed (n + 1) olds news else (x, n) ∷ []) ≡ []
    by true e f = f e
    by false e f = absurd (cc)

abbrev Strays : ℕ → ℕ → List (List ℕ) → List (List ℕ × ℕ) → Type 0
Strays n p olds found = (n ≤ p) × ((x : List ℕ) × (found ≡ (x, p) ∷ []) × (slice_get olds (p - n) ≡ Some x))

strayed_by : (n p : ℕ) (x y : List ℕ) (olds news : List (List ℕ)) (b : Bool) → (if b then first_difference (n + 1) olds news else Some n) ≡ Some p
    → (first_difference (n + 1) olds news ≡ Some p → Strays (n + 1) p olds (first_changed (n + 1) olds news)) → Strays n p (x ∷ olds) (if b then first_changed (n + 1) olds news else (x, n) ∷ [])
strayed_by n p x y olds news true e f =
    let r = f e in
    let at : p - n ≡ suc (p - (n + 1)) = omega (arith, r.0) in
    (omega (arith, r.0), (r.1.0, r.1.1, rw at r.1.2))
strayed_by n p x y olds news false e f =
    let same : n ≡ p = cc in
    let at : p - n ≡ 0 = omega arith in
    (omega arith, (x, ap (λ (z : ℕ). (x, z) ∷ []) same, rw at refl))

strayed_some : (n p : ℕ) (olds news : List (List ℕ)) → first_difference n olds news ≡ Some p → Strays n p olds (first_changed n olds news)
strayed_some n p [] news e = absurd (cc)
strayed_some n p (x ∷ olds) [] e =
    let same : n ≡ p = cc in
    let at : p - n ≡ 0 = omega arith in
    (omega arith, (x, ap (λ (z : ℕ). (x, z) ∷ []) same, rw at refl))
strayed_some n p (x ∷ olds) (y ∷ news) e = strayed_by n p x y olds news (bytes_eq x y) e (strayed_some (n + 1) p olds news)

pub k4_none : (c n : Class) → first_difference 0 (order_of c) (order_of n) ≡ None → first (k4 c n) ≡ None
k4_none c n e = ap (λ z. first (map (λ p. incompatible 4 c (Some p.0) p.1) z)) (strayed_none 0 (order_of c) (order_of n) e)

pub k4_some : (c n : Class) (p : ℕ) (o : Option (List ℕ)) → first_difference 0 (order_of c) (order_of n) ≡ Some p → o ≡ slice_get (order_of c) p → first (k4 c n) ≡ Some (incompatible 4 c o p)
k4_some c n p o e f =
    let r = (strayed_some 0 p (order_of c) (order_of n) e).1 in
    let at : p - 0 ≡ p = omega arith in
    let name : o ≡ Some r.0 = f ∙ ap (slice_get (order_of c)) (sym at) ∙ r.2 in
    ap (λ z. first (map (λ p. incompatible 4 c (Some p.0) p.1) z)) r.1 ∙ ap (λ z. Some (incompatible 4 c z p)) (sym name)

pub get_name : (es : List Entry) (p : ℕ) (e : Entry) → slice_get es p ≡ Some e → slice_get (map entry_name es) p ≡ Some (entry_name e)
get_name [] p e at = absurd (cc)
get_name (x ∷ es) zero e at = let same : x ≡ e = cc in ap (λ z. Some (entry_name z)) same
get_name (x ∷ es) (suc p) e at = get_name es p e at

pub get_none : (es : List Entry) (p : ℕ) → slice_get es p ≡ None → slice_get (map entry_name es) p ≡ None
get_none [] p at = refl
get_none (x ∷ es) zero at = absurd (cc)
get_none (x ∷ es) (suc p) at = get_none es p at

-- lists that are joined
pub passes : {A : Type 0} (xs ys : List A) (r : Option A) → None ≡ first xs → r ≡ first ys → r ≡ first (xs ++ ys)
passes [] ys r e f = f
passes (x ∷ xs) ys r e f = absurd (cc)

pub stops : {A : Type 0} (xs ys : List A) (b : A) → Some b ≡ first xs → Some b ≡ first (xs ++ ys)
stops [] ys b e = absurd (cc)
stops (x ∷ xs) ys b e = e

pub default_same : {A : Type 0} (xs : List A) (i : ℕ) (d e : A) → i < length xs → slice_index_or xs i d ≡ slice_index_or xs i e
default_same [] i d e lt = absurd (omega arith)
default_same (x ∷ xs) zero d e lt = refl
default_same (x ∷ xs) (suc i) d e lt = default_same xs i d e (omega arith)

pub step_list : (F : Class → List CompatBreach) (xs : List ClassFace) (i : ℕ) (x : ClassFace) → i < length xs → ((d : ClassFace) → slice_index_or xs i d ≡ x)
    → flat_map F (map shown (drop i xs)) ≡ F (shown x) ++ flat_map F (map shown (drop (i + 1) xs))
step_list F [] i x lt is = absurd (omega arith)
step_list F (y ∷ ys) zero x lt is = ap (λ (z : ClassFace). F (shown z) ++ flat_map F (map shown ys)) (is x)
step_list F (y ∷ ys) (suc i) x lt is = let e : suc i + 1 ≡ suc (i + 1) = omega arith in rw e (step_list F ys i x (omega arith) is)

-- a class of the old and its pair
module _ (olds news : List ClassFace) (old_ok : Conforms (interface olds)) (new_ok : Conforms (interface news)) (f : ClassFace) where
  abbrev O : List Class
  O = classes_of olds

  abbrev N : List Class
  N = classes_of news

  pub old_there : (place : ℕ) → place < length olds → ((d : ClassFace) → slice_index_or olds place d ≡ f) → (place + 4 < length O) × (class_of_place O (place + 4) ≡ shown f)
  old_there place lt is = let e = long_classes olds in (omega (arith, e, lt), shown_at olds place f lt ∙ ap shown (is f))

  pub counted_old : (place : ℕ) → place < length olds → ((d : ClassFace) → slice_index_or olds place d ≡ f) → IsCounted f
  counted_old place lt is = subst IsCounted (is f) (old_ok.counts place f lt)

  pub pair_of : (place other : ℕ) (g : ClassFace) → place < length olds → ((d : ClassFace) → slice_index_or olds place d ≡ f) → other < length news → class_of_place N (other + 4) ≡ shown g → name_at (face_names news) other ≡ f.name
      → IsShown olds news f g
  pair_of place other g lt is lo new name =
      let o = old_there place lt is in
      let e = long_classes news in
      let g_is : slice_index_or news other g ≡ g = ap (λ (c : Class). c.decl.face) (sym (shown_at news other g lo) ∙ new) in
      let g_name : g.name ≡ f.name = ap (λ (z : ClassFace). z.name) (sym g_is) ∙ sym (name_here news other g lo) ∙ name in
      record { place = place + 4; within = o.0; old_one = o.1; other = other + 4; other_within = omega (arith, e, lo); new_one = new; same = ap (λ z. keys.Named modules.Library z) g_name }

  pub among_new : (g : ClassFace) → IsShown olds news f g → IsAmong N (shown f).key
  among_new g p = subst (IsAmong N) (ap (λ (c : Class). c.key) p.new_one ∙ p.same) (among_at N p.other p.other_within)

  pub marks_new : (g : ClassFace) → IsShown olds news f g → (q : ℕ) (marks : List Bool) → class_of_place N q ≡ shown g → AreAbove N (key_at N q) marks → AreAbove N (shown f).key marks
  marks_new g p q marks is a = subst (λ z. AreAbove N z marks) (ap (λ (c : Class). c.key) is ∙ p.same) a

  pub declared_old : (place : ℕ) → place < length olds → ((d : ClassFace) → slice_index_or olds place d ≡ f) → (k : ClassKey) → f.metaclass ≡ Some k → IsDeclared k
  declared_old place lt is k e =
      let o = old_there place lt is in
      let ko = known_of olds old_ok in
      let r = ko.metaclass (place + 4) k o.0 (ap (λ (c : Class). c.decl.face.metaclass) o.1 ∙ e) in
      subst IsDeclared r.2 (place_declared O ko r.0 r.1)

  found_new : (g : ClassFace) (p : IsShown olds news f g) → class_at N (shown f).key ≡ Some (shown g)
  found_new g p =
      let kn = known_of news new_ok in
      ap (class_at N) (sym (ap (λ (c : Class). c.key) p.new_one ∙ p.same)) ∙ kn.found p.other p.other_within ∙ ap (λ z. Some z) p.new_one

  abbrev breaks_at : Class → Option Class → List CompatBreach
  breaks_at c o = elim o [ None ↦ incompatible 1 c None 0 ∷ [] | Some n ↦ k2 c n ++ (k3 O N c ++ (k4 c n ++ (k5 O N c ++ k6 N c))) ]

  pub breaks_found : (g : ClassFace) → IsShown olds news f g
      → class_breaks O N (shown f) ≡ k2 (shown f) (shown g) ++ (k3 O N (shown f) ++ (k4 (shown f) (shown g) ++ (k5 O N (shown f) ++ k6 N (shown f))))
  breaks_found g p = ap (breaks_at (shown f)) (found_new g p)

  pub breaks_missing : FindsName (face_names news) f.name None → class_breaks O N (shown f) ≡ incompatible 1 (shown f) None 0 ∷ []
  breaks_missing m = ap (breaks_at (shown f)) (unknown N (known_of news new_ok) (shown f).key (library_missing news f.name m))

  three_of : (c : Class) → first (class_breaks O N c) ≡ None → first (k3 O N c) ≡ None
  unfolding classes_of
  three_of c e = (class_keeps (interface olds) (interface news) old_ok new_ok c (class_at N c.key) refl e).three

  -- K3 holds for the parents of a class, where the rules hold for the classes before it
  pub earlier_hold : (place : ℕ) → place < length olds → ((d : ClassFace) → slice_index_or olds place d ≡ f)
      → ((i : ℕ) (d : ClassFace) → i < place → first (class_breaks O N (shown (slice_index_or olds i d))) ≡ None)
      → (p a : ClassKey) → Mem p f.parents → Mem a (ancestors O p) → Mem a (ancestors N p)
  earlier_hold place lt is before p a m in_old =
      let ko = known_of olds old_ok in
      let kn = known_of news new_ok in
      let o = old_there place lt is in
      let s = ko.stand (place + 4) p o.0 (subst (λ (c : Class). Mem p c.decl.face.parents) (sym o.1) m) in
      elim (cases_lt s.0 4) [
        | inl low ↦ (ancestor_is N kn p a).1 (kernel_same O N ko kn p a s.0 low s.2 ((ancestor_is O ko p a).0 in_old))
        | inr ge ↦ (
            let i = s.0 - 4 in
            let at : s.0 - 4 + 4 ≡ s.0 = omega (arith, ge) in
            let less : s.0 - 4 < place = omega (arith, ge, s.1) in
            let within : s.0 - 4 < length olds = omega (arith, less, lt) in
            let g = slice_index_or olds (s.0 - 4) f in
            let key : (shown g).key ≡ p = ap (λ (c : Class). c.key) (sym (shown_at olds (s.0 - 4) f within)) ∙ ap (key_at O) at ∙ s.2 in
            let three = three_of (shown g) (before (s.0 - 4) f less) in
            let test = none_fails (is_a N (shown g).key) 0 (ancestors O (shown g).key) (map_empty _ _ three) a (subst (λ z. Mem a (ancestors O z)) (sym key) in_old) in
            (ancestor_is N kn p a).1 (subst (λ z. Descends (hierarchy N) z a) key ((descends_test (hierarchy N) kn.tells kn.falls (shown g).key a).0 test)))
      ]

-- what a newer interface breaks first, by the faces
pub break_is : (old new : Interface) (olds news : List ClassFace) → olds ≡ old.classes → news ≡ new.classes
    → first (flat_map (class_breaks (classes_of olds) (classes_of news)) (map shown olds)) ≡ first_break old new
unfolding classes_of
break_is old new olds news e f = ap (λ z. first (flat_map (class_breaks (classes_of z) (classes_of news)) (map shown z))) e ∙ ap (λ z. first (flat_map (class_breaks (classes_of old.classes) (classes_of z)) (map shown old.classes))) f

drop_all : {A : Type 0} (xs : List A) (i : ℕ) → length xs ≤ i → drop i xs ≡ []
drop_all [] zero le = refl
drop_all [] (suc i) le = refl
drop_all (x ∷ xs) zero le = absurd (omega arith)
drop_all (x ∷ xs) (suc i) le = drop_all xs i (omega arith)

pub at_end : (F : Class → List CompatBreach) (xs : List ClassFace) (i : ℕ) → length xs ≤ i → None ≡ first (flat_map F (map shown (drop i xs)))
at_end F xs i le = ap (λ z. first (flat_map F (map shown z))) (sym (drop_all xs i le))
