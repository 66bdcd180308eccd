-- Classes of an interface and their entries, by what is known of their places.
use Rattle.std.proofs.Common.{◌≡◌, ℕ, zero, suc, ◌+◌, ◌-◌, ◌<◌, ◌≤◌, ◌++◌, ◌&&◌, Bool, true, false, if◌then◌else◌, List, [], ◌∷◌, map, length, slice_get, slice_index_or, Option, Some, None, refl, sym, ap, ◌∙◌, subst, arith}
use Rattle.std.proofs.lemmas.List.{length-map}
use Rattle.std.specs.Prelude.{is_some, unwrap_or}
use Rattle.som_model.specs.declared.key.Module.{Module}
use Rattle.som_model.specs.declared.key.Module.TheVariants as modules
use Rattle.som_model.specs.declared.class.ClassFace.{ClassFace}
use Rattle.som_model.specs.declared.key.ClassKey.{ClassKey}
use Rattle.som_model.specs.declared.key.ClassKey.TheVariants as keys
use Rattle.som_model.specs.declared.key.ValueType.TheVariants as types
use Rattle.som_model.specs.declared.class.Entry.{Entry}
use Rattle.som_model.specs.Ancestors.{anc_within}
use Rattle.som_model.specs.Class.{Class, entry_of}
use Rattle.som_model.specs.Classes.{ancestors, class_at, hierarchy, is_a}
use Rattle.som_model.specs.Keys.{same_key}
use Rattle.som_model.specs.Kernel.{kernel, kernel_interface, som_class}
use Rattle.som_model.specs.Lists.{find, place_from}
use Rattle.som_model.specs.Owner.{entry_at}
use Rattle.som_model.proofs.NamedLaws.{height_named}
use Rattle.som_order.specs.Names.{texts}
use Rattle.som_verify_classes.specs.declared.types.Declared.{Declared}
use Rattle.som_verify_classes.specs.Modules.{class_of, classes_of}
use Rattle.som_verify_classes.specs.Places.{class_of_place, face_at, key_at}
use Rattle.som_verify_classes.specs.Walk.{AreLists}
use Rattle.som_verify_classes.proofs.Owners.{entry_there, entry_unknown}
use Rattle.som_verify_forms.specs.declared.knowledge.Knowledge.{Knowledge}
use Rattle.som_verify_forms.specs.Knowing.{IsKnowledge, all_of, facts_of}
use Rattle.som_verify_forms.proofs.Facts.{known_said}
use Rattle.som_witness.specs.Showings.{fits_among, metaclass_in}

not_there : (o : Option Class) → false ≡ is_some o → o ≡ None
not_there None e = refl
not_there (Some c) e = absurd (cc)

module _ (known : Knowledge) (is : IsKnowledge known) where
  abbrev cs : List Class
  cs = all_of known

  -- a class that isn't known
  pub no_class : (k : ClassKey) → false ≡ (facts_of known).is_known k → class_at cs k ≡ None
  no_class k e = not_there (class_at cs k) (e ∙ known_said cs k)

  pub no_entry : (k : ClassKey) (name : List ℕ) → false ≡ (facts_of known).is_known k → entry_at cs k name ≡ None
  no_entry k name e = entry_unknown cs k name (no_class k e)

  -- a class that is known, by its place
  pub class_there : (k : ClassKey) (p : ℕ) → p < length cs → key_at cs p ≡ k → class_at cs k ≡ Some (class_of_place cs p)
  class_there k p lt e = subst (λ z. class_at cs z ≡ Some (class_of_place cs p)) e (is.lists.found p lt)

  pub entry_is : (k : ClassKey) (name : List ℕ) (p : ℕ) → p < length cs → key_at cs p ≡ k → entry_of (face_at cs p).entries name ≡ entry_at cs k name
  entry_is k name p lt e = sym (entry_there (classes_of known.classes.now) (texts known.table.now.keys) is.table p name lt) ∙ ap (λ z. entry_at cs z name) e

  pub metaclass_there : (k : ClassKey) (p : ℕ) → p < length cs → key_at cs p ≡ k → unwrap_or (face_at cs p).metaclass som_class ≡ metaclass_in (class_at cs k)
  metaclass_there k p lt e = ap metaclass_in (sym (class_there k p lt e))

  pub metaclass_unknown : (k : ClassKey) → false ≡ (facts_of known).is_known k → som_class ≡ metaclass_in (class_at cs k)
  metaclass_unknown k e = ap metaclass_in (sym (no_class k e))

  -- descent from a class at a place
  pub below_there : (k : ClassKey) (low high : ℕ) → key_at cs low ≡ k → true ≡ (facts_of known).is_known k → is_a cs (key_at cs low) (key_at cs high) ≡ (is_some (class_at cs k) && is_a cs k (key_at cs high))
  below_there k low high e f = ap (λ z. is_a cs z (key_at cs high)) e ∙ ap (λ b. b && is_a cs k (key_at cs high)) (f ∙ known_said cs k)

  pub none_below : (k : ClassKey) (high : ℕ) → false ≡ (facts_of known).is_known k → false ≡ (is_some (class_at cs k) && is_a cs k (key_at cs high))
  none_below k high f = ap (λ b. b && is_a cs k (key_at cs high)) (f ∙ known_said cs k)

  pub fits_there : (a k : ClassKey) (high : ℕ) → key_at cs high ≡ a → true ≡ (facts_of known).is_known a → (is_some (class_at cs k) && is_a cs k (key_at cs high)) ≡ fits_among cs (types.Class a) (types.Class k)
  fits_there a k high e f = ap (λ z. is_some (class_at cs k) && is_a cs k z) e ∙ ap (λ b. b && (is_some (class_at cs k) && is_a cs k a)) (f ∙ known_said cs a)

  pub none_fits : (a k : ClassKey) → false ≡ (facts_of known).is_known a → false ≡ fits_among cs (types.Class a) (types.Class k)
  none_fits a k f = ap (λ b. b && (is_some (class_at cs k) && is_a cs k a)) (f ∙ known_said cs a)

-- ---- ancestors

at_place : (f : ℕ → ClassKey) (ns : List ℕ) (place : ℕ) (o : Option ℕ) → slice_get ns place ≡ o → slice_get (map f ns) place ≡ (elim o [ None ↦ None | Some n ↦ Some (f n) ])
at_place f [] place None e = refl
at_place f [] place (Some n) e = absurd (cc)
at_place f (m ∷ ns) zero None e = absurd (cc)
at_place f (m ∷ ns) zero (Some n) e = let same : m ≡ n = cc in ap (λ z. Some (f z)) same
at_place f (m ∷ ns) (suc place) o e = at_place f ns place o e

module _ (cs : List Class) (lists : List (List ℕ)) (l : AreLists cs lists) (k : ClassKey) (own : ℕ) (lt : own < length cs) (is : key_at cs own ≡ k) (place : ℕ) where
  ancestors_are : map (key_at cs) (slice_index_or lists own []) ≡ ancestors cs k
  ancestors_are = l.by own lt ∙ ap (ancestors cs) is

  pub ancestor_there : (n : ℕ) → slice_get (slice_index_or lists own []) place ≡ Some n → key_at cs n ≡ unwrap_or (slice_get (ancestors cs k) place) k
  ancestor_there n e = ap (λ z. unwrap_or z k) (sym (at_place (key_at cs) (slice_index_or lists own []) place (Some n) e)) ∙ ap (λ z. unwrap_or (slice_get z place) k) ancestors_are

  pub no_ancestor : slice_get (slice_index_or lists own []) place ≡ None → k ≡ unwrap_or (slice_get (ancestors cs k) place) k
  no_ancestor e = ap (λ z. unwrap_or z k) (sym (at_place (key_at cs) (slice_index_or lists own []) place None e)) ∙ ap (λ z. unwrap_or (slice_get z place) k) ancestors_are

no_place_by : (x : Class) (n : ℕ) (o : Option Class) (p : Option ℕ) (b : Bool) → (o ≡ None → p ≡ None) → (if b then Some x else o) ≡ None → (if b then Some n else p) ≡ None
no_place_by x n o p true more e = absurd (cc)
no_place_by x n o p false more e = more e

no_place : (test : Class → Bool) (n : ℕ) (xs : List Class) → find test xs ≡ None → place_from n test xs ≡ None
no_place test n [] e = refl
no_place test n (x ∷ xs) e = no_place_by x n (find test xs) (place_from (suc n) test xs) (test x) (no_place test (suc n) xs) e

-- a class that isn't known has no ancestor but itself
alone : (cs : List Class) (m : Module) (name : List ℕ) → class_at cs (keys.Named m name) ≡ None → ancestors cs (keys.Named m name) ≡ keys.Named m name ∷ []
alone cs m name e =
    let k = keys.Named m name in
    let zero_is : (hierarchy cs).height k ≡ 0 = height_named cs m name ∙ ap (λ z. unwrap_or z 0) (no_place (λ (c : Class). same_key c.key k) 1 cs e) in
    ap (λ n. anc_within (hierarchy cs) n k) zero_is

itself_alone : (k : ClassKey) (place : ℕ) → k ≡ unwrap_or (slice_get (k ∷ []) place) k
itself_alone k zero = refl
itself_alone k (suc place) = refl

pub ancestor_unknown : (cs : List Class) (m : Module) (name : List ℕ) (place : ℕ) → class_at cs (keys.Named m name) ≡ None
    → keys.Named m name ≡ unwrap_or (slice_get (ancestors cs (keys.Named m name)) place) (keys.Named m name)
ancestor_unknown cs m name place e = itself_alone (keys.Named m name) place ∙ ap (λ z. unwrap_or (slice_get z place) (keys.Named m name)) (sym (alone cs m name e))

-- ---- keys by places

-- a class of the kernel
pub kernel_key_at : (fs : List ClassFace) (cs : List Class) (p : ℕ) (d : ClassFace) → fs ≡ kernel_interface.classes → p < 4 → keys.Named modules.Kernel (slice_index_or fs p d).name ≡ key_at (kernel ++ cs) p
kernel_key_at fs cs p d e lt = ap (λ (z : List ClassFace). keys.Named modules.Kernel (slice_index_or z p d).name) e ∙ by p lt
  where
    by : (p : ℕ) → p < 4 → keys.Named modules.Kernel (slice_index_or kernel_interface.classes p d).name ≡ key_at (kernel ++ cs) p
    by zero lt = refl
    by (suc zero) lt = refl
    by (suc (suc zero)) lt = refl
    by (suc (suc (suc zero))) lt = refl
    by (suc (suc (suc (suc p)))) lt = absurd (omega (arith, lt))

past_kernel : (ds : List Declared) (q : ℕ) (d : Declared) → q < length ds → class_of (slice_index_or ds q d) ≡ class_of_place (classes_of ds) q
past_kernel [] q d lt = absurd (omega (arith, lt))
past_kernel (x ∷ ds) zero d lt = refl
past_kernel (x ∷ ds) (suc q) d lt = past_kernel ds q d (omega (arith, lt))

-- a declared one
pub declared_key_at : (ds : List Declared) (p : ℕ) (d : Declared) → 4 ≤ p → p < length (kernel ++ classes_of ds) → (class_of (slice_index_or ds (p - 4) d)).key ≡ key_at (kernel ++ classes_of ds) p
declared_key_at ds p d le lt =
    let e : p ≡ suc (suc (suc (suc (p - 4)))) = omega (arith, le) in
    let within : p - 4 < length ds = omega (arith, le, lt, length-map ds class_of) in
    ap (λ (c : Class). c.key) (past_kernel ds (p - 4) d within) ∙ ap (λ z. key_at (kernel ++ classes_of ds) z) (sym e)
