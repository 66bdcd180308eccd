-- What is known of the classes of an interface that conforms.
use Rattle.std.proofs.Common.{◌≡◌, ℕ, zero, suc, ◌<◌, ◌≤◌, ◌⊎◌, inl, inr, Bool, true, false, List, [], ◌∷◌, ◌++◌, map, length, take, Some, slice_get, slice_index_or, refl, sym, ap, ◌∙◌, subst, arith, true≢false}
use Rattle.std.specs.Str.{bytes_eq}
use Rattle.som_model.specs.declared.key.Module.TheVariants as modules
use Rattle.som_model.specs.declared.key.ClassKey.{ClassKey}
use Rattle.som_model.specs.declared.key.ClassKey.TheVariants as keys
use Rattle.som_model.specs.declared.class.Entry.{Entry}
use Rattle.som_model.specs.declared.class.Entry.TheVariants as entries
use Rattle.som_model.specs.declared.class.ClassFace.{ClassFace}
use Rattle.som_model.specs.declared.class.ClassDecl.{ClassDecl}
use Rattle.som_model.specs.declared.program.Interface.{Interface}
use Rattle.som_model.specs.Lists.{Mem, every}
use Rattle.som_model.specs.Hierarchy.{Falls, Tells}
use Rattle.som_model.specs.Class.{Class, bare, entry_name}
use Rattle.som_model.specs.Classes.{class_at, hierarchy, parents_of, parents_in}
use Rattle.som_model.specs.Kernel.{kernel}
use Rattle.som_model.specs.Compatible.{release_of}
use Rattle.som_model.specs.Rules.{name_of}
use Rattle.som_model.proofs.KeyLaws.{exact_bytes, exact_keys}
use Rattle.som_model.proofs.NamedLaws.{hierarchy_parents, hierarchy_same, parents_named}
use Rattle.som_model_laws.proofs.Members.{mem_left, mem_right, mem_split}
use Rattle.som_model_laws.proofs.Lists.{every_mem}
use Rattle.som_verify_classes.specs.Told.{of_library, of_release}
use Rattle.som_verify_classes.specs.Places.{all_classes, class_of_place, key_at, face_at, module_at, IsTable}
use Rattle.som_verify_classes.specs.Standing.{kernel_rows}
use Rattle.som_verify_classes.specs.Plainly.{IsAmong, Introduces, Differ, FacesHold}
use Rattle.som_verify_classes.specs.Modules.{AreDeclared}
use Rattle.som_verify_classes.proofs.DeclaredClasses.{map_declared}
use Rattle.som_verify_classes.proofs.Finding.{key_named}
use Rattle.som_verify_classes.proofs.KeyLists.{keys_once, class_there, height_there}
use Rattle.som_verify_classes.proofs.Falling.{mem_there, falls}
use Rattle.som_verify_classes.proofs.Rows.{kernel_low, kernel_by}
use Rattle.som_verify_classes.proofs.ClassTable.{is_table}
use Rattle.som_verify_classes.proofs.PlainLists.{map_mem, apart_by, apart_differ}
use Rattle.som_verify_classes.proofs.PlainNames.{say_names}
use Rattle.som_verify_classes.proofs.PlainWhole.{faces_say}
use Rattle.som_compat.specs.Conditions.{IsCounted, Conforms}
use Rattle.som_compat.specs.Views.{shown}

-- the classes of an interface, by their places
pub record IsKnown (cs : List Class) : Type 0 where
  pub falls : Falls (hierarchy cs)
  pub tells : Tells (hierarchy cs)
  pub once : (p q : ℕ) → p < length cs → q < length cs → key_at cs p ≡ key_at cs q → p ≡ q
  pub found : (p : ℕ) → p < length cs → class_at cs (key_at cs p) ≡ Some (class_of_place cs p)
  pub height : (p : ℕ) → p < length cs → (hierarchy cs).height (key_at cs p) ≡ suc p
  pub parents : (p : ℕ) → p < length cs → (hierarchy cs).parents (key_at cs p) ≡ (face_at cs p).parents
  pub named : (p : ℕ) → p < length cs → (x : List ℕ) × (key_at cs p ≡ keys.Named (module_at cs p) x)
  pub stand : (p : ℕ) (k : ClassKey) → p < length cs → Mem k (face_at cs p).parents → (q : ℕ) × (q < p) × (key_at cs q ≡ k)
  pub metaclass : (p : ℕ) (k : ClassKey) → p < length cs → (face_at cs p).metaclass ≡ Some k → (q : ℕ) × (q < length cs) × (key_at cs q ≡ k)
  pub differ : (p : ℕ) → p < length cs → Differ entry_name (face_at cs p).entries
  pub moved : (p : ℕ) (name : List ℕ) (to : ClassKey) → p < length cs → Mem (entries.Moved name to) (face_at cs p).entries → Introduces cs to name
  pub kernel : (p : ℕ) → p < 4 → (p < length cs) × (class_of_place cs p ≡ class_of_place kernel p)
  pub some : (p : ℕ) → p < length cs → 4 ≤ p → 1 ≤ length (face_at cs p).parents

pub interface_is : (fs : List ClassFace) → map shown fs ≡ of_release (map bare fs)
interface_is [] = refl
interface_is (f ∷ fs) = ap (λ z. shown f ∷ z) (interface_is fs)

pub release_is : (i : Interface) → release_of i ≡ all_classes (map bare i.classes)
release_is i = ap (λ z. kernel ++ z) (interface_is i.classes)

pub says : (i : Interface) → Conforms i → FacesHold (map bare i.classes)
says i ok = let e = ok.rules in faces_say (map bare i.classes) (rw (sym (interface_is i.classes)) e)

abbrev stays : Entry → Bool
stays (entries.Introduced x sig way) = true
stays (entries.Moved x k) = false

-- the rules, by places
module _ (ds : List ClassDecl) (rules : FacesHold ds) (some : (d : ClassDecl) → Mem d ds → 1 ≤ length d.face.parents) where
  abbrev cs : List Class
  cs = of_release ds

  abbrev all : List Class
  all = all_classes ds

  abbrev names : List (List ℕ)
  names = map name_of all

  declared : AreDeclared cs
  declared = map_declared modules.Library ds

  table : IsTable cs names
  table = is_table cs names declared refl (say_names cs rules.classes.names)

  -- a class of the kernel or one of the interface
  two_kinds : (p : ℕ) → p < length all → (p < 4) ⊎ ((c : Class) × (i : ℕ) × (p ≡ suc (suc (suc (suc i)))) × (slice_get cs i ≡ Some c) × Mem c cs × (class_of_place all p ≡ c))
  two_kinds zero lt = inl (omega arith)
  two_kinds (suc zero) lt = inl (omega arith)
  two_kinds (suc (suc zero)) lt = inl (omega arith)
  two_kinds (suc (suc (suc zero))) lt = inl (omega arith)
  two_kinds (suc (suc (suc (suc i)))) lt = let r = at cs i (omega arith) in inr (r.0, i, refl, r.1, r.2, r.3)
    where
      at : (xs : List Class) (j : ℕ) → j < length xs → (c : Class) × (slice_get xs j ≡ Some c) × Mem c xs × (class_of_place xs j ≡ c)
      at [] j lt = absurd (omega arith)
      at (x ∷ xs) zero lt = (x, refl, inl refl, refl)
      at (x ∷ xs) (suc j) lt = let r = at xs j (omega arith) in (r.0, r.1, inr r.2, r.3)

  known_place : (n : ℕ) (k : ClassKey) → IsAmong (kernel ++ take n cs) k → (q : ℕ) × (q < length all) × (key_at all q ≡ k)
  known_place n k a =
      let m : Mem a.class all = elim (mem_split a.class kernel (take n cs) a.there) [
        | inl k ↦ mem_left a.class kernel cs k
        | inr k ↦ mem_right a.class kernel cs (front n cs a.class k)
      ] in
      let r = mem_there all a.class m in
      (r.0, r.1, ap (λ (c : Class). c.key) r.2 ∙ a.named)
    where
      front : (n : ℕ) (xs : List Class) (c : Class) → Mem c (take n xs) → Mem c xs
      front zero xs c m = absurd m
      front (suc n) [] c m = absurd m
      front (suc n) (x ∷ xs) c (inl e) = inl e
      front (suc n) (x ∷ xs) c (inr m) = inr (front n xs c m)

  parents_at : (p : ℕ) → p < length all → (hierarchy all).parents (key_at all p) ≡ (face_at all p).parents
  parents_at p lt =
      hierarchy_parents all (key_at all p)
      ∙ ap (parents_of all) (key_named cs declared p lt)
      ∙ parents_named all (module_at all p) _
      ∙ ap (λ k. parents_in (class_at all k)) (sym (key_named cs declared p lt))
      ∙ ap parents_in (class_there cs names table p lt)

  height_at : (p : ℕ) → p < length all → (hierarchy all).height (key_at all p) ≡ suc p
  height_at p lt = sym (height_there cs names table p lt)

  stands : (p : ℕ) (k : ClassKey) → p < length all → Mem k (face_at all p).parents → (q : ℕ) × (q < p) × (key_at all q ≡ k)
  stands p k lt m = elim (two_kinds p lt) [
    | inl low ↦ (let r = map_mem (key_at all) k (slice_index_or kernel_rows p []) (subst (λ z. Mem k z) (sym (kernel_by cs p low)) m) in (r.0, kernel_low p r.0 r.1, sym r.2))
    | inr (d, i, e, at, here, is) ↦ (
        let r = known_place i k (rules.classes.stand.parents i d k at (subst (λ (c : Class). Mem k c.decl.face.parents) is m)) in
        let lower = falls cs names table rules.classes.stand (key_at all p) k (subst (λ z. Mem k z) (sym (parents_at p lt)) m) in
        let high = height_at p lt in
        let low = height_at r.0 r.1 in
        let same = ap (hierarchy all).height r.2 in
        (r.0, omega (arith, lower, high, low, same), r.2))
  ]

  metaclass_at : (p : ℕ) (k : ClassKey) → p < length all → (face_at all p).metaclass ≡ Some k → (q : ℕ) × (q < length all) × (key_at all q ≡ k)
  metaclass_at p k lt e = elim (two_kinds p lt) [
    | inl low ↦ absurd (kernel_none p low (e))
    | inr (d, i, f, at, here, is) ↦ known_place i k (rules.classes.stand.metaclass i d k at (ap (λ (c : Class). c.decl.face.metaclass) (sym is) ∙ e))
  ]
    where
      kernel_none : (p : ℕ) → p < 4 → (face_at all p).metaclass ≡ Some k → ⊥
      kernel_none zero lt e = cc
      kernel_none (suc zero) lt e = cc
      kernel_none (suc (suc zero)) lt e = cc
      kernel_none (suc (suc (suc zero))) lt e = cc
      kernel_none (suc (suc (suc (suc p)))) lt e = omega arith

  differ_at : (p : ℕ) → p < length all → Differ entry_name (face_at all p).entries
  differ_at p lt = elim (two_kinds p lt) [
    | inl low ↦ kernel_differ p low
    | inr (d, i, f, at, here, is) ↦ subst (λ (c : Class). Differ entry_name c.decl.face.entries) (sym is) (rules.classes.entries.by d here)
  ]
    where
      kernel_differ : (p : ℕ) → p < 4 → Differ entry_name (face_at all p).entries
      kernel_differ zero lt = apart_differ entry_name (face_at kernel 0).entries (apart_by bytes_eq exact_bytes (map entry_name (face_at kernel 0).entries) refl)
      kernel_differ (suc zero) lt = apart_differ entry_name (face_at kernel 1).entries (apart_by bytes_eq exact_bytes (map entry_name (face_at kernel 1).entries) refl)
      kernel_differ (suc (suc zero)) lt = apart_differ entry_name (face_at kernel 2).entries (apart_by bytes_eq exact_bytes (map entry_name (face_at kernel 2).entries) refl)
      kernel_differ (suc (suc (suc zero))) lt = apart_differ entry_name (face_at kernel 3).entries (apart_by bytes_eq exact_bytes (map entry_name (face_at kernel 3).entries) refl)
      kernel_differ (suc (suc (suc (suc p)))) lt = absurd (omega arith)

  moved_at : (p : ℕ) (name : List ℕ) (to : ClassKey) → p < length all → Mem (entries.Moved name to) (face_at all p).entries → Introduces all to name
  moved_at p name to lt m = elim (two_kinds p lt) [
    | inl low ↦ absurd (kernel_stays p low m)
    | inr (d, i, f, at, here, is) ↦ rules.classes.moved.introduced d name to here (subst (λ (c : Class). Mem (entries.Moved name to) c.decl.face.entries) is m)
  ]
    where
      no_moved : (es : List Entry) → every stays es ≡ true → Mem (entries.Moved name to) es → ⊥
      no_moved es e m = true≢false (sym (every_mem stays (entries.Moved name to) es e m))

      kernel_stays : (p : ℕ) → p < 4 → Mem (entries.Moved name to) (face_at all p).entries → ⊥
      kernel_stays zero lt m = no_moved (face_at kernel 0).entries refl m
      kernel_stays (suc zero) lt m = no_moved (face_at kernel 1).entries refl m
      kernel_stays (suc (suc zero)) lt m = no_moved (face_at kernel 2).entries refl m
      kernel_stays (suc (suc (suc zero))) lt m = no_moved (face_at kernel 3).entries refl m
      kernel_stays (suc (suc (suc (suc p)))) lt m = omega arith

  kernel_at : (p : ℕ) → p < 4 → (p < length all) × (class_of_place all p ≡ class_of_place kernel p)
  kernel_at zero lt = (omega arith, refl)
  kernel_at (suc zero) lt = (omega arith, refl)
  kernel_at (suc (suc zero)) lt = (omega arith, refl)
  kernel_at (suc (suc (suc zero))) lt = (omega arith, refl)
  kernel_at (suc (suc (suc (suc p)))) lt = absurd (omega arith)

  some_at : (p : ℕ) → p < length all → 4 ≤ p → 1 ≤ length (face_at all p).parents
  some_at p lt ge = elim (two_kinds p lt) [
    | inl low ↦ absurd (omega arith)
    | inr (c, i, f, at, here, is) ↦ (let r = map_mem of_library c ds here in subst (λ (z : Class). 1 ≤ length z.decl.face.parents) (sym (is ∙ r.2)) (some r.0 r.1))
  ]

  all_known : IsKnown all
  all_known = record {
    falls = falls cs names table rules.classes.stand;
    tells = record { one = λ x. hierarchy_same all x x ∙ exact_keys.one x; two = λ x y e. exact_keys.two x y (sym (hierarchy_same all x y) ∙ e) };
    once = keys_once cs names table;
    found = class_there cs names table;
    height = height_at;
    parents = parents_at;
    named = λ p lt. (_, key_named cs declared p lt);
    stand = stands;
    metaclass = metaclass_at;
    differ = differ_at;
    moved = moved_at;
    kernel = kernel_at;
    some = some_at;
  }

some_parent : (fs : List ClassFace) → ((k : ℕ) (e : ClassFace) → k < length fs → IsCounted (slice_index_or fs k e)) → (d : ClassDecl) → Mem d (map bare fs) → 1 ≤ length d.face.parents
some_parent [] counts d m = absurd m
some_parent (f ∷ fs) counts d (inl e) = subst (λ (z : ClassDecl). 1 ≤ length z.face.parents) (sym e) (counts 0 f (omega arith)).some
some_parent (f ∷ fs) counts d (inr m) = some_parent fs (λ k e lt. counts (suc k) e (omega arith)) d m

-- the classes of an interface that conforms, and the kernel's
pub known : (i : Interface) → Conforms i → IsKnown (release_of i)
known i ok = subst IsKnown (sym (release_is i)) (all_known (map bare i.classes) (says i ok) (some_parent i.classes ok.counts))
