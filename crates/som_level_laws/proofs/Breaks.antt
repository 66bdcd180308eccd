-- No breach of levels is told exactly where the new levels keep all of each class of the old ones.
use Rattle.std.proofs.Common.{◌≡◌, ℕ, suc, inl, inr, Bool, true, List, [], ◌∷◌, ◌++◌, map, flat_map, Option, Some, None, refl, sym, ap, ◌∙◌, subst}
use Rattle.std.proofs.lemmas.List.{map-append}
use Rattle.std.specs.Str.{bytes_eq}
use Rattle.som_model.specs.declared.key.Module.{Module}
use Rattle.som_model.specs.declared.key.MethodRef.{MethodRef}
use Rattle.som_model.specs.declared.class.ClassFace.{ClassFace}
use Rattle.som_model.specs.declared.program.Interface.{Interface}
use Rattle.som_model.specs.Lists.{Mem, first}
use Rattle.som_model.specs.Keys.{same_key, same_method}
use Rattle.som_model.specs.Same.{same_option, same_sig}
use Rattle.som_model.specs.Class.{Class, bare, class_in}
use Rattle.som_model.specs.Classes.{class_at}
use Rattle.som_model.specs.Kernel.{kernel}
use Rattle.som_model.specs.Owner.{owner}
use Rattle.som_model.specs.Compatible.{CompatBreach, class_breaks, incompatible, k2, k3, k4, k5, k6, order_of, signature}
use Rattle.som_model.specs.Loads.{IsOrdered}
use Rattle.som_model.proofs.KeyLaws.{both, exact_bytes, exact_keys}
use Rattle.som_verify_classes.proofs.FacesOnly.{face_only}
use Rattle.som_model_laws.proofs.Members.{mem_left, mem_right, mem_split}
use Rattle.som_model_laws.proofs.CompareLists.{none_fails, fails_none}
use Rattle.som_release_laws.proofs.Comparing.{keep_says, says_keep}
use Rattle.som_release_laws.proofs.Lists.{both_none, both_true, flat_all, flat_at, none_left}
use Rattle.som_release_laws.proofs.OneOwner.{ref_one}
use Rattle.som_release_laws.proofs.Ruled.{nothing}
use Rattle.som_level_laws.specs.Levels.{CompatibleLevels, all_levels, breaks_from, classes_of_level, first_level_break, keeps_method, level_class_breaks, level_classes, level_k5, level_module, levels_from}

same_methods : (r s : MethodRef) → same_method r s ≡ true → r ≡ s
same_methods r s t =
    let b = both (same_key r.class s.class) (bytes_eq r.name s.name) t in
    ref_one r s (exact_keys.two r.class s.class b.0) (exact_bytes.two r.name s.name b.1)

methods_same : (r s : MethodRef) → r ≡ s → same_method r s ≡ true
methods_same r s e =
    ap (same_method r) (sym e) ∙ both_true (same_key r.class r.class) (bytes_eq r.name r.name) (exact_keys.one r.class) (exact_bytes.one r.name)

map_nothing : {A B : Type 0} (f : A → B) (xs : List A) → map f xs ≡ [] → xs ≡ []
map_nothing f [] e = refl
map_nothing f (x ∷ xs) e = absurd (cc)

module _ (O N : List Class) where
  abbrev ref : Class → List ℕ → MethodRef
  ref c name = record { class = c.key; name = name }

  -- the owner of each entry of a class is kept
  abbrev KeepsOwners : Class → Type 0
  KeepsOwners c = (name : List ℕ) → Mem name (order_of c) → owner N (ref c name) ≡ owner N (owner O (ref c name))

  abbrev same_signature : Class → List ℕ → Bool
  same_signature c name = same_option same_sig (signature O c.key name) (signature N c.key name)

  abbrev one_owner : Class → List ℕ → Bool
  one_owner c name = same_method (owner N (ref c name)) (owner N (owner O (ref c name)))

  five_parts : (c : Class) → level_k5 O N c ≡ [] → (k5 O N c ≡ []) × KeepsOwners c
  five_parts c e =
      let t = none_fails (keeps_method O N c) 0 (order_of c) (map_nothing _ _ e) in (
        ap (map _) (fails_none (same_signature c) 0 (order_of c) (λ x m. (both (same_signature c x) (one_owner c x) (t x m)).0)),
        λ x m. same_methods (owner N (ref c x)) (owner N (owner O (ref c x))) (both (same_signature c x) (one_owner c x) (t x m)).1,
      )

  parts_five : (c : Class) → k5 O N c ≡ [] → KeepsOwners c → level_k5 O N c ≡ []
  parts_five c e f =
      let t = none_fails (same_signature c) 0 (order_of c) (map_nothing _ _ e) in
      ap (map _) (fails_none (keeps_method O N c) 0 (order_of c) (λ x m. both_true (same_signature c x) (one_owner c x) (t x m) (methods_same (owner N (ref c x)) (owner N (owner O (ref c x))) (f x m))))

  -- what a class breaks, by what is found of its key, and by what it breaks of K5
  abbrev broken : List CompatBreach → Class → Option Class → List CompatBreach
  broken five c o = elim o [
    | None ↦ incompatible 1 c None 0 ∷ []
    | Some n ↦ k2 c n ++ (k3 O N c ++ (k4 c n ++ (five ++ k6 N c)))
  ]

  parts_by : (c : Class) (o : Option Class) → broken (level_k5 O N c) c o ≡ [] → (broken (k5 O N c) c o ≡ []) × KeepsOwners c
  parts_by c None e = absurd (cc)
  parts_by c (Some n) e =
      let a = none_left (k2 c n) _ e in
      let b = none_left (k3 O N c) _ a.1 in
      let d = none_left (k4 c n) _ b.1 in
      let g = none_left (level_k5 O N c) (k6 N c) d.1 in
      let f = five_parts c g.0 in
      (both_none (k2 c n) _ a.0 (both_none (k3 O N c) _ b.0 (both_none (k4 c n) _ d.0 (both_none (k5 O N c) (k6 N c) f.0 g.1))), f.1)

  by_parts : (c : Class) (o : Option Class) → broken (k5 O N c) c o ≡ [] → KeepsOwners c → broken (level_k5 O N c) c o ≡ []
  by_parts c None e f = absurd (cc)
  by_parts c (Some n) e f =
      let a = none_left (k2 c n) _ e in
      let b = none_left (k3 O N c) _ a.1 in
      let d = none_left (k4 c n) _ b.1 in
      let g = none_left (k5 O N c) (k6 N c) d.1 in
      both_none (k2 c n) _ a.0 (both_none (k3 O N c) _ b.0 (both_none (k4 c n) _ d.0 (both_none (level_k5 O N c) (k6 N c) (parts_five c g.0 f) g.1)))

  class_parts : (c : Class) → level_class_breaks O N c ≡ [] → (class_breaks O N c ≡ []) × KeepsOwners c
  class_parts c e = parts_by c (class_at N c.key) e

  parts_class : (c : Class) → class_breaks O N c ≡ [] → KeepsOwners c → level_class_breaks O N c ≡ []
  parts_class c e f = by_parts c (class_at N c.key) e f

  -- level by level

  each_none : (k : ℕ) (is : List Interface) → breaks_from O N k is ≡ [] → (c : Class) → Mem c (levels_from k is) → level_class_breaks O N c ≡ []
  each_none k [] e c m = absurd m
  each_none k (i ∷ is) e c m =
      let a = none_left (map (λ (b : CompatBreach). (k, b)) (flat_map (level_class_breaks O N) (classes_of_level k i))) (breaks_from O N (suc k) is) e in
      elim (mem_split c (classes_of_level k i) (levels_from (suc k) is) m) [
        | inl h ↦ flat_at (level_class_breaks O N) (classes_of_level k i) c (map_nothing (λ (b : CompatBreach). (k, b)) _ a.0) h
        | inr h ↦ each_none (suc k) is a.1 c h
      ]

  none_each : (k : ℕ) (is : List Interface) → ((c : Class) → Mem c (levels_from k is) → level_class_breaks O N c ≡ []) → breaks_from O N k is ≡ []
  none_each k [] f = refl
  none_each k (i ∷ is) f =
      both_none (map (λ (b : CompatBreach). (k, b)) (flat_map (level_class_breaks O N) (classes_of_level k i))) (breaks_from O N (suc k) is)
      (ap (map (λ (b : CompatBreach). (k, b))) (flat_all (level_class_breaks O N) (classes_of_level k i) (λ c m. f c (mem_left c (classes_of_level k i) (levels_from (suc k) is) m))))
      (none_each (suc k) is (λ c m. f c (mem_right c (classes_of_level k i) (levels_from (suc k) is) m)))

-- the faces of the classes of levels are all that there is of them
module_faces : (m : Module) (fs : List ClassFace) → map face_only (map (λ (f : ClassFace). class_in m (bare f)) fs) ≡ map (λ (f : ClassFace). class_in m (bare f)) fs
module_faces m [] = refl
module_faces m (f ∷ fs) = ap (λ (l : List Class). class_in m (bare f) ∷ l) (module_faces m fs)

level_faces : (k : ℕ) (is : List Interface) → map face_only (levels_from k is) ≡ levels_from k is
level_faces k [] = refl
level_faces k (i ∷ is) =
    map-append face_only (classes_of_level k i) (levels_from (suc k) is)
    ∙ ap (λ (l : List Class). l ++ map face_only (levels_from (suc k) is)) (module_faces (level_module k) i.classes)
    ∙ ap (λ (l : List Class). classes_of_level k i ++ l) (level_faces (suc k) is)

module _ (olds news : List Interface) (oo : IsOrdered (level_classes olds)) (on : IsOrdered (level_classes news)) where
  abbrev NothingBroken : List Class → Type 0
  NothingBroken z = flat_map (class_breaks (all_levels olds) (kernel ++ z)) (level_classes olds) ≡ []

  pub none_kept : first_level_break olds news ≡ None → CompatibleLevels olds news
  none_kept e =
      let each = each_none (all_levels olds) (all_levels news) 0 olds (nothing (breaks_from (all_levels olds) (all_levels news) 0 olds) e) in
      let none = flat_all (class_breaks (all_levels olds) (all_levels news)) (level_classes olds) (λ c m. (class_parts (all_levels olds) (all_levels news) c (each c m)).0) in (
        says_keep (level_classes olds) (level_classes news) oo on (subst NothingBroken (sym (level_faces 0 news)) none),
        λ c name m n. (class_parts (all_levels olds) (all_levels news) c (each c m)).1 name n,
      )

  pub kept_none : CompatibleLevels olds news → first_level_break olds news ≡ None
  kept_none k =
      let none = subst NothingBroken (level_faces 0 news) (keep_says (level_classes olds) (level_classes news) oo on k.0) in
      ap first (none_each (all_levels olds) (all_levels news) 0 olds (λ c m.
      parts_class (all_levels olds) (all_levels news) c (flat_at (class_breaks (all_levels olds) (all_levels news)) (level_classes olds) c none m) (λ name n. k.1 c name m n)))
