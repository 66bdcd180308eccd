-- The classes of the flat interface, named by levels again, are those of the levels by owners.
use Rattle.std.proofs.Common.{◌≡◌, ℕ, suc, inl, inr, Bool, true, false, if◌then◌else◌, List, [], ◌∷◌, ◌++◌, length, map, take, drop, refl, sym, ap, ◌∙◌, subst, arith}
use Rattle.std.specs.Prelude.{sum}
use Rattle.std.specs.Str.{bytes_eq}
use Rattle.std.proofs.lemmas.List.{length-append, length-map, take-map, drop-map}
use Rattle.std.proofs.lemmas.List.Sums.{sum_by-cons}
use Rattle.som_model.specs.declared.key.Module.{Module}
use Rattle.som_model.specs.declared.key.Module.TheVariants as modules
use Rattle.som_model.specs.declared.key.ClassKey.TheVariants as keys
use Rattle.som_model.specs.declared.class.ClassFace.{ClassFace}
use Rattle.som_model.specs.declared.program.Interface.{Interface}
use Rattle.som_model.specs.Lists.{Mem, among}
use Rattle.som_model.specs.Class.{Class, bare, class_in}
use Rattle.som_model.specs.Classes.{interface_classes}
use Rattle.som_model.specs.Kernel.{kernel}
use Rattle.som_model.specs.Rules.{name_of}
use Rattle.som_model.specs.Loads.{FacesLoad}
use Rattle.som_model.proofs.KeyLaws.{exact_bytes}
use Rattle.som_model_laws.proofs.Lists.{map_mem, mem_map}
use Rattle.som_model_laws.proofs.Members.{Apart, map_on, mem_right, mem_some, mem_split, not_true, some_mem}
use Rattle.som_model_laws.proofs.Standing.{named_one}
use Rattle.som_release_laws.proofs.Lists.{apart_right}
use Rattle.som_rekey_laws.specs.Apart.{Names, names_of}
use Rattle.som_rekey_laws.specs.Rekeying.{rekey_class, rekey_classes, rekey_face}
use Rattle.som_rekey_laws.proofs.Lists.{map_append, map_twice}
use Rattle.som_rekey_rules.proofs.ClassesNamed.{faces_of}
use Rattle.som_level_laws.specs.Levels.{classes_of_level, level_classes, level_module, levels_from}
use Rattle.som_level_laws.proofs.Levels.{stands_at}
use Rattle.som_level_programs.specs.ByLevels.{level_change, level_named, split}
use Rattle.som_flat_laws.specs.Flat.{class_by_owners, flat_interface, flat_module, levels_by_owners, sizes_of}
use Rattle.som_flat_laws.proofs.Back.{class_back}
use Rattle.som_flat_laws.proofs.Flattening.{flat_classes, kernel_or, level_flat, named_by_owners, own_class}

abbrev names_in : List ClassFace → List (List ℕ)
names_in faces = map (λ (face : ClassFace). face.name) faces

-- ---- the level of a name

abbrev of_level : ℕ → ClassFace → Class
of_level k face = class_in (level_module k) (bare face)

front_names : (k : ℕ) (faces : List ClassFace) (more : List (List ℕ)) → take (length faces) (map name_of (map (of_level k) faces) ++ more) ≡ map name_of (map (of_level k) faces)
front_names k [] more = refl
front_names k (face ∷ faces) more = ap (λ l. face.name ∷ l) (front_names k faces more)

rest_names : (k : ℕ) (faces : List ClassFace) (more : List (List ℕ)) → drop (length faces) (map name_of (map (of_level k) faces) ++ more) ≡ more
rest_names k [] more = refl
rest_names k (face ∷ faces) more = rest_names k faces more

not_both : (xs ys : List (List ℕ)) (x : List ℕ) → Apart (xs ++ ys) → Mem x xs → Mem x ys → ⊥
not_both [] ys x p m n = m
not_both (z ∷ xs) ys x p (inl e) n = p.0 (mem_right z xs ys (subst (λ y. Mem y ys) e n))
not_both (z ∷ xs) ys x p (inr m) n = not_both xs ys x p.1 m n

if_one : (b : Bool) (x y : Module) → b ≡ true → (if b then x else y) ≡ x
if_one b x y e = ap (λ z. if z then x else y) e

if_other : (b : Bool) (x y : Module) → b ≡ false → (if b then x else y) ≡ y
if_other b x y e = ap (λ z. if z then x else y) e

-- each class of the levels is named by its level again
level_again : (k : ℕ) (is : List Interface) (faces : List ClassFace) → names_in faces ≡ map name_of (levels_from k is) → Apart (map name_of (levels_from k is))
    → (c : Class) → Mem c (levels_from k is) → c.key ≡ keys.Named (level_named k (split (sizes_of is) faces) (name_of c)) (name_of c)
level_again k [] faces e p c m = absurd m
level_again k (i ∷ is) faces e p c m =
    let n = length i.classes in
    let L = map name_of (classes_of_level k i) in
    let R = map name_of (levels_from (suc k) is) in
    let parts : map name_of (levels_from k (i ∷ is)) ≡ L ++ R = map_append name_of (classes_of_level k i) (levels_from (suc k) is) in
    let front : names_in (take n faces) ≡ L = sym (take-map (λ (face : ClassFace). face.name) n faces) ∙ ap (take n) (e ∙ parts) ∙ front_names k i.classes R in
    let rest : names_in (drop n faces) ≡ R = sym (drop-map (λ (face : ClassFace). face.name) n faces) ∙ ap (drop n) (e ∙ parts) ∙ rest_names k i.classes R in
    let q : Apart (L ++ R) = subst Apart parts p in
    let is_here = among (name_of c) (names_in (take n faces)) in
    let later = level_named (suc k) (split (sizes_of is) (drop n faces)) (name_of c) in
    elim (mem_split c (classes_of_level k i) (levels_from (suc k) is) m) [
      | inl h ↦ (
          let r = map_mem (of_level k) c i.classes h in
          let there : Mem (name_of c) (names_in (take n faces)) = subst (λ l. Mem (name_of c) l) (sym front) (mem_map name_of c (classes_of_level k i) h) in
          let key : c.key ≡ keys.Named (level_module k) (name_of c) = subst (λ (z : Class). z.key ≡ keys.Named (level_module k) (name_of z)) (sym r.2) refl in
          key ∙ ap (λ z. keys.Named z (name_of c)) (sym (if_one is_here (level_module k) later (mem_some (bytes_eq (name_of c)) (name_of c) (names_in (take n faces)) there (exact_bytes.one (name_of c))))))
      | inr h ↦ (
          let other = not_true is_here (λ t.
          let r = some_mem (bytes_eq (name_of c)) (names_in (take n faces)) t in
          let same : name_of c ≡ r.0 = exact_bytes.two (name_of c) r.0 r.2 in
          not_both L R (name_of c) q (subst (λ l. Mem (name_of c) l) front (subst (λ z. Mem z (names_in (take n faces))) (sym same) r.1)) (mem_map name_of c (levels_from (suc k) is) h)) in
          level_again (suc k) is (drop n faces) rest (apart_right L R q) c h
          ∙ ap (λ z. keys.Named z (name_of c)) (sym (if_other is_here (level_module k) later other)))
    ]

-- ---- how many classes there are

level_count : (k : ℕ) (is : List Interface) → length (levels_from k is) ≡ sum (sizes_of is)
level_count k [] = refl
level_count k (i ∷ is) =
    let a = length-append (classes_of_level k i) (levels_from (suc k) is) in
    let b = length-map i.classes (of_level k) in
    let c = level_count (suc k) is in
    let d = sum_by-cons (λ (n : ℕ). n) (length i.classes) (sizes_of is) in
    omega (arith, a, b, c, d)

module _ (is : List Interface) where
  abbrev cs : List Class
  cs = level_classes is

  abbrev all : List Class
  all = kernel ++ cs

  abbrev T : List Class
  T = levels_by_owners is

  pub flat_count : sum (sizes_of is) ≡ length (flat_interface is).classes
  flat_count =
      let a = level_count 0 is in
      let b = length-map cs (class_by_owners all) in
      let c = length-map T (λ (c : Class). rekey_face flat_module c.decl.face) in
      omega (arith, a, b, c)

  pub flat_names : names_in (flat_interface is).classes ≡ map name_of cs
  flat_names = map_twice (λ (face : ClassFace). face.name) (λ (c : Class). rekey_face flat_module c.decl.face) T ∙ map_twice name_of (class_by_owners all) cs

  -- ---- by levels again

  module _ (f : FacesLoad cs) (p : Apart (map name_of cs)) (client : Bool) where
    abbrev names : Names
    names = names_of all

    named_again : (c : Class) → Mem c cs → c.key ≡ keys.Named (level_change (sizes_of is) client (flat_interface is) modules.Library (name_of c)) (name_of c)
    named_again c m = level_again 0 is (flat_interface is).classes flat_names p c m

    -- the module of a name that the flat interface has made the library's
    module_again : (m : Module) (name : List ℕ) → (m ≡ modules.Kernel → ⊥) → names m name ≡ true → level_change (sizes_of is) client (flat_interface is) (flat_module m name) name ≡ m
    module_again m name other n =
        let c = own_class cs f.ordered m name other n in
        let at = stands_at 0 is c.0 c.1 in
        let here : m ≡ level_module at.level = (named_one m (level_module at.level) name (name_of c.0) (sym c.3 ∙ at.is)).0 in
        let flat : flat_module m name ≡ modules.Library = ap (λ z. flat_module z name) here ∙ level_flat at.level name in
        let again = named_again c.0 c.1 in
        ap (λ z. level_change (sizes_of is) client (flat_interface is) z name) flat
        ∙ ap (level_change (sizes_of is) client (flat_interface is) modules.Library) (sym c.2)
        ∙ (named_one (level_change (sizes_of is) client (flat_interface is) modules.Library (name_of c.0)) m (name_of c.0) name (sym again ∙ c.3)).0

    back : (m : Module) (name : List ℕ) → names m name ≡ true → level_change (sizes_of is) client (flat_interface is) (flat_module m name) name ≡ m
    back m name n = elim (kernel_or m) [
      | inl k ↦ ap (λ z. level_change (sizes_of is) client (flat_interface is) (flat_module z name) name) k ∙ sym k
      | inr h ↦ module_again m name h n
    ]

    one_back : (c : Class) → Mem c cs → rekey_class (level_change (sizes_of is) client (flat_interface is)) (rekey_class flat_module (class_by_owners all c)) ≡ class_by_owners all c
    one_back c m =
        let d = class_by_owners all c in
        class_back flat_module (level_change (sizes_of is) client (flat_interface is)) names back d.key d.decl.face
        (faces_of names (map (class_by_owners all) cs) (named_by_owners cs f) d (mem_map (class_by_owners all) c cs m))

    -- named by levels again, the flat interface has the classes by owners
    pub flat_by_levels : rekey_classes (level_change (sizes_of is) client (flat_interface is)) (interface_classes (flat_interface is)) ≡ T
    flat_by_levels =
        let g = level_change (sizes_of is) client (flat_interface is) in
        ap (rekey_classes g) (flat_classes is)
        ∙ map_twice (rekey_class g) (rekey_class flat_module) T
        ∙ map_twice (λ (c : Class). rekey_class g (rekey_class flat_module c)) (class_by_owners all) cs
        ∙ map_on (λ (c : Class). rekey_class g (rekey_class flat_module (class_by_owners all c))) (class_by_owners all) cs one_back
