-- The classes of a flat base under the names by levels are the classes of the levels.
use Rattle.std.proofs.Common.{◌≡◌, inl, inr, ℕ, suc, Bool, true, false, if◌then◌else◌, List, [], ◌∷◌, ◌++◌, length, map, take, drop, refl, sym, ap, ◌∙◌, subst, arith}
use Rattle.std.specs.Prelude.{sum, ⊤}
use Rattle.std.specs.Str.{bytes_eq}
use Rattle.std.proofs.lemmas.List.{length-drop, take-append-drop}
use Rattle.std.proofs.lemmas.List.Sums.{sum_by-cons}
use Rattle.som_model.specs.declared.key.Module.{Module}
use Rattle.som_model.specs.declared.key.Module.TheVariants as modules
use Rattle.som_model.specs.declared.key.ClassKey.TheVariants as keys
use Rattle.som_model.specs.declared.class.ClassFace.{ClassFace}
use Rattle.som_model.specs.declared.class.ClassDecl.{ClassDecl}
use Rattle.som_model.specs.declared.program.Interface.{Interface}
use Rattle.som_model.specs.declared.program.ClientProgram.{ClientProgram}
use Rattle.som_model.specs.Lists.{Mem, among, doubles, joined}
use Rattle.som_model.specs.Class.{Class, bare, class_in}
use Rattle.som_model.specs.Classes.{client_classes, interface_classes}
use Rattle.som_model.proofs.KeyLaws.{exact_bytes}
use Rattle.som_model_laws.proofs.Members.{Apart, map_on, mem_left, mem_right, mem_some, not_true, some_mem}
use Rattle.som_model_laws.proofs.Lists.{doubles_apart, mem_map}
use Rattle.som_release_laws.proofs.Lists.{apart_right}
use Rattle.som_rekey_laws.specs.Rekeying.{ModuleChange, rekey_face, rekey_decl, rekey_class, rekey_classes}
use Rattle.som_rekey_laws.proofs.Lists.{map_append, map_twice}
use Rattle.som_rekey_laws.proofs.Places.{rekey_named}
use Rattle.som_level_laws.specs.Levels.{classes_of_level, level_classes, level_module, levels_from}
use Rattle.som_level_programs.specs.ByLevels.{split, level_named, own_module, level_change, levels_below, own_by_level}

abbrev pub names_in : List ClassFace → List (List ℕ)
names_in faces = map (λ (face : ClassFace). face.name) faces

split_joined : {A : Type 0} (sizes : List ℕ) (xs : List A) → sum sizes ≡ length xs → joined (split sizes xs) ≡ xs
split_joined [] [] e = refl
split_joined [] (x ∷ xs) e = absurd (omega (arith, e))
split_joined (size ∷ sizes) xs e =
    let first = sum_by-cons (λ (n : ℕ). n) size sizes in
    let rest = length-drop size xs in
    let less : sum sizes ≡ length (drop size xs) = omega (arith, e, first, rest) in
    ap (λ l. take size xs ++ l) (split_joined sizes (drop size xs) less) ∙ take-append-drop size xs

-- the change gives the names at each level its module
abbrev Placed : (List ℕ → Module) → ℕ → List (List ClassFace) → Type 0
Placed given k [] = ⊤
Placed given k (faces ∷ levels) = ((face : ClassFace) → Mem face faces → given face.name ≡ level_module k) × Placed given (suc k) levels

if_one : (b : Bool) (x y : Module) → b ≡ true → (if b then x else y) ≡ x
if_one b x y e = ap (λ z. if z then x else y) e

if_other : (b : Bool) (x y : Module) → b ≡ false → (if b then x else y) ≡ y
if_other b x y e = ap (λ z. if z then x else y) e

placed : (given : List ℕ → Module) (k : ℕ) (levels : List (List ClassFace)) → Apart (names_in (joined levels)) → ((name : List ℕ) → Mem name (names_in (joined levels)) → given name ≡ level_named k levels name) → Placed given k levels
placed given k [] apart same = tt
placed given k (faces ∷ levels) apart same =
    let both : names_in (joined (faces ∷ levels)) ≡ names_in faces ++ names_in (joined levels) = map_append (λ (face : ClassFace). face.name) faces (joined levels) in
    let parted : Apart (names_in faces ++ names_in (joined levels)) = subst Apart both apart in
    let at : (name : List ℕ) → Mem name (names_in faces ++ names_in (joined levels)) → given name ≡ level_named k (faces ∷ levels) name = λ name m. same name (subst (λ l. Mem name l) (sym both) m) in (
      (λ face m. (let here : Mem face.name (names_in faces) = mem_map (λ (face : ClassFace). face.name) face faces m in
          at face.name (mem_left face.name (names_in faces) (names_in (joined levels)) here)
          ∙ if_one (among face.name (names_in faces)) (level_module k) (level_named (suc k) levels face.name) (mem_some (bytes_eq face.name) face.name (names_in faces) here (exact_bytes.one face.name)))),
      placed given (suc k) levels (apart_right (names_in faces) (names_in (joined levels)) parted) (λ name m.
          at name (mem_right name (names_in faces) (names_in (joined levels)) m)
          ∙ if_other (among name (names_in faces)) (level_module k) (level_named (suc k) levels name) (not_true (among name (names_in faces)) (λ t.
          let r = some_mem (bytes_eq name) (names_in faces) t in
          let is : name ≡ r.0 = exact_bytes.two name r.0 r.2 in
          not_both (names_in faces) (names_in (joined levels)) name parted (subst (λ z. Mem z (names_in faces)) (sym is) r.1) m))),
    )
  where
    not_both : (xs ys : List (List ℕ)) (x : List ℕ) → Apart (xs ++ ys) → Mem x xs → Mem x ys → ⊥
    not_both [] ys x p m n = m
    not_both (z ∷ xs) ys x p (inl e) n = p.0 (mem_right z xs ys (subst (λ y. Mem y ys) e n))
    not_both (z ∷ xs) ys x p (inr m) n = not_both xs ys x p.1 m n

module _ (f : ModuleChange) where
  abbrev of_base : ClassFace → Class
  of_base face = class_in modules.Library (bare face)

  abbrev renewed : List ClassFace → Interface
  renewed faces = record { classes = map (rekey_face f) faces }

  face_at : (k : ℕ) (face : ClassFace) → f modules.Library face.name ≡ level_module k → rekey_class f (of_base face) ≡ class_in (level_module k) (bare (rekey_face f face))
  face_at k face e = ap (λ key. record { key = key; decl = bare (rekey_face f face) }) (rekey_named f modules.Library face.name ∙ ap (λ m. keys.Named m face.name) e)

  level_is : (k : ℕ) (faces : List ClassFace) → ((face : ClassFace) → Mem face faces → f modules.Library face.name ≡ level_module k) → rekey_classes f (map of_base faces) ≡ classes_of_level k (renewed faces)
  level_is k faces e =
      map_twice (rekey_class f) of_base faces
      ∙ map_on (λ face. rekey_class f (of_base face)) (λ face. class_in (level_module k) (bare (rekey_face f face))) faces (λ face m. face_at k face (e face m))
      ∙ sym (map_twice (λ face. class_in (level_module k) (bare face)) (rekey_face f) faces)

  levels_are : (k : ℕ) (levels : List (List ClassFace)) → Placed (f modules.Library) k levels → rekey_classes f (map of_base (joined levels)) ≡ levels_from k (map renewed levels)
  levels_are k [] p = refl
  levels_are k (faces ∷ levels) p =
      ap (rekey_classes f) (map_append of_base faces (joined levels))
      ∙ map_append (rekey_class f) (map of_base faces) (map of_base (joined levels))
      ∙ ap (λ l. l ++ rekey_classes f (map of_base (joined levels))) (level_is k faces p.0)
      ∙ ap (λ l. classes_of_level k (renewed faces) ++ l) (levels_are (suc k) levels p.1)

pub base_classes : (sizes : List ℕ) (client : Bool) (base : Interface) → sum sizes ≡ length base.classes → doubles bytes_eq [] (map (λ (face : ClassFace). face.name) base.classes) ≡ []
    → rekey_classes (level_change sizes client base) (interface_classes base) ≡ level_classes (levels_below sizes client base)
base_classes sizes client base fits differ =
    let f = level_change sizes client base in
    let levels = split sizes base.classes in
    let one = split_joined sizes base.classes fits in
    let apart : Apart (names_in (joined levels)) = subst (λ l. Apart (names_in l)) (sym one) (doubles_apart bytes_eq exact_bytes (names_in base.classes) differ) in
    ap (λ l. rekey_classes f (map (of_base f) l)) (sym one)
    ∙ levels_are f 0 levels (placed (f modules.Library) 0 levels apart (λ name m. refl))

own_at : (f : ModuleChange) (m : Module) (d : ClassDecl) → f modules.Client d.face.name ≡ m → rekey_class f (class_in modules.Client d) ≡ class_in m (rekey_decl f d)
own_at f m d e = ap (λ key. record { key = key; decl = rekey_decl f d }) (rekey_named f modules.Client d.face.name ∙ ap (λ n. keys.Named n d.face.name) e)

pub own_classes : (sizes : List ℕ) (client : Bool) (p : ClientProgram) → rekey_classes (level_change sizes client p.base) (client_classes p) ≡ own_by_level sizes client p
own_classes sizes client p =
    let f = level_change sizes client p.base in
    map_twice (rekey_class f) (class_in modules.Client) p.classes
    ∙ map_on (λ d. rekey_class f (class_in modules.Client d)) (λ d. class_in (own_module (length sizes) client) (rekey_decl f d)) p.classes (λ d m. own_at f (own_module (length sizes) client) d refl)
