-- Programs that stand above levels of libraries. Written down they are flat: the classes of all levels below are one base in the module of the library, and their own classes are a client's. By levels each class has the module of its level.
use Rattle.std.specs.Prelude.{ℕ, suc, Bool, true, false, if◌then◌else◌, List, [], ◌∷◌, length, map, take, drop}
use Rattle.som_model.specs.declared.key.Module.{Module}
use Rattle.som_model.specs.declared.key.Module.TheVariants as modules
use Rattle.som_model.specs.declared.class.ClassFace.{ClassFace}
use Rattle.som_model.specs.declared.syntax.Block.{Block}
use Rattle.som_model.specs.declared.program.Interface.{Interface}
use Rattle.som_model.specs.declared.program.ClientProgram.{ClientProgram}
use Rattle.som_model.specs.Lists.{among}
use Rattle.som_model.specs.Class.{Class, class_in}
use Rattle.som_rekey_laws.specs.Rekeying.{ModuleChange, rekey_face, rekey_decl, rekey_block}
use Rattle.som_rekey_laws.specs.Apart.{Names}
use Rattle.som_level_laws.specs.Levels.{level_module}

-- lists of these lengths, one after the other, out of one
abbrev pub split : {A : Type 0} → List ℕ → List A → List (List A)
split [] xs = []
split (size ∷ sizes) xs = take size xs ∷ split sizes (drop size xs)

-- the module of the first of these levels, counted from level k on, that has a class of this name; the library where none has
abbrev pub level_named : ℕ → List (List ClassFace) → List ℕ → Module
level_named k [] name = modules.Library
level_named k (faces ∷ levels) name = if among name (map (λ (face : ClassFace). face.name) faces) then level_module k else level_named (suc k) levels name

-- the module of what stands above n levels: a client, or level n
abbrev pub own_module : ℕ → Bool → Module
own_module n client = if client then modules.Client else modules.Upper n

-- from flat names to names by levels: a class of the base has the module of its level, by the sizes of the levels, and a class of the program's own that of what stands above them
abbrev pub level_change : List ℕ → Bool → Interface → ModuleChange
level_change sizes client base modules.Kernel name = modules.Kernel
level_change sizes client base modules.Library name = level_named 0 (split sizes base.classes) name
level_change sizes client base (modules.Upper k) name = modules.Upper k
level_change sizes client base modules.Client name = own_module (length sizes) client

-- the names of flat programs: all but those of upper levels
abbrev pub flat_names : Names
flat_names (modules.Upper k) name = false
flat_names m name = true

-- the interfaces of the levels below a program, as parts of its base that name classes by levels
abbrev pub levels_below : List ℕ → Bool → Interface → List Interface
levels_below sizes client base = map (λ faces. record { classes = map (rekey_face (level_change sizes client base)) faces }) (split sizes base.classes)

-- the classes of a program's own, by levels
abbrev pub own_by_level : List ℕ → Bool → ClientProgram → List Class
own_by_level sizes client p = map (λ d. class_in (own_module (length sizes) client) (rekey_decl (level_change sizes client p.base) d)) p.classes

-- the main of a program, by levels
abbrev pub main_by_level : List ℕ → Bool → ClientProgram → Block
main_by_level sizes client p = rekey_block (level_change sizes client p.base) p.main
