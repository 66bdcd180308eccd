-- A directory of classes whose names differ, none with too many entries.
use Rattle.std.proofs.Common.{◌≡◌, ℕ, ◌<◌, ◌≤◌, ◌^◌, List, [], ◌∷◌, ◌++◌, length, map, refl, sym, ap, subst, ◌∙◌, arith}
use Rattle.std.specs.Prelude.{All}
use Rattle.std.specs.List.{AllByRecursion}
use Rattle.std.proofs.lemmas.List.{length-map}
use Rattle.std.proofs.lemmas.List.Elements.{All-from_recursion}
use Rattle.som_model.specs.declared.limits.TheConstants.{MAX_ENTRIES}
use Rattle.som_model.specs.declared.key.Module.{Module}
use Rattle.som_model.specs.declared.key.Module.TheVariants as modules
use Rattle.som_model.specs.declared.key.ClassKey.{ClassKey}
use Rattle.som_model.specs.declared.key.ClassKey.TheVariants as keys
use Rattle.som_model.specs.declared.class.ClassDecl.{ClassDecl}
use Rattle.som_model.specs.Class.{Class, class_in, entry_name}
use Rattle.som_model.specs.Kernel.{kernel}
use Rattle.som_model.specs.Rules.{name_of}
use Rattle.som_image_decode.specs.Naming.{entry_names, Tells}
use Rattle.som_image_decode.specs.declared.directory.Directory.{Directory}
use Rattle.som_image_decode.specs.Naming.{Differ}
use Rattle.som_image_encode.specs.Numbering.{key_name, IsDeclared, class_names, IsDirectory}
use Rattle.som_image_encode.proofs.Numbering.{name_of_named, named_first}

-- a class that is declared in a module, under its own name
abbrev pub IsOwn : Class → Type 0
IsOwn c = (m : Module) × (c.key ≡ keys.Named m c.decl.face.name)

abbrev pub FewEntries : Class → Type 0
FewEntries c = length c.decl.face.entries ≤ MAX_ENTRIES

pub kernel_own : AllByRecursion IsOwn kernel
kernel_own = ((modules.Kernel, refl), ((modules.Kernel, refl), ((modules.Kernel, refl), ((modules.Kernel, refl), tt))))

pub kernel_few : AllByRecursion FewEntries kernel
kernel_few = (omega arith, (omega arith, (omega arith, (omega arith, tt))))

pub declared_own : (home : Module) (ds : List ClassDecl) → AllByRecursion IsOwn (map (class_in home) ds)
declared_own home [] = tt
declared_own home (c ∷ ds) = ((home, refl), declared_own home ds)

names_are : (cs : List Class) → AllByRecursion IsOwn cs → map key_name (map (λ (c : Class). c.key) cs) ≡ map name_of cs
names_are [] own = refl
names_are (c ∷ cs) own =
    named_first c.key c.decl.face.name (ap key_name own.0.1 ∙ name_of_named own.0.0 c.decl.face.name) (map (λ (x : Class). x.key) cs) (map name_of cs) (names_are cs own.1)

all_declared : (cs : List Class) → AllByRecursion IsOwn cs → AllByRecursion IsDeclared (map (λ (c : Class). c.key) cs)
all_declared [] own = tt
all_declared (c ∷ cs) own = ((own.0.0, c.decl.face.name, own.0.1), all_declared cs own.1)

all_few : (cs : List Class) → AllByRecursion FewEntries cs → AllByRecursion (λ (ns : List (List ℕ)). length ns ≤ MAX_ENTRIES) (map entry_names cs)
all_few [] few = tt
all_few (c ∷ cs) few = (omega (arith, few.0, length-map c.decl.face.entries entry_name), all_few cs few.1)

abbrev AllOf : List ClassKey → Type 0
AllOf ks = All IsDeclared ks

abbrev AllFew : List (List (List ℕ)) → Type 0
AllFew ss = All (λ (ns : List (List ℕ)). length ns ≤ MAX_ENTRIES) ss

module _ (d : Directory) (cs : List Class) (tells : Tells d cs) where
  as_many_keys : length d.keys ≡ length cs
  as_many_keys = sym (ap (length {A = ClassKey}) tells.keys) ∙ length-map cs (λ (c : Class). c.key)

  as_many_slots : length d.slots ≡ length cs
  as_many_slots = sym (ap (length {A = List (List ℕ)}) tells.slots) ∙ length-map cs entry_names

  pub directory_is : AllByRecursion IsOwn cs → Differ (map name_of cs) → length cs < 2 ^ 16 → AllByRecursion FewEntries cs → IsDirectory (class_names d) d
  directory_is own differ many few =
      let names : class_names d ≡ map name_of cs = ap (map key_name) (sym tells.keys) ∙ names_are cs own in
      record {
        named = record {
          declared = subst AllOf tells.keys (All-from_recursion IsDeclared (map (λ (c : Class). c.key) cs) (all_declared cs own));
          differ = subst Differ (sym names) differ;
          few = omega (arith, as_many_keys, many);
        };
        are = refl;
        slots = as_many_slots ∙ sym as_many_keys;
        few = subst AllFew tells.slots (All-from_recursion (λ (ns : List (List ℕ)). length ns ≤ MAX_ENTRIES) (map entry_names cs) (all_few cs few));
      }
