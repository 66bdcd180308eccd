-- What a run asks of the classes.
use Rattle.std.specs.Prelude.{ℕ, zero, suc, Bool, List, [], ◌∷◌, ◌++◌, map, Option, Some, None}
use Rattle.som_model.specs.declared.key.Module.{Module}
use Rattle.som_model.specs.declared.key.Module.TheVariants as modules
use Rattle.som_model.specs.declared.key.ClassKey.{ClassKey, out-ClassKey}
use Rattle.som_model.specs.declared.key.ClassKey.TheVariants as keys
use Rattle.som_model.specs.declared.key.ClassKey.TheOpen.{ClassKey-F}
use Rattle.som_model.specs.declared.key.MethodRef.{MethodRef}
use Rattle.som_model.specs.declared.key.ValueType.{ValueType}
use Rattle.som_model.specs.declared.class.Sig.{Sig}
use Rattle.som_model.specs.Lists.{first_some}
use Rattle.som_model.specs.Resolution.{byname}
use Rattle.som_model.specs.Class.{Class}
use Rattle.som_model.specs.Classes.{class_at, hierarchy, parents_of, is_a, variable_type, version_of, greatest}
use Rattle.som_model.specs.Owner.{owner, sig_of, introduces}
use Rattle.som_model.specs.Implementation.{Held, held, implementation}
use Rattle.som_model.specs.Metaclass.{meta, hooks}

-- A run asks the classes for these and for nothing else.
pub record World : Type 0 where
  -- the parents of a class, and whether it descends from another
  pub parents : ClassKey → List ClassKey
  pub is_a : ClassKey → ClassKey → Bool
  -- its metaclass, and the hooks of a metaclass
  pub meta : ClassKey → ClassKey
  pub hooks : ClassKey → List ClassKey
  -- the owner of a reference, the signature of an owner reference, and what a name means in a class
  pub owner : MethodRef → MethodRef
  pub sig : MethodRef → Option Sig
  pub byname : ClassKey → List ℕ → Option MethodRef
  -- the class whose body answers, and the body that a class has of its own
  pub impl : ClassKey → MethodRef → Option ClassKey
  pub held : ClassKey → MethodRef → Option Held
  -- the type of a variable, the version of a class, and the class of a name
  pub variable : ClassKey → ℕ → ValueType
  pub version : ClassKey → ℕ × ℕ
  pub named : List ℕ → Option ClassKey

abbrev level_of_module : Module → ℕ
level_of_module modules.Kernel = 0
level_of_module modules.Library = 0
level_of_module (modules.Upper n) = n
level_of_module modules.Client = 0

-- the level at which a class stands: 0, or that of a library above the lowest
abbrev level_of : ClassKey-F ClassKey → ℕ
level_of (ClassKey-F.Named m name) = level_of_module m
level_of (ClassKey-F.Derived ks) = 0
level_of (ClassKey-F.Proxy of) = 0

-- the levels from this one down to level 1
abbrev levels_from : ℕ → List Module
levels_from zero = []
levels_from (suc n) = modules.Upper (suc n) ∷ levels_from n

-- where a class of a name is looked for, in this order: in the client, in the levels from the highest down, in the library, in the kernel
abbrev pub searched : List Class → List Module
searched cs = modules.Client ∷ levels_from (greatest (map (λ (c : Class). level_of (out-ClassKey c.key)) cs)) ++ modules.Library ∷ modules.Kernel ∷ []

abbrev key_in : Option Class → Option ClassKey
key_in None = None
key_in (Some c) = Some c.key

-- the class of a name: the first that is found there, however the classes are listed; made classes have no name here
abbrev pub named_class : List Class → List ℕ → Option ClassKey
named_class cs name = first_some (λ m. key_in (class_at cs (keys.Named m name))) (searched cs)

-- the method of a name in the class that was found for it
abbrev pub reference : List ℕ → Option ClassKey → Option MethodRef
reference name None = None
reference name (Some k) = Some (record { class = k; name = name })

-- what these classes answer, written out
abbrev pub answers_of : List Class → World
answers_of cs = record {
  parents = parents_of cs;
  is_a = is_a cs;
  meta = meta cs;
  hooks = hooks cs;
  owner = owner cs;
  sig = sig_of cs;
  byname = λ k name. reference name (byname (hierarchy cs) (introduces cs name) k);
  impl = implementation cs;
  held = held cs;
  variable = variable_type cs;
  version = version_of cs;
  named = named_class cs;
}

-- what these classes answer; proofs see into it only where they open it
unfoldable pub world : List Class → World
world cs = answers_of cs
