-- An index of names to which numbered classes were added.
use Rattle.std.specs.Prelude.{◌≡◌, ℕ, suc, Bool, if◌then◌else◌, List, [], ◌∷◌, map, Option, Some, None}
use Rattle.som_model.specs.declared.key.ClassKey.{ClassKey}
use Rattle.som_model.specs.Lists.{Mem}
use Rattle.som_model.specs.Class.{Class}
use Rattle.som_model.specs.Classes.{ancestors, hierarchy}
use Rattle.som_model.specs.Owner.{introduces}
use Rattle.som_model.specs.Resolution.{byname}
use Rattle.som_model.specs.Rules.{s6}
use Rattle.som_meta.specs.Numbering.{IsNumbered, IsToken, Numbering, key_at, method_at, names_of, tokens_of}
use Rattle.som_names.specs.declared.named.Named.{Named}
use Rattle.som_names.specs.Index.{ancestors_at, named_at}

-- of this numbered class the index has the ancestors in their order, the names that it introduces, and their tokens
pub record HasClass (k : Numbering) (index : List (ℕ × Named)) (n : ℕ) : Type 0 where
  pub numbered : IsNumbered k n
  pub added : Named
  pub there : named_at index n ≡ Some added
  pub ancestors : map (key_at k) added.ancestors ≡ ancestors k.classes (key_at k n)
  pub names : added.names ≡ names_of k n
  pub tokens : added.tokens ≡ tokens_of k n

-- so it is of the class and of its ancestors
pub record HasClasses (k : Numbering) (index : List (ℕ × Named)) (n : ℕ) : Type 0 where
  pub own : HasClass k index n
  pub above : (a : ℕ) → Mem a (ancestors_at index n) → HasClass k index a

-- no class has two entries of one name
abbrev pub HaveDistinctEntries : List Class → Type 0
HaveDistinctEntries cs = (c : Class) → Mem c cs → s6 c ≡ []

-- the class that introduces the method that a name means in a class
abbrev pub introducer_of : Numbering → ℕ → List ℕ → Option ClassKey
introducer_of k n name = byname (hierarchy k.classes) (introduces k.classes name) (key_at k n)

-- the token is that of the method that the name means in the class; there is none exactly where it means none
abbrev pub IsMeant : Numbering → ℕ → List ℕ → Option (ℕ × ℕ) → Type 0
IsMeant k n name None = introducer_of k n name ≡ None
IsMeant k n name (Some t) = IsToken k t × (introducer_of k n name ≡ Some (method_at k t).class) × ((method_at k t).name ≡ name)

-- how many classes stand up to the first that passes, and how many there are where none does
abbrev pub count_to : (ClassKey → Bool) → List ClassKey → ℕ
count_to test [] = 0
count_to test (x ∷ xs) = if test x then 1 else suc (count_to test xs)
