-- The methods that classes override, and those for which they select parents, by tokens.
use Rattle.std.specs.Prelude.{◌≡◌, ℕ, ◌<◌, List, [], ◌∷◌, ◌++◌, map, Some, IsSome, slice_get}
use Rattle.som_model.specs.declared.key.MethodRef.{MethodRef}
use Rattle.som_model.specs.declared.class.Override.{Override}
use Rattle.som_model.specs.declared.class.Select.{Select}
use Rattle.som_model.specs.Lists.{Mem}
use Rattle.som_model.specs.Class.{Class}
use Rattle.som_model.specs.Kernel.{kernel}
use Rattle.som_model.specs.Owner.{entry_at, owner}
use Rattle.som_meta.specs.Numbering.{Numbering}
use Rattle.som_class_methods.specs.Owners.{IsTokenOf}
use Rattle.som_class_layout_laws.specs.Schemes.{CanBeLaid}

abbrev pub override_method : Override → MethodRef
override_method o = o.method

abbrev pub select_method : Select → MethodRef
select_method s = s.method

-- each has an entry in its class
abbrev pub Exist : List Class → List MethodRef → Type 0
Exist cs rs = (r : MethodRef) → Mem r rs → IsSome (entry_at cs r.class r.name)

-- so it is of all that classes override, and for which they select
pub record AreNamed (cs : List Class) : Type 0 where
  pub overrides : (c : Class) → Mem c cs → Exist cs (map override_method c.decl.overrides)
  pub selects : (c : Class) → Mem c cs → Exist cs (map select_method c.decl.selects)

-- the kernel's classes and others with made ones, that can be laid
pub record CanLay (k : Numbering) : Type 0 where
  pub others : List Class
  pub is : k.classes ≡ kernel ++ others
  pub can : CanBeLaid others k.keys

-- the tokens are those of the owners of these methods
abbrev pub HaveTokens : Numbering → List MethodRef → List (ℕ × ℕ) → Type 0
HaveTokens k [] [] = Unit {0}
HaveTokens k (r ∷ rs) (t ∷ ts) = IsTokenOf k t (owner k.classes r) × HaveTokens k rs ts
HaveTokens k [] (t ∷ ts) = ⊥
HaveTokens k (r ∷ rs) [] = ⊥

-- a token doesn't stand before this place
abbrev pub IsNotBefore : List (ℕ × ℕ) → ℕ × ℕ → ℕ → Type 0
IsNotBefore ts t n = (i : ℕ) → i < n → slice_get ts i ≡ Some t → ⊥

-- a token stands here, and not before
abbrev pub IsFirst : List (ℕ × ℕ) → ℕ × ℕ → ℕ → Type 0
IsFirst ts t n = (slice_get ts n ≡ Some t) × IsNotBefore ts t n
