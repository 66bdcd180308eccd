-- What a refusal to link tells.
use Rattle.std.specs.Prelude.{◌≡◌, ℕ, List, Option, Some, None, Result, Ok, Err, codes}
use Rattle.som_model.specs.Compatible.{CompatBreach}
use Rattle.som_verify_classes.specs.Told.{told}
use Rattle.som_link_check.specs.declared.fault.LinkFault.{LinkFault}
use Rattle.som_link_check.specs.declared.fault.LinkFault.TheVariants as faults
use Rattle.som_link_check.specs.Pairs.{Obstacle, Breaks, DoesntKeep}

-- a name, or a dash where there is none
abbrev pub or_dash : Option (List ℕ) → List ℕ
or_dash None = codes "-"
or_dash (Some name) = name

-- what isn't kept, as it is told
pub record TellsKept (rule : ℕ) (class name : List ℕ) (place : ℕ) (b : CompatBreach) : Type 0 where
  pub rule_is : rule ≡ b.rule
  pub class_is : class ≡ b.class
  pub name_is : name ≡ or_dash b.name
  pub place_is : place ≡ b.place

-- Ok exactly where nothing is in the way, and what is told is what is in the way first; want of memory says nothing
abbrev pub Tells : {A : Type 0} → Option Obstacle → Result A LinkFault → Type 0
Tells obstacle (Ok _) = obstacle ≡ None
Tells obstacle (Err (faults.NotConforming client broken)) = obstacle ≡ Some (Breaks client (told broken))
Tells obstacle (Err (faults.Incompatible rule class name place)) = (b : CompatBreach) × (obstacle ≡ Some (DoesntKeep b)) × TellsKept rule class name place b
Tells obstacle (Err faults.NoMemory) = Unit {0}

-- the fault tells that this isn't kept, or want of memory
abbrev pub TellsBreach : CompatBreach → LinkFault → Type 0
TellsBreach b (faults.NotConforming client broken) = ⊥
TellsBreach b (faults.Incompatible rule class name place) = TellsKept rule class name place b
TellsBreach b faults.NoMemory = Unit {0}
