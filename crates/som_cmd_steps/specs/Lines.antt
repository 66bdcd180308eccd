-- Lines that refuse, and the line that says that the store failed.
use Rattle.std.specs.Prelude.{ℕ, List, [], ◌∷◌, ◌++◌, Option, Some, None, codes}
use Rattle.std.specs.Fmt.{decimal}
use Rattle.som_model.specs.Rules.{RuleBreach}
use Rattle.som_model.specs.Compatible.{CompatBreach}
use Rattle.som_image_fields.specs.declared.fault.ImageFault.{ImageFault}
use Rattle.som_image_fields.specs.declared.fault.ImageFault.TheVariants as faults
use Rattle.som_cmd_steps.specs.declared.stop.Refusal.{Refusal}
use Rattle.som_cmd_steps.specs.declared.stop.Why.TheVariants as why

-- a front and a name, as a line
abbrev pub named : List ℕ → List ℕ → List ℕ
named front name = front ++ name ++ 10 ∷ []

-- the store has nothing under a name
abbrev pub absent : List ℕ → Refusal
absent name = record { line = named (codes "absent ") name; why = why.Absent }

abbrev pub store_failed : List ℕ → List ℕ
store_failed name = named (codes "store failed ") name

-- the number of an image fault
abbrev pub fault_number : ImageFault → ℕ
fault_number (faults.Magic place) = 1
fault_number (faults.Version place) = 2
fault_number (faults.Cut place) = 3
fault_number (faults.Tag place) = 4
fault_number (faults.Number place) = 5
fault_number (faults.Trailing place) = 6
fault_number (faults.Nesting place) = 7
fault_number faults.NoMemory = 0

-- where an image fault is; want of memory is a fault of no bytes
abbrev pub fault_place : ImageFault → ℕ
fault_place (faults.Magic place) = place
fault_place (faults.Version place) = place
fault_place (faults.Cut place) = place
fault_place (faults.Tag place) = place
fault_place (faults.Number place) = place
fault_place (faults.Trailing place) = place
fault_place (faults.Nesting place) = place
fault_place faults.NoMemory = 0

-- what the store has under a name can't be read, for this fault
abbrev pub unread : List ℕ → ImageFault → Refusal
unread name fault = record {
  line = codes "image " ++ decimal (fault_number fault) ++ codes " " ++ name ++ codes " " ++ decimal (fault_place fault) ++ 10 ∷ [];
  why = why.Image;
}

-- what the store has under a name breaks this rule
abbrev pub broken : List ℕ → RuleBreach → Refusal
broken name b = record {
  line = codes "image S" ++ decimal b.rule ++ codes " " ++ name ++ codes " " ++ b.class ++ codes " " ++ b.member ++ 10 ∷ [];
  why = why.Image;
}

-- what doesn't apply is a dash
abbrev pub or_dash : Option (List ℕ) → List ℕ
or_dash None = codes "-"
or_dash (Some name) = name

-- a newer image breaks this rule on what is promised: the old class, the name of what is lost or changed, and its place
abbrev pub incompatible : List ℕ → ℕ → List ℕ → List ℕ → ℕ → Refusal
incompatible image rule class name place = record {
  line = codes "incompatible K" ++ decimal rule ++ codes " " ++ class ++ codes " " ++ name ++ codes " " ++ decimal place ++ codes " in " ++ image ++ 10 ∷ [];
  why = why.Incompatible;
}

-- the newer image doesn't keep this of what was promised
abbrev pub not_kept : List ℕ → CompatBreach → Refusal
not_kept image b = incompatible image b.rule b.class (or_dash b.name) b.place
