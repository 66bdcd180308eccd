-- The limits of classes, each as the list of what passes it.
use Rattle.std.specs.Prelude.{◌≡◌, ℕ, if◌then◌else◌, nat_le, List, [], ◌∷◌, ◌++◌, flat_map, length, codes, Option, Some, None, Result, Ok, Err}
use Rattle.som_model.specs.declared.class.Entry.{Entry}
use Rattle.som_model.specs.declared.class.Entry.TheVariants as entries
use Rattle.som_model.specs.declared.limits.TheConstants.{MAX_ENTRIES, MAX_OVERRIDES, MAX_PARAMETERS, MAX_PARENTS, MAX_SELECTS, MAX_VARIABLES}
use Rattle.som_model.specs.Lists.{first}
use Rattle.som_ast.specs.declared.interface.Item.{Item}
use Rattle.som_sema_drafts.specs.Drafts.{InterfaceDraft}
use Rattle.som_sema_drafts.specs.Items.{Chosen, chosen, chosen_by, given_in}
use Rattle.som_sema_drafts.specs.declared.types.Refused.{Refused}
use Rattle.som_sema_drafts.specs.declared.types.Refused.TheVariants as faults

-- a limit that is passed
pub record Passed : Type 0 where
  pub quantity : List ℕ
  pub number : ℕ

abbrev pub at_most : List ℕ → ℕ → ℕ → List Passed
at_most quantity number count = if nat_le count number then [] else record { quantity = quantity; number = number } ∷ []

abbrev pub entry_limits : Entry → List Passed
entry_limits (entries.Introduced name sig way) = at_most (codes "parameters") MAX_PARAMETERS (length sig.params)
entry_limits (entries.Moved name to) = []

-- what one item selects
abbrev pub chosen_at : Item → List Chosen
chosen_at i = flat_map chosen_by (given_in i)

-- the limits that a class passes; its selects are those of the text
abbrev pub class_limits : InterfaceDraft → List Passed
class_limits d =
    at_most (codes "parents") MAX_PARENTS (length d.class.face.parents)
    ++ at_most (codes "entries") MAX_ENTRIES (length d.class.face.entries)
    ++ at_most (codes "overrides") MAX_OVERRIDES (length d.class.overrides)
    ++ at_most (codes "selects") MAX_SELECTS (length (chosen d.text.items))
    ++ at_most (codes "variables") MAX_VARIABLES (length d.class.variables)
    ++ flat_map entry_limits d.class.face.entries

-- the first limit that one of these classes passes
abbrev pub limit_passed : List InterfaceDraft → Option Passed
limit_passed ds = first (flat_map class_limits ds)

-- all is well exactly where no limit is passed, and a limit that is told is that one; want of memory says nothing
abbrev pub KeepsLimit : Option Passed → Result (Unit {0}) Refused → Type 0
KeepsLimit passed (Ok _) = passed ≡ None
KeepsLimit passed (Err (faults.Rule b)) = ⊥
KeepsLimit passed (Err (faults.Limit quantity number)) = passed ≡ Some (record { quantity = quantity; number = number })
KeepsLimit passed (Err faults.NoMemory) = Unit {0}
