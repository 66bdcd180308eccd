-- What is lent from classes of an interface, as the definitions have it.
use Rattle.std.specs.Prelude.{◌≡◌, Option, Some, None}
use Rattle.som_model.specs.declared.program.Interface.{Interface}
use Rattle.som_model.specs.Classes.{interface_classes}
use Rattle.som_verify_classes.specs.Modules.{classes_of}
use Rattle.som_verify_forms.specs.declared.knowledge.Knowledge.{Knowledge}
use Rattle.som_verify_forms.specs.Knowing.{IsKnowledge}
use Rattle.som_witness.specs.Showings as ways
use Rattle.som_witness_programs.specs.declared.showing.Showing.{Showing}
use Rattle.som_witness_programs.specs.declared.showing.Showing.TheVariants as showings
use Rattle.som_witness_programs.specs.declared.differing.Change.{Change}

-- the way itself
abbrev pub shown : Showing → ways.Showing
shown showings.StandsBelow = ways.StandsBelow
shown (showings.KeepsObject a) = ways.KeepsObject a.now
shown (showings.Overrides params) = ways.Overrides params.now
shown (showings.CallsSlot params) = ways.CallsSlot params.now
shown (showings.Calls params) = ways.Calls params.now
shown (showings.Passes params place kind) = ways.Passes params.now place kind.now
shown (showings.KeepsParameter params place kind) = ways.KeepsParameter params.now place kind.now
shown (showings.ReturnsNothing params) = ways.ReturnsNothing params.now
shown (showings.ReturnsVariable params kind) = ways.ReturnsVariable params.now kind.now
shown (showings.ReturnsAnswer params kind) = ways.ReturnsAnswer params.now kind.now
shown (showings.ReturnsClass k) = ways.ReturnsClass k.now

-- the change itself
abbrev pub change_shown : Option Change → Option ways.Change
change_shown None = None
change_shown (Some d) = Some (record { place = d.place; old_type = d.old_type.now; new_type = d.new_type.now })

-- what is known of the classes of an interface
pub record IsOf (i : Interface) (known : Knowledge) : Type 0 where
  pub knowledge : IsKnowledge known
  pub classes : classes_of known.classes.now ≡ interface_classes i
