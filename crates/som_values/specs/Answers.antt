-- What is answered in the place of the meaning's values and faults.
use Rattle.std.specs.Prelude.{◌≡◌, ℤ, Result, Ok, Err, Bool}
use Rattle.som_model.specs.declared.program.Fault.{Fault}
use Rattle.som_semantics.specs.State.{Value, Long, Boolean, Ref, Tried}
use Rattle.som_objects.specs.declared.cell.Cell.{Cell}
use Rattle.som_values.specs.declared.reference.Reference.{Reference}
use Rattle.som_values.specs.declared.stopped.Stopped.{Stopped}
use Rattle.som_values.specs.declared.stopped.Stopped.TheVariants as stops
use Rattle.som_values.specs.Shown.{Showing, shown, shown_ref}

-- a cell that stands for the meaning's value, the meaning's fault, or want of memory
abbrev pub Answers : Showing → Result Cell Stopped → Tried Value → Type 0
Answers s (Ok cell) t = t ≡ Ok (shown s cell)
Answers s (Err (stops.Fault f)) t = t ≡ Err f
Answers s (Err stops.NoMemory) t = Unit {0}

-- what an answer without want of memory stands for: the value of a cell, or the fault
abbrev pub shown_tried : Showing → Result Cell Fault → Tried Value
shown_tried s (Ok cell) = Ok (shown s cell)
shown_tried s (Err f) = Err f

-- what an answered reference stands for, or the fault
abbrev pub shown_found : Showing → Result Reference Fault → Tried Ref
shown_found s (Ok r) = Ok (shown_ref s r)
shown_found s (Err f) = Err f

-- what an answered number stands for, or the fault
abbrev pub long_tried : Result ℤ Fault → Tried Value
long_tried (Ok z) = Ok (Long z)
long_tried (Err f) = Err f

-- a value that passes a test, or the fault
abbrev pub passed : Value → Result (Unit {0}) Fault → Tried Value
passed v (Ok _) = Ok v
passed v (Err f) = Err f

-- what an answer TRUE or FALSE stands for, or the fault
abbrev pub truth_tried : Result Bool Fault → Tried Value
truth_tried (Ok b) = Ok (Boolean b)
truth_tried (Err f) = Err f
