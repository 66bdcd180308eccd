-- What the code makes of the text of a block.
use Rattle.std.specs.Prelude.{◌≡◌, Result, Ok, Err}
use Rattle.som_model.specs.declared.syntax.Block.{Block}
use Rattle.som_verify_forms.specs.declared.code_place.TypeFault.{TypeFault}
use Rattle.som_verify_forms.specs.declared.code_place.TypeFault.TheVariants as types
use Rattle.som_elab_body.specs.declared.fault.BodyFault.{BodyFault}
use Rattle.som_elab_body.specs.declared.fault.BodyFault.TheVariants as faults
use Rattle.som_elab_body.specs.Statements.{Breaks, ManyLocals, Told}

-- a fault of an expression, as one of a body
abbrev pub of_type_fault : TypeFault → BodyFault
of_type_fault (types.Rule rule) = faults.Rule rule
of_type_fault types.NoMemory = faults.NoMemory

-- why a body stands for none: the rule that it breaks, or the limit of locals; want of memory says nothing
abbrev pub Stops : {A : Type 0} → Told A → BodyFault → Type 0
Stops comes (faults.Rule rule) = comes ≡ Err (Breaks rule)
Stops comes faults.TooManyLocals = comes ≡ Err ManyLocals
Stops comes faults.NoMemory = Unit {0}

-- a block is made, or what is wrong with it is told
abbrev pub Blocks : Told Block → Result Block BodyFault → Type 0
Blocks comes (Ok b) = comes ≡ Ok b
Blocks comes (Err fault) = Stops comes fault
