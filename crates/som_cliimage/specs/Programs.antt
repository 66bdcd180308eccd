-- What is said of the program of a client image.
use Rattle.std.specs.Prelude.{◌≡◌, ℕ, List, map, Result, Ok}
use Rattle.som_model.specs.declared.program.ClientProgram.{ClientProgram}
use Rattle.som_model.specs.Steps.{◌>>=◌}
use Rattle.som_image_fields.specs.declared.fault.ImageFault.{ImageFault}
use Rattle.som_image_classes.specs.Interfaces.{NamesDiffer}
use Rattle.som_cliimage.specs.Reading.{image_at, wire_at}
use Rattle.som_cliimage.specs.Naming.{program_named}
use Rattle.som_cliimage.specs.Spelling.{FitsProgram, client}
use Rattle.som_cliimage.specs.declared.form.ClientForm.{ClientForm}
use Rattle.som_cliimage.specs.declared.wire.WireProgram.{WireProgram}

-- no two of the classes that a client was compiled against have one name, no two of its own, and no two entries of a class
pub record ProgramNamesDiffer (p : ClientProgram) : Type 0 where
  pub base : NamesDiffer p.base.classes
  pub own : NamesDiffer (map (λ c. c.face) p.classes)

-- the bytes are, field by field, those of numbers and slots that fit, and these stand for the program
pub record SpellsProgram (p : ClientProgram) (bytes : List ℕ) : Type 0 where
  pub wire : WireProgram
  pub spelled : client wire ≡ bytes
  pub fits : FitsProgram wire
  pub names : program_named wire ≡ p

-- what the bytes are read as, with names in the place of numbers
abbrev pub client_at : List ℕ → Result ClientProgram ImageFault
client_at bytes = wire_at bytes >>= λ w. Ok (program_named w)

-- and what they are read as from a place on, with the numbers that a form asks for
abbrev pub client_from : ClientForm → List ℕ → ℕ → Result ClientProgram ImageFault
client_from form bytes place = image_at form bytes place >>= λ w. Ok (program_named w)
