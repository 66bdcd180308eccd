-- How the parts of classes are read at a place with names: as those with numbers are, with what each number stands for.
use Rattle.std.specs.Prelude.{ℕ, ◌==◌, false, if◌then◌else◌, List, Result, Err}
use Rattle.std.specs.Int.{w8, w16}
use Rattle.som_model.specs.Steps.{◌>>=◌}
use Rattle.som_model.specs.declared.limits.TheConstants.{MAX_VARIABLES, MAX_OVERRIDES}
use Rattle.som_model.specs.declared.key.ClassKey.{ClassKey}
use Rattle.som_model.specs.declared.syntax.Block.{Block}
use Rattle.som_model.specs.declared.class.Variable.{Variable}
use Rattle.som_model.specs.declared.class.Body.{Body}
use Rattle.som_model.specs.declared.class.Body.TheVariants as bodies
use Rattle.som_model.specs.declared.class.Override.{Override}
use Rattle.som_image_fields.specs.declared.fault.ImageFault.{ImageFault}
use Rattle.som_image_fields.specs.declared.fault.ImageFault.TheVariants as faults
use Rattle.som_image_fields.specs.declared.read.Read.{Read}
use Rattle.som_image_fields.specs.declared.face.WireFace.{WireFace}
use Rattle.som_image_fields.specs.declared.method.Ranges.{Ranges}
use Rattle.som_image_fields.specs.Fields.{many_at, counted_at}
use Rattle.som_image_fields.specs.Fitting.{levels_left}
use Rattle.som_image_fields.specs.Reading.{number_at, text_at, kind_at, method_at}
use Rattle.som_wire.specs.Making.{Reads, of_one, of_two, of_three}
use Rattle.som_wire.specs.Reading.{block_at}
use Rattle.som_image_decode.specs.declared.directory.Directory.{Directory}
use Rattle.som_image_decode.specs.Naming.{kind_named, method_named}
use Rattle.som_image_decode.specs.NamedBlocks.{block_named}
use Rattle.som_image_bodies.specs.Naming.{naming}
use Rattle.som_image_classes.specs.declared.named_part.NamedPart.{NamedPart}
use Rattle.som_image_classes.specs.ReadClasses.{each_at, introduced_count}

unfoldable pub named_variable_at : List ClassKey → ℕ → Reads Variable
named_variable_at ks classes = of_two text_at (kind_at classes false) (λ name kind. record { name = name; kind = kind_named ks kind })

-- a block whose statements have level 1
abbrev pub named_block_at : Directory → Ranges → Reads Block
named_block_at d ranges bytes place = naming (block_named d) (block_at (levels_left 1) ranges bytes place)

-- what follows the tag of a body
abbrev pub named_body_after : Reads Block → List ℕ → ℕ → Read ℕ → Result (Read Body) ImageFault
named_body_after block bytes place tag =
    if tag.value == 0 then of_one block bodies.User bytes tag.next else
    if tag.value == 1 then of_one (number_at w8) bodies.Get bytes tag.next else
    if tag.value == 2 then of_one (number_at w8) bodies.Set bytes tag.next else
    Err (faults.Tag place)

unfoldable pub named_body_at : Directory → Ranges → Reads Body
named_body_at d ranges bytes place = number_at w8 bytes place >>= named_body_after (named_block_at d ranges) bytes place

-- a method, and the block that overrides it
unfoldable pub named_override_at : Directory → Ranges → Reads Override
named_override_at d ranges = of_two (method_at ranges) (named_block_at d ranges) (λ method block. record { method = method_named d method; block = block })

abbrev pub named_variables_at : List ClassKey → ℕ → Reads (List Variable)
named_variables_at ks classes bytes = counted_at (number_at w8 bytes) 0 MAX_VARIABLES (named_variable_at ks classes bytes)

abbrev pub named_bodies_at : Directory → Ranges → ℕ → Reads (List Body)
named_bodies_at d ranges introduced bytes = many_at (named_body_at d ranges bytes) introduced

abbrev pub named_overrides_at : Directory → Ranges → Reads (List Override)
named_overrides_at d ranges bytes = counted_at (number_at w16 bytes) 0 MAX_OVERRIDES (named_override_at d ranges bytes)

-- the variables, so many bodies, and the overrides
unfoldable pub named_part_at : Directory → Ranges → ℕ → Reads NamedPart
named_part_at d ranges introduced = of_three (named_variables_at d.keys ranges.classes) (named_bodies_at d ranges introduced) (named_overrides_at d ranges) (λ variables bodies overrides. record { variables = variables; bodies = bodies; overrides = overrides })

-- a part for each of these faces
abbrev pub named_parts_at : Directory → Ranges → List WireFace → List ℕ → ℕ → Result (Read (List NamedPart)) ImageFault
named_parts_at d ranges faces bytes = each_at (λ face. named_part_at d ranges (introduced_count face) bytes) faces
