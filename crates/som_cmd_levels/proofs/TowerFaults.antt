-- Reading a tower image never comes to want of memory.
use Rattle.std.proofs.Common.{◌≡◌, ℕ, ◌==◌, ◌&&◌, Bool, false, List, length, Result, Err, subst}
use Rattle.std.specs.Prelude.{codes, nat_le, sum}
use Rattle.std.specs.Int.{w8, w16}
use Rattle.som_image_fields.specs.declared.fault.ImageFault.{ImageFault}
use Rattle.som_image_fields.specs.declared.fault.ImageFault.TheVariants as faults
use Rattle.som_image_fields.specs.Reading.{number_at}
use Rattle.som_image_classes.specs.ReadClasses.{head_at}
use Rattle.som_cliimage.specs.declared.form.ClientForm.{ClientForm}
use Rattle.som_cliimage.specs.Programs.{client_from}
use Rattle.som_cliimage.specs.Reading.{image_at}
use Rattle.som_towerimage.specs.declared.level.Level.{Level}
use Rattle.som_towerimage.specs.declared.level.TheConstants.{MAX_BELOW_CLIENT, MAX_BELOW_LIBRARY}
use Rattle.som_towerimage.specs.Reading.{below_at, flag_at, level_at, level_form, sizes_at}
use Rattle.som_cmd_steps.specs.ImageSteps.{are_bytes}
use Rattle.som_cmd_steps.proofs.FaultLaws.{head_reads, image_reads}
use Rattle.som_cmd_steps.proofs.FieldFaults.{Reads, either_reads, many_reads, number_reads, then_reads}
use Rattle.som_cmd_levels.specs.LevelImages.{in_place, is_kind, level_in, of_kind, placed_in, upper_in}

below_reads : (bytes : List ℕ) (place : ℕ) → Reads (below_at bytes place)
below_reads bytes place = then_reads (number_at w8 bytes place) _ (number_reads w8 bytes place) (λ below. either_reads (nat_le 1 below.value && nat_le below.value MAX_BELOW_CLIENT) _ _ tt tt)

flag_reads : (below : ℕ) (bytes : List ℕ) (place : ℕ) → Reads (flag_at below bytes place)
flag_reads below bytes place = then_reads (number_at w8 bytes place) _ (number_reads w8 bytes place) (λ flag.
    either_reads (flag.value == 1) _ _ tt (either_reads ((flag.value == 0) && nat_le below MAX_BELOW_LIBRARY) _ _ tt tt))

client_reads : (form : ClientForm) (bytes : List ℕ) (place : ℕ) → Reads (client_from form bytes place)
client_reads form bytes place = then_reads (image_at form bytes place) _ (image_reads form bytes place) (λ w. tt)

level_reads : (bytes : List ℕ) → Reads (level_at bytes)
unfolding level_at
level_reads bytes = then_reads (head_at (codes "SOMT") 1 bytes 0) _ (head_reads (codes "SOMT") 1 bytes 0) (λ version.
    then_reads (below_at bytes version.next) _ (below_reads bytes version.next) (λ below.
    then_reads (flag_at below.value bytes below.next) _ (flag_reads below.value bytes below.next) (λ client.
    then_reads (sizes_at below.value bytes client.next) _ (many_reads (number_at w16 bytes) (number_reads w16 bytes) below.value client.next) (λ sizes.
    then_reads (client_from (level_form (sum sizes.value) client.value) bytes sizes.next) _ (client_reads (level_form (sum sizes.value) client.value) bytes sizes.next) (λ program. tt)))))

-- so its fault is one of its bytes
pub no_level_want : (bytes : List ℕ) → level_at bytes ≡ Err faults.NoMemory → ⊥
no_level_want bytes e = let P : Result Level ImageFault → Type 0 = λ r. Reads r in subst P e (level_reads bytes)

-- ---- also where it is asked to stand at a place

in_reads : (bytes : List ℕ) → Reads (level_in bytes)
in_reads bytes = either_reads (are_bytes bytes) (level_at bytes) _ (level_reads bytes) tt

kind_reads : (client : Bool) (l : Level) → Reads (of_kind client l)
kind_reads client l = either_reads (is_kind client l) _ _ tt tt

pub upper_reads : (bytes : List ℕ) → Reads (upper_in bytes)
upper_reads bytes = then_reads (level_in bytes) (of_kind false) (in_reads bytes) (kind_reads false)

pub placed_reads : (below : ℕ) (client : Bool) (bytes : List ℕ) → Reads (placed_in below client bytes)
placed_reads below client bytes = then_reads (level_in bytes) (in_place below client) (in_reads bytes) (λ l. either_reads (length l.sizes == below) (of_kind client l) _ (kind_reads client l) tt)
