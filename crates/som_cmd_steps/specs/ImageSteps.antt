-- What reading an image and looking at its rules answers.
use Rattle.std.specs.Prelude.{ℕ, nat_lt, Bool, if◌then◌else◌, List, Result, Ok, Err, Option, Some, None}
use Rattle.som_model.specs.declared.program.Release.{Release}
use Rattle.som_model.specs.Lists.{every}
use Rattle.som_model.specs.Steps.{◌>>=◌}
use Rattle.som_model.specs.declared.program.ClientProgram.{ClientProgram}
use Rattle.som_model.specs.Rules.{RuleBreach}
use Rattle.som_model.specs.Conforming.{program_breach, release_breach}
use Rattle.som_image_fields.specs.declared.fault.ImageFault.{ImageFault}
use Rattle.som_image_fields.specs.declared.fault.ImageFault.TheVariants as faults
use Rattle.som_libimage.specs.Libraries.{library_at}
use Rattle.som_cliimage.specs.Programs.{client_at}
use Rattle.som_cmd_steps.specs.declared.stop.Refusal.{Refusal}
use Rattle.som_cmd_steps.specs.Lines.{unread, broken}

abbrev pub are_bytes : List ℕ → Bool
are_bytes bytes = every (λ b. nat_lt b 256) bytes

-- what was read of numbers; those of which one is no byte are no image
abbrev pub read_if : {A : Type 0} → Bool → Result A ImageFault → Result A ImageFault
read_if all_bytes read = if all_bytes then read else Err (faults.Magic 0)

-- the release that numbers are read as, or their first fault
abbrev pub library_in : List ℕ → Result Release ImageFault
library_in bytes = read_if (are_bytes bytes) (library_at bytes)

-- the client program that numbers are read as, or their first fault
abbrev pub client_in : List ℕ → Result ClientProgram ImageFault
client_in bytes = read_if (are_bytes bytes) (client_at bytes)

-- what was read, or the refusal under a name
abbrev pub read_or : {A : Type 0} → List ℕ → Result A ImageFault → Result A Refusal
read_or name (Ok x) = Ok x
read_or name (Err fault) = Err (unread name fault)

-- no rule is broken, or the refusal under a name
abbrev pub kept_or : List ℕ → Option RuleBreach → Result (Unit {0}) Refusal
kept_or name None = Ok tt
kept_or name (Some b) = Err (broken name b)

-- the release of a library image under a name
abbrev pub release_in : List ℕ → List ℕ → Result Release Refusal
release_in name bytes = read_or name (library_in bytes)

-- the program of a client image under a name
abbrev pub program_in : List ℕ → List ℕ → Result ClientProgram Refusal
program_in name bytes = read_or name (client_in bytes)

-- whether a release under a name breaks no rule
abbrev pub rules_kept : List ℕ → Release → Result (Unit {0}) Refusal
rules_kept name r = kept_or name (release_breach r)

-- whether a client program under a name breaks no rule
abbrev pub program_rules_kept : List ℕ → ClientProgram → Result (Unit {0}) Refusal
program_rules_kept name p = kept_or name (program_breach p)

-- what was read under a name, where it breaks no rule
abbrev pub sound : {A : Type 0} → (A → Option RuleBreach) → List ℕ → Result A ImageFault → Result A Refusal
sound breach name read = do
  x ← read_or name read
  kept ← kept_or name (breach x)
  Ok x

-- the release of a library image under a name, where it breaks no rule
abbrev pub sound_release : List ℕ → List ℕ → Result Release Refusal
sound_release name bytes = sound release_breach name (library_in bytes)

-- the program of a client image under a name, where it breaks no rule
abbrev pub sound_program : List ℕ → List ℕ → Result ClientProgram Refusal
sound_program name bytes = sound program_breach name (client_in bytes)
