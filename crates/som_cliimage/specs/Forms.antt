-- Numbers that a client image has to have where it stands.
use Rattle.std.specs.Prelude.{◌≡◌, ℕ, ◌==◌, if◌then◌else◌, List, Option, None, Some, Result, Ok, Err}
use Rattle.std.specs.Int.{Width}
use Rattle.som_model.specs.Steps.{◌>>=◌}
use Rattle.som_image_fields.specs.declared.fault.ImageFault.{ImageFault}
use Rattle.som_image_fields.specs.declared.fault.ImageFault.TheVariants as faults
use Rattle.som_image_fields.specs.Reading.{number_at}
use Rattle.som_cliimage.specs.declared.form.ClientForm.{ClientForm}

-- a client image in a file of its own: no number is asked for
abbrev pub any_form : ClientForm
any_form = record { base_classes = None; statements = None }

-- a count is the number that is asked for, where one is
abbrev pub IsAsked : Option ℕ → ℕ → Type 0
IsAsked None count = Unit {0}
IsAsked (Some asked) count = count ≡ asked

-- so many classes in the base and so many statements in main are what a form asks for
pub record HasForm (form : ClientForm) (classes statements : ℕ) : Type 0 where
  pub base : IsAsked form.base_classes classes
  pub main : IsAsked form.statements statements

-- the number at a place, where one is asked for, is that number
abbrev pub asked_at : Width → Option ℕ → List ℕ → ℕ → Result (Unit {0}) ImageFault
asked_at w None bytes place = Ok tt
asked_at w (Some asked) bytes place = number_at w bytes place >>= λ count. if count.value == asked then Ok tt else Err (faults.Number place)
