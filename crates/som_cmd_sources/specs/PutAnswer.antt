-- What a command prints, answers and leaves that compiles something to an image and puts that under a name.
use Rattle.std.specs.Prelude.{◌≡◌, ℕ, List, [], Result, Ok, Err}
use Rattle.std.specs.FinMap.{insert}
use Rattle.som_model.specs.Bytes.{Files}
use Rattle.som_sources.specs.declared.fault.TextFault.{TextFault}
use Rattle.som_cmd_steps.specs.declared.stop.Refusal.{Refusal}
use Rattle.som_cmd_steps.specs.Endings.{Ending, refusing}
use Rattle.som_cmd_sources.specs.Texts.{text_refused}

-- what is compiled to what: an image, or the fault of a text
abbrev pub Compiling : Type 0 → Type 1
Compiling A = A → Result (List ℕ) TextFault → Type 0

-- what was got is compiled to this image
abbrev pub IsMade : {A : Type 0} → Compiling A → Result A Refusal → List ℕ → Type 0
IsMade {A} Comes got image = (x : A) × (got ≡ Ok x) × Comes x (Ok image)

-- nothing is printed, and the image stands under the name
abbrev pub putting : Files → List ℕ → List ℕ → Ending
putting files out image = record { text = []; status = 0; files = insert files out image }

-- First it is got, then it is compiled, and the image is put under the name.
pub data IsPutAnswer {A : Type 0} (Comes : Compiling A) (files : Files) (out : List ℕ) (got : Result A Refusal) : Ending → Type 0 where
  not_got : (r : Refusal) → got ≡ Err r → IsPutAnswer Comes files out got (refusing files r)
  not_compiled : (x : A) (w : TextFault) → got ≡ Ok x → Comes x (Err w) → IsPutAnswer Comes files out got (refusing files (text_refused w))
  puts : (image : List ℕ) → IsMade Comes got image → IsPutAnswer Comes files out got (putting files out image)
