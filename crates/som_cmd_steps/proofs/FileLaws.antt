-- What a store has under a name, and what it has not.
use Rattle.std.proofs.Common.{◌≡◌, ℕ, List, Option, Some, None, Ok, Err, refl, ap}
use Rattle.std.specs.Option.{ok_or}
use Rattle.som_cmd_steps.specs.declared.stop.Refusal.{Refusal}
use Rattle.som_model.specs.Bytes.{Files}
use Rattle.som_cmd_steps.specs.Fetching.{file_of, Has}
use Rattle.som_cmd_steps.specs.Lines.{absent}
use Rattle.som_cmd_steps.specs.Steps.{FollowsTold}

pub missing_by : (o : Option (List ℕ)) (name : List ℕ) (r : Refusal) → ok_or o (absent name) ≡ Err r → (o ≡ None) × (r ≡ absent name)
missing_by None name r e = (refl, cc)
missing_by (Some b) name r e = absurd cc

pub got_by : (o : Option (List ℕ)) (name b : List ℕ) → o ≡ Some b → ok_or o (absent name) ≡ Ok b
got_by o name b e = ap (λ (x : Option (List ℕ)). ok_or x (absent name)) e

pub found_by : (o : Option (List ℕ)) (name b : List ℕ) → ok_or o (absent name) ≡ Ok b → o ≡ Some b
found_by None name b e = absurd cc
found_by (Some a) name b e = let same : a ≡ b = cc in ap (λ (x : List ℕ). Some x) same

-- a file that was got is there, where the files are told
pub has_bytes : (files : Option Files) (name bytes : List ℕ) → FollowsTold files (Ok bytes) (file_of name) → Has files name
has_bytes None name bytes f = tt
has_bytes (Some told) name bytes f = (bytes, found_by _ name bytes f)
