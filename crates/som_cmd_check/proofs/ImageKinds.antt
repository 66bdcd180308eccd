-- How images of both kinds begin.
use Rattle.std.proofs.Common.{◌≡◌, ℕ, true, false, List, [], ◌∷◌, ◌++◌, codes, Some, None, sym, ap}
use Rattle.som_model.specs.declared.program.Release.{Release}
use Rattle.som_model.specs.declared.program.ClientProgram.{ClientProgram}
use Rattle.som_model.specs.Images.{Spelled, ◌then◌, tag, image_version, client_image, library_image}
use Rattle.som_cmd_check.specs.ShowAnswer.{is_client}

spelled_as : (a b : List ℕ) → ◌≡◌ {A = Spelled} (Some a) (Some b) → a ≡ b
spelled_as a b e = cc

library_begins : (version : ℕ) (x y z : Spelled) (bytes : List ℕ) → (Some (codes "SOML") then tag version then x then y then z) ≡ Some bytes → is_client bytes ≡ false
library_begins version (Some a) (Some b) (Some c) bytes e = ap is_client (sym (spelled_as (codes "SOML" ++ version ∷ [] ++ a ++ b ++ c) bytes e))
library_begins version (Some a) (Some b) None bytes e = absurd cc
library_begins version (Some a) None z bytes e = absurd cc
library_begins version None y z bytes e = absurd cc

client_begins : (version : ℕ) (v w x y z : Spelled) (bytes : List ℕ) → (Some (codes "SOMC") then tag version then v then w then x then y then z) ≡ Some bytes → is_client bytes ≡ true
client_begins version (Some a) (Some b) (Some c) (Some d) (Some f) bytes e = ap is_client (sym (spelled_as (codes "SOMC" ++ version ∷ [] ++ a ++ b ++ c ++ d ++ f) bytes e))
client_begins version (Some a) (Some b) (Some c) (Some d) None bytes e = absurd cc
client_begins version (Some a) (Some b) (Some c) None z bytes e = absurd cc
client_begins version (Some a) (Some b) None y z bytes e = absurd cc
client_begins version (Some a) None x y z bytes e = absurd cc
client_begins version None w x y z bytes e = absurd cc

pub of_library : (r : Release) (bytes : List ℕ) → library_image r ≡ Some bytes → is_client bytes ≡ false
unfolding library_image
of_library r bytes e = library_begins (image_version r.classes) _ _ _ bytes e

pub of_client : (p : ClientProgram) (bytes : List ℕ) → client_image p ≡ Some bytes → is_client bytes ≡ true
unfolding client_image
of_client p bytes e = client_begins (image_version p.classes) _ _ _ _ _ bytes e
