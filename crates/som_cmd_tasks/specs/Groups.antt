-- What the images of a library and of clients come to before they are linked, step by step; the first step that refuses, refuses for all.
use Rattle.std.specs.Prelude.{◌≡◌, ℕ, List, [], ◌∷◌, ◌++◌, All, Option, Some, None, Result, Ok, Err}
use Rattle.som_model.specs.declared.program.ClientProgram.{ClientProgram}
use Rattle.som_model.specs.declared.program.Interface.{Interface}
use Rattle.som_model.specs.declared.program.Release.{Release}
use Rattle.som_model.specs.Bytes.{Files}
use Rattle.som_model.specs.Class.{interface_of}
use Rattle.som_model.specs.Classes.{client_classes, library_classes}
use Rattle.som_model.specs.Compatible.{CompatBreach, first_break}
use Rattle.som_model.specs.Loads.{Loads}
use Rattle.som_model.specs.Steps.{◌>>=◌}
use Rattle.som_cmd_steps.specs.declared.stop.Refusal.{Refusal}
use Rattle.som_cmd_steps.specs.EachImage.{each_passes, each_read}
use Rattle.som_cmd_steps.specs.Fetching.{file_of}
use Rattle.som_cmd_steps.specs.Getting.{images_in}
use Rattle.som_cmd_steps.specs.ImageSteps.{program_in, program_rules_kept, release_in, rules_kept}
use Rattle.som_cmd_steps.specs.Lines.{not_kept}
use Rattle.som_cmd_tasks.specs.declared.group.Group.{Group}

-- the program of each client image, under its name
abbrev pub programs_in : List (List ℕ) → List (List ℕ) → Result (List ClientProgram) Refusal
programs_in names images = each_read program_in names images

-- each client program breaks no rule
abbrev pub programs_kept : List (List ℕ) → List ClientProgram → Result (Unit {0}) Refusal
programs_kept names ps = each_passes program_rules_kept names ps

-- the library keeps what is asked, or the refusal tells what it doesn't keep under the library's name
abbrev pub kept_or : List ℕ → Option CompatBreach → Result (Unit {0}) Refusal
kept_or library None = Ok tt
kept_or library (Some b) = Err (not_kept library b)

-- a library with this interface keeps all that each client was compiled against
abbrev pub each_kept : List ℕ → Interface → List ClientProgram → Result (Unit {0}) Refusal
each_kept library shown [] = Ok tt
each_kept library shown (p ∷ ps) = do
  kept ← kept_or library (first_break p.base shown)
  each_kept library shown ps

-- the library is read and then the clients, the library's rules are looked at and then each client's, and then each client is compared with the library
abbrev pub group_of : List ℕ → List (List ℕ) → List ℕ → List (List ℕ) → Result Group Refusal
group_of library clients library_bytes images = do
  r ← release_in library library_bytes
  ps ← programs_in clients images
  kept ← rules_kept library r
  each ← programs_kept clients ps
  fit ← each_kept library (interface_of r) ps
  Ok (record { release = r; programs = ps })

-- all images are got before any is read, the library's first
abbrev pub group_in : List ℕ → List (List ℕ) → Files → Result Group Refusal
group_in library clients files = do
  library_bytes ← file_of library files
  images ← images_in clients files
  group_of library clients library_bytes images

-- nothing is in the way of linking each of these clients
abbrev pub AllKept : Interface → List ClientProgram → Type 0
AllKept shown ps = All (λ (p : ClientProgram). first_break p.base shown ≡ None) ps

-- the classes of the release and of the client can be loaded with the client's main
abbrev pub CanLoad : Release → ClientProgram → Type 0
CanLoad r p = Loads (library_classes r ++ client_classes p) p.main

abbrev pub AllLoad : Release → List ClientProgram → Type 0
AllLoad r ps = All (λ (p : ClientProgram). CanLoad r p) ps
