-- What each step answers and leaves of a command that compiles something and puts its image is what the command does.
use Rattle.std.proofs.Common.{◌≡◌, ℕ, ◌≤◌, List, Option, Some, None, Result, Ok, Err, sym, subst}
use Rattle.som_io.proofs.ShownLaws.{rose_earlier}
use Rattle.som_model.specs.declared.program.Interface.{Interface}
use Rattle.som_model.specs.Bytes.{AreBytes, Files}
use Rattle.som_model.specs.Class.{interface_of}
use Rattle.som_sources.specs.declared.fault.CompileFault.{CompileFault}
use Rattle.som_sources.specs.declared.fault.TextFault.{TextFault}
use Rattle.som_sources.specs.declared.source.Source.{Source}
use Rattle.som_sources.specs.Reading.{Says}
use Rattle.som_sources.specs.declared.fault.CompileFault.TheVariants as compiling
use Rattle.som_compile.specs.Compiling.{Compiles, CompilesClient}
use Rattle.som_cmd_steps.specs.declared.stop.Refusal.{Refusal}
use Rattle.som_cmd_steps.specs.declared.stop.CommandStop.{CommandStop}
use Rattle.som_cmd_steps.specs.Endings.{refusing}
use Rattle.som_cmd_steps.specs.Cause.{IsQuietStop}
use Rattle.som_cmd_steps.specs.Refusing.{RefusesAs}
use Rattle.som_cmd_steps.specs.Steps.{FollowsTold}
use Rattle.som_cmd_steps.specs.declared.stop.CommandStop.TheVariants as stops
use Rattle.som_cmd_sources.specs.declared.client_parts.ClientParts.{ClientParts}
use Rattle.som_cmd_sources.specs.Getting.{FailsGettingParts, FailsGettingTexts}
use Rattle.som_cmd_sources.specs.Texts.{texts_in}
use Rattle.som_cmd_sources.specs.PutAnswer.{Compiling, IsMade, IsPutAnswer, not_got, not_compiled}
use Rattle.som_cmd_sources.specs.Compiled.{Compiled, Refuses}
use Rattle.som_cmd_sources.specs.Parts.{parts_in}
use Rattle.som_cmd_build.specs.declared.putting.PutEnd.{PutEnd}
use Rattle.som_cmd_build.specs.declared.putting.PutEnd.TheVariants as ends
use Rattle.som_cmd_build.specs.ClientAnswer.{CompilesParts}
use Rattle.som_cmd_build.specs.PutSteps.{EndHasCause, Placed, PlacedTold, Puts, PutsTold}

-- ---- what the texts are compiled to

-- what is wrong with them is refused
pub refused_as : (Told : Result (List ℕ) TextFault → Type 0) (fault : CompileFault) (stop : CommandStop) → Says {A = List ℕ} Told (Err fault) → Refuses fault stop → Compiled Told (Err stop)
refused_as Told (compiling.Text w) (stops.Refused r) told is = (w, told, is)
refused_as Told (compiling.Text w) (stops.StoreFailed line) told is = absurd is
refused_as Told (compiling.Text w) stops.NoMemory told is = tt
refused_as Told compiling.NoMemory stop told is = subst (λ (x : CommandStop). Compiled Told (Err x)) (sym is) tt

pub library_refused : (ss : List Source) (fault : CompileFault) (stop : CommandStop) → Says {A = List ℕ} (Compiles ss) (Err fault) → Refuses fault stop → Compiled (Compiles ss) (Err stop)
library_refused ss fault stop told is = refused_as (Compiles ss) fault stop told is

pub client_refused : (base : Interface) (parts : ClientParts) (fault : CompileFault) (stop : CommandStop) → base ≡ interface_of parts.base → Says {A = List ℕ} (CompilesClient base parts.texts) (Err fault) → Refuses fault stop
    → Compiled (CompilesParts parts) (Err stop)
client_refused base parts fault stop is told refuses =
    refused_as (CompilesParts parts) fault stop (subst (λ (i : Interface). Says {A = List ℕ} (CompilesClient i parts.texts) (Err fault)) is told) refuses

pub client_made : (base : Interface) (parts : ClientParts) (image : List ℕ) → base ≡ interface_of parts.base → CompilesClient base parts.texts (Ok image) → Compiled (CompilesParts parts) (Ok image)
client_made base parts image is made = subst (λ (i : Interface). CompilesClient i parts.texts (Ok image)) is made

pub quietly : (fault : CompileFault) (stop : CommandStop) → Refuses fault stop → IsQuietStop stop
quietly (compiling.Text w) (stops.Refused r) is = tt
quietly (compiling.Text w) (stops.StoreFailed line) is = absurd is
quietly (compiling.Text w) stops.NoMemory is = tt
quietly compiling.NoMemory stop is = subst IsQuietStop (sym is) tt

-- ---- what the command does

module _ {A : Type 0} (Comes : Compiling A) where
  -- it can't be got
  pub not_there : (files new : Option Files) (out : List ℕ) (got : Files → Result A Refusal) (stop : CommandStop) → new ≡ files → FollowsTold {A = A} files (Err stop) got → PutsTold Comes files out got (Err stop) new
  not_there None new out got stop same f = tt
  not_there (Some files) new out got (stops.Refused r) same f = (not_got r f, same)
  not_there (Some files) new out got (stops.StoreFailed line) same f = same
  not_there (Some files) new out got stops.NoMemory same f = same

  -- it isn't compiled
  pub not_made : (files new : Option Files) (out : List ℕ) (got : Files → Result A Refusal) (x : A) (stop : CommandStop) → new ≡ files → FollowsTold files (Ok x) got → Compiled (Comes x) (Err stop)
      → PutsTold Comes files out got (Err stop) new
  not_made None new out got x stop same f g = tt
  not_made (Some files) new out got x (stops.Refused r) same f g =
      (subst (λ (z : Refusal). IsPutAnswer Comes files out (got files) (refusing files z)) (sym g.2) (not_compiled x g.0 f g.1), same)
  not_made (Some files) new out got x (stops.StoreFailed line) same f g = absurd g
  not_made (Some files) new out got x stops.NoMemory same f g = same

  -- the image is put
  placed : (files : Files) (new : Option Files) (out : List ℕ) (got : Files → Result A Refusal) (image : List ℕ) → IsMade Comes (got files) image → AreBytes image → (result : Result PutEnd CommandStop)
      → RefusesAs (λ r. ⊥) result → Placed files out image result new → Puts Comes files out (got files) result new
  placed files new out got image are bytes (Ok ends.Done) none p = (image, are, bytes, p)
  placed files new out got image are bytes (Ok (ends.Failed put)) none p = (image, are, bytes, p)
  placed files new out got image are bytes (Err (stops.Refused r)) none p = absurd none
  placed files new out got image are bytes (Err (stops.StoreFailed line)) none p = p
  placed files new out got image are bytes (Err stops.NoMemory) none p = p

  pub made_put : (files before new : Option Files) (out : List ℕ) (got : Files → Result A Refusal) (x : A) (image : List ℕ) (result : Result PutEnd CommandStop) → before ≡ files
      → FollowsTold files (Ok x) got → Compiled (Comes x) (Ok image) → AreBytes image → RefusesAs (λ r. ⊥) result → PlacedTold before out image result new → PutsTold Comes files out got result new
  made_put None before new out got x image result same f g bytes none p = tt
  made_put (Some files) before new out got x image result same f g bytes none p =
      placed files new out got image (x, f, g) bytes result none (subst (λ (z : Option Files). PlacedTold z out image result new) same p)

-- a library
pub texts_refused : (files new : Option Files) (out : List ℕ) (names : List (List ℕ)) (stop : CommandStop) → new ≡ files → FollowsTold {A = List Source} files (Err stop) (texts_in names)
    → PutsTold Compiles files out (texts_in names) (Err stop) new
texts_refused files new out names stop same f = not_there Compiles files new out (texts_in names) stop same f

pub image_refused : (files new : Option Files) (out : List ℕ) (names : List (List ℕ)) (texts : List Source) (stop : CommandStop) → new ≡ files → FollowsTold files (Ok texts) (texts_in names)
    → Compiled (Compiles texts) (Err stop) → PutsTold Compiles files out (texts_in names) (Err stop) new
image_refused files new out names texts stop same f g = not_made Compiles files new out (texts_in names) texts stop same f g

pub image_put : (files before new : Option Files) (out : List ℕ) (names : List (List ℕ)) (texts : List Source) (image : List ℕ) (result : Result PutEnd CommandStop) → before ≡ files
    → FollowsTold files (Ok texts) (texts_in names) → Compiled (Compiles texts) (Ok image) → AreBytes image → RefusesAs (λ r. ⊥) result → PlacedTold before out image result new
    → PutsTold Compiles files out (texts_in names) result new
image_put files before new out names texts image result same f g bytes none p = made_put Compiles files before new out (texts_in names) texts image result same f g bytes none p

-- a client
pub parts_refused : (files new : Option Files) (out library : List ℕ) (names : List (List ℕ)) (stop : CommandStop) → new ≡ files → FollowsTold {A = ClientParts} files (Err stop) (parts_in library names)
    → PutsTold CompilesParts files out (parts_in library names) (Err stop) new
parts_refused files new out library names stop same f = not_there CompilesParts files new out (parts_in library names) stop same f

pub client_image_refused : (files new : Option Files) (out library : List ℕ) (names : List (List ℕ)) (parts : ClientParts) (stop : CommandStop) → new ≡ files → FollowsTold files (Ok parts) (parts_in library names)
    → Compiled (CompilesParts parts) (Err stop) → PutsTold CompilesParts files out (parts_in library names) (Err stop) new
client_image_refused files new out library names parts stop same f g = not_made CompilesParts files new out (parts_in library names) parts stop same f g

pub client_image_put : (files before new : Option Files) (out library : List ℕ) (names : List (List ℕ)) (parts : ClientParts) (image : List ℕ) (result : Result PutEnd CommandStop) → before ≡ files
    → FollowsTold files (Ok parts) (parts_in library names) → Compiled (CompilesParts parts) (Ok image) → AreBytes image → RefusesAs (λ r. ⊥) result → PlacedTold before out image result new
    → PutsTold CompilesParts files out (parts_in library names) result new
client_image_put files before new out library names parts image result same f g bytes none p =
    made_put CompilesParts files before new out (parts_in library names) parts image result same f g bytes none p

-- ---- where the store failed

-- in the put, after the gets
pub rose_in_put : (is_line : List ℕ → Type 0) (out : List ℕ) (count mid now : ℕ) (result : Result PutEnd CommandStop) → count ≤ mid → EndHasCause (λ line. ⊥) out mid now result → EndHasCause is_line out count now result
rose_in_put is_line out count mid now (Ok ends.Done) le cause = tt
rose_in_put is_line out count mid now (Ok (ends.Failed put)) le cause = (rose_earlier count mid now le cause.0, cause.1)
rose_in_put is_line out count mid now (Err (stops.Refused r)) le cause = tt
rose_in_put is_line out count mid now (Err (stops.StoreFailed line)) le cause = absurd cause.1
rose_in_put is_line out count mid now (Err stops.NoMemory) le cause = tt

pub put_fails : (files : Option Files) (out : List ℕ) (names : List (List ℕ)) (count mid now : ℕ) (result : Result PutEnd CommandStop) → count ≤ mid → EndHasCause (λ line. ⊥) out mid now result
    → EndHasCause (FailsGettingTexts files names) out count now result
put_fails files out names count mid now result le cause = rose_in_put (FailsGettingTexts files names) out count mid now result le cause

pub client_put_fails : (files : Option Files) (out library : List ℕ) (names : List (List ℕ)) (count mid now : ℕ) (result : Result PutEnd CommandStop) → count ≤ mid → EndHasCause (λ line. ⊥) out mid now result
    → EndHasCause (FailsGettingParts files library names) out count now result
client_put_fails files out library names count mid now result le cause = rose_in_put (FailsGettingParts files library names) out count mid now result le cause

-- compiling takes nothing from the store
pub image_fails : (files : Option Files) (out : List ℕ) (names : List (List ℕ)) (count now : ℕ) (stop : CommandStop) → IsQuietStop stop → EndHasCause (FailsGettingTexts files names) out count now (Err stop)
image_fails files out names count now (stops.StoreFailed line) quiet = absurd quiet
image_fails files out names count now (stops.Refused r) quiet = tt
image_fails files out names count now stops.NoMemory quiet = tt

pub client_image_fails : (files : Option Files) (out library : List ℕ) (names : List (List ℕ)) (count now : ℕ) (stop : CommandStop) → IsQuietStop stop → EndHasCause (FailsGettingParts files library names) out count now (Err stop)
client_image_fails files out library names count now (stops.StoreFailed line) quiet = absurd quiet
client_image_fails files out library names count now (stops.Refused r) quiet = tt
client_image_fails files out library names count now stops.NoMemory quiet = tt
