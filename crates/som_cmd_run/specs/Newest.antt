-- A client that was compiled against any of a list of releases, on the newest of them.
use Rattle.std.specs.Prelude.{◌≡◌, ◌≢◌, ◌⊎◌, ℕ, Bool, List, [], ◌∷◌, ◌++◌, slice_get, Option, Some}
use Rattle.som_model.specs.declared.key.ClassKey.{ClassKey}
use Rattle.som_model.specs.declared.program.Release.{Release}
use Rattle.som_model.specs.declared.program.ClientProgram.{ClientProgram}
use Rattle.som_model.specs.Ancestors.{Descends}
use Rattle.som_model.specs.Bytes.{Files}
use Rattle.som_model.specs.Class.{Class, interface_of}
use Rattle.som_model.specs.Classes.{classes, hierarchy}
use Rattle.som_model.specs.Compatible.{Accepted}
use Rattle.som_model.specs.Images.{client_image, library_image}
use Rattle.som_model.specs.Lists.{Mem}
use Rattle.som_semantics.specs.Means.{means}
use Rattle.som_model.specs.Metaclass.{meta}
use Rattle.som_semantics.specs.RunText.{run_text}
use Rattle.som_io.specs.Outside.{Rose, ShowsFront}
use Rattle.som_sources.specs.declared.source.Source.{Source}
use Rattle.som_compile.specs.Compiling.{StandForClient}
use Rattle.som_cmd_steps.specs.Outcomes.{StoreFails}
use Rattle.som_cmd_steps.specs.StoredImages.{HoldsImage}
use Rattle.som_cmd_run.specs.RunEnds.{RunsAs}

-- Each release was accepted against the one before it. The client program is the one for which these texts stand, compiled against the release at a place of the list.
-- The store holds the program's image under one name, and under the other that of the newest release.
pub record HoldsNewest (files : Files) (client library : List ℕ) (earlier : List Release) (newest : Release) (place : ℕ) (texts : List Source) (p : ClientProgram) : Type 0 where
  pub accepted : Accepted (earlier ++ newest ∷ [])
  pub against : Release
  pub against_is : slice_get (earlier ++ newest ∷ []) place ≡ Some against
  pub stand : StandForClient (interface_of against) texts p
  pub program : HoldsImage files client (client_image p)
  pub release : HoldsImage files library (library_image newest)

-- the metaclass of each class, also of one that is made of others, descends from the metaclass of each of its parents
abbrev pub MetaclassesDescend : List Class → Type 0
MetaclassesDescend cs = (k parent : ClassKey) → Mem parent ((hierarchy cs).parents k) → Descends (hierarchy cs) (meta cs k) (meta cs parent)

-- What a call comes to that runs the client on the release. It prints the text of what the client means among the release's classes and ends with that meaning's status,
-- unless the store failed, whose count of faults rose then, and the line that says so alone was written; or the sink failed, whose count rose then, or memory ran out,
-- and a front of that text was written, or, where the store failed, of that line.
pub record RunsOnNewest (p : ClientProgram) (r : Release) (fuel : ℕ) (shows : List ℕ → Bool) (is_line : List ℕ → Type 0) (store_before store_now sink_before sink_now status : ℕ) (old new : Option (List ℕ)) : Type 0 where
  pub runs : status ≢ 6 → status ≢ 8 → status ≢ 10 → RunsAs p r fuel shows status old new
  pub store_failed : status ≡ 6 → StoreFails is_line store_before store_now old new
  pub sink_failed : status ≡ 8 → Rose sink_before sink_now
  pub front : (status ≡ 8) ⊎ (status ≡ 10) → ShowsFront old new (run_text shows (means r p fuel)) ⊎ (Rose store_before store_now × (line : List ℕ) × is_line line × ShowsFront old new line)
  pub metaclasses : MetaclassesDescend (classes r p)
