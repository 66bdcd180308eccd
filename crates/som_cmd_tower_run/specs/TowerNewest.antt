-- A tower client that was compiled against any releases of an accepted tower, on the newest of each level.
use Rattle.std.specs.Prelude.{◌≡◌, ◌≢◌, ◌⊎◌, ◌++◌, ℕ, true, List, [], ◌∷◌, map, Option, None}
use Rattle.som_model.specs.declared.program.Release.{Release}
use Rattle.som_model.specs.Bytes.{Files}
use Rattle.som_model.specs.Classes.{interface_classes}
use Rattle.som_model.specs.Conforming.{faces_breach}
use Rattle.som_model.specs.Images.{library_image}
use Rattle.som_model.specs.Kernel.{kernel}
use Rattle.som_semantics.specs.RunText.{no_trace, run_text}
use Rattle.som_level_programs.specs.Towers.{LevelProgram}
use Rattle.som_flat_laws.specs.AcceptedTower.{AcceptedTower, AreNewest, Choice, chosen_interfaces}
use Rattle.som_flat_laws.specs.Flat.{flat_interface, sizes_of}
use Rattle.som_towerimage.specs.declared.level.Level.{Level}
use Rattle.som_towerimage.specs.Spelling.{tower_image}
use Rattle.som_tower.specs.Towers.{plain, tower_classes}
use Rattle.som_io.specs.Outside.{Rose, ShowsFront}
use Rattle.som_sources.specs.declared.source.Source.{Source}
use Rattle.som_compile.specs.Compiling.{StandForClient}
use Rattle.som_cmd_steps.specs.Outcomes.{StoreFails}
use Rattle.som_cmd_steps.specs.StoredImages.{HoldsImage}
use Rattle.som_cmd_run.specs.Newest.{MetaclassesDescend}
use Rattle.som_cmd_tower_run.specs.TowerRunAnswer.{tower_means}
use Rattle.som_cmd_tower_run.specs.TowerRunEnds.{RunsTowerAs}

-- lists of levels as their laws see them
abbrev pub programs_of : List (List Level) → List (List LevelProgram)
programs_of lists = map (λ (list : List Level). map plain list) lists

-- A client of a tower was compiled from these texts against one release of each list: the flat interface of these breaks no rule, and against it the texts stand for the client's program.
pub record IsCompiledAgainst (lowest : List Release) (lists : List (List Level)) (texts : List Source) (c : Level) : Type 0 where
  pub choice : Choice lowest (programs_of lists)
  pub rules : faces_breach (interface_classes (flat_interface (chosen_interfaces choice))) ≡ None
  pub stand : StandForClient (flat_interface (chosen_interfaces choice)) texts c.program
  pub sizes : c.sizes ≡ sizes_of (chosen_interfaces choice)
  pub is_client : c.client ≡ true

-- the store holds each of these images under its name
abbrev pub HoldsImages : Files → List (List ℕ) → List (Option (List ℕ)) → Type 0
HoldsImages files [] [] = Unit {0}
HoldsImages files [] (i ∷ is) = ⊥
HoldsImages files (n ∷ ns) [] = ⊥
HoldsImages files (n ∷ ns) (i ∷ is) = HoldsImage files n i × HoldsImages files ns is

-- The lists of releases are an accepted tower, of which these are the newest, one of each list. The client was compiled from these texts against any members of the lists.
-- The store holds the client's tower image under one name, and under the others, from the lowest level up, the images of the newest.
pub record HoldsNewestTower (files : Files) (client : List ℕ) (below : List (List ℕ)) (earlier : List Release) (base : Release) (lists : List (List Level)) (newest : List Level) (texts : List Source) (c : Level) : Type 0 where
  pub accepted : AcceptedTower (earlier ++ base ∷ []) (programs_of lists)
  pub are_newest : AreNewest (map plain newest) (programs_of lists)
  pub compiled : IsCompiledAgainst (earlier ++ base ∷ []) lists texts c
  pub program : HoldsImage files client (tower_image c)
  pub levels : HoldsImages files below (library_image base ∷ map tower_image newest)

-- What a call comes to that runs the client on these levels. It prints the text of what the client means among their classes and ends with that meaning's status,
-- unless the store failed, whose count of faults rose then, and the line that says so alone was written; or the sink failed, whose count rose then, or memory ran out,
-- and a front of that text was written, or, where the store failed, of that line.
-- And the metaclass of each of these classes, also of one that is made of others, descends from the metaclass of each of its parents.
pub record RunsOnNewestTower (base : Release) (newest : List Level) (c : Level) (fuel : ℕ) (is_line : List ℕ → Type 0) (store_before store_now sink_before sink_now status : ℕ) (old new : Option (List ℕ)) : Type 0 where
  pub runs : status ≢ 6 → status ≢ 8 → status ≢ 10 → RunsTowerAs base newest c fuel status old new
  pub store_failed : status ≡ 6 → StoreFails is_line store_before store_now old new
  pub sink_failed : status ≡ 8 → Rose sink_before sink_now
  pub front : (status ≡ 8) ⊎ (status ≡ 10) → ShowsFront old new (run_text no_trace (tower_means base newest c fuel)) ⊎ (Rose store_before store_now × (line : List ℕ) × is_line line × ShowsFront old new line)
  pub metaclasses : MetaclassesDescend (kernel ++ tower_classes base newest c)
