use Rattle.std.proofs.Common.{◌≡◌, ◌++◌, ◌+◌, ℕ, List, subst, sym, arith}
use Rattle.som_semantics.specs.Runs.{Ran}
use Rattle.som_model.specs.declared.limits.TheConstants.{MAX_DEPTH}
use Rattle.som_model.specs.declared.syntax.Block.{Block}
use Rattle.som_model.specs.Class.{Class}
use Rattle.som_model.specs.Kernel.{kernel}
use Rattle.som_model.specs.Loads.{Loads}
use Rattle.som_semantics.specs.Means.{beginning, means_in}
use Rattle.som_semantics.specs.World.{World, world}
use Rattle.som_code.specs.Machine.{ComesTo}
use Rattle.som_machine_laws.specs.Step.{main_frames, step}
use Rattle.som_machine_laws.specs.Tested.{Tests, tested_in}
use Rattle.som_machine_laws.proofs.Called.{main_comes}
use Rattle.som_type_soundness.proofs.Fitting.{known_in}
use Rattle.som_type_soundness.proofs.Loading.{main_scope, sound_world}
use Rattle.som_machine_laws.specs.Implied.{AreImplied}
use Rattle.som_machine_laws.proofs.Passing.{main_same}
use Rattle.som_machine_laws.proofs.test_laws.loaded_law.Goals as goal

module _ (cs : List Class) (main : Block) (tests : Tests) (loads : Loads cs main) (implied : AreImplied (world (kernel ++ cs)) tests) where
  abbrev w : World
  w = world (kernel ++ cs)

  same : (fuel : ℕ) → tested_in w tests main fuel ≡ means_in w main fuel
  same fuel = let fits = main_scope cs main loads in main_same w (known_in (kernel ++ cs)) (sound_world cs main loads) tests implied main fits.0 fits.1 fuel

  comes : (fuel : ℕ) → ComesTo (step w tests) (main_frames MAX_DEPTH main) (beginning w fuel) (means_in w main fuel)
  comes fuel = subst (λ (r : Ran (Unit {0})). ComesTo (step w tests) (main_frames MAX_DEPTH main) (beginning w fuel) r) (same fuel) (main_comes w tests MAX_DEPTH main (beginning w fuel))

pub returns-clause-same : goal.returns-clause-same
returns-clause-same c cs main tests fuel loads implied = same cs main tests loads implied fuel

pub returns-clause-comes : goal.returns-clause-comes
returns-clause-comes c cs main tests fuel loads implied = comes cs main tests loads implied fuel

pub returns-clause-stands : goal.returns-clause-stands
returns-clause-stands c cs main tests loads implied = record {
  by = λ f.
      let e : 0 + f ≡ f = omega arith in
      let w = world (kernel ++ cs) in
      subst (λ n. ComesTo (step w tests) (main_frames MAX_DEPTH main) (beginning w n) (means_in w main n)) (sym e) (comes cs main tests loads implied f);
}
