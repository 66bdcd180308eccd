use Rattle.std.proofs.Common.{◌≡◌, ◌≤◌, [], length}
use Rattle.som_model.specs.declared.key.ClassKey.{ClassKey}
use Rattle.som_semantics.specs.Calls.{Request}
use Rattle.som_interp_state.specs.Standing.{bodies_left}
use Rattle.som_interp_state.specs.declared.call.Stage.TheVariants as stages
use Rattle.som_interp_dispatch.specs.Chosen.{AreHooks}
use Rattle.som_interp_dispatch.proofs.hooks.last_after.Given as goal

-- no hook that was passed has a body for after, and where there are no hooks no step was taken
abbrev pub invariant-loop-place : goal.invariant-loop-place
invariant-loop-place g l = record {
  within : l.place ≤ length l.hooks;
  passed : (x : ClassKey) (q : Request) → AreHooks (g.R.Runtime.linked l.runtime) x q l.hooks
      → bodies_left (g.R.Runtime.linked l.runtime).world x q (stages.After l.fn.count) ≡ bodies_left (g.R.Runtime.linked l.runtime).world x q (stages.After l.place);
  cost : l.hooks ≡ [] → l.steps ≡ l.fn.steps;
}

abbrev pub decreases-loop-place : goal.decreases-loop-place
decreases-loop-place g l = l.place
