-- Calls by the levels that are left.
use Rattle.std.proofs.Common.{◌≡◌, ℕ, suc, refl}
use Rattle.som_model.specs.declared.program.Fault.TheVariants as faults
use Rattle.som_semantics.specs.World.{World}
use Rattle.som_semantics.specs.State.{class_of}
use Rattle.som_semantics.specs.Acts.{fault, reading}
use Rattle.som_semantics.specs.Calls.{Request}
use Rattle.som_semantics.specs.Means.{bodies, calls}

module _ (w : World) where
  -- no level is left
  pub call_none : (q : Request) → calls w 0 q ≡ fault faults.Depth q.from
  unfolding calls
  call_none q = refl

  -- one level more: the bodies of the call, on an object of whatever class it is
  pub call_some : (levels : ℕ) (q : Request) → calls w (suc levels) q ≡ reading (λ h. bodies w (calls w levels) (class_of w h q.self) q)
  unfolding calls
  call_some levels q = refl
