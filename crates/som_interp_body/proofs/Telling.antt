-- What a line wants that isn't told whole.
use Rattle.std.proofs.Common.{◌≡◌, ◌⊎◌, inl, inr, refl}
use Rattle.som_interp_loop.specs.declared.stop.Stop.{Stop}
use Rattle.som_interp_loop.specs.declared.stop.Stop.TheVariants as stops
use Rattle.som_trace.specs.declared.line.Untold.{Untold}
use Rattle.som_trace.specs.declared.line.Untold.TheVariants as untold

-- a line that isn't told whole wants the sink or memory
pub untold_wants : (u : Untold) (e : Stop) → (u ≡ untold.SinkFailed → e ≡ stops.SinkFailed) × (u ≡ untold.NoMemory → e ≡ stops.NoMemory) → (e ≡ stops.SinkFailed) ⊎ (e ≡ stops.NoMemory)
untold_wants untold.SinkFailed e p = inl (p.0 refl)
untold_wants untold.NoMemory e p = inr (p.1 refl)
