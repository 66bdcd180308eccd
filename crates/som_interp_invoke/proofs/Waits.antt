-- What a body is invoked with, and what waits for its end.
use Rattle.std.proofs.Common.{◌≡◌, List, [], ◌∷◌, refl}
use Rattle.som_objects.specs.declared.cell.Cell.{Cell}
use Rattle.som_objects.specs.declared.cell.Cell.TheVariants as cells
use Rattle.som_values.specs.Shown.{cell_of}
use Rattle.som_interp_state.specs.declared.call.Left.{Left}
use Rattle.som_interp_state.specs.declared.call.Stage.{Stage}
use Rattle.som_interp_state.specs.declared.frames.Waiting.{Waiting}
use Rattle.som_interp_state.specs.Settings.{Linked}
use Rattle.som_interp_dispatch.specs.declared.chosen.Role.{Role}
use Rattle.som_interp_dispatch.specs.declared.chosen.Role.TheVariants as roles
use Rattle.som_interp_invoke.specs.declared.taking.Taken.{Taken}
use Rattle.som_interp_invoke.specs.Chosen.{self_of}
use Rattle.som_interp_invoke.specs.Taken.{IsTaken, WaitsHook}

pub hook_taken : (l : Linked) (left : Left) (cell : Cell) (role : Role) → (role ≡ roles.Method → ⊥) → (rest : Stage) (old new : List Waiting) (t : Taken)
    → t.levels ≡ left.levels → t.me ≡ self_of left role → t.args.items ≡ cell_of left.call.me ∷ cells.Str (l.method left.call.method).name ∷ [] → WaitsHook left cell rest old new → IsTaken l left cell role rest old new t
hook_taken l left cell roles.Method hook rest old new t levels me args waits = absurd (hook refl)
hook_taken l left cell roles.Before hook rest old new t levels me args waits = record { levels = levels; me = me; args = args; waits = waits }
hook_taken l left cell roles.After hook rest old new t levels me args waits = record { levels = levels; me = me; args = args; waits = waits }
