-- A task stands with other units as it stood.
use Rattle.std.proofs.Common.{◌≡◌, ◌+◌, ℕ, Bool, List, get_or, Option, Some, None, arith}
use Rattle.som_semantics.specs.State.{Heap, State}
use Rattle.som_semantics.specs.Runs.{Ran, with_more}
use Rattle.som_machine_laws.specs.Frames as frames
use Rattle.som_machine_laws.proofs.Task.{stands_granted}
use Rattle.som_interp_state.specs.declared.body.Body.{Body}
use Rattle.som_interp_state.specs.declared.call.Left.{Left}
use Rattle.som_interp_state.specs.declared.frames.Now.{Now}
use Rattle.som_interp_state.specs.declared.frames.Now.TheVariants as nows
use Rattle.som_interp_state.specs.declared.frames.Waiting.{Waiting}
use Rattle.som_interp_state.specs.declared.frames.Waiting.TheVariants as waits
use Rattle.som_values.specs.declared.reference.Reference.{Reference}
use Rattle.som_model.specs.declared.key.ClassKey.{ClassKey}
use Rattle.som_interp_loop.specs.Scene.{Around, IsFineBody, IsFineLeft, IsFineNow, IsFineWaiting, IsInPlace, IsNext, Scene}
use Rattle.som_interp_loop.specs.Standing.{StandsFor, step_of, with_units}

module _ (c : Scene) (granted : ℕ) (begun : Bool) (units : ℕ) (h : Heap) where
  abbrev now : Scene
  now = with_units c granted begun units

  place_still : (me : Option Reference) (k : ClassKey) → IsInPlace c h me k → IsInPlace now h me k
  place_still None k p = p
  place_still (Some r) k p = p

  body_still : (b : Body) → IsFineBody c h b → IsFineBody now h b
  body_still b f = record { writes = f.writes; stands = place_still b.me _ f.stands }

  left_still : (l : Left) → IsFineLeft c h l → IsFineLeft now h l
  left_still l f = record { made_of = f.made_of; parent = f.parent; able = f.able }

  now_still : (n : Now) → IsFineNow c h n → IsFineNow now h n
  now_still (nows.Running b) f = body_still b f
  now_still (nows.Calling levels call) f = f
  now_still (nows.Invoking l cell) f = left_still l f
  now_still (nows.Answering cell) f = tt

  waiting_still : (w : Waiting) → IsFineWaiting c h w → IsFineWaiting now h w
  waiting_still (waits.Call b) f = body_still b f
  waiting_still (waits.Hook l cell) f = left_still l f
  waiting_still (waits.Method l) f = left_still l f
  waiting_still (waits.Object from code at) f = tt
  waiting_still (waits.Init r) f = tt
  waiting_still (waits.Uninit from r) f = tt
  waiting_still (waits.Name levels from code at on args) f = tt
  waiting_still (waits.Parent levels me from parent code at args) f = tt

  around_still : (ws : List frames.Waiting) → Around c h ws → Around now h ws
  around_still ws a = record {
    holding = a.holding;
    shown = a.shown;
    own = a.own;
    made_of = a.made_of;
    fine = λ k d lt. waiting_still (get_or c.task.frames.waiting.items k d) (a.fine k d lt);
    codes = a.codes;
  }

  next_still : (n : Now) (m : frames.Now) → IsNext c h n m → IsNext now h n m
  next_still n m x = record { shown = x.shown; own = x.own; made_of = x.made_of; fine = now_still n x.fine }

-- units that are granted
pub units_granted : (c : Scene) (means : ℕ → Ran (Unit {0})) (n units granted : ℕ) (begun : Bool) (fs : frames.Frames) (s : State)
    → StandsFor c means n fs s → s.fuel ≡ 0 → StandsFor (with_units c granted begun units) means (n + units) fs (with_more units s)
units_granted c means n units granted begun fs s h none = record {
  at = record {
    around = around_still c granted begun units s.heap fs.waiting h.at.around;
    next = next_still c granted begun units s.heap c.task.frames.now fs.now h.at.next;
    fuel = omega (arith, none);
  };
  stands = stands_granted (step_of c) means fs s n h.stands units;
  direct = h.direct;
}
