-- A task where main begins.
use Rattle.std.specs.Prelude.{◌≡◌, false, List, [], None}
use Rattle.som_model.specs.declared.limits.TheConstants.{MAX_DEPTH}
use Rattle.som_code_cache.specs.Coded.{Coded}
use Rattle.som_trace.specs.declared.running.Place.TheVariants as places
use Rattle.som_interp_state.specs.declared.body.Body.{Body}
use Rattle.som_interp_state.specs.declared.body.Zero.TheVariants as zeros
use Rattle.som_interp_state.specs.declared.frames.Now.TheVariants as nows
use Rattle.som_interp_state.specs.declared.task.Task.{Task}

-- main's body at its first instruction, with no operands and no locals
pub record IsMain (b : Body) : Type 0 where
  pub levels : b.levels ≡ MAX_DEPTH
  pub me : b.me ≡ None
  pub place : b.place ≡ places.Main
  pub zero_value : b.zero ≡ zeros.Nil
  pub code : b.code ≡ 0
  pub at : b.at ≡ 0
  pub operands : b.operands.items ≡ []
  pub locals : b.locals.items ≡ []

-- main is what runs, nothing waits, and there are no objects, no variables of class objects and no units
pub record IsFirst (cs : List Coded) (t : Task) : Type 0 where
  pub body : Body
  pub is_main : IsMain body
  pub now : t.frames.now ≡ nows.Running body
  pub waiting : t.frames.waiting.items ≡ []
  pub codes : t.codes ≡ cs
  pub statics : t.statics.items ≡ []
  pub serials : t.serials ≡ []
  pub granted : t.granted ≡ 0
  pub begun : t.begun ≡ false
