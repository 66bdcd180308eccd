-- The meaning of calls with a test in front of each call and of each body: where a test fails, the run ends.
use Rattle.std.specs.Prelude.{ℕ, zero, suc, Bool, if◌then◌else◌, List, [], ◌∷◌}
use Rattle.som_model.specs.declared.syntax.Block.{Block}
use Rattle.som_model.specs.declared.program.Fault.TheVariants as faults
use Rattle.som_model.specs.declared.limits.TheConstants.{MAX_DEPTH}
use Rattle.som_semantics.specs.World.{World}
use Rattle.som_semantics.specs.State.{Value, Nil, Heap, Place, InMain, InBody, class_of}
use Rattle.som_semantics.specs.Runs.{Ran, Act}
use Rattle.som_semantics.specs.Acts.{◌>>=◌, ◌>>◌, pure, fault, reading}
use Rattle.som_semantics.specs.Calls.{Calls, Request}
use Rattle.som_semantics.specs.Statements.{run_block}
use Rattle.som_semantics.specs.Means.{invoke, beginning}
use Rattle.som_machine_laws.specs.Frames.{Invocation}
use Rattle.som_machine_laws.specs.CallBodies.{call_bodies}

-- what is tested of a call, and of a body that is invoked
pub record Tests : Type 0 where
  pub call : Request → Heap → Bool
  pub body : Invocation → Heap → Bool

-- nothing is done where this holds of the objects, and else the run ends
abbrev pub passes : Place → (Heap → Bool) → Act (Unit {0})
passes at holds = reading (λ h. if holds h then pure tt else fault faults.Nil at)

-- where a body runs
abbrev pub place_of : Invocation → Place
place_of i = InBody i.class i.method.name

module _ (w : World) (tests : Tests) where
  -- a body is tested and invoked
  abbrev pub invoked : Calls → Invocation → Act Value
  invoked call i = passes (place_of i) (tests.body i) >> invoke w call i.way i.method i.class i.body i.self i.args

  -- bodies in order, and what the call answers so far
  abbrev pub all_invoked : Calls → List Invocation → Value → Act Value
  all_invoked call [] v = pure v
  all_invoked call (i ∷ is) v = do
    u ← invoked call i
    all_invoked call is (if i.answers then u else v)

  -- a call where so many levels are left
  unfoldable pub tested : ℕ → Calls
  tested zero q = passes q.from (tests.call q) >> fault faults.Depth q.from
  tested (suc levels) q = passes q.from (tests.call q) >> reading (λ h. all_invoked (tested levels) (call_bodies w (class_of w h q.self) q) Nil)

  -- main, where calls may go so many levels deep
  abbrev pub tested_main : ℕ → Block → Act (Unit {0})
  tested_main levels main = run_block w (tested levels) (record { me = Nil; place = InMain }) main [] >>= λ flow. pure tt

-- what main does so from the beginning, with so much fuel
abbrev pub tested_in : World → Tests → Block → ℕ → Ran (Unit {0})
tested_in w tests main fuel = (tested_main w tests MAX_DEPTH main).does (beginning w fuel)
