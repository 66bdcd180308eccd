-- Tests that never fail among classes that can be loaded.
use Rattle.std.specs.Prelude.{◌≡◌, true}
use Rattle.som_semantics.specs.World.{World}
use Rattle.som_semantics.specs.State.{Heap}
use Rattle.som_semantics.specs.Calls.{Request}
use Rattle.som_machine_laws.specs.Frames.{Invocation}
use Rattle.som_machine_laws.specs.Tested.{Tests}
use Rattle.som_type_soundness.specs.Checks.{has_method, can_run}

-- tests that ask no more than what is always there in a typed run
pub record AreImplied (w : World) (tests : Tests) : Type 0 where
  -- a call passes where self has the method, and so does the parent's class in a parent call
  pub call : (q : Request) (h : Heap) → has_method w q h ≡ true → tests.call q h ≡ true
  -- a body passes where self is of its class, and the arguments are of the types of the parameters
  pub body : (i : Invocation) (h : Heap) → can_run w i.method i.class i.self i.args h ≡ true → tests.body i h ≡ true

-- nothing is tested
abbrev pub untested : Tests
untested = record { call = λ q h. true; body = λ i h. true }

-- all that a typed run has in front of calls and bodies is tested
abbrev pub checking : World → Tests
checking w = record { call = λ q h. has_method w q h; body = λ i h. can_run w i.method i.class i.self i.args h }
