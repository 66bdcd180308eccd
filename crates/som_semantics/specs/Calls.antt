-- The tests of a call in their order.
use Rattle.std.specs.Prelude.{ℕ, List, [], ◌∷◌, Option, Some, None, if◌then◌else◌, Ok, Err, slice_get}
use Rattle.som_model.specs.declared.key.ClassKey.{ClassKey}
use Rattle.som_model.specs.declared.key.MethodRef.{MethodRef}
use Rattle.som_model.specs.declared.key.ValueType.{ValueType}
use Rattle.som_model.specs.declared.program.Fault.TheVariants as faults
use Rattle.som_model.specs.Kernel.{som_object, som_dispatch_name}
use Rattle.som_semantics.specs.World.{World}
use Rattle.som_semantics.specs.State.{Value, Nil, Str, To, Ref, Place, InMain, InBody, Manner, Offset, Dispatch, Parent, Tried, class_of, receiver}
use Rattle.som_semantics.specs.Runs.{Act}
use Rattle.som_semantics.specs.Acts.{◌>>=◌, ◌>>◌, pure, asked, tried}
use Rattle.som_semantics.specs.Values.{sig_fits, text_of}

-- a call that has passed these tests: who makes it, how, on whom, the parent whose body is wanted in a parent call, the owner reference, the arguments
pub record Request : Type 0 where
  pub from : Place
  pub way : Manner
  pub self : Ref
  pub parent : Option ClassKey
  pub method : MethodRef
  pub args : List Value

-- what becomes of such a call: Depth, fuel, the bodies
abbrev pub Calls : Type 0
Calls = Request → Act Value

-- who runs: self and the place of the body
pub record Here : Type 0 where
  pub me : Value
  pub place : Place

abbrev class_of_place : Place → ClassKey
class_of_place InMain = som_object
class_of_place (InBody k name) = k

-- the class whose body runs; main is in no class
abbrev pub class_here : Here → ClassKey
class_here here = class_of_place here.place

-- the method of a name, or the fault NoMethod
abbrev pub found : Option MethodRef → Tried MethodRef
found (Some r) = Ok r
found None = Err faults.NoMethod

-- self as it is, freed or not
abbrev self_ref : Value → Tried Ref
self_ref (To r) = Ok r
self_ref _ = Err faults.Nil

-- the parent at a place
abbrev pub parent_at : List ClassKey → ℕ → ClassKey
parent_at ps n = elim (slice_get ps n) [ None ↦ som_object | Some p ↦ p ]

module _ (w : World) (call : Calls) where
  -- a call by reference
  abbrev pub offset_call : Place → Manner → MethodRef → Value → List Value → Act Value
  offset_call at way method on args = do
    self ← asked at (λ h. receiver h on)
    call (record { from = at; way = way; self = self; parent = None; method = w.owner method; args = args })

  -- a call by name
  abbrev pub named_call : Place → Manner → ValueType → List ℕ → Value → List Value → Act Value
  named_call at way wanted name on args = do
    self ← asked at (λ h. receiver h on)
    method ← asked at (λ h. found (w.byname (class_of w h self) name))
    asked at (λ h. sig_fits w h (w.sig method) wanted args)
    call (record { from = at; way = way; self = self; parent = None; method = method; args = args })

  -- two calls: for the name, and by that name
  abbrev pub dispatch_call : Place → ValueType → List ℕ → Value → List Value → Act Value
  dispatch_call at wanted name on args = do
    v ← offset_call at Offset som_dispatch_name on (Str name ∷ [])
    named_call at Dispatch wanted (text_of v) on args

  -- the body of a parent, on self, which isn't tested
  abbrev pub parent_call : Here → ClassKey → MethodRef → List Value → Act Value
  parent_call here p method args = do
    self ← tried here.place (self_ref here.me)
    call (record { from = here.place; way = Parent; self = self; parent = Some p; method = w.owner method; args = args })

  -- the bodies of all these parents that descend from the owner's class, one after the other
  abbrev pub parents_calls : Here → List ClassKey → MethodRef → List Value → Act Value
  parents_calls here [] method args = pure Nil
  parents_calls here (p ∷ ps) method args =
      if w.is_a p (w.owner method).class then parent_call here p method args >> parents_calls here ps method args else parents_calls here ps method args
