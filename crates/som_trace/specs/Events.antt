-- Calls as the meaning sees them.
use Rattle.som_semantics.specs.State.{Event, Called, Manner}
use Rattle.som_semantics.specs.State as state
use Rattle.som_meta.specs.Numbering.{Numbering, key_at, method_at, IsNumbered, IsToken}
use Rattle.som_trace.specs.declared.call.Call.{Call}
use Rattle.som_trace.specs.declared.manner.Manner.{Manner as Way}
use Rattle.som_trace.specs.declared.manner.Manner.TheVariants as ways

-- how a body was reached
abbrev pub manner_of : Way → Manner
manner_of ways.Offset = state.Offset
manner_of ways.Lookup = state.Lookup
manner_of ways.Dispatch = state.Dispatch
manner_of ways.Parent = state.Parent
manner_of ways.Before = state.Before
manner_of ways.After = state.After
manner_of ways.Forward = state.Forward

-- the event of a call
abbrev pub call_event : Numbering → Call → Event
call_event k call = Called (method_at k call.method) (manner_of call.manner) (key_at k call.class)

-- the class and the token of a call are the hierarchy's
abbrev pub IsCall : Numbering → Call → Type 0
IsCall k call = IsToken k call.method × IsNumbered k call.class
