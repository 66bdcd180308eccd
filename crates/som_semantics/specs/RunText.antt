-- The lines of a run, its text, and its status; and what a sink keeps of it.
use Rattle.std.specs.Prelude.{ℕ, suc, ◌+◌, List, [], ◌∷◌, ◌++◌, map, codes, flat_map, Bool, true, false, if◌then◌else◌}
use Rattle.std.specs.List.{concat}
use Rattle.std.specs.Str.{bytes_eq}
use Rattle.std.specs.Option.{option_map}
use Rattle.som_model.specs.declared.key.ClassKey.{ClassKey}
use Rattle.som_model.specs.declared.key.MethodRef.{MethodRef}
use Rattle.som_model.specs.declared.program.Fault.{Fault}
use Rattle.som_model.specs.ClassNames.{class_name}
use Rattle.som_semantics.specs.State.{Event, Printed, Called, Used, Place, InMain, InBody, Manner, Offset, Lookup, Dispatch, Parent, Before, After, Forward}
use Rattle.som_semantics.specs.Runs.{Cut, Faulted, Spent, Ran, Goes, Ends, Out, Adds}
use Rattle.som_model.specs.declared.program.Fault.TheVariants as faults

-- how a body was reached, as the trace shows it
abbrev pub way_name : Manner → List ℕ
way_name Offset = codes "offset"
way_name Lookup = codes "lookup"
way_name Dispatch = codes "dispatch"
way_name Parent = codes "parent"
way_name Before = codes "before"
way_name After = codes "after"
way_name Forward = codes "forward"

-- the name of a fault
abbrev pub fault_name : Fault → List ℕ
fault_name faults.Nil = codes "Nil"
fault_name faults.Freed = codes "Freed"
fault_name faults.Overflow = codes "Overflow"
fault_name faults.DivideByZero = codes "DivideByZero"
fault_name faults.Cast = codes "Cast"
fault_name faults.NoMethod = codes "NoMethod"
fault_name faults.BadArguments = codes "BadArguments"
fault_name faults.TextTooLong = codes "TextTooLong"
fault_name faults.Depth = codes "Depth"
fault_name faults.ClassFree = codes "ClassFree"
fault_name faults.NotClass = codes "NotClass"

-- a method of a class
abbrev pub member_name : ClassKey → List ℕ → List ℕ
member_name k name = class_name k ++ codes "::" ++ name

-- where a fault came
abbrev pub place_name : Place → List ℕ
place_name InMain = codes "main"
place_name (InBody k name) = member_name k name

-- ---- the trace

-- no call is shown; each is; those of the bodies of classes of a name are
abbrev pub no_trace : List ℕ → Bool
no_trace name = false

abbrev pub every_call : List ℕ → Bool
every_call name = true

abbrev pub calls_of : List ℕ → List ℕ → Bool
calls_of class name = bytes_eq class name

-- ---- lines

-- the line of a printed text
abbrev pub printed_line : List ℕ → List ℕ
printed_line t = t ++ 10 ∷ []

-- the line of a call: the owner reference, how the body was reached, and the class whose body it is
abbrev pub call_line : MethodRef → Manner → ClassKey → List ℕ
call_line r way k = codes "# call " ++ member_name r.class r.name ++ codes " " ++ way_name way ++ codes " " ++ class_name k ++ 10 ∷ []

-- the line of a fault
abbrev pub fault_line : Fault → Place → List ℕ
fault_line f at = codes "fault " ++ fault_name f ++ codes " in " ++ place_name at ++ 10 ∷ []

-- the line of an event, with its end, where it has one: a call has one where the trace shows the name of the class whose body it is
abbrev pub event_lines : (List ℕ → Bool) → Event → List (List ℕ)
event_lines shows (Printed t) = printed_line t ∷ []
event_lines shows (Called r way k) = if shows (class_name k) then call_line r way k ∷ [] else []
event_lines shows (Used k) = []

-- the lines of events
abbrev pub events_lines : (List ℕ → Bool) → List Event → List (List ℕ)
events_lines shows es = flat_map (event_lines shows) es

-- the last line, of a fault
abbrev pub end_lines : Cut → List (List ℕ)
end_lines (Faulted f at) = fault_line f at ∷ []
end_lines Spent = []

-- the lines of a run
abbrev pub run_lines : {A : Type 0} → (List ℕ → Bool) → Ran A → List (List ℕ)
run_lines shows (Goes a s) = events_lines shows s.events
run_lines shows (Ends c s) = events_lines shows s.events ++ end_lines c

-- the text of a run: its lines, one after the other
abbrev pub run_text : {A : Type 0} → (List ℕ → Bool) → Ran A → List ℕ
run_text shows run = concat (run_lines shows run)

-- the status of a run that was cut short
abbrev pub cut_status : Cut → ℕ
cut_status (Faulted f at) = 1
cut_status Spent = 9

-- the status of a run
abbrev pub run_status : {A : Type 0} → Ran A → ℕ
run_status (Goes a s) = 0
run_status (Ends c s) = cut_status c

-- ---- what a sink keeps

-- lines, each after a prefix
abbrev pub with_prefix : List ℕ → List (List ℕ) → List (List ℕ)
with_prefix prefix ls = map (λ line. prefix ++ line) ls

-- one more where the event is a call
abbrev pub counted : ℕ → Event → ℕ
counted n (Called r way k) = suc n
counted n _ = n

-- what a sink keeps of an event: its line, after the prefix, where the sink tells its bytes, and the number of calls
abbrev pub line_added : (List ℕ → Bool) → List ℕ → Adds
line_added shows prefix o e = record { bytes = option_map (λ b. b ++ concat (with_prefix prefix (event_lines shows e))) o.bytes; calls = counted o.calls e }

-- how many bodies were invoked
abbrev pub call_count : List Event → ℕ
call_count [] = 0
call_count (Called r way k ∷ es) = suc (call_count es)
call_count (Printed t ∷ es) = call_count es
call_count (Used k ∷ es) = call_count es

-- what is kept after these events: their lines after what was told, and their calls counted
abbrev pub kept_lines : (List ℕ → Bool) → List ℕ → Out → List Event → Out
kept_lines shows prefix o es = record { bytes = option_map (λ b. b ++ concat (with_prefix prefix (events_lines shows es))) o.bytes; calls = o.calls + call_count es }
