-- What turns came to, told by why they weren't told whole.
use Rattle.std.specs.Prelude.{List, Result, Ok, Err}
use Rattle.som_trace.specs.declared.line.Untold.{Untold}
use Rattle.som_trace.specs.declared.line.Untold.TheVariants as untold
use Rattle.som_interp_task.specs.declared.advanced.Advanced.{Advanced}
use Rattle.som_tasks.specs.declared.turned.Turned.{Turned}
use Rattle.som_tasks.specs.declared.turned.Turned.TheVariants as turned

-- the answer for the ends of all clients, or for why the turns weren't told whole
abbrev pub turned_by : Result (List Advanced) Untold → Turned
turned_by (Ok ends) = turned.Finished ends
turned_by (Err untold.SinkFailed) = turned.SinkFailed
turned_by (Err untold.NoMemory) = turned.NoMemory
