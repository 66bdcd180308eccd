-- Which calls a trace shows.
use Rattle.std.specs.Prelude.{ℕ, Bool, List}
use Rattle.som_semantics.specs.RunText.{calls_of, every_call, no_trace}
use Rattle.som_cmd_main.specs.declared.trace.Trace.{Trace}
use Rattle.som_cmd_main.specs.declared.trace.Trace.TheVariants as traces

-- whether calls of bodies of a class of this name are shown
abbrev pub shown_in : Trace → List ℕ → Bool
shown_in traces.Nothing = no_trace
shown_in traces.Every = every_call
shown_in (traces.Only class) = calls_of class.now
