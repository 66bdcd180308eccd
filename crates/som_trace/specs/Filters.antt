-- What a filter shows.
use Rattle.std.specs.Prelude.{ℕ, Bool, List}
use Rattle.som_trace.specs.declared.filter.TraceChoice.{TraceChoice}
use Rattle.som_trace.specs.declared.filter.TraceFilter.{TraceFilter}
use Rattle.som_trace.specs.Choices.{shown_by}

-- the choice of a filter, whatever its closure is
abbrev pub choice_of : {g : _} {F : _} {m : _} → TraceFilter g F m → TraceChoice
choice_of filter = filter.choice

-- whether it shows calls of bodies of a class of this name
abbrev pub shows_of : {g : _} {F : _} {m : _} → TraceFilter g F m → List ℕ → Bool
shows_of filter = shown_by filter.choice
