-- The calls that a trace shows, by the class whose body is invoked.
use Rattle.std.specs.Prelude.{◌≡◌, ℕ, Bool, List}
use Rattle.som_semantics.specs.RunText.{no_trace, every_call, calls_of}
use Rattle.som_trace.specs.declared.filter.TraceChoice.{TraceChoice}
use Rattle.som_trace.specs.declared.filter.TraceChoice.TheVariants as choices
use denote.Ref.{Bor}

-- whether calls of bodies of a class of this name are shown
abbrev pub shown_by : TraceChoice → List ℕ → Bool
shown_by choices.Nothing = no_trace
shown_by choices.Every = every_call
shown_by (choices.Only class) = calls_of class

-- a closure may be asked for every name, and answers whether the choice shows it; `may` and `does` are what the closure asks of a call and says of its answer
pub record Answers (may : Bor (List ℕ) → Type 0) (does : Bor (List ℕ) → Bool → Type 0) (choice : TraceChoice) : Type 0 where
  pub callable : (name : Bor (List ℕ)) → may name
  pub answer : (name : Bor (List ℕ)) (shown : Bool) → does name shown → shown ≡ shown_by choice name.now
