-- What a reading function answers: the outcome, unless memory fails. The cursor is left after what was read, or at the fault.
use Rattle.std.specs.Prelude.{◌≡◌, ◌≢◌, List, Result, Ok, Err}
use Rattle.som_parse.specs.declared.cursor.Stop.{Stop}
use Rattle.som_parse.specs.declared.cursor.Stop.TheVariants.{Memory}
use Rattle.som_parse.specs.declared.token.Token.{Token}
use Rattle.som_parse.specs.Readers.{Outcome}

-- what the code of a reader answers, with the tokens that it leaves, is what the reader comes to; want of memory says nothing
abbrev pub Answers : {A : Type 0} → Outcome A → Result A Stop → List Token → Type 0
Answers outcome (Ok a) new = outcome ≡ Ok (a, new)
Answers outcome (Err f) new = f ≢ Memory → outcome ≡ Err (f, new)
