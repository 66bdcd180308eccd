use Rattle.std.proofs.Common.{◌≡◌, ℕ, List, get_or, refl, ap, arith}
use Rattle.std.specs.Fmt.{digits}
use Rattle.som_turn_laws.proofs.worked.printers_law.Goals as goal

pub returns-clause-by_turns : goal.returns-clause-by_turns
returns-clause-by_turns c = refl

pub returns-clause-at_once : goal.returns-clause-at_once
returns-clause-at_once c = refl

pub returns-clause-shown : goal.returns-clause-shown
unfolding digits
returns-clause-shown c = refl

-- the sixth byte is the number of the second turn's client
pub returns-clause-differ : goal.returns-clause-differ
unfolding digits
returns-clause-differ c = λ e. (let two : 49 ≡ 48 = ap (λ (l : List ℕ). get_or l 5 0) e in absurd (omega (arith, two)))

pub returns-clause-going : goal.returns-clause-going
unfolding digits
returns-clause-going c = refl

pub returns-clause-done : goal.returns-clause-done
unfolding digits
returns-clause-done c = refl
