-- Closures that answer a procedure of the host.
use Rattle.std.specs.Prelude.{◌≡◌, ℤ, FitsSigned}
use Rattle.std.specs.Int.{w32}
use Rattle.som_model.specs.declared.syntax.HostCode.{HostCode}
use Rattle.som_semantics.specs.Values.{host_number}

-- a closure may be called on every two numbers of 32 bits, and answers what the code stands for; `may` and `does` are what the closure
-- asks of a call and says of its answer
pub record Answers (may : ℤ → ℤ → Type 0) (does : ℤ → ℤ → ℤ → Type 0) (code : HostCode) : Type 0 where
  pub callable : (a b : ℤ) → FitsSigned w32 a → FitsSigned w32 b → may a b
  pub answer : (a b r : ℤ) → FitsSigned w32 a → FitsSigned w32 b → does a b r → r ≡ host_number code a b
