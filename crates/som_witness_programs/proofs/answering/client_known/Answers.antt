use Rattle.std.proofs.Common.{ℕ, List, IfOk, subst}
use Rattle.som_compat.specs.Told.{told}
use Rattle.som_model.specs.declared.key.MethodRef.{MethodRef}
use Rattle.som_witness.specs.Showings.{showing_of, told_method}
use Rattle.som_witness_programs.specs.Made.{IsMade}
use Rattle.som_witness_programs.proofs.answering.client_known.Goals as goal

pub returns : goal.returns
returns c = λ old new io inn.
    let b = told c.args.breach.now in
    subst (λ (z : List ℕ). IfOk c.client_named.result (IsMade old z (told_method b) (showing_of old new b))) (c.in_ok-w.ensures old io)
    (subst (λ (z : MethodRef). IfOk c.client_named.result (IsMade old c.in_ok-w.w z (showing_of old new b))) c.in_ok-method.ensures (c.client_named.ensures old new io inn))
