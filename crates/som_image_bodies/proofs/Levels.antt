-- Reading where a level is left.
use Rattle.std.proofs.Common.{◌≡◌, ℕ, zero, suc, ◌-◌, List, Result, Ok, refl, subst, arith}
use Rattle.std.specs.Int.{w8}
use Rattle.som_model.specs.declared.syntax.Expr.{Expr}
use Rattle.som_model.specs.declared.syntax.Stmt.{Stmt}
use Rattle.som_image_fields.specs.declared.fault.ImageFault.{ImageFault}
use Rattle.som_image_fields.specs.declared.read.Read.{Read}
use Rattle.som_image_fields.specs.declared.method.Ranges.{Ranges}
use Rattle.som_image_fields.specs.Fields.{Gives}
use Rattle.som_image_fields.specs.Reading.{number_at}
use Rattle.som_image_decode.specs.declared.directory.Directory.{Directory}
use Rattle.som_image_bodies.specs.NamedReading.{named_expr_after, named_expr_at, named_call_after, named_call_at, named_stmt_after, named_stmt_at, named_statements_at}

-- a number that isn't zero comes after the one that is less by one
one_less : (left : ℕ) → (left ≡ 0 → ⊥) → suc (left - 1) ≡ left
one_less zero some = absurd (some refl)
one_less (suc n) some = omega arith

module _ (d : Directory) (ranges : Ranges) (bytes : List ℕ) (place : ℕ) where
  pub expr_steps : (left : ℕ) (tag : Read ℕ) (result : Result (Read Expr) ImageFault) → (left ≡ 0 → ⊥) → number_at w8 bytes place ≡ Ok tag → Gives result (named_expr_after d ranges (named_expr_at d (left - 1) ranges) bytes place tag) → Gives result (named_expr_at d left ranges bytes place)
  unfolding named_expr_at
  expr_steps left tag result some read given =
      let step : named_expr_at d (suc (left - 1)) ranges bytes place ≡ named_expr_after d ranges (named_expr_at d (left - 1) ranges) bytes place tag = rw read refl in
      subst (λ (n : ℕ). Gives result (named_expr_at d n ranges bytes place)) (one_less left some) (rw step given)

  pub call_steps : (left : ℕ) (tag : Read ℕ) (result : Result (Read Expr) ImageFault) → (left ≡ 0 → ⊥) → number_at w8 bytes place ≡ Ok tag → Gives result (named_call_after d ranges (named_expr_at d (left - 1) ranges) bytes place tag) → Gives result (named_call_at d left ranges bytes place)
  unfolding named_call_at
  call_steps left tag result some read given =
      let step : named_call_at d (suc (left - 1)) ranges bytes place ≡ named_call_after d ranges (named_expr_at d (left - 1) ranges) bytes place tag = rw read refl in
      subst (λ (n : ℕ). Gives result (named_call_at d n ranges bytes place)) (one_less left some) (rw step given)

  pub stmt_steps : (left : ℕ) (tag : Read ℕ) (result : Result (Read Stmt) ImageFault) → (left ≡ 0 → ⊥) → number_at w8 bytes place ≡ Ok tag → Gives result (named_stmt_after d ranges (named_expr_at d (left - 1) ranges) (named_call_at d (left - 1) ranges) (named_statements_at (named_stmt_at d (left - 1) ranges)) bytes place tag) → Gives result (named_stmt_at d left ranges bytes place)
  unfolding named_stmt_at
  stmt_steps left tag result some read given =
      let step : named_stmt_at d (suc (left - 1)) ranges bytes place ≡ named_stmt_after d ranges (named_expr_at d (left - 1) ranges) (named_call_at d (left - 1) ranges) (named_statements_at (named_stmt_at d (left - 1) ranges)) bytes place tag = rw read refl in
      subst (λ (n : ℕ). Gives result (named_stmt_at d n ranges bytes place)) (one_less left some) (rw step given)
