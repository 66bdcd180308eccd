-- A test that fails is seen: nil isn't printed.
use Rattle.std.proofs.Common.{◌≡◌, ℕ, not, [], ◌∷◌, length, sym, ap, ◌∙◌}
use Rattle.som_model.specs.declared.syntax.Expr.{fold-roll-Expr}
use Rattle.som_model.specs.declared.syntax.Expr.TheOpen.{Expr-F}
use Rattle.som_model.specs.declared.syntax.Expr.TheVariants as exprs
use Rattle.som_model.specs.declared.syntax.Expr.TheVariants.{rolls-Nil}
use Rattle.som_model.specs.declared.syntax.Stmt.{fold-roll-Stmt}
use Rattle.som_model.specs.declared.syntax.Stmt.TheOpen.{Stmt-F}
use Rattle.som_model.specs.declared.syntax.Stmt.TheVariants as stmts
use Rattle.som_model.specs.declared.syntax.Stmt.TheVariants.{rolls-Print}
use Rattle.som_model.specs.declared.syntax.Block.{fold-roll-Block}
use Rattle.som_model.specs.declared.limits.TheConstants.{MAX_DEPTH}
use Rattle.som_model.specs.declared.program.Fault.{Fault}
use Rattle.som_semantics.specs.World.{World}
use Rattle.som_semantics.specs.State.{Nil, InMain}
use Rattle.som_semantics.specs.Runs.{Act, Ends, Faulted}
use Rattle.som_semantics.specs.Acts.{◌>>=◌, ◌>>◌, pure, fault}
use Rattle.som_semantics.specs.Calls.{Calls, Here}
use Rattle.som_semantics.specs.Expressions.{Evals}
use Rattle.som_semantics.specs.Statements.{Next, Runs, all_of, block_step, leave, print_value}
use Rattle.som_semantics.specs.Means.{beginning}
use Rattle.som_type_soundness.specs.Values.{has_text}
use Rattle.som_type_soundness.specs.Checked.{check, is_returned, such_that, expr_checked, checked_eval, stmt_checked, checked_exec, checked_block, checked_calls, checked_in}

module _ (otherwise : Act (Unit {0})) (w : World) (call : Calls) (here : Here) where
  nil_is : checked_eval otherwise w call here exprs.Nil ≡ (λ frame. pure Nil)
  nil_is = ap (checked_eval otherwise w call here) (sym rolls-Nil) ∙ fold-roll-Expr Evals (expr_checked otherwise w call here) Expr-F.Nil

  print_is : checked_exec otherwise w call here (stmts.Print exprs.Nil) ≡ (λ frame. such_that otherwise (λ v h. has_text v) (λ f. pure Nil) frame >>= λ v. print_value v >> pure (Next frame))
  print_is = ap (checked_exec otherwise w call here) (sym (rolls-Print exprs.Nil)) ∙ fold-roll-Stmt Runs Runs (stmt_checked otherwise w call here) block_step (Stmt-F.Print exprs.Nil)
      ∙ ap {B = Runs} (λ (e : Evals) frame. such_that otherwise (λ v h. has_text v) e frame >>= λ v. print_value v >> pure (Next frame)) nil_is

  block_is : checked_block otherwise w call here (record { statements = stmts.Print exprs.Nil ∷ [] }) ≡ (λ frame. all_of ((λ f. such_that otherwise (λ v h. has_text v) (λ g. pure Nil) f >>= λ v. print_value v >> pure (Next f)) ∷ []) frame >>= λ flow. pure (leave (length frame) flow))
  block_is = fold-roll-Block Runs Runs (stmt_checked otherwise w call here) block_step (record { statements = stmts.Print exprs.Nil ∷ [] })
      ∙ ap {B = Runs} (λ (r : Runs) frame. all_of (r ∷ []) frame >>= λ flow. pure (leave (length frame) flow)) print_is

-- main that prints nil is cut short where a test that fails cuts it short
pub test_seen : (w : World) (f : Fault) (fuel : ℕ) → checked_in (fault f InMain) w (record { statements = stmts.Print exprs.Nil ∷ [] }) fuel ≡ Ends (Faulted f InMain) (beginning w fuel)
test_seen w f fuel = ap (λ (r : Runs). (r [] >>= λ flow. check (fault f InMain) (λ h. not (is_returned flow)) >> pure tt).does (beginning w fuel)) (block_is (fault f InMain) w (checked_calls (fault f InMain) w MAX_DEPTH) (record { me = Nil; place = InMain }))
