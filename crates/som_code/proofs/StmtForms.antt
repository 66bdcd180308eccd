-- The code of a statement is that of its form.
use Rattle.std.proofs.Common.{◌≡◌, ℕ, List, ◌++◌, length, sym, ap, ◌∙◌}
use Rattle.som_model.specs.declared.syntax.Stmt.{Stmt, roll-Stmt, fold-roll-Stmt, map-Stmt}
use Rattle.som_model.specs.declared.syntax.Stmt.TheOpen.{Stmt-F}
use Rattle.som_model.specs.declared.syntax.Block.{Block}
use Rattle.som_code.specs.declared.instruction.Instruction.{Instruction}
use Rattle.som_code.specs.Laid.{Bodies, Laid, stmt_step, block_step, lay_stmt, lay_block}

pub stmt_laid : (c new : List Instruction) (s x : Stmt) (locals : ℕ) (form : Stmt-F Stmt Block) → s ≡ x → roll-Stmt form ≡ x
    → new ≡ c ++ (stmt_step (map-Stmt Stmt Block Laid Bodies lay_stmt lay_block form)).lays locals (length c) → new ≡ c ++ (lay_stmt s).lays locals (length c)
stmt_laid c new s x locals form is rolls p =
    p ∙ ap (λ (y : Laid). c ++ y.lays locals (length c)) (sym (ap lay_stmt (is ∙ sym rolls) ∙ fold-roll-Stmt Laid Bodies stmt_step block_step form))
