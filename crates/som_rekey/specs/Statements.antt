-- A statement under other modules.
use Rattle.som_model.specs.declared.syntax.Stmt.{Stmt, roll-Stmt, fold-Stmt}
use Rattle.som_model.specs.declared.syntax.Block.{Block, roll-Block}
use Rattle.som_rekey_laws.specs.Rekeying.{ModuleChange, rekey_stmt_layer}

-- the statement, with the blocks in it
abbrev pub new_stmt : ModuleChange → Stmt → Stmt
new_stmt f = fold-Stmt Stmt Block (λ x. roll-Stmt (rekey_stmt_layer f x)) (λ b. roll-Block b)
