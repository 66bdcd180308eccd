use Rattle.std.proofs.Common.{◌≡◌, ◌+◌, ◌*◌, ◌++◌, max, map, drop}
use Rattle.som_model.specs.declared.syntax.Stmt.{size-Stmt}
use Rattle.som_model.specs.declared.syntax.Block.{size-Block}
use Rattle.som_model.specs.Lists.{joined}
use Rattle.som_proxy_uses.specs.Forms.{stmt_proxies}
use Rattle.som_proxy_uses.specs.Proxied.{proxies_of}
use Rattle.som_proxy_uses.proofs.statements.+note_block.Given as goal

-- what is noted, and then what the statements that are left name, is what all name
abbrev pub invariant-note_block-loop-statement : goal.invariant-note_block-loop-statement
invariant-note_block-loop-statement l =
    proxies_of l.named ++ joined (map stmt_proxies (drop l.statement-index l.block.statements)) ≡ proxies_of l.initial.named ++ joined (map stmt_proxies l.block.statements)

abbrev pub decreases-note_block : goal.decreases-note_block
decreases-note_block l = 3 * size-Block l.block.now

abbrev pub decreases-note_stmt : goal.decreases-note_stmt
decreases-note_stmt l = 3 * size-Stmt l.statement.now

abbrev pub decreases-note_choice : goal.decreases-note_choice
decreases-note_choice l = 3 * max (size-Block l.then.now) (size-Block l.other.now) + 2

abbrev pub decreases-note_guarded : goal.decreases-note_guarded
decreases-note_guarded l = 3 * size-Block l.block.now + 1
