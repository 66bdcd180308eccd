-- Reading a statement or a block, and naming it, is reading it with names.
use Rattle.std.proofs.Common.{◌≡◌, ℕ, zero, suc, false, eqb, List, map, refl, sym, ap, ◌∙◌}
use Rattle.std.specs.Int.{w8, w16, w32}
use Rattle.som_model.specs.declared.syntax.Expr.{Expr}
use Rattle.som_model.specs.declared.syntax.Stmt.{Stmt}
use Rattle.som_model.specs.declared.syntax.Stmt.TheVariants as stmts
use Rattle.som_model.specs.declared.syntax.Block.{Block}
use Rattle.som_image_fields.specs.declared.read.Read.{Read}
use Rattle.som_image_fields.specs.declared.kind.WireType.{WireType}
use Rattle.som_image_fields.specs.declared.method.Ranges.{Ranges}
use Rattle.som_image_fields.specs.Reading.{number_at, kind_at}
use Rattle.som_image_fields.specs.declared.syntax.WireExpr.{WireExpr}
use Rattle.som_image_fields.specs.declared.syntax.WireStmt.{WireStmt, roll-WireStmt, map-WireStmt, fold-roll-WireStmt}
use Rattle.som_image_fields.specs.declared.syntax.WireStmt.TheOpen.{WireStmt-F}
use Rattle.som_image_fields.specs.declared.syntax.WireStmt.TheVariants as wires
use Rattle.som_image_fields.specs.declared.syntax.WireBlock.{WireBlock, fold-roll-WireBlock}
use Rattle.som_image_decode.specs.declared.directory.Directory.{Directory}
use Rattle.som_image_decode.specs.NamedBlocks.{expr_named, stmt_named, stmt_named_step, block_named, block_named_step}
use Rattle.som_wire.specs.Making.{Reads}
use Rattle.som_wire.specs.Reading.{expr_at, call_at, statements_at, flow_after, plain_after, stmt_after, stmt_at, block_at}
use Rattle.som_image_bodies.specs.Naming.{naming}
use Rattle.som_image_bodies.specs.NamedReading.{var_of, named_expr_at, named_call_at, named_statements_at, named_flow_after, named_plain_after, named_stmt_after, named_stmt_at}
use Rattle.som_image_bodies.proofs.Naming.{after, step, either, made, many_named}
use Rattle.som_image_bodies.proofs.NamedExprs.{expr_is, call_is}

module _ (d : Directory) where
  abbrev name : WireStmt → Stmt
  name s = stmt_named d s

  abbrev expr : WireExpr → Expr
  expr e = expr_named d e

  abbrev block : WireBlock → Block
  block b = block_named d b

  rolled : (layer : WireStmt-F WireStmt WireBlock) → name (roll-WireStmt layer) ≡ stmt_named_step d (map-WireStmt WireStmt WireBlock Stmt Block name block layer)
  rolled layer = fold-roll-WireStmt Stmt Block (stmt_named_step d) block_named_step layer

  -- ---- what each form stands for

  is_var : (t : WireType) (e : WireExpr) → name (wires.Var t e) ≡ var_of d t (expr e)
  is_var t e = ap name (sym (wires.rolls-Var t e)) ∙ rolled (WireStmt-F.Var t e)

  is_set_local : (n : ℕ) (e : WireExpr) → name (wires.SetLocal n e) ≡ stmts.SetLocal n (expr e)
  is_set_local n e = ap name (sym (wires.rolls-SetLocal n e)) ∙ rolled (WireStmt-F.SetLocal n e)

  is_set_variable : (n : ℕ) (e : WireExpr) → name (wires.SetVariable n e) ≡ stmts.SetVariable n (expr e)
  is_set_variable n e = ap name (sym (wires.rolls-SetVariable n e)) ∙ rolled (WireStmt-F.SetVariable n e)

  is_if : (e : WireExpr) (a b : WireBlock) → name (wires.If e a b) ≡ stmts.If (expr e) (block a) (block b)
  is_if e a b = ap name (sym (wires.rolls-If e a b)) ∙ rolled (WireStmt-F.If e a b)

  is_while : (e : WireExpr) (b : WireBlock) → name (wires.While e b) ≡ stmts.While (expr e) (block b)
  is_while e b = ap name (sym (wires.rolls-While e b)) ∙ rolled (WireStmt-F.While e b)

  is_return : name wires.Return ≡ stmts.Return
  is_return = ap name (sym wires.rolls-Return) ∙ rolled WireStmt-F.Return

  is_return_value : (e : WireExpr) → name (wires.ReturnValue e) ≡ stmts.ReturnValue (expr e)
  is_return_value e = ap name (sym (wires.rolls-ReturnValue e)) ∙ rolled (WireStmt-F.ReturnValue e)

  is_print : (e : WireExpr) → name (wires.Print e) ≡ stmts.Print (expr e)
  is_print e = ap name (sym (wires.rolls-Print e)) ∙ rolled (WireStmt-F.Print e)

  is_free : (e : WireExpr) → name (wires.Free e) ≡ stmts.Free (expr e)
  is_free e = ap name (sym (wires.rolls-Free e)) ∙ rolled (WireStmt-F.Free e)

  is_call : (e : WireExpr) → name (wires.Call e) ≡ stmts.Call (expr e)
  is_call e = ap name (sym (wires.rolls-Call e)) ∙ rolled (WireStmt-F.Call e)

  is_block : (ss : List WireStmt) → block (record { statements = ss }) ≡ record { statements = map name ss }
  is_block ss = fold-roll-WireBlock Stmt Block (stmt_named_step d) block_named_step (record { statements = ss })

  -- ---- blocks, where their statements are read with names

  blocks : (one : Reads WireStmt) (other : Reads Stmt) → ((bytes : List ℕ) (place : ℕ) → naming name (one bytes place) ≡ other bytes place) → (bytes : List ℕ) (place : ℕ) → naming block (statements_at one bytes place) ≡ named_statements_at other bytes place
  blocks one other same bytes place = after block (number_at w32 bytes place) _ _ (λ count. step block (map name) _ _ _ _ (many_named name (one bytes) (other bytes) (same bytes) count.value count.next) (λ ss. made ss.next (is_block ss.value)))

  -- ---- what follows a tag, where the expressions and blocks in it are read with names

  module _ (ranges : Ranges) (left : ℕ) (inner : Reads WireBlock) (other : Reads Block) (same : (bytes : List ℕ) (place : ℕ) → naming block (inner bytes place) ≡ other bytes place) (bytes : List ℕ) (place : ℕ) (tag : Read ℕ) where
    exprs : (p : ℕ) → naming expr (expr_at left ranges bytes p) ≡ named_expr_at d left ranges bytes p
    exprs p = expr_is d ranges left bytes p

    flows : naming name (flow_after (expr_at left ranges) inner bytes place tag) ≡ named_flow_after (named_expr_at d left ranges) other bytes place tag
    flows =
        either name (eqb tag.value 0x04) _ _ _ _ (step name expr _ _ _ _ (exprs tag.next) (λ e. step name block _ _ _ _ (same bytes e.next) (λ a. step name block _ _ _ _ (same bytes a.next) (λ b. made b.next (is_if e.value a.value b.value)))))
        (either name (eqb tag.value 0x05) _ _ _ _ (step name expr _ _ _ _ (exprs tag.next) (λ e. step name block _ _ _ _ (same bytes e.next) (λ b. made b.next (is_while e.value b.value)))) refl)

    plains : naming name (plain_after (expr_at left ranges) (call_at left ranges) inner bytes place tag) ≡ named_plain_after (named_expr_at d left ranges) (named_call_at d left ranges) other bytes place tag
    plains =
        either name (eqb tag.value 0x06) _ _ _ _ (made tag.next is_return)
        (either name (eqb tag.value 0x07) _ _ _ _ (step name expr _ _ _ _ (exprs tag.next) (λ e. made e.next (is_return_value e.value)))
        (either name (eqb tag.value 0x08) _ _ _ _ (step name expr _ _ _ _ (exprs tag.next) (λ e. made e.next (is_print e.value)))
        (either name (eqb tag.value 0x09) _ _ _ _ (step name expr _ _ _ _ (exprs tag.next) (λ e. made e.next (is_free e.value)))
        (either name (eqb tag.value 0x0a) _ _ _ _ (step name expr _ _ _ _ (call_is d ranges left bytes tag.next) (λ e. made e.next (is_call e.value))) flows))))

    forms : naming name (stmt_after ranges (expr_at left ranges) (call_at left ranges) inner bytes place tag) ≡ named_stmt_after d ranges (named_expr_at d left ranges) (named_call_at d left ranges) other bytes place tag
    forms =
        either name (eqb tag.value 0x01) _ _ _ _ (after name (kind_at ranges.classes false bytes tag.next) _ _ (λ t. step name expr _ _ _ _ (exprs t.next) (λ e. made e.next (is_var t.value e.value))))
        (either name (eqb tag.value 0x02) _ _ _ _ (after name (number_at w16 bytes tag.next) _ _ (λ n. step name expr _ _ _ _ (exprs n.next) (λ e. made e.next (is_set_local n.value e.value))))
        (either name (eqb tag.value 0x03) _ _ _ _ (after name (number_at w8 bytes tag.next) _ _ (λ n. step name expr _ _ _ _ (exprs n.next) (λ e. made e.next (is_set_variable n.value e.value)))) plains))

  -- ---- where so many levels are left

  module _ (ranges : Ranges) where
    stmt_is : (left : ℕ) (bytes : List ℕ) (place : ℕ) → naming (stmt_named d) (stmt_at left ranges bytes place) ≡ named_stmt_at d left ranges bytes place
    unfolding stmt_at named_stmt_at
    stmt_is zero bytes place = after name (number_at w8 bytes place) _ _ (λ tag. refl)
    stmt_is (suc left) bytes place =
        after name (number_at w8 bytes place) _ _ (λ tag. forms ranges left (statements_at (stmt_at left ranges)) (named_statements_at (named_stmt_at d left ranges)) (blocks (stmt_at left ranges) (named_stmt_at d left ranges) (stmt_is left)) bytes place tag)

    pub block_is : (left : ℕ) (bytes : List ℕ) (place : ℕ) → naming (block_named d) (block_at left ranges bytes place) ≡ named_statements_at (named_stmt_at d left ranges) bytes place
    unfolding block_at
    block_is left bytes place = blocks (stmt_at left ranges) (named_stmt_at d left ranges) (stmt_is left) bytes place
