-- What is appended in two steps is the spelling.
use Rattle.std.proofs.Common.{◌≡◌, ℕ, ◌≤◌, List, ◌++◌, length, take, map, Result, Ok, Err, sym, ap, ◌∙◌, append_assoc, arith}
use Rattle.std.specs.Prelude.{OnOk}
use Rattle.std.specs.Int.{w8, w32}
use Rattle.std.proofs.lemmas.List.{append-nil, take_all}
use Rattle.std.specs.List.{flat_map}
use Rattle.som_image_fields.specs.Spelling.{number, counted}
use Rattle.som_image_fields.specs.declared.syntax.WireExpr.{WireExpr, out-WireExpr, roll-WireExpr, roll-out-WireExpr, fold-roll-WireExpr}
use Rattle.som_image_fields.specs.declared.syntax.WireExpr.TheOpen.{WireExpr-F}
use Rattle.som_image_fields.specs.declared.syntax.WireStmt.{WireStmt, out-WireStmt, roll-WireStmt, roll-out-WireStmt, fold-roll-WireStmt}
use Rattle.som_image_fields.specs.declared.syntax.WireStmt.TheOpen.{WireStmt-F}
use Rattle.som_image_fields.specs.declared.syntax.WireBlock.{WireBlock}
use Rattle.som_image_fields.specs.SyntaxSpelling.{args, expr_step, expr, block_step, stmt_step, stmt, block}
use Rattle.som_wire.specs.Writing.{head_of, operands_of, expr_head, expr_operands, front_of, blocks_of, stmt_front, stmt_blocks}
use Rattle.som_wire.proofs.ExprFields.{args_are}
use Rattle.som_image_fields.proofs.Forms.{block_is}

-- two texts that were appended are the one that they make
appended : (before between after x y whole : List ℕ) → whole ≡ x ++ y → between ≡ before ++ x → after ≡ between ++ y → after ≡ before ++ whole
appended before between after x y whole is first second = second ∙ ap (λ (t : List ℕ). t ++ y) first ∙ append_assoc before x y ∙ ap (λ (t : List ℕ). before ++ t) (sym is)

-- a receiver, and arguments, after what stands before them
called : (head : List ℕ) (e : WireExpr) (es : List WireExpr) → head ++ expr e ++ args (map expr es) ≡ head ++ (expr e ++ counted w8 expr es)
called head e es = ap (λ (t : List ℕ). head ++ expr e ++ t) (args_are es) ∙ append_assoc head (expr e) (counted w8 expr es)

expr_step_whole : (l : WireExpr-F WireExpr) → expr (roll-WireExpr l) ≡ head_of l ++ operands_of l
expr_step_whole (WireExpr-F.Long z) = fold-roll-WireExpr (List ℕ) expr_step (WireExpr-F.Long z) ∙ sym (append-nil (head_of (WireExpr-F.Long z)))
expr_step_whole (WireExpr-F.Str t) = fold-roll-WireExpr (List ℕ) expr_step (WireExpr-F.Str t) ∙ sym (append-nil (head_of (WireExpr-F.Str t)))
expr_step_whole (WireExpr-F.Boolean b) = fold-roll-WireExpr (List ℕ) expr_step (WireExpr-F.Boolean b) ∙ sym (append-nil (head_of (WireExpr-F.Boolean b)))
expr_step_whole WireExpr-F.Nil = fold-roll-WireExpr (List ℕ) expr_step WireExpr-F.Nil
expr_step_whole (WireExpr-F.Local n) = fold-roll-WireExpr (List ℕ) expr_step (WireExpr-F.Local n) ∙ sym (append-nil (head_of (WireExpr-F.Local n)))
expr_step_whole WireExpr-F.Me = fold-roll-WireExpr (List ℕ) expr_step WireExpr-F.Me
expr_step_whole (WireExpr-F.Variable n) = fold-roll-WireExpr (List ℕ) expr_step (WireExpr-F.Variable n) ∙ sym (append-nil (head_of (WireExpr-F.Variable n)))
expr_step_whole (WireExpr-F.Unary op e) = fold-roll-WireExpr (List ℕ) expr_step (WireExpr-F.Unary op e)
expr_step_whole (WireExpr-F.Binary op a b) = fold-roll-WireExpr (List ℕ) expr_step (WireExpr-F.Binary op a b) ∙ append_assoc (head_of (WireExpr-F.Binary op a b)) (expr a) (expr b)
expr_step_whole (WireExpr-F.New k) = fold-roll-WireExpr (List ℕ) expr_step (WireExpr-F.New k) ∙ sym (append-nil (head_of (WireExpr-F.New k)))
expr_step_whole (WireExpr-F.Class k) = fold-roll-WireExpr (List ℕ) expr_step (WireExpr-F.Class k) ∙ sym (append-nil (head_of (WireExpr-F.Class k)))
expr_step_whole WireExpr-F.Manager = fold-roll-WireExpr (List ℕ) expr_step WireExpr-F.Manager
expr_step_whole (WireExpr-F.Cast k e) = fold-roll-WireExpr (List ℕ) expr_step (WireExpr-F.Cast k e)
expr_step_whole (WireExpr-F.Isa k e) = fold-roll-WireExpr (List ℕ) expr_step (WireExpr-F.Isa k e)
expr_step_whole (WireExpr-F.Proxy k e) = fold-roll-WireExpr (List ℕ) expr_step (WireExpr-F.Proxy k e)
expr_step_whole (WireExpr-F.OffsetCall m e es) = fold-roll-WireExpr (List ℕ) expr_step (WireExpr-F.OffsetCall m e es) ∙ called (head_of (WireExpr-F.OffsetCall m e es)) e es
expr_step_whole (WireExpr-F.Lookup t name e es) = fold-roll-WireExpr (List ℕ) expr_step (WireExpr-F.Lookup t name e es) ∙ called (head_of (WireExpr-F.Lookup t name e es)) e es
expr_step_whole (WireExpr-F.Dispatch t name e es) = fold-roll-WireExpr (List ℕ) expr_step (WireExpr-F.Dispatch t name e es) ∙ called (head_of (WireExpr-F.Dispatch t name e es)) e es
expr_step_whole (WireExpr-F.ParentCall n m es) = fold-roll-WireExpr (List ℕ) expr_step (WireExpr-F.ParentCall n m es) ∙ ap (λ (t : List ℕ). head_of (WireExpr-F.ParentCall n m es) ++ t) (args_are es)
expr_step_whole (WireExpr-F.ParentsCall m es) = fold-roll-WireExpr (List ℕ) expr_step (WireExpr-F.ParentsCall m es) ∙ ap (λ (t : List ℕ). head_of (WireExpr-F.ParentsCall m es) ++ t) (args_are es)
expr_step_whole (WireExpr-F.Host code a b) = fold-roll-WireExpr (List ℕ) expr_step (WireExpr-F.Host code a b) ∙ append_assoc (head_of (WireExpr-F.Host code a b)) (expr a) (expr b)

pub expr_whole : (e : WireExpr) → expr e ≡ expr_head e ++ expr_operands e
expr_whole e = ap expr (sym (roll-out-WireExpr e)) ∙ expr_step_whole (out-WireExpr e)

pub expr_appended : {A E : Type 0} (before between after : List ℕ) (e : WireExpr) (result : Result A E) → between ≡ before ++ expr_head e → OnOk result (after ≡ between ++ expr_operands e) → OnOk result (after ≡ before ++ expr e)
expr_appended before between after e (Ok x) first second = appended before between after (expr_head e) (expr_operands e) (expr e) (expr_whole e) first second
expr_appended before between after e (Err x) first second = tt

stmt_step_whole : (l : WireStmt-F WireStmt WireBlock) → stmt (roll-WireStmt l) ≡ front_of l ++ blocks_of l
stmt_step_whole (WireStmt-F.Var t e) = fold-roll-WireStmt (List ℕ) (List ℕ) stmt_step block_step (WireStmt-F.Var t e) ∙ sym (append-nil (front_of (WireStmt-F.Var t e)))
stmt_step_whole (WireStmt-F.SetLocal n e) = fold-roll-WireStmt (List ℕ) (List ℕ) stmt_step block_step (WireStmt-F.SetLocal n e) ∙ sym (append-nil (front_of (WireStmt-F.SetLocal n e)))
stmt_step_whole (WireStmt-F.SetVariable n e) = fold-roll-WireStmt (List ℕ) (List ℕ) stmt_step block_step (WireStmt-F.SetVariable n e) ∙ sym (append-nil (front_of (WireStmt-F.SetVariable n e)))
stmt_step_whole (WireStmt-F.If e a b) = fold-roll-WireStmt (List ℕ) (List ℕ) stmt_step block_step (WireStmt-F.If e a b) ∙ append_assoc (front_of (WireStmt-F.If e a b)) (block a) (block b)
stmt_step_whole (WireStmt-F.While e b) = fold-roll-WireStmt (List ℕ) (List ℕ) stmt_step block_step (WireStmt-F.While e b)
stmt_step_whole WireStmt-F.Return = fold-roll-WireStmt (List ℕ) (List ℕ) stmt_step block_step WireStmt-F.Return
stmt_step_whole (WireStmt-F.ReturnValue e) = fold-roll-WireStmt (List ℕ) (List ℕ) stmt_step block_step (WireStmt-F.ReturnValue e) ∙ sym (append-nil (front_of (WireStmt-F.ReturnValue e)))
stmt_step_whole (WireStmt-F.Print e) = fold-roll-WireStmt (List ℕ) (List ℕ) stmt_step block_step (WireStmt-F.Print e) ∙ sym (append-nil (front_of (WireStmt-F.Print e)))
stmt_step_whole (WireStmt-F.Free e) = fold-roll-WireStmt (List ℕ) (List ℕ) stmt_step block_step (WireStmt-F.Free e) ∙ sym (append-nil (front_of (WireStmt-F.Free e)))
stmt_step_whole (WireStmt-F.Call e) = fold-roll-WireStmt (List ℕ) (List ℕ) stmt_step block_step (WireStmt-F.Call e) ∙ sym (append-nil (front_of (WireStmt-F.Call e)))

pub stmt_whole : (s : WireStmt) → stmt s ≡ stmt_front s ++ stmt_blocks s
stmt_whole s = ap stmt (sym (roll-out-WireStmt s)) ∙ stmt_step_whole (out-WireStmt s)

pub stmt_appended : {A E : Type 0} (before between after : List ℕ) (s : WireStmt) (result : Result A E) → between ≡ before ++ stmt_front s → OnOk result (after ≡ between ++ stmt_blocks s) → OnOk result (after ≡ before ++ stmt s)
stmt_appended before between after s (Ok x) first second = appended before between after (stmt_front s) (stmt_blocks s) (stmt s) (stmt_whole s) first second
stmt_appended before between after s (Err x) first second = tt

-- all statements after their number are the block
pub block_appended : (before after : List ℕ) (b : WireBlock) (items : List WireStmt) (i : ℕ) → items ≡ b.statements → length items ≤ i → after ≡ before ++ (number w32 (length b.statements) ++ flat_map stmt (take i b.statements)) → after ≡ before ++ block b
block_appended before after b items i same all is =
    is
    ∙ ap (λ (ss : List WireStmt). before ++ (number w32 (length b.statements) ++ flat_map stmt ss)) (take_all i b.statements (omega (arith, all, ap length same)))
    ∙ ap (λ (t : List ℕ). before ++ t) (sym (block_is b.statements))
