-- What is appended in two steps: a tag with its fields, and then the expressions or blocks after them.
use Rattle.std.specs.Prelude.{ℕ, List, [], ◌∷◌, ◌++◌}
use Rattle.std.specs.Int.{w8, w16, w32, cast_unsigned}
use Rattle.som_image_fields.specs.Spelling.{number, text, counted, kind, method}
use Rattle.som_image_fields.specs.declared.syntax.WireExpr.{WireExpr, out-WireExpr}
use Rattle.som_image_fields.specs.declared.syntax.WireExpr.TheOpen.{WireExpr-F}
use Rattle.som_image_fields.specs.declared.syntax.WireStmt.{WireStmt, out-WireStmt}
use Rattle.som_image_fields.specs.declared.syntax.WireStmt.TheOpen.{WireStmt-F}
use Rattle.som_image_fields.specs.declared.syntax.WireBlock.{WireBlock}
use Rattle.som_image_fields.specs.SyntaxSpelling.{truth, host, expr, block}

-- the tag of an expression, and the fields before the expressions in it
abbrev pub head_of : WireExpr-F WireExpr → List ℕ
head_of (WireExpr-F.Long z) = 0x20 ∷ number w32 (cast_unsigned w32 z)
head_of (WireExpr-F.Str t) = 0x21 ∷ text t
head_of (WireExpr-F.Boolean b) = 0x22 ∷ number w8 (truth b)
head_of WireExpr-F.Nil = 0x23 ∷ []
head_of (WireExpr-F.Local n) = 0x24 ∷ number w16 n
head_of WireExpr-F.Me = 0x25 ∷ []
head_of (WireExpr-F.Variable n) = 0x26 ∷ number w8 n
head_of (WireExpr-F.Unary op e) = 0x27 ∷ number w8 op
head_of (WireExpr-F.Binary op a b) = 0x28 ∷ number w8 op
head_of (WireExpr-F.New c) = 0x29 ∷ number w16 c
head_of (WireExpr-F.Class c) = 0x2a ∷ number w16 c
head_of WireExpr-F.Manager = 0x2b ∷ []
head_of (WireExpr-F.Cast c e) = 0x2c ∷ number w16 c
head_of (WireExpr-F.Isa c e) = 0x2d ∷ number w16 c
head_of (WireExpr-F.Proxy c e) = 0x2e ∷ number w16 c
head_of (WireExpr-F.OffsetCall m e es) = 0x2f ∷ method m
head_of (WireExpr-F.Lookup t name e es) = 0x30 ∷ kind t ++ text name
head_of (WireExpr-F.Dispatch t name e es) = 0x31 ∷ kind t ++ text name
head_of (WireExpr-F.ParentCall n m es) = 0x32 ∷ number w8 n ++ method m
head_of (WireExpr-F.ParentsCall m es) = 0x33 ∷ method m
head_of (WireExpr-F.Host code a b) = 0x34 ∷ number w8 (host code)

-- the expressions in an expression: operands or a receiver, and the arguments after their number
abbrev pub operands_of : WireExpr-F WireExpr → List ℕ
operands_of (WireExpr-F.Unary op e) = expr e
operands_of (WireExpr-F.Binary op a b) = expr a ++ expr b
operands_of (WireExpr-F.Cast c e) = expr e
operands_of (WireExpr-F.Isa c e) = expr e
operands_of (WireExpr-F.Proxy c e) = expr e
operands_of (WireExpr-F.OffsetCall m e es) = expr e ++ counted w8 expr es
operands_of (WireExpr-F.Lookup t name e es) = expr e ++ counted w8 expr es
operands_of (WireExpr-F.Dispatch t name e es) = expr e ++ counted w8 expr es
operands_of (WireExpr-F.ParentCall n m es) = counted w8 expr es
operands_of (WireExpr-F.ParentsCall m es) = counted w8 expr es
operands_of (WireExpr-F.Host code a b) = expr a ++ expr b
operands_of _ = []

abbrev pub expr_head : WireExpr → List ℕ
expr_head e = head_of (out-WireExpr e)

abbrev pub expr_operands : WireExpr → List ℕ
expr_operands e = operands_of (out-WireExpr e)

-- ---- statements

-- the tag of a statement, and the fields before its blocks
abbrev pub front_of : WireStmt-F WireStmt WireBlock → List ℕ
front_of (WireStmt-F.Var t e) = 0x01 ∷ kind t ++ expr e
front_of (WireStmt-F.SetLocal n e) = 0x02 ∷ number w16 n ++ expr e
front_of (WireStmt-F.SetVariable n e) = 0x03 ∷ number w8 n ++ expr e
front_of (WireStmt-F.If e a b) = 0x04 ∷ expr e
front_of (WireStmt-F.While e b) = 0x05 ∷ expr e
front_of WireStmt-F.Return = 0x06 ∷ []
front_of (WireStmt-F.ReturnValue e) = 0x07 ∷ expr e
front_of (WireStmt-F.Print e) = 0x08 ∷ expr e
front_of (WireStmt-F.Free e) = 0x09 ∷ expr e
front_of (WireStmt-F.Call e) = 0x0a ∷ expr e

-- its blocks
abbrev pub blocks_of : WireStmt-F WireStmt WireBlock → List ℕ
blocks_of (WireStmt-F.If e a b) = block a ++ block b
blocks_of (WireStmt-F.While e b) = block b
blocks_of _ = []

abbrev pub stmt_front : WireStmt → List ℕ
stmt_front s = front_of (out-WireStmt s)

abbrev pub stmt_blocks : WireStmt → List ℕ
stmt_blocks s = blocks_of (out-WireStmt s)
