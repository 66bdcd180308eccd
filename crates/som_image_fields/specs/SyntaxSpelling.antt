-- The one spelling of each expression, statement and block, and of what the part of a class holds.
use Rattle.std.specs.Prelude.{ℕ, Bool, true, false, List, [], ◌∷◌, ◌++◌}
use Rattle.std.specs.List.{flat_map}
use Rattle.std.specs.Int.{w8, w16, w32, cast_unsigned}
use Rattle.som_model.specs.declared.syntax.HostCode.{HostCode}
use Rattle.som_model.specs.declared.syntax.HostCode.TheVariants as hosts
use Rattle.som_image_fields.specs.Spelling.{number, text, counted, kind, method}
use Rattle.som_image_fields.specs.declared.syntax.WireVariable.{WireVariable}
use Rattle.som_image_fields.specs.declared.syntax.WireBody.{WireBody}
use Rattle.som_image_fields.specs.declared.syntax.WireBody.TheVariants as bodies
use Rattle.som_image_fields.specs.declared.syntax.WireOverride.{WireOverride}
use Rattle.som_image_fields.specs.declared.syntax.WirePart.{WirePart}
use Rattle.som_image_fields.specs.declared.selects.WireSelect.{WireSelect}
use Rattle.som_image_fields.specs.declared.selects.WireSelects.{WireSelects}
use Rattle.som_image_fields.specs.declared.syntax.WireExpr.{WireExpr, fold-WireExpr}
use Rattle.som_image_fields.specs.declared.syntax.WireExpr.TheOpen.{WireExpr-F}
use Rattle.som_image_fields.specs.declared.syntax.WireStmt.{WireStmt, fold-WireStmt}
use Rattle.som_image_fields.specs.declared.syntax.WireStmt.TheOpen.{WireStmt-F, WireBlock-F}
use Rattle.som_image_fields.specs.declared.syntax.WireBlock.{WireBlock, fold-WireBlock}

abbrev pub truth : Bool → ℕ
truth false = 0
truth true = 1

abbrev pub host : HostCode → ℕ
host hosts.Min = 0
host hosts.Max = 1
host hosts.And = 2
host hosts.Or = 3
host hosts.Xor = 4
host hosts.WrapAdd = 5

-- as many texts as the number before them says
abbrev pub args : List (List ℕ) → List ℕ
args es = counted w8 (λ e. e) es

-- an expression, by how its parts are spelled: a tag, and its fields
abbrev pub expr_step : WireExpr-F (List ℕ) → List ℕ
expr_step (WireExpr-F.Long z) = 0x20 ∷ number w32 (cast_unsigned w32 z)
expr_step (WireExpr-F.Str t) = 0x21 ∷ text t
expr_step (WireExpr-F.Boolean b) = 0x22 ∷ number w8 (truth b)
expr_step WireExpr-F.Nil = 0x23 ∷ []
expr_step (WireExpr-F.Local n) = 0x24 ∷ number w16 n
expr_step WireExpr-F.Me = 0x25 ∷ []
expr_step (WireExpr-F.Variable n) = 0x26 ∷ number w8 n
expr_step (WireExpr-F.Unary op e) = 0x27 ∷ number w8 op ++ e
expr_step (WireExpr-F.Binary op a b) = 0x28 ∷ number w8 op ++ a ++ b
expr_step (WireExpr-F.New c) = 0x29 ∷ number w16 c
expr_step (WireExpr-F.Class c) = 0x2a ∷ number w16 c
expr_step WireExpr-F.Manager = 0x2b ∷ []
expr_step (WireExpr-F.Cast c e) = 0x2c ∷ number w16 c ++ e
expr_step (WireExpr-F.Isa c e) = 0x2d ∷ number w16 c ++ e
expr_step (WireExpr-F.Proxy c e) = 0x2e ∷ number w16 c ++ e
expr_step (WireExpr-F.OffsetCall m e es) = 0x2f ∷ method m ++ e ++ args es
expr_step (WireExpr-F.Lookup t name e es) = 0x30 ∷ kind t ++ text name ++ e ++ args es
expr_step (WireExpr-F.Dispatch t name e es) = 0x31 ∷ kind t ++ text name ++ e ++ args es
expr_step (WireExpr-F.ParentCall n m es) = 0x32 ∷ number w8 n ++ method m ++ args es
expr_step (WireExpr-F.ParentsCall m es) = 0x33 ∷ method m ++ args es
expr_step (WireExpr-F.Host code a b) = 0x34 ∷ number w8 (host code) ++ a ++ b

abbrev pub expr : WireExpr → List ℕ
expr = fold-WireExpr (List ℕ) expr_step

-- the number of statements, and the statements
abbrev pub block_step : WireBlock-F (List ℕ) (List ℕ) → List ℕ
block_step b = counted w32 (λ s. s) b.statements

-- a statement, by how its blocks are spelled: a tag, and its fields
abbrev pub stmt_step : WireStmt-F (List ℕ) (List ℕ) → List ℕ
stmt_step (WireStmt-F.Var t e) = 0x01 ∷ kind t ++ expr e
stmt_step (WireStmt-F.SetLocal n e) = 0x02 ∷ number w16 n ++ expr e
stmt_step (WireStmt-F.SetVariable n e) = 0x03 ∷ number w8 n ++ expr e
stmt_step (WireStmt-F.If e a b) = 0x04 ∷ expr e ++ a ++ b
stmt_step (WireStmt-F.While e b) = 0x05 ∷ expr e ++ b
stmt_step WireStmt-F.Return = 0x06 ∷ []
stmt_step (WireStmt-F.ReturnValue e) = 0x07 ∷ expr e
stmt_step (WireStmt-F.Print e) = 0x08 ∷ expr e
stmt_step (WireStmt-F.Free e) = 0x09 ∷ expr e
stmt_step (WireStmt-F.Call e) = 0x0a ∷ expr e

abbrev pub stmt : WireStmt → List ℕ
stmt = fold-WireStmt (List ℕ) (List ℕ) stmt_step block_step

abbrev pub block : WireBlock → List ℕ
block = fold-WireBlock (List ℕ) (List ℕ) stmt_step block_step

-- ---- parts of classes

abbrev pub variable : WireVariable → List ℕ
variable v = text v.name ++ kind v.kind

abbrev pub body : WireBody → List ℕ
body (bodies.User b) = 0 ∷ block b
body (bodies.Get n) = 1 ∷ number w8 n
body (bodies.Set n) = 2 ∷ number w8 n

abbrev pub overridden : WireOverride → List ℕ
overridden o = method o.method ++ block o.block

-- the bodies have no number before them: there is one for each introduced entry
abbrev pub part : WirePart → List ℕ
part p = counted w8 variable p.variables ++ flat_map body p.bodies ++ counted w16 overridden p.overrides

-- ---- selects

-- a method, and the place of a parent
abbrev pub select : WireSelect → List ℕ
select s = method s.method ++ number w8 s.parent

-- the number of a class, and its selects
abbrev pub class_selects : WireSelects → List ℕ
class_selects c = number w16 c.class ++ counted w16 select c.selects

-- the classes that have selects
abbrev pub selects : List WireSelects → List ℕ
selects cs = counted w16 class_selects cs
