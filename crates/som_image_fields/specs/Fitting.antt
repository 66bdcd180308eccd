-- Which expressions, statements and blocks can stand where so many levels are left, of so many classes, with methods that fit; and which parts.
use Rattle.std.specs.Prelude.{◌≡◌, ℕ, zero, suc, ◌-◌, ◌<◌, ◌≤◌, ◌^◌, Bool, true, false, IsTrue, FitsSigned, List, [], ◌∷◌, length, All}
use Rattle.std.specs.Int.{w32}
use Rattle.som_model.specs.declared.limits.TheConstants.{MAX_NESTING, MAX_PARAMETERS, MAX_VARIABLES, MAX_OVERRIDES, MAX_SELECTS}
use Rattle.som_image_fields.specs.declared.method.WireMethod.{WireMethod}
use Rattle.som_image_fields.specs.Spelling.{FitsText, FitsCounted, FitsKind, FitsMethod, FitsSomeRanges, most_classes}
use Rattle.som_image_fields.specs.declared.method.Ranges.{Ranges}
use Rattle.som_image_fields.specs.declared.syntax.WireVariable.{WireVariable}
use Rattle.som_image_fields.specs.declared.syntax.WireBody.{WireBody}
use Rattle.som_image_fields.specs.declared.syntax.WireBody.TheVariants as bodies
use Rattle.som_image_fields.specs.declared.syntax.WireOverride.{WireOverride}
use Rattle.som_image_fields.specs.declared.syntax.WirePart.{WirePart}
use Rattle.som_image_fields.specs.declared.selects.WireSelect.{WireSelect}
use Rattle.som_image_fields.specs.declared.selects.WireSelects.{WireSelects}
use Rattle.som_image_fields.specs.declared.syntax.WireExpr.{WireExpr, out-WireExpr}
use Rattle.som_image_fields.specs.declared.syntax.WireExpr.TheOpen.{WireExpr-F}
use Rattle.som_image_fields.specs.declared.syntax.WireStmt.{WireStmt, out-WireStmt}
use Rattle.som_image_fields.specs.declared.syntax.WireStmt.TheOpen.{WireStmt-F}
use Rattle.som_image_fields.specs.declared.syntax.WireBlock.{WireBlock}

-- arguments that fit
abbrev pub FitsArgs : (WireExpr → Type 0) → List WireExpr → Type 0
FitsArgs Inner es = FitsCounted 0 MAX_PARAMETERS Inner es

-- the fields of an expression, by which expressions can stand in it
abbrev pub FitsExprParts : ℕ → (WireMethod → Type 0) → (WireExpr → Type 0) → WireExpr-F WireExpr → Type 0
FitsExprParts classes Method Inner (WireExpr-F.Long z) = FitsSigned w32 z
FitsExprParts classes Method Inner (WireExpr-F.Str t) = FitsText t
FitsExprParts classes Method Inner (WireExpr-F.Boolean b) = Unit {0}
FitsExprParts classes Method Inner WireExpr-F.Nil = Unit {0}
FitsExprParts classes Method Inner (WireExpr-F.Local n) = n < 2 ^ 16
FitsExprParts classes Method Inner WireExpr-F.Me = Unit {0}
FitsExprParts classes Method Inner (WireExpr-F.Variable n) = n < 2 ^ 8
FitsExprParts classes Method Inner (WireExpr-F.Unary op e) = (op < 4) × Inner e
FitsExprParts classes Method Inner (WireExpr-F.Binary op a b) = (op < 14) × Inner a × Inner b
FitsExprParts classes Method Inner (WireExpr-F.New c) = c < classes
FitsExprParts classes Method Inner (WireExpr-F.Class c) = c < classes
FitsExprParts classes Method Inner WireExpr-F.Manager = Unit {0}
FitsExprParts classes Method Inner (WireExpr-F.Cast c e) = (c < classes) × Inner e
FitsExprParts classes Method Inner (WireExpr-F.Isa c e) = (c < classes) × Inner e
FitsExprParts classes Method Inner (WireExpr-F.Proxy c e) = (c < classes) × Inner e
FitsExprParts classes Method Inner (WireExpr-F.OffsetCall m e es) = Method m × Inner e × FitsArgs Inner es
FitsExprParts classes Method Inner (WireExpr-F.Lookup t name e es) = FitsKind classes true t × FitsText name × Inner e × FitsArgs Inner es
FitsExprParts classes Method Inner (WireExpr-F.Dispatch t name e es) = FitsKind classes true t × FitsText name × Inner e × FitsArgs Inner es
FitsExprParts classes Method Inner (WireExpr-F.ParentCall n m es) = (n < 2 ^ 8) × Method m × FitsArgs Inner es
FitsExprParts classes Method Inner (WireExpr-F.ParentsCall m es) = Method m × FitsArgs Inner es
FitsExprParts classes Method Inner (WireExpr-F.Host code a b) = Inner a × Inner b

-- an expression, where so many levels are left
unfoldable pub FitsExpr : ℕ → ℕ → (WireMethod → Type 0) → WireExpr → Type 0
FitsExpr zero classes Method e = ⊥
FitsExpr (suc left) classes Method e = FitsExprParts classes Method (FitsExpr left classes Method) (out-WireExpr e)

-- whether an expression is a call, by its outermost part
abbrev pub calls : {A : Type 0} → WireExpr-F A → Bool
calls (WireExpr-F.OffsetCall m e es) = true
calls (WireExpr-F.Lookup t name e es) = true
calls (WireExpr-F.Dispatch t name e es) = true
calls (WireExpr-F.ParentCall n m es) = true
calls (WireExpr-F.ParentsCall m es) = true
calls _ = false

abbrev pub FitsCall : ℕ → ℕ → (WireMethod → Type 0) → WireExpr → Type 0
FitsCall left classes Method e = FitsExpr left classes Method e × IsTrue (calls (out-WireExpr e))

-- the fields of a statement, by which expressions, calls and blocks can stand in it
abbrev pub FitsStmtParts : ℕ → (Inner Call : WireExpr → Type 0) → (WireBlock → Type 0) → WireStmt-F WireStmt WireBlock → Type 0
FitsStmtParts classes Inner Call Block (WireStmt-F.Var t e) = FitsKind classes false t × Inner e
FitsStmtParts classes Inner Call Block (WireStmt-F.SetLocal n e) = (n < 2 ^ 16) × Inner e
FitsStmtParts classes Inner Call Block (WireStmt-F.SetVariable n e) = (n < 2 ^ 8) × Inner e
FitsStmtParts classes Inner Call Block (WireStmt-F.If e a b) = Inner e × Block a × Block b
FitsStmtParts classes Inner Call Block (WireStmt-F.While e b) = Inner e × Block b
FitsStmtParts classes Inner Call Block WireStmt-F.Return = Unit {0}
FitsStmtParts classes Inner Call Block (WireStmt-F.ReturnValue e) = Inner e
FitsStmtParts classes Inner Call Block (WireStmt-F.Print e) = Inner e
FitsStmtParts classes Inner Call Block (WireStmt-F.Free e) = Inner e
FitsStmtParts classes Inner Call Block (WireStmt-F.Call e) = Call e

-- as many statements as their number can say, each of which fits
abbrev pub FitsStatements : (WireStmt → Type 0) → WireBlock → Type 0
FitsStatements Fits b = (length b.statements < 2 ^ 32) × All Fits b.statements

-- a statement, where so many levels are left
unfoldable pub FitsStmt : ℕ → ℕ → (WireMethod → Type 0) → WireStmt → Type 0
FitsStmt zero classes Method s = ⊥
FitsStmt (suc left) classes Method s = FitsStmtParts classes (FitsExpr left classes Method) (FitsCall left classes Method) (FitsStatements (FitsStmt left classes Method)) (out-WireStmt s)

-- a block whose statements stand where so many levels are left
abbrev pub FitsBlock : ℕ → ℕ → (WireMethod → Type 0) → WireBlock → Type 0
FitsBlock left classes Method b = FitsStatements (FitsStmt left classes Method) b

-- so many levels are left where something has this level
abbrev pub levels_left : ℕ → ℕ
levels_left level = suc MAX_NESTING - level

-- ---- what can stand somewhere, where there are most classes and entries

-- an expression at some level
pub record FitsSomeExpr (e : WireExpr) : Type 0 where
  pub left : ℕ
  pub fits : FitsExpr left most_classes FitsSomeRanges e

-- an expression's own fields, and the expressions in it
abbrev pub FitsSomeExprParts : WireExpr → Type 0
FitsSomeExprParts e = FitsExprParts most_classes FitsSomeRanges FitsSomeExpr (out-WireExpr e)

-- a statement at some level
pub record FitsSomeStmt (s : WireStmt) : Type 0 where
  pub left : ℕ
  pub fits : FitsStmt left most_classes FitsSomeRanges s

-- a statement's own fields, and the expressions and blocks in it
abbrev pub FitsSomeStmtParts : WireStmt → Type 0
FitsSomeStmtParts s = FitsStmtParts most_classes FitsSomeExpr FitsSomeExpr (FitsStatements FitsSomeStmt) (out-WireStmt s)

-- a block at level 1, where most levels are left
abbrev pub FitsSomeBlock : WireBlock → Type 0
FitsSomeBlock b = FitsBlock (levels_left 1) most_classes FitsSomeRanges b

-- ---- parts of classes

pub record FitsVariable (classes : ℕ) (v : WireVariable) : Type 0 where
  pub name : FitsText v.name
  pub kind : FitsKind classes false v.kind

-- the statements of a body have level 1
abbrev pub FitsBody : ℕ → (WireMethod → Type 0) → WireBody → Type 0
FitsBody classes Method (bodies.User b) = FitsBlock (levels_left 1) classes Method b
FitsBody classes Method (bodies.Get n) = n < 2 ^ 8
FitsBody classes Method (bodies.Set n) = n < 2 ^ 8

pub record FitsOverride (classes : ℕ) (Method : WireMethod → Type 0) (o : WireOverride) : Type 0 where
  pub method : Method o.method
  pub block : FitsBlock (levels_left 1) classes Method o.block

-- a part with so many bodies
pub record FitsPart (ranges : Ranges) (introduced : ℕ) (p : WirePart) : Type 0 where
  pub variables : FitsCounted 0 MAX_VARIABLES (FitsVariable ranges.classes) p.variables
  pub bodies : (length p.bodies ≡ introduced) × All (FitsBody ranges.classes (FitsMethod ranges)) p.bodies
  pub overrides : FitsCounted 0 MAX_OVERRIDES (FitsOverride ranges.classes (FitsMethod ranges)) p.overrides

-- a part that can stand somewhere, with as many bodies as are due there
pub record FitsSomePart (p : WirePart) : Type 0 where
  pub variables : FitsCounted 0 MAX_VARIABLES (FitsVariable most_classes) p.variables
  pub bodies : (length p.bodies < 2 ^ 16) × All (FitsBody most_classes FitsSomeRanges) p.bodies
  pub overrides : FitsCounted 0 MAX_OVERRIDES (FitsOverride most_classes FitsSomeRanges) p.overrides

-- ---- selects

pub record FitsSelect (Method : WireMethod → Type 0) (s : WireSelect) : Type 0 where
  pub method : Method s.method
  pub parent : s.parent < 2 ^ 8

-- the selects of a class that has some
abbrev pub FitsOwnSelects : (WireMethod → Type 0) → WireSelects → Type 0
FitsOwnSelects Method c = FitsCounted 1 MAX_SELECTS (FitsSelect Method) c.selects

-- the selects of one of so many classes, whose number is least or greater
pub record FitsClassSelects (classes : ℕ) (Method : WireMethod → Type 0) (least : ℕ) (c : WireSelects) : Type 0 where
  pub reached : least ≤ c.class
  pub below : c.class < classes
  pub selects : FitsOwnSelects Method c

-- classes with ascending numbers, of which the first is least or greater
abbrev pub FitAscending : ℕ → (WireMethod → Type 0) → ℕ → List WireSelects → Type 0
FitAscending classes Method least [] = Unit {0}
FitAscending classes Method least (c ∷ cs) = FitsClassSelects classes Method least c × FitAscending classes Method (suc c.class) cs

-- the selects of some of the classes with the numbers from first on, and of one at least
pub record FitsSelects (classes : ℕ) (Method : WireMethod → Type 0) (first : ℕ) (cs : List WireSelects) : Type 0 where
  pub some : 1 ≤ length cs
  pub ascend : FitAscending classes Method first cs

-- selects that can stand somewhere
abbrev pub FitsSomeSelects : List WireSelects → Type 0
FitsSomeSelects cs = FitsSelects most_classes FitsSomeRanges 0 cs
