-- How many of each thing a class may have, and how long its texts may be.
use Rattle.std.specs.Prelude.{ℕ, ◌≤◌, ◌^◌, ◌≡◌, Bool, true, ◌&&◌, nat_lt, nat_le, List, length}
use Rattle.som_model.specs.declared.limits.TheConstants.{MAX_TEXT, MAX_PARENTS, MAX_ENTRIES, MAX_PARAMETERS, MAX_VARIABLES, MAX_OVERRIDES, MAX_SELECTS}
use Rattle.som_model.specs.declared.syntax.Expr.{Expr, fold-Expr}
use Rattle.som_model.specs.declared.syntax.Expr.TheOpen.{Expr-F}
use Rattle.som_model.specs.declared.syntax.Stmt.TheOpen.{Stmt-F, Block-F}
use Rattle.som_model.specs.declared.syntax.Block.{Block, fold-Block}
use Rattle.som_model.specs.declared.class.Sig.{Sig}
use Rattle.som_model.specs.declared.class.Way.{Way}
use Rattle.som_model.specs.declared.class.Entry.{Entry}
use Rattle.som_model.specs.declared.class.Entry.TheVariants as entries
use Rattle.som_model.specs.declared.class.Body.{Body}
use Rattle.som_model.specs.declared.class.Body.TheVariants as bodies
use Rattle.som_model.specs.declared.class.ClassFace.{ClassFace}
use Rattle.som_model.specs.declared.class.ClassDecl.{ClassDecl}
use Rattle.som_model.specs.Lists.{Mem, every}
use Rattle.som_model.specs.Class.{entry_name}

abbrev pub is_short : List ℕ → Bool
is_short t = nat_le (length t) MAX_TEXT

-- arguments: not too many, and each within the counts
abbrev pub args_counted : List Bool → Bool
args_counted es = nat_le (length es) MAX_PARAMETERS && every (λ e. e) es

-- an expression, by whether its parts are within the counts
abbrev pub expr_counted_step : Expr-F Bool → Bool
expr_counted_step (Expr-F.Str t) = is_short t
expr_counted_step (Expr-F.Unary op e) = e
expr_counted_step (Expr-F.Binary op a b) = a && b
expr_counted_step (Expr-F.Cast k e) = e
expr_counted_step (Expr-F.Isa k e) = e
expr_counted_step (Expr-F.Proxy k e) = e
expr_counted_step (Expr-F.OffsetCall r e es) = e && args_counted es
expr_counted_step (Expr-F.Lookup kind name e es) = is_short name && (e && args_counted es)
expr_counted_step (Expr-F.Dispatch kind name e es) = is_short name && (e && args_counted es)
expr_counted_step (Expr-F.ParentCall n r es) = args_counted es
expr_counted_step (Expr-F.ParentsCall r es) = args_counted es
expr_counted_step (Expr-F.Host code a b) = a && b
expr_counted_step _ = true

abbrev pub expr_counted : Expr → Bool
expr_counted = fold-Expr Bool expr_counted_step

-- a statement, by whether its blocks are within the counts
abbrev pub stmt_counted_step : Stmt-F Bool Bool → Bool
stmt_counted_step (Stmt-F.Var kind e) = expr_counted e
stmt_counted_step (Stmt-F.SetLocal n e) = expr_counted e
stmt_counted_step (Stmt-F.SetVariable n e) = expr_counted e
stmt_counted_step (Stmt-F.If e a b) = expr_counted e && (a && b)
stmt_counted_step (Stmt-F.While e b) = expr_counted e && b
stmt_counted_step Stmt-F.Return = true
stmt_counted_step (Stmt-F.ReturnValue e) = expr_counted e
stmt_counted_step (Stmt-F.Print e) = expr_counted e
stmt_counted_step (Stmt-F.Free e) = expr_counted e
stmt_counted_step (Stmt-F.Call e) = expr_counted e

abbrev pub block_counted_step : Block-F Bool Bool → Bool
block_counted_step b = nat_lt (length b.statements) (2 ^ 32) && every (λ s. s) b.statements

-- whether the texts of a block are short enough, and no call has too many arguments
abbrev pub block_counted : Block → Bool
block_counted = fold-Block Bool Bool stmt_counted_step block_counted_step

abbrev pub body_counted : Body → Bool
body_counted (bodies.User block) = block_counted block
body_counted (bodies.Get n) = true
body_counted (bodies.Set n) = true

-- a face: its name, parents of which there is one at least, and entries
pub record FaceCounted (f : ClassFace) : Type 0 where
  pub name : length f.name ≤ MAX_TEXT
  pub some_parent : 1 ≤ length f.parents
  pub parents : length f.parents ≤ MAX_PARENTS
  pub order : length f.entries ≤ MAX_ENTRIES
  pub names : (e : Entry) → Mem e f.entries → length (entry_name e) ≤ MAX_TEXT
  pub params : (name : List ℕ) (sig : Sig) (way : Way) → Mem (entries.Introduced name sig way) f.entries → length sig.params ≤ MAX_PARAMETERS

-- a class: its face, its variables, its bodies, its overrides and its selects
pub record ClassCounted (d : ClassDecl) : Type 0 where
  pub face : FaceCounted d.face
  pub variables : length d.variables ≤ MAX_VARIABLES
  pub names : every (λ v. is_short v.name) d.variables ≡ true
  pub user : every body_counted d.bodies ≡ true
  pub overrides : length d.overrides ≤ MAX_OVERRIDES
  pub blocks : every (λ o. block_counted o.block) d.overrides ≡ true
  pub selects : length d.selects ≤ MAX_SELECTS
