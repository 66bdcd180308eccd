-- Whether all that blocks name is in a directory: what numbering has to find.
use Rattle.std.specs.Prelude.{Bool, true, ◌&&◌, [], get_or, is_some}
use Rattle.std.specs.List.{list_all}
use Rattle.std.specs.Str.{bytes_eq}
use Rattle.som_model.specs.declared.key.ClassKey.{ClassKey}
use Rattle.som_model.specs.declared.key.MethodRef.{MethodRef}
use Rattle.som_model.specs.declared.key.ValueType.{ValueType}
use Rattle.som_model.specs.declared.key.ValueType.TheVariants as types
use Rattle.som_model.specs.declared.syntax.Expr.{Expr, fold-Expr}
use Rattle.som_model.specs.declared.syntax.Expr.TheOpen.{Expr-F}
use Rattle.som_model.specs.declared.syntax.Stmt.{Stmt, fold-Stmt}
use Rattle.som_model.specs.declared.syntax.Stmt.TheOpen.{Stmt-F, Block-F}
use Rattle.som_model.specs.declared.syntax.Block.{Block, fold-Block}
use Rattle.som_model.specs.Lists.{place_from}
use Rattle.som_model.specs.Keys.{same_key}
use Rattle.som_image_decode.specs.declared.directory.Directory.{Directory}
use Rattle.som_image_decode.specs.Tests.{all_found}
use Rattle.som_image_encode.specs.Numbering.{number_of}

-- whether a class has a number
unfoldable pub has_number : Directory → ClassKey → Bool
has_number d k = is_some (place_from 0 (λ x. same_key x k) d.keys)

-- whether a method has a number and a slot
unfoldable pub has_slot : Directory → MethodRef → Bool
has_slot d r = has_number d r.class && is_some (place_from 0 (λ x. bytes_eq x r.name) (get_or d.slots (number_of d.keys r.class) []))

-- whether the class of a type has a number, if it is one
unfoldable pub kind_found : Directory → ValueType → Bool
kind_found d (types.Class k) = has_number d k
kind_found d _ = true

-- an expression, by whether what its parts name is found
abbrev pub found_step : Directory → Expr-F Bool → Bool
found_step d (Expr-F.Long z) = true
found_step d (Expr-F.Str t) = true
found_step d (Expr-F.Boolean b) = true
found_step d Expr-F.Nil = true
found_step d (Expr-F.Local n) = true
found_step d Expr-F.Me = true
found_step d (Expr-F.Variable n) = true
found_step d (Expr-F.Unary op e) = e
found_step d (Expr-F.Binary op a b) = a && b
found_step d (Expr-F.New k) = has_number d k
found_step d (Expr-F.Class k) = has_number d k
found_step d Expr-F.Manager = true
found_step d (Expr-F.Cast k e) = has_number d k && e
found_step d (Expr-F.Isa k e) = has_number d k && e
found_step d (Expr-F.Proxy k e) = has_number d k && e
found_step d (Expr-F.OffsetCall r e es) = has_slot d r && (e && all_found es)
found_step d (Expr-F.Lookup t name e es) = kind_found d t && (e && all_found es)
found_step d (Expr-F.Dispatch t name e es) = kind_found d t && (e && all_found es)
found_step d (Expr-F.ParentCall n r es) = has_slot d r && all_found es
found_step d (Expr-F.ParentsCall r es) = has_slot d r && all_found es
found_step d (Expr-F.Host code a b) = a && b

abbrev pub expr_found : Directory → Expr → Bool
expr_found d = fold-Expr Bool (found_step d)

-- a statement, by whether what its blocks name is found
abbrev pub stmt_found_step : Directory → Stmt-F Bool Bool → Bool
stmt_found_step d (Stmt-F.Var t e) = kind_found d t && expr_found d e
stmt_found_step d (Stmt-F.SetLocal n e) = expr_found d e
stmt_found_step d (Stmt-F.SetVariable n e) = expr_found d e
stmt_found_step d (Stmt-F.If e a b) = expr_found d e && (a && b)
stmt_found_step d (Stmt-F.While e b) = expr_found d e && b
stmt_found_step d Stmt-F.Return = true
stmt_found_step d (Stmt-F.ReturnValue e) = expr_found d e
stmt_found_step d (Stmt-F.Print e) = expr_found d e
stmt_found_step d (Stmt-F.Free e) = expr_found d e
stmt_found_step d (Stmt-F.Call e) = expr_found d e

abbrev pub block_found_step : Block-F Bool Bool → Bool
block_found_step b = all_found b.statements

abbrev pub stmt_found : Directory → Stmt → Bool
stmt_found d = fold-Stmt Bool Bool (stmt_found_step d) block_found_step

abbrev pub block_found : Directory → Block → Bool
block_found d = fold-Block Bool Bool (stmt_found_step d) block_found_step

-- whether what each statement of a block names is found
unfoldable pub statements_found : Directory → Block → Bool
statements_found d b = list_all (stmt_found d) b.statements
