-- The proxies that the parts of a block name: what the definition on whole blocks says of their expressions and statements.
use Rattle.std.specs.Prelude.{List, [], ◌∷◌, ◌++◌}
use Rattle.som_model.specs.declared.key.ClassKey.{ClassKey}
use Rattle.som_model.specs.declared.key.ClassKey.TheVariants as keys
use Rattle.som_model.specs.declared.syntax.Expr.{Expr}
use Rattle.som_model.specs.declared.syntax.Expr.TheOpen.{Expr-F}
use Rattle.som_model.specs.declared.syntax.Stmt.{Stmt, fold-Stmt}
use Rattle.som_model.specs.declared.syntax.Stmt.TheOpen.{Stmt-F, Block-F}
use Rattle.som_model.specs.declared.class.Body.{Body}
use Rattle.som_model.specs.declared.class.Body.TheVariants as bodies
use Rattle.som_model.specs.declared.class.Override.{Override}
use Rattle.som_model.specs.Lists.{joined}
use Rattle.som_model.specs.Made.{proxies_in}
use Rattle.som_model.specs.Parts.{given_by}

-- what an expression itself names, without its parts
abbrev pub proxy_of_form : Expr-F (List ClassKey) → List ClassKey
proxy_of_form (Expr-F.Proxy k e) = keys.Proxy k ∷ []
proxy_of_form _ = []

-- what an expression names, itself first and then its parts
abbrev pub expr_proxies : Expr → List ClassKey
expr_proxies = given_by proxy_of_form

-- a statement, by what its blocks name
abbrev pub stmt_proxies_step : Stmt-F (List ClassKey) (List ClassKey) → List ClassKey
stmt_proxies_step (Stmt-F.Var kind e) = expr_proxies e
stmt_proxies_step (Stmt-F.SetLocal n e) = expr_proxies e
stmt_proxies_step (Stmt-F.SetVariable n e) = expr_proxies e
stmt_proxies_step (Stmt-F.If c x y) = expr_proxies c ++ x ++ y
stmt_proxies_step (Stmt-F.While c b) = expr_proxies c ++ b
stmt_proxies_step Stmt-F.Return = []
stmt_proxies_step (Stmt-F.ReturnValue e) = expr_proxies e
stmt_proxies_step (Stmt-F.Print e) = expr_proxies e
stmt_proxies_step (Stmt-F.Free e) = expr_proxies e
stmt_proxies_step (Stmt-F.Call e) = expr_proxies e

abbrev pub block_proxies_step : Block-F (List ClassKey) (List ClassKey) → List ClassKey
block_proxies_step b = joined b.statements

-- what a statement names
abbrev pub stmt_proxies : Stmt → List ClassKey
stmt_proxies = fold-Stmt (List ClassKey) (List ClassKey) stmt_proxies_step block_proxies_step

-- what a body names; one that reads or writes a variable has no block
abbrev pub body_proxies : Body → List ClassKey
body_proxies (bodies.User b) = proxies_in b
body_proxies (bodies.Get n) = []
body_proxies (bodies.Set n) = []

-- what an override names
abbrev pub override_proxies : Override → List ClassKey
override_proxies o = proxies_in o.block
