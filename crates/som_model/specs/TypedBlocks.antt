-- Which statements and blocks are well typed, and the lowest rule that the first wrong construct breaks.
use Rattle.std.specs.Prelude.{ℕ, ◌&&◌, not, List, [], ◌∷◌, ◌++◌, slice_get, Ok}
use Rattle.som_model.specs.declared.key.ValueType.{ValueType}
use Rattle.som_model.specs.declared.syntax.Expr.{Expr}
use Rattle.som_model.specs.declared.syntax.Stmt.{Stmt, fold-Stmt}
use Rattle.som_model.specs.declared.syntax.Stmt.TheOpen.{Stmt-F, Block-F}
use Rattle.som_model.specs.declared.syntax.Block.{Block, fold-Block}
use Rattle.som_model.specs.Steps.{◌>>=◌}
use Rattle.som_model.specs.Blocks.{is_call}
use Rattle.som_model.specs.Typing.{ClassFacts, CodePlace, ExprType, Of, Ruled, needs, there, value, expr_type, kind_is_known, fits, is_nothing, is_boolean, is_class, has_text, own_variable}

-- the types of the parameters and locals in scope; `Scope` of `som_sema_scope` is of the names of classes instead
abbrev pub Scope : Type 0
Scope = List ValueType

-- what a statement or a block makes of the scope, or the lowest rule that it breaks
abbrev pub Scoped : Type 0
Scoped = Scope → Ruled Scope

-- ---- statements, by the types of their parts

abbrev pub var_scope : ClassFacts → Scope → ValueType → ExprType → Ruled Scope
var_scope w scope kind t = needs 16 (kind_is_known w kind) (needs 17 (fits w kind t) (Ok (scope ++ kind ∷ [])))

abbrev pub local_set : ClassFacts → Scope → ℕ → ExprType → Ruled Scope
local_set w scope n t = there 16 (slice_get scope n) >>= λ kind. needs 17 (fits w kind t) (Ok scope)

abbrev pub variable_set : ClassFacts → CodePlace → Scope → ℕ → ExprType → Ruled Scope
variable_set w at scope n t = own_variable at n >>= λ kind. needs 17 (fits w kind t) (Ok scope)

-- a return with no value stands where nothing is answered
abbrev pub plain_return : CodePlace → Scope → Ruled Scope
plain_return at scope = needs 19 (is_nothing (Of at.result)) (Ok scope)

-- a return with a value stands where one is answered, and the value fits
abbrev pub value_return : ClassFacts → CodePlace → Scope → ExprType → Ruled Scope
value_return w at scope t = needs 19 (not (is_nothing (Of at.result)) && fits w at.result t) (Ok scope)

-- a call stands alone as a statement, whatever it answers
abbrev pub call_statement : ClassFacts → CodePlace → Scope → Expr → Ruled Scope
call_statement w at scope e = expr_type w at scope e >>= λ t. needs 20 (is_call e) (Ok scope)

-- statements one after the other, each in the scope that the one before leaves
abbrev pub in_turn : List Scoped → Scoped
in_turn [] scope = Ok scope
in_turn (s ∷ ss) scope = s scope >>= in_turn ss

abbrev pub block_step : Block-F Scoped Scoped → Scoped
block_step b = in_turn b.statements

-- a statement, by what its blocks come to; what a block declares is in scope to its own end alone
abbrev pub stmt_step : ClassFacts → CodePlace → Stmt-F Scoped Scoped → Scoped
stmt_step w at (Stmt-F.Var kind e) scope = value (expr_type w at scope e) >>= var_scope w scope kind
stmt_step w at (Stmt-F.SetLocal n e) scope = value (expr_type w at scope e) >>= local_set w scope n
stmt_step w at (Stmt-F.SetVariable n e) scope = value (expr_type w at scope e) >>= variable_set w at scope n
stmt_step w at (Stmt-F.If e a b) scope = value (expr_type w at scope e) >>= λ t. a scope >>= λ _. b scope >>= λ _. needs 17 (is_boolean t) (Ok scope)
stmt_step w at (Stmt-F.While e b) scope = value (expr_type w at scope e) >>= λ t. b scope >>= λ _. needs 17 (is_boolean t) (Ok scope)
stmt_step w at Stmt-F.Return scope = plain_return at scope
stmt_step w at (Stmt-F.ReturnValue e) scope = value (expr_type w at scope e) >>= value_return w at scope
stmt_step w at (Stmt-F.Print e) scope = value (expr_type w at scope e) >>= λ t. needs 17 (has_text t) (Ok scope)
stmt_step w at (Stmt-F.Free e) scope = value (expr_type w at scope e) >>= λ t. needs 17 (is_class t) (Ok scope)
stmt_step w at (Stmt-F.Call e) scope = call_statement w at scope e

-- the scope after a statement
abbrev pub stmt_scope : ClassFacts → CodePlace → Stmt → Scoped
stmt_scope w at = fold-Stmt Scoped Scoped (stmt_step w at) block_step

-- the scope at the end of a block
abbrev pub block_scope : ClassFacts → CodePlace → Block → Scoped
block_scope w at = fold-Block Scoped Scoped (stmt_step w at) block_step
