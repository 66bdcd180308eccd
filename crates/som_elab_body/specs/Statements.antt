-- The named statements and blocks that texts of them stand for, and what their first wrong construct breaks: the lowest rule, or else the limit of locals.
use Rattle.std.specs.Prelude.{ℕ, not, ◌&&◌, if◌then◌else◌, nat_lt, List, [], ◌∷◌, ◌++◌, length, slice_get, Option, Some, None, Result, Ok, Err}
use Rattle.som_model.specs.declared.key.ValueType.{ValueType}
use Rattle.som_model.specs.declared.syntax.Stmt.{Stmt}
use Rattle.som_model.specs.declared.syntax.Stmt.TheVariants as stmts
use Rattle.som_model.specs.declared.syntax.Block.{Block}
use Rattle.som_model.specs.declared.limits.TheConstants.{MAX_LOCALS}
use Rattle.som_model.specs.Steps.{◌>>=◌}
use Rattle.som_model.specs.Blocks.{is_call}
use Rattle.som_model.specs.Typing.{CodePlace, Of, Ruled, needs, there, is_nothing, is_boolean, is_class, has_text, kind_is_known, fits, own_variable}
use Rattle.som_ast.specs.declared.expression.ExprText.{ExprText}
use Rattle.som_ast.specs.declared.body.StmtText.{StmtText, fold-StmtText}
use Rattle.som_ast.specs.declared.body.StmtText.TheOpen.{StmtText-F, BlockText-F}
use Rattle.som_ast.specs.declared.body.BlockText.{BlockText, fold-BlockText}
use Rattle.som_sema_scope.specs.ClassNames.{type_of}
use Rattle.som_elab_body.specs.Locals.{Named, Names, in_scope, kinds_of, local_of}
use Rattle.som_elab_body.specs.Methods.{variable_place}
use Rattle.som_elab_body.specs.Expressions.{Among, Elaborated, elaborated, elaborated_value, facts_among}

-- what is wrong with a body: it breaks a rule, or too many parameters and locals are visible at one point
pub data BodyBreach : Type 0 where
  Breaks : ℕ → BodyBreach
  ManyLocals : BodyBreach

-- what the text of a body comes to, or the breach that is told of it
abbrev pub Told : Type 0 → Type 0
Told A = Result A BodyBreach

-- a rule is told as it is
abbrev pub ruled : {A : Type 0} → Ruled A → Told A
ruled (Ok x) = Ok x
ruled (Err rule) = Err (Breaks rule)

-- a statement and the names in scope after it
pub record Placed : Type 0 where
  pub stmt : Stmt
  pub scope : Names

-- what a statement or a block comes to among the names that are in scope before it
abbrev pub StmtElab : Type 0
StmtElab = Names → Told Placed

abbrev pub BlockElab : Type 0
BlockElab = Names → Told Block

-- a statement that declares nothing
abbrev pub placed : Names → Stmt → Ruled Placed
placed scope s = Ok (record { stmt = s; scope = scope })

-- one more local, if there may be one
abbrev pub with_local : Names → Named → Stmt → Told Placed
with_local scope n s = if nat_lt (length scope) MAX_LOCALS then Ok (record { stmt = s; scope = scope ++ n ∷ [] }) else Err ManyLocals

-- ---- statements, by what their values come to

-- a declaration, whose rules come before the limit
abbrev pub declared : Among → Names → List ℕ → ValueType → Elaborated → Told Placed
declared a scope name kind p =
    ruled (needs 15 (not (in_scope scope name)) (needs 16 (kind_is_known (facts_among a) kind) (needs 17 (fits (facts_among a) kind p.type) (Ok p))))
    >>= λ q. with_local scope (record { name = name; kind = kind }) (stmts.Var kind q.expr)

abbrev pub set_local : Among → Names → List ℕ → Elaborated → Ruled Placed
set_local a scope name p =
    there 16 (local_of scope name) >>= λ n. there 16 (slice_get (kinds_of scope) n) >>= λ kind.
    needs 17 (fits (facts_among a) kind p.type) (placed scope (stmts.SetLocal n p.expr))

abbrev pub set_variable : Among → CodePlace → Names → List ℕ → Elaborated → Ruled Placed
set_variable a at scope name p =
    there 16 (variable_place at.class name) >>= λ n. own_variable at n >>= λ kind.
    needs 17 (fits (facts_among a) kind p.type) (placed scope (stmts.SetVariable n p.expr))

-- a return with no value stands where nothing is answered
abbrev pub plain_return : CodePlace → Names → Ruled Placed
plain_return at scope = needs 19 (is_nothing (Of at.result)) (placed scope stmts.Return)

-- a return with a value stands where one is answered, and the value fits
abbrev pub value_return : Among → CodePlace → Names → Elaborated → Ruled Placed
value_return a at scope p = needs 19 (not (is_nothing (Of at.result)) && fits (facts_among a) at.result p.type) (placed scope (stmts.ReturnValue p.expr))

abbrev pub returned : Among → CodePlace → Names → Option ExprText → Ruled Placed
returned a at scope None = plain_return at scope
returned a at scope (Some e) = elaborated_value a at scope e >>= value_return a at scope

abbrev pub printed : Names → Elaborated → Ruled Placed
printed scope p = needs 17 (has_text p.type) (placed scope (stmts.Print p.expr))

abbrev pub freed : Names → Elaborated → Ruled Placed
freed scope p = needs 17 (is_class p.type) (placed scope (stmts.Free p.expr))

-- a call stands alone as a statement, whatever it answers
abbrev pub call_statement : Names → Elaborated → Ruled Placed
call_statement scope p = needs 20 (is_call p.expr) (placed scope (stmts.Call p.expr))

-- statements one after the other, each among the names that the one before leaves
abbrev pub in_turn : List StmtElab → Names → Told (List Stmt)
in_turn [] scope = Ok []
in_turn (s ∷ ss) scope = s scope >>= λ p. in_turn ss p.scope >>= λ more. Ok (p.stmt ∷ more)

abbrev pub block_step : BlockText-F StmtElab BlockElab → BlockElab
block_step b scope = in_turn b.statements scope >>= λ ss. Ok (record { statements = ss })

-- a statement, by what its blocks come to; what a block declares is in scope to its own end alone
abbrev pub stmt_step : Among → CodePlace → StmtText-F StmtElab BlockElab → StmtElab
stmt_step a at (StmtText-F.Var name kind e) scope = ruled (elaborated_value a at scope e) >>= declared a scope name.text (type_of a.module_of kind)
stmt_step a at (StmtText-F.Set name e) scope = ruled (elaborated_value a at scope e >>= set_local a scope name.text)
stmt_step a at (StmtText-F.SetVariable name e) scope = ruled (elaborated_value a at scope e >>= set_variable a at scope name.text)
stmt_step a at (StmtText-F.If e b c) scope =
    ruled (elaborated_value a at scope e) >>= λ p. b scope >>= λ then_block. c scope >>= λ other_block.
    ruled (needs 17 (is_boolean p.type) (placed scope (stmts.If p.expr then_block other_block)))
stmt_step a at (StmtText-F.While e b) scope =
    ruled (elaborated_value a at scope e) >>= λ p. b scope >>= λ block.
    ruled (needs 17 (is_boolean p.type) (placed scope (stmts.While p.expr block)))
stmt_step a at (StmtText-F.Return value) scope = ruled (returned a at scope value)
stmt_step a at (StmtText-F.Print e) scope = ruled (elaborated_value a at scope e >>= printed scope)
stmt_step a at (StmtText-F.Free e) scope = ruled (elaborated_value a at scope e >>= freed scope)
stmt_step a at (StmtText-F.Call e) scope = ruled (elaborated a at scope e >>= call_statement scope)

-- what a text of a statement comes to
abbrev pub elaborated_stmt : Among → CodePlace → StmtText → StmtElab
elaborated_stmt a at = fold-StmtText StmtElab BlockElab (stmt_step a at) block_step

-- what a text of a block comes to
abbrev pub elaborated_block : Among → CodePlace → BlockText → BlockElab
elaborated_block a at = fold-BlockText StmtElab BlockElab (stmt_step a at) block_step
