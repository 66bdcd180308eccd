-- What statements and blocks make of the locals in scope.
use Rattle.std.specs.Prelude.{◌≡◌, ℕ, ◌<◌, List, [], ◌∷◌, ◌++◌, length, Result, Ok, Err}
use Rattle.som_model.specs.declared.key.ValueType.{ValueType}
use Rattle.som_model.specs.declared.limits.TheConstants.{MAX_LOCALS}
use Rattle.som_model.specs.declared.syntax.Expr.{Expr}
use Rattle.som_model.specs.declared.syntax.Stmt.{Stmt}
use Rattle.som_model.specs.declared.syntax.Stmt.TheVariants as stmts
use Rattle.som_model.specs.declared.syntax.Block.{Block}
use Rattle.som_model.specs.Steps.{◌>>=◌}
use Rattle.som_model.specs.Class.{Class}
use Rattle.som_model.specs.Typing.{Ruled, is_boolean, needs}
use Rattle.som_ast.specs.declared.expression.ExprText.{ExprText}
use Rattle.som_ast.specs.declared.body.StmtText.{StmtText}
use Rattle.som_ast.specs.declared.body.BlockText.{BlockText}
use Rattle.som_verify_forms.specs.declared.kind.Kind.{Kind}
use Rattle.som_verify_forms.specs.Kinds.{IsType, type_at}
use Rattle.som_elab_body.specs.declared.local.Local.{Local}
use Rattle.som_elab_body.specs.declared.body_context.BodyContext.{BodyContext}
use Rattle.som_elab_body.specs.Locals.{Names}
use Rattle.som_elab_body.specs.Expressions.{Elab, Elaborated, elaborated, elaborated_value}
use Rattle.som_elab_body.specs.Code.{AreLocals, among_at, classes_at, names_at, place_at}
use Rattle.som_elab_body.specs.declared.fault.BodyFault.{BodyFault}
use Rattle.som_elab_body.specs.Statements.{Placed, Told, elaborated_block, elaborated_stmt, placed, ruled}
use Rattle.som_elab_body.specs.BlockCode.{Stops}

-- the names of the locals in scope
abbrev pub names_in : BodyContext → List Local → Names
names_in s ls = names_at (classes_at s) ls

-- what the text of an expression comes to among these locals
abbrev pub expr_in : BodyContext → List Local → ExprText → Elab
expr_in s ls e = elaborated (among_at s) (place_at s) (names_in s ls) e

-- what the text of an expression that has to have a value comes to among these locals
abbrev pub value_in : BodyContext → List Local → ExprText → Elab
value_in s ls e = elaborated_value (among_at s) (place_at s) (names_in s ls) e

-- what the text of a statement comes to
abbrev pub stmt_in : BodyContext → List Local → StmtText → Told Placed
stmt_in s ls t = elaborated_stmt (among_at s) (place_at s) t (names_in s ls)

-- what the text of a block comes to
abbrev pub block_in : BodyContext → List Local → BlockText → Told Block
block_in s ls b = elaborated_block (among_at s) (place_at s) b (names_in s ls)

-- a statement by its value, which declares nothing
abbrev pub by_value : Elab → (Elaborated → Ruled Placed) → Told Placed
by_value value form = ruled (value >>= form)

-- a declaration by its value
abbrev pub declared_by : Elab → (Elaborated → Told Placed) → Told Placed
declared_by value form = ruled value >>= form

-- a condition, a block, and then the condition's type
abbrev pub while_by : Elab → Told Block → Names → Told Placed
while_by value block scope = ruled value >>= λ p. block >>= λ b. ruled (needs 17 (is_boolean p.type) (placed scope (stmts.While p.expr b)))

-- a condition, two blocks, and then the condition's type
abbrev pub if_by : Elab → Told Block → Told Block → Names → Told Placed
if_by value chosen other scope =
    ruled value >>= λ p. chosen >>= λ b. other >>= λ c. ruled (needs 17 (is_boolean p.type) (placed scope (stmts.If p.expr b c)))

-- a statement that is made, and the locals after it: those before, and what it declares
pub record Leaves (cs : List Class) (comes : Told Placed) (s : Stmt) (before after : List Local) : Type 0 where
  pub makes : comes ≡ Ok (record { stmt = s; scope = names_at cs after })
  pub locals : AreLocals cs after
  pub declared : List Local
  pub more : after ≡ before ++ declared

-- a statement is made, or what is wrong with it is told
abbrev pub States : List Class → Told Placed → List Local → List Local → Result Stmt BodyFault → Type 0
States cs comes before after (Ok s) = Leaves cs comes s before after
States cs comes before after (Err fault) = Stops comes fault

-- a statement that declares nothing is made, or what is wrong with it is told
abbrev pub Keeps : List Class → Told Placed → List Local → Result Stmt BodyFault → Type 0
Keeps cs comes ls (Ok s) = comes ≡ Ok (record { stmt = s; scope = names_at cs ls })
Keeps cs comes ls (Err fault) = Stops comes fault

-- a local of this kind may be declared, or what is wrong with it is told
abbrev pub Opens : List Class → Told Placed → List Local → List ℕ → ValueType → Expr → Result Kind BodyFault → Type 0
Opens cs comes ls name kind e (Ok k) =
    (comes ≡ Ok (record { stmt = stmts.Var kind e; scope = names_at cs ls ++ (record { name = name; kind = kind }) ∷ [] }))
    × (type_at cs k ≡ kind) × IsType cs k × (length ls < MAX_LOCALS)
Opens cs comes ls name kind e (Err fault) = Stops comes fault
