-- What statements and blocks make of the locals in scope, where a local goes by its kind.
use Rattle.std.specs.Prelude.{◌≡◌, List, ◌++◌, map, Result, Ok, Err}
use Rattle.som_model.specs.declared.syntax.Expr.{Expr}
use Rattle.som_model.specs.declared.syntax.Stmt.{Stmt}
use Rattle.som_model.specs.declared.syntax.Block.{Block}
use Rattle.som_model.specs.Class.{Class}
use Rattle.som_model.specs.Steps.{◌>>=◌}
use Rattle.som_model.specs.Typing.{ExprType, Ruled, Typed, is_boolean, needs, value}
use Rattle.som_model.specs.TypedBlocks.{Scope, stmt_scope, block_scope}
use Rattle.som_verify_forms.specs.declared.kind.Kind.{Kind}
use Rattle.som_verify_forms.specs.declared.code_place.CodePlace.{CodePlace as Place}
use Rattle.som_verify_forms.specs.declared.code_place.TypeFault.{TypeFault}
use Rattle.som_verify_forms.specs.declared.knowledge.Knowledge.{Knowledge}
use Rattle.som_verify_forms.specs.Kinds.{AreTypes, Fails, code_at, type_at}
use Rattle.som_verify_forms.specs.Knowing.{all_of, facts_of, typed_by}

-- the types of the locals in scope
abbrev pub scope_at : List Class → List Kind → Scope
scope_at cs scope = map (type_at cs) scope

-- the scope that a statement leaves at a place of code, where locals are of these kinds
abbrev pub stated_by : Knowledge → Place → List Kind → Stmt → Ruled Scope
stated_by known at scope s = stmt_scope (facts_of known) (code_at (all_of known) at) s (scope_at (all_of known) scope)

-- the scope at the end of a block there
abbrev pub blocked_by : Knowledge → Place → List Kind → Block → Ruled Scope
blocked_by known at scope b = block_scope (facts_of known) (code_at (all_of known) at) b (scope_at (all_of known) scope)

-- the type of an expression there that has a value
abbrev pub valued_by : Knowledge → Place → List Kind → Expr → Typed
valued_by known at scope e = value (typed_by known at scope e)

-- what follows of the type of a part
abbrev pub then_scope : Typed → (ExprType → Ruled Scope) → Ruled Scope
then_scope typed further = typed >>= further

-- a condition, a block, and then the condition's type
abbrev pub while_scope : Typed → Ruled Scope → Scope → Ruled Scope
while_scope typed block scope = typed >>= λ t. block >>= λ _. needs 17 (is_boolean t) (Ok scope)

-- a condition, two blocks, and then the condition's type
abbrev pub if_scope : Typed → Ruled Scope → Ruled Scope → Scope → Ruled Scope
if_scope typed first second scope = typed >>= λ t. first >>= λ _. second >>= λ _. needs 17 (is_boolean t) (Ok scope)

-- the scope after a statement: what was in scope, and what the statement declares
pub record Leaves (cs : List Class) (ruled : Ruled Scope) (before after : List Kind) : Type 0 where
  pub scope : ruled ≡ Ok (scope_at cs after)
  pub types : AreTypes cs after
  pub declared : List Kind
  pub more : after ≡ before ++ declared

-- a block that breaks no rule, and after which what was in scope is
pub record Ends (ruled : Ruled Scope) (before after : List Kind) : Type 0 where
  pub scope : Scope
  pub ends : ruled ≡ Ok scope
  pub same : after ≡ before

-- a statement leaves its scope, or breaks a rule
abbrev pub Scopes : List Class → Ruled Scope → List Kind → List Kind → Result (Unit {0}) TypeFault → Type 0
Scopes cs ruled before after (Ok _) = Leaves cs ruled before after
Scopes cs ruled before after (Err e) = Fails ruled e

-- a statement that declares nothing leaves the scope before it, or breaks a rule
abbrev pub Keeps : List Class → Ruled Scope → List Kind → Result (Unit {0}) TypeFault → Type 0
Keeps cs ruled scope (Ok _) = ruled ≡ Ok (scope_at cs scope)
Keeps cs ruled scope (Err e) = Fails ruled e

-- a block ends with what was in scope before it, or breaks a rule
abbrev pub Closes : Ruled Scope → List Kind → List Kind → Result (Unit {0}) TypeFault → Type 0
Closes ruled before after (Ok _) = Ends ruled before after
Closes ruled before after (Err e) = Fails ruled e
