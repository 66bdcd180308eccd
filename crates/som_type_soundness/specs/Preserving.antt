-- Typing and the meaning: what typed code begins with, and what it leaves.
use Rattle.std.specs.Prelude.{◌≡◌, ℕ, true, false, List, ◌++◌, Option, Some, None, Ok}
use Rattle.som_model.specs.declared.key.ValueType.{ValueType}
use Rattle.som_model.specs.declared.key.ValueType.TheVariants as types
use Rattle.som_model.specs.declared.syntax.Expr.{Expr}
use Rattle.som_model.specs.declared.syntax.Stmt.{Stmt}
use Rattle.som_model.specs.declared.syntax.Block.{Block}
use Rattle.som_model.specs.Lists.{Mem}
use Rattle.som_model.specs.Class.{Class}
use Rattle.som_model.specs.Kernel.{kernel}
use Rattle.som_model.specs.Rules.{is_void}
use Rattle.som_semantics.specs.World.{World, world}
use Rattle.som_semantics.specs.State.{Value, Nil, Heap, State}
use Rattle.som_semantics.specs.Runs.{Ran, Goes, Ends}
use Rattle.som_semantics.specs.Calls.{Here, class_here}
use Rattle.som_semantics.specs.Expressions.{Frame, eval}
use Rattle.som_semantics.specs.Statements.{Flow, Next, Return, Returned, exec, run_block}
use Rattle.som_semantics.specs.Means.{calls}
use Rattle.som_model.specs.Typing.{CodePlace, ExprType, Of, PlainNil, expr_type, running_facts}
use Rattle.som_model.specs.TypedBlocks.{Scope, block_scope, stmt_scope}
use Rattle.som_type_soundness.specs.Values.{has_type, have_types}
use Rattle.som_type_soundness.specs.Heaps.{AreTyped}
use Rattle.som_type_soundness.specs.Checks.{stands}

-- what an act leaves: typed objects, and where it goes on, a value with this property among the objects of that time
abbrev pub Leaves : {A : Type 0} → World → (A → Heap → Type 0) → Ran A → Type 0
Leaves w P (Goes a s) = AreTyped w s.heap × P a s.heap
Leaves w P (Ends c s) = AreTyped w s.heap

-- a value of an expression's type; plain nil has no other
abbrev pub IsOf : World → ExprType → Value → Heap → Type 0
IsOf w (Of t) v h = has_type w h t v ≡ true
IsOf w PlainNil v h = v ≡ Nil

-- what a statement leaves: locals of the types in scope; or it ends the body, without a value where the result is void, and else with one of the result's type
abbrev pub FlowHas : World → ValueType → Scope → Flow → Heap → Type 0
FlowHas w result scope (Next frame) h = have_types w h scope frame ≡ true
FlowHas w result scope Return h = result ≡ types.Void
FlowHas w result scope (Returned v) h = (has_type w h result v ≡ true) × (is_void result ≡ false)

-- code stands in main, or in a body of one of these classes, where self is an object of that class or of one below it
abbrev pub IsInPlace : World → List Class → Option Class → Here → Heap → Type 0
IsInPlace w cs None here h = Unit {0}
IsInPlace w cs (Some c) here h = Mem c cs × (class_here here ≡ c.key) × (stands w c.key here.me h ≡ true)

-- code begins with typed objects, with locals of the types in scope, and with self in place
pub record Begins (w : World) (cs : List Class) (at : CodePlace) (here : Here) (scope : Scope) (frame : Frame) (h : Heap) : Type 0 where
  pub objects : AreTyped w h
  pub locals : have_types w h scope frame ≡ true
  pub place : IsInPlace w cs at.class here h

-- each expression that has a type leaves a value of that type
abbrev pub ExpressionsKeepTypes : List Class → Type 0
ExpressionsKeepTypes cs =
    (at : CodePlace) (here : Here) (scope : Scope) (e : Expr) (t : ExprType) → expr_type (running_facts (kernel ++ cs)) at scope e ≡ Ok t
    → (levels : ℕ) (frame : Frame) (s : State) → Begins (world (kernel ++ cs)) cs at here scope frame s.heap
    → Leaves (world (kernel ++ cs)) (IsOf (world (kernel ++ cs)) t) ((eval (world (kernel ++ cs)) (calls (world (kernel ++ cs)) levels) here e frame).does s)

-- each statement that is well typed leaves locals of the types in the scope after it
abbrev pub StatementsKeepTypes : List Class → Type 0
StatementsKeepTypes cs =
    (at : CodePlace) (here : Here) (scope after : Scope) (x : Stmt) → stmt_scope (running_facts (kernel ++ cs)) at x scope ≡ Ok after
    → (levels : ℕ) (frame : Frame) (s : State) → Begins (world (kernel ++ cs)) cs at here scope frame s.heap
    → Leaves (world (kernel ++ cs)) (FlowHas (world (kernel ++ cs)) at.result after) ((exec (world (kernel ++ cs)) (calls (world (kernel ++ cs)) levels) here x frame).does s)

-- and each block leaves locals of the types in the scope before it, since its own end with it
abbrev pub BlocksKeepTypes : List Class → Type 0
BlocksKeepTypes cs =
    (at : CodePlace) (here : Here) (scope after : Scope) (b : Block) → block_scope (running_facts (kernel ++ cs)) at b scope ≡ Ok after
    → (levels : ℕ) (frame : Frame) (s : State) → Begins (world (kernel ++ cs)) cs at here scope frame s.heap
    → Leaves (world (kernel ++ cs)) (FlowHas (world (kernel ++ cs)) at.result scope) ((run_block (world (kernel ++ cs)) (calls (world (kernel ++ cs)) levels) here b frame).does s)
