-- The code of a well typed block needs only what is there where it stands.
use Rattle.std.proofs.Common.{◌≡◌, ◌+◌, ℕ, Bool, true, false, not, ◌&&◌, List, [], ◌∷◌, map, length, Option, Some, None, IsSome, Ok, refl, sym, ap, ◌∙◌, subst, true≢false}
use Rattle.std.specs.Prelude.{is_some}
use Rattle.som_model.specs.declared.key.ClassKey.{ClassKey}
use Rattle.som_model.specs.declared.key.MethodRef.{MethodRef}
use Rattle.som_model.specs.declared.key.ValueType.{ValueType}
use Rattle.som_model.specs.declared.key.ValueType.TheVariants as types
use Rattle.som_model.specs.declared.syntax.Expr.{Expr, ind-Expr, roll-Expr, fold-roll-Expr, map-Expr}
use Rattle.som_model.specs.declared.syntax.Expr.TheOpen.{Expr-F}
use Rattle.som_model.specs.declared.syntax.Stmt.{Stmt, roll-Stmt, fold-roll-Stmt, map-Stmt}
use Rattle.som_model.specs.declared.syntax.Stmt.TheOpen.{Stmt-F, Block-F}
use Rattle.som_model.specs.declared.syntax.Block.{Block, ind-Block, roll-Block, fold-roll-Block, map-Block}
use Rattle.som_model.specs.Lists.{Mem}
use Rattle.som_model.specs.Keys.{same_key}
use Rattle.som_model.specs.Kernel.{som_free}
use Rattle.som_model.specs.Steps.{◌>>=◌}
use Rattle.som_model.specs.Blocks.{is_call}
use Rattle.som_model.specs.Class.{Class}
use Rattle.som_semantics.specs.Values.{binary_op}
use Rattle.som_model.specs.Typing.{ClassFacts, CodePlace, ExprType, Of, Ruled, Typed, needs, there, is_nothing, is_boolean, is_class, has_text, fits, all_fit, own_variable, value, value_of, values, unary_type, binary_type, host_type, cast_type, isa_type, proxy_type, offset_call_type, named_call_type, parent_call_type, parents_call_type, expr_step, expr_type}
use Rattle.som_model.specs.TypedBlocks.{Scope, Scoped, var_scope, local_set, variable_set, value_return, stmt_scope, block_scope, stmt_step, block_step, in_turn}
use Rattle.som_model.proofs.KeyLaws.{both}
use Rattle.som_model.proofs.StepLaws.{went, held, found}
use Rattle.som_code.specs.declared.instruction.Constant.TheVariants as constants
use Rattle.som_code.specs.declared.instruction.Instruction.{Instruction}
use Rattle.som_code.specs.declared.instruction.Instruction.TheVariants as ops
use Rattle.som_code.specs.Laid.{Lays, Bodies, Laid, just, nothing, ◌then◌, lay_each, lay_right, lay_expr, lay_all, lay_choice, lay_stmt, lay_block, lay_body, set_local}
use Rattle.som_code.specs.Laid as laid
use Rattle.som_machine_laws.proofs.Needs.{AllFind, Finds, find_nothing, find_one, find_then, find_choice, find_loop, find_last, find_right, parent_in, set_finds, variable_kind}

abbrev is_proper_for : ClassFacts → Option Class → ClassKey → Bool
is_proper_for w None k = false
is_proper_for w (Some c) k = not (same_key k c.key) && w.is_a c.key k

proper_some : (w : ClassFacts) (c : Option Class) (k : ClassKey) → is_proper_for w c k ≡ true → IsSome c
proper_some w None k e = absurd (true≢false (sym e))
proper_some w (Some c) k e = refl

module _ (w : ClassFacts) (at : CodePlace) where
  -- ---- expressions

  abbrev Good : Expr → Type 0
  Good e = (scope : Scope) (t : ExprType) → expr_type w at scope e ≡ Ok t → AllFind at.class (lay_expr e)

  abbrev Kept : Type 0
  Kept = (e : Expr) × Good e

  abbrev bare : Expr-F Kept → Expr-F Expr
  bare = map-Expr Kept Expr (λ (k : Kept). k.0)

  abbrev exprs : List Kept → List Expr
  exprs = map (λ (k : Kept). k.0)

  -- a part that has a value
  part : (e : Expr) → Good e → (scope : Scope) (t : ExprType) → value (expr_type w at scope e) ≡ Ok t → AllFind at.class (lay_expr e)
  part e k scope t h = let q = went (expr_type w at scope e) value_of t h in k scope q.value q.first

  parts : (ks : List Kept) (scope : Scope) (ts : List ExprType) → values (map (expr_type w at scope) (exprs ks)) ≡ Ok ts → AllFind at.class (lay_each (map lay_expr (exprs ks)))
  parts [] scope ts h = find_nothing at.class
  parts (k ∷ ks) scope ts h =
      let q = went (value (expr_type w at scope k.0)) (λ t. values (map (expr_type w at scope) (exprs ks)) >>= λ ts. Ok (t ∷ ts)) ts h in
      let qs = went (values (map (expr_type w at scope) (exprs ks))) (λ ts. Ok (q.value ∷ ts)) ts q.further in
      find_then at.class (lay_expr k.0) (lay_each (map lay_expr (exprs ks))) (part k.0 k.1 scope q.value q.first) (parts ks scope qs.value qs.first)

  abbrev code_of : List Kept → Lays
  code_of ks = lay_each (map lay_expr (exprs ks))

  -- an operator on one part
  one : (k : Kept) (i : Instruction) (scope : Scope) (next : ExprType → Typed) (t : ExprType) → Finds at.class i → (value (expr_type w at scope k.0) >>= next) ≡ Ok t → AllFind at.class (lay_expr k.0 then just i)
  one k i scope next t f h =
      let q = went (value (expr_type w at scope k.0)) next t h in
      find_last at.class (lay_expr k.0) (part k.0 k.1 scope q.value q.first) i f

  -- two parts
  pub record Two (a b : Expr) : Type 0 where
    pub first : AllFind at.class (lay_expr a)
    pub second : AllFind at.class (lay_expr b)

  two : (a b : Kept) (scope : Scope) (next : ExprType → ExprType → Typed) (t : ExprType) → (value (expr_type w at scope a.0) >>= λ s. value (expr_type w at scope b.0) >>= next s) ≡ Ok t → Two a.0 b.0
  two a b scope next t h =
      let q = went (value (expr_type w at scope a.0)) (λ s. value (expr_type w at scope b.0) >>= next s) t h in
      let p = went (value (expr_type w at scope b.0)) (next q.value) t q.further in
      record { first = part a.0 a.1 scope q.value q.first; second = part b.0 b.1 scope p.value p.first }

  -- a receiver, arguments, and then the call
  called : (k : Kept) (ks : List Kept) (i : Instruction) (scope : Scope) (next : ExprType → List ExprType → Typed) (t : ExprType) → Finds at.class i
      → (value (expr_type w at scope k.0) >>= λ on. values (map (expr_type w at scope) (exprs ks)) >>= next on) ≡ Ok t → AllFind at.class (lay_expr k.0 then (code_of ks then just i))
  called k ks i scope next t f h =
      let q = went (value (expr_type w at scope k.0)) (λ on. values (map (expr_type w at scope) (exprs ks)) >>= next on) t h in
      let p = went (values (map (expr_type w at scope) (exprs ks))) (next q.value) t q.further in
      find_then at.class (lay_expr k.0) (code_of ks then just i) (part k.0 k.1 scope q.value q.first)
      (find_last at.class (code_of ks) (parts ks scope p.value p.first) i f)

  own_there : (n : ℕ) (kind : ValueType) → own_variable at n ≡ Ok kind → IsSome (variable_kind at.class n)
  own_there n kind h = ap is_some (found 16 (variable_kind at.class n) kind h)

  parent_there : (n : ℕ) (m : MethodRef) (t : ExprType) (xs : List ExprType) → parent_call_type w at n m xs ≡ Ok t → IsSome (parent_in at.class n)
  parent_there n m t xs h =
      let q = went (there 16 (parent_in at.class n)) (λ p. there 16 (w.signature m) >>= λ sig. needs 17 (w.is_a p m.class) (needs 18 (all_fit w sig.params xs) (Ok (Of sig.result)))) t h in
      ap is_some (found 16 (parent_in at.class n) q.value q.first)

  class_there : (m : MethodRef) (t : ExprType) (xs : List ExprType) → parents_call_type w at m xs ≡ Ok t → IsSome at.class
  class_there m t xs h =
      let g = went (there 16 (w.signature m)) (λ sig. needs 18 (all_fit w sig.params xs) (needs 20 (is_nothing (Of sig.result) && is_proper_for w at.class (w.owner m).class) (Ok (Of sig.result)))) t h in
      let sig = g.value in
      let d = held 18 (all_fit w sig.params xs) (needs 20 (is_nothing (Of sig.result) && is_proper_for w at.class (w.owner m).class) (Ok (Of sig.result))) t g.further in
      let f = held 20 (is_nothing (Of sig.result) && is_proper_for w at.class (w.owner m).class) (Ok (Of sig.result)) t d.1 in
      let b = both (is_nothing (Of sig.result)) (is_proper_for w at.class (w.owner m).class) f.0 in
      proper_some w at.class (w.owner m).class b.1

  abbrev At : Expr-F Expr → Type 0
  At l = AllFind at.class (laid.expr_step (map-Expr Expr Lays lay_expr l))

  layer : (y : Expr-F Kept) (scope : Scope) (t : ExprType) → expr_step w at scope (map-Expr Expr Typed (expr_type w at scope) (bare y)) ≡ Ok t → At (bare y)
  layer (Expr-F.Long z) scope t h = find_one at.class (ops.Push (constants.Long z)) tt
  layer (Expr-F.Str z) scope t h = find_one at.class (ops.Push (constants.Str z)) tt
  layer (Expr-F.Boolean b) scope t h = find_one at.class (ops.Push (constants.Boolean b)) tt
  layer Expr-F.Nil scope t h = find_one at.class (ops.Push constants.Nil) tt
  layer (Expr-F.Local n) scope t h = find_one at.class (ops.Get n) tt
  layer Expr-F.Me scope t h =
      let q = went (there 20 at.class) (λ c. Ok (Of (types.Class c.key))) t h in
      find_one at.class ops.Me (ap is_some (found 20 at.class q.value q.first))
  layer (Expr-F.Variable n) scope t h =
      let q = went (own_variable at n) (λ kind. Ok (Of kind)) t h in
      find_one at.class (ops.GetVariable n) (own_there n q.value q.first)
  layer (Expr-F.Unary op k) scope t h = one k (ops.Unary op) scope (unary_type op) t tt h
  layer (Expr-F.Binary op a b) scope t h =
      let p = two a b scope (binary_type op) t h in
      find_then at.class (lay_expr a.0) (lay_right (binary_op op) op (lay_expr b.0)) p.first (find_right at.class (lay_expr b.0) p.second (binary_op op) op)
  layer (Expr-F.New c) scope t h = find_one at.class (ops.New c) tt
  layer (Expr-F.Class c) scope t h = find_one at.class (ops.Class c) tt
  layer Expr-F.Manager scope t h = find_one at.class ops.Manager tt
  layer (Expr-F.Cast c k) scope t h = one k (ops.Cast c) scope (cast_type w c) t tt h
  layer (Expr-F.Isa c k) scope t h = one k (ops.Isa c) scope (isa_type w c) t tt h
  layer (Expr-F.Proxy c k) scope t h = one k (ops.Proxy c) scope (proxy_type w c) t tt h
  layer (Expr-F.OffsetCall r k ks) scope t h = called k ks (ops.OffsetCall r (length (map lay_expr (exprs ks)))) scope (offset_call_type w r) t tt h
  layer (Expr-F.Lookup kind name k ks) scope t h = called k ks (ops.Lookup kind name (length (map lay_expr (exprs ks)))) scope (named_call_type w kind) t tt h
  layer (Expr-F.Dispatch kind name k ks) scope t h = called k ks (ops.Dispatch kind name (length (map lay_expr (exprs ks)))) scope (named_call_type w kind) t tt h
  layer (Expr-F.ParentCall n r ks) scope t h =
      let q = went (values (map (expr_type w at scope) (exprs ks))) (parent_call_type w at n r) t h in
      find_last at.class (code_of ks) (parts ks scope q.value q.first) (ops.ParentCall n r (length (map lay_expr (exprs ks)))) (parent_there n r t q.value q.further)
  layer (Expr-F.ParentsCall r ks) scope t h =
      let q = went (values (map (expr_type w at scope) (exprs ks))) (parents_call_type w at r) t h in
      find_last at.class (code_of ks) (parts ks scope q.value q.first) (ops.ParentsCall r (length (map lay_expr (exprs ks)))) (class_there r t q.value q.further)
  layer (Expr-F.Host code a b) scope t h =
      let p = two a b scope host_type t h in
      find_then at.class (lay_expr a.0) (lay_expr b.0 then just (ops.Host code)) p.first (find_last at.class (lay_expr b.0) p.second (ops.Host code) tt)

  good : (x : Expr-F Expr) (y : Expr-F Kept) → bare y ≡ x → Good (roll-Expr x)
  good x y is = subst (λ z. Good (roll-Expr z)) is (λ scope t h.
      subst (AllFind at.class) (sym (fold-roll-Expr Lays laid.expr_step (bare y)))
      (layer y scope t (sym (fold-roll-Expr Typed (expr_step w at scope) (bare y)) ∙ h)))

  expr_good : (e : Expr) → Good e
  expr_good = ind-Expr Good good

  -- ---- statements and blocks

  -- with any number of locals visible before it
  pub record AllFindIn (lays : Bodies) : Type 0 where
    pub by : (d : ℕ) → AllFind at.class (lays d)

  abbrev GoodStmt : Stmt → Type 0
  GoodStmt s = (scope after : Scope) → stmt_scope w at s scope ≡ Ok after → AllFindIn (lay_stmt s).lays

  abbrev GoodBlock : Block → Type 0
  GoodBlock b = (scope after : Scope) → block_scope w at b scope ≡ Ok after → AllFindIn (lay_block b)

  abbrev KeptStmt : Type 0
  KeptStmt = (s : Stmt) × GoodStmt s

  abbrev KeptBlock : Type 0
  KeptBlock = (b : Block) × GoodBlock b

  abbrev bare_stmt : Stmt-F KeptStmt KeptBlock → Stmt-F Stmt Block
  bare_stmt = map-Stmt KeptStmt KeptBlock Stmt Block (λ (k : KeptStmt). k.0) (λ (k : KeptBlock). k.0)

  abbrev bare_block : Block-F KeptStmt KeptBlock → Block-F Stmt Block
  bare_block = map-Block KeptStmt KeptBlock Stmt Block (λ (k : KeptStmt). k.0) (λ (k : KeptBlock). k.0)

  abbrev stmts : List KeptStmt → List Stmt
  stmts = map (λ (k : KeptStmt). k.0)

  abbrev AtStmt : Stmt-F Stmt Block → Type 0
  AtStmt l = AllFindIn (laid.stmt_step (map-Stmt Stmt Block Laid Bodies lay_stmt lay_block l)).lays

  abbrev AtBlock : Block-F Stmt Block → Type 0
  AtBlock l = AllFindIn (laid.block_step (map-Block Stmt Block Laid Bodies lay_stmt lay_block l))

  -- the value of an expression, and then an instruction
  valued : (e : Expr) (i : Instruction) (scope after : Scope) (next : ExprType → Ruled Scope) → Finds at.class i → (value (expr_type w at scope e) >>= next) ≡ Ok after → AllFind at.class (lay_expr e then just i)
  valued e i scope after next f h =
      let q = went (value (expr_type w at scope e)) next after h in
      find_last at.class (lay_expr e) (part e (expr_good e) scope q.value q.first) i f

  stmt_layer : (y : Stmt-F KeptStmt KeptBlock) (scope after : Scope) → stmt_step w at (map-Stmt Stmt Block Scoped Scoped (stmt_scope w at) (block_scope w at) (bare_stmt y)) scope ≡ Ok after → AtStmt (bare_stmt y)
  stmt_layer (Stmt-F.Var kind e) scope after h = record { by = λ d. valued e (ops.Set d) scope after (var_scope w scope kind) tt h }
  stmt_layer (Stmt-F.SetLocal n e) scope after h = record { by = λ d. valued e (set_local n d) scope after (local_set w scope n) (set_finds at.class n d) h }
  stmt_layer (Stmt-F.SetVariable n e) scope after h =
      let q = went (value (expr_type w at scope e)) (variable_set w at scope n) after h in
      let k = went (own_variable at n) (λ kind. needs 17 (fits w kind q.value) (Ok scope)) after q.further in
      record { by = λ d. valued e (ops.SetVariable n) scope after (variable_set w at scope n) (own_there n k.value k.first) h }
  stmt_layer (Stmt-F.If e a b) scope after h =
      let q = went (value (expr_type w at scope e)) (λ t. block_scope w at a.0 scope >>= λ _. block_scope w at b.0 scope >>= λ _. needs 17 (is_boolean t) (Ok scope)) after h in
      let x = went (block_scope w at a.0 scope) (λ _. block_scope w at b.0 scope >>= λ _. needs 17 (is_boolean q.value) (Ok scope)) after q.further in
      let y = went (block_scope w at b.0 scope) (λ _. needs 17 (is_boolean q.value) (Ok scope)) after x.further in
      let c = a.1 scope x.value x.first in
      let d = b.1 scope y.value y.first in
      record {
        by = λ n.
            find_then at.class (lay_expr e) (lay_choice (lay_block a.0 n) (lay_block b.0 n)) (part e (expr_good e) scope q.value q.first)
            (find_choice at.class (lay_block a.0 n) (lay_block b.0 n) (c.by n) (d.by n));
      }
  stmt_layer (Stmt-F.While e b) scope after h =
      let q = went (value (expr_type w at scope e)) (λ t. block_scope w at b.0 scope >>= λ _. needs 17 (is_boolean t) (Ok scope)) after h in
      let x = went (block_scope w at b.0 scope) (λ _. needs 17 (is_boolean q.value) (Ok scope)) after q.further in
      let c = b.1 scope x.value x.first in
      record { by = λ n. find_loop at.class (lay_expr e) (lay_block b.0 n) (part e (expr_good e) scope q.value q.first) (c.by n) }
  stmt_layer Stmt-F.Return scope after h = record { by = λ d. find_one at.class ops.Return tt }
  stmt_layer (Stmt-F.ReturnValue e) scope after h = record { by = λ d. valued e ops.ReturnValue scope after (value_return w at scope) tt h }
  stmt_layer (Stmt-F.Print e) scope after h = record { by = λ d. valued e ops.Print scope after (λ t. needs 17 (has_text t) (Ok scope)) tt h }
  stmt_layer (Stmt-F.Free e) scope after h =
      let q = went (value (expr_type w at scope e)) (λ t. needs 17 (is_class t) (Ok scope)) after h in
      record {
        by = λ d.
            find_then at.class (lay_expr e) (just (ops.OffsetCall som_free 0) then just ops.Drop) (part e (expr_good e) scope q.value q.first)
            (find_then at.class (just (ops.OffsetCall som_free 0)) (just ops.Drop) (find_one at.class (ops.OffsetCall som_free 0) tt) (find_one at.class ops.Drop tt));
      }
  stmt_layer (Stmt-F.Call e) scope after h =
      let q = went (expr_type w at scope e) (λ t. needs 20 (is_call e) (Ok scope)) after h in
      record { by = λ d. find_last at.class (lay_expr e) (expr_good e scope q.value q.first) ops.Drop tt }

  -- statements one after the other
  turn : (ks : List KeptStmt) (scope after : Scope) → in_turn (map (stmt_scope w at) (stmts ks)) scope ≡ Ok after → (d : ℕ) → AllFind at.class (lay_all (map lay_stmt (stmts ks)) d)
  turn [] scope after h d = find_nothing at.class
  turn (k ∷ ks) scope after h d =
      let q = went (stmt_scope w at k.0 scope) (in_turn (map (stmt_scope w at) (stmts ks))) after h in
      let c = k.1 scope q.value q.first in
      let next = d + (lay_stmt k.0).adds in
      find_then at.class ((lay_stmt k.0).lays d) (lay_all (map lay_stmt (stmts ks)) next) (c.by d) (turn ks q.value after q.further next)

  block_layer : (y : Block-F KeptStmt KeptBlock) (scope after : Scope) → block_step (map-Block Stmt Block Scoped Scoped (stmt_scope w at) (block_scope w at) (bare_block y)) scope ≡ Ok after → AtBlock (bare_block y)
  block_layer y scope after h = record {
    by = λ d. find_last at.class (lay_all (map lay_stmt (stmts y.statements)) d) (turn y.statements scope after h d) (ops.Cut d) tt;
  }

  from_stmt : (x : Stmt-F Stmt Block) (y : Stmt-F KeptStmt KeptBlock) → bare_stmt y ≡ x → GoodStmt (roll-Stmt x)
  from_stmt x y is = subst (λ z. GoodStmt (roll-Stmt z)) is (λ scope after h.
      subst (λ (z : Laid). AllFindIn z.lays) (sym (fold-roll-Stmt Laid Bodies laid.stmt_step laid.block_step (bare_stmt y)))
      (stmt_layer y scope after (sym (ap (λ (f : Scoped). f scope) (fold-roll-Stmt Scoped Scoped (stmt_step w at) block_step (bare_stmt y))) ∙ h)))

  from_block : (x : Block-F Stmt Block) (y : Block-F KeptStmt KeptBlock) → bare_block y ≡ x → GoodBlock (roll-Block x)
  from_block x y is = subst (λ z. GoodBlock (roll-Block z)) is (λ scope after h.
      subst AllFindIn (sym (fold-roll-Block Laid Bodies laid.stmt_step laid.block_step (bare_block y)))
      (block_layer y scope after (sym (ap (λ (f : Scoped). f scope) (fold-roll-Block Scoped Scoped (stmt_step w at) block_step (bare_block y))) ∙ h)))

  block_good : (b : Block) → GoodBlock b
  block_good = ind-Block GoodStmt GoodBlock from_stmt from_block

  -- each instruction of the code of a well typed block finds what it needs
  pub body_finds : (b : Block) (params : ℕ) (scope after : Scope) → block_scope w at b scope ≡ Ok after → (i : Instruction) → Mem i (lay_body b params) → Finds at.class i
  body_finds b params scope after h i m = (find_last at.class (lay_block b params) ((block_good b scope after h).by params) ops.Return tt).by 0 i m
