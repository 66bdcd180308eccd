-- The code of a block that doesn't search doesn't search.
use Rattle.std.proofs.Common.{◌≡◌, ◌+◌, ℕ, Bool, true, false, if◌then◌else◌, nat_lt, List, [], ◌∷◌, ◌++◌, map, length, refl, sym, ap, subst}
use Rattle.som_model.specs.declared.key.MethodRef.{MethodRef}
use Rattle.som_model.specs.declared.syntax.Expr.{Expr, ind-Expr, roll-Expr, fold-roll-Expr, map-Expr}
use Rattle.som_model.specs.declared.syntax.Expr.TheOpen.{Expr-F}
use Rattle.som_model.specs.declared.syntax.Stmt.{Stmt, fold-Stmt, roll-Stmt, fold-roll-Stmt, map-Stmt}
use Rattle.som_model.specs.declared.syntax.Stmt.TheOpen.{Stmt-F, Block-F}
use Rattle.som_model.specs.declared.syntax.Block.{Block, ind-Block, roll-Block, fold-roll-Block, map-Block}
use Rattle.som_model.specs.Lists.{joined, some}
use Rattle.som_model.specs.Kernel.{som_free}
use Rattle.som_model.specs.Parts.{given_by, given_in, parts}
use Rattle.som_semantics.specs.Values.{BinaryOp, And, Or, binary_op}
use Rattle.som_code.specs.declared.instruction.Constant.TheVariants as constants
use Rattle.som_code.specs.declared.instruction.Instruction.{Instruction}
use Rattle.som_code.specs.declared.instruction.Instruction.TheVariants as ops
use Rattle.som_code.specs.Laid.{Lays, Bodies, Laid, just, ◌then◌, lay_each, lay_right, expr_step, lay_expr, lay_all, lay_choice, lay_loop, set_local, stmt_step, block_step, lay_stmt, lay_block, lay_body}
use Rattle.som_machine_laws.specs.Searching.{is_asking, searches}
use Rattle.som_machine_laws.proofs.Tests.{first_false, none_joined, none_left, none_right}

module _ (owner : MethodRef → MethodRef) (free : is_asking (owner som_free) ≡ false) where
  abbrev test : Instruction → Bool
  test = searches owner

  -- wherever it begins, no instruction of it searches
  pub record Direct (f : Lays) : Type 0 where
    pub by : (a : ℕ) → some test (f a) ≡ false

  -- none of these does
  abbrev None : List Bool → Type 0
  None bs = some (λ (b : Bool). b) bs ≡ false

  -- ---- pieces that are joined

  one : (i : Instruction) → test i ≡ false → Direct (just i)
  one i e = record { by = λ a. ap (λ (b : Bool). if b then true else false) e }

  both : (f g : Lays) → Direct f → Direct g → Direct (f then g)
  both f g h k = record { by = λ a. none_joined test (f a) (g (a + length (f a))) (h.by a) (k.by (a + length (f a))) }

  last : (f : Lays) (i : Instruction) → Direct f → test i ≡ false → Direct (f then just i)
  last f i h e = both f (just i) h (one i e)

  choice : (f g : Lays) → Direct f → Direct g → Direct (lay_choice f g)
  choice f g h k = record {
    by = λ b.
        let m = b + 1 + length (f (b + 1)) in
        none_joined test (f (b + 1)) (ops.Jump (m + 1 + length (g (m + 1))) ∷ g (m + 1)) (h.by (b + 1)) (k.by (m + 1));
  }

  loop : (c f : Lays) → Direct c → Direct f → Direct (lay_loop c f)
  loop c f h k = record {
    by = λ a.
        let m = a + 2 + length (f (a + 2)) in
        let b = m + length (c m) in
        let end : List Instruction = ops.Unless (b + 2) ∷ ops.Jump (a + 1) ∷ [] in
        none_joined test (f (a + 2)) (c m ++ end) (k.by (a + 2)) (none_joined test (c m) end (h.by m) refl);
  }

  right : (o : BinaryOp) (op : ℕ) (g : Lays) → Direct g → Direct (lay_right o op g)
  right And op g h = record {
    by = λ b. none_joined test (g (b + 1)) (ops.Jump (b + 1 + length (g (b + 1)) + 2) ∷ ops.Push (constants.Boolean false) ∷ []) (h.by (b + 1)) refl;
  }
  right Or op g h = record { by = λ b. h.by (b + 3) }
  right _ op g h = last g (ops.Binary op) h refl

  -- ---- expressions

  -- the form of a call, as the definition of searching sees it
  abbrev search_form : Expr-F (List Bool) → List Bool
  search_form (Expr-F.OffsetCall method e args) = is_asking (owner method) ∷ []
  search_form (Expr-F.Lookup wanted name e args) = true ∷ []
  search_form (Expr-F.Dispatch wanted name e args) = true ∷ []
  search_form (Expr-F.ParentCall n method args) = is_asking (owner method) ∷ []
  search_form (Expr-F.ParentsCall method args) = is_asking (owner method) ∷ []
  search_form _ = []

  abbrev expr_given : Expr → List Bool
  expr_given = given_by search_form

  abbrev given_step : Expr-F (List Bool) → List Bool
  given_step x = search_form x ++ parts x

  abbrev Good : Expr → Type 0
  Good e = None (expr_given e) → Direct (lay_expr e)

  abbrev Kept : Type 0
  Kept = (e : Expr) × Good e

  abbrev exprs : List Kept → List Expr
  exprs = map (λ (k : Kept). k.0)

  abbrev given_all : List Kept → List Bool
  given_all ks = joined (map expr_given (exprs ks))

  abbrev code_of : List Kept → Lays
  code_of ks = lay_each (map lay_expr (exprs ks))

  abbrev many : List Kept → ℕ
  many ks = length (map lay_expr (exprs ks))

  abbrev id : Bool → Bool
  id b = b

  all_good : (ks : List Kept) → None (given_all ks) → Direct (code_of ks)
  all_good [] n = record { by = λ a. refl }
  all_good (k ∷ ks) n = both (lay_expr k.0) (code_of ks) (k.1 (none_left id (expr_given k.0) (given_all ks) n)) (all_good ks (none_right id (expr_given k.0) (given_all ks) n))

  pair : (a b : Kept) (g : Lays) → None (expr_given a.0 ++ expr_given b.0) → (Direct (lay_expr b.0) → Direct g) → Direct (lay_expr a.0 then g)
  pair a b g n h = both (lay_expr a.0) g (a.1 (none_left id (expr_given a.0) (expr_given b.0) n)) (h (b.1 (none_right id (expr_given a.0) (expr_given b.0) n)))

  -- a call that doesn't search, with its receiver
  called : (k : Kept) (ks : List Kept) (i : Instruction) (b : Bool) → None (b ∷ (expr_given k.0 ++ given_all ks)) → (b ≡ false → test i ≡ false) → Direct (lay_expr k.0 then (code_of ks then just i))
  called k ks i b n e =
      let rest = none_right id (b ∷ []) (expr_given k.0 ++ given_all ks) n in
      both (lay_expr k.0) (code_of ks then just i) (k.1 (none_left id (expr_given k.0) (given_all ks) rest))
      (last (code_of ks) i (all_good ks (none_right id (expr_given k.0) (given_all ks) rest)) (e (first_false b (expr_given k.0 ++ given_all ks) n)))

  -- and without one
  called_up : (ks : List Kept) (i : Instruction) (b : Bool) → None (b ∷ given_all ks) → (b ≡ false → test i ≡ false) → Direct (code_of ks then just i)
  called_up ks i b n e = last (code_of ks) i (all_good ks (none_right id (b ∷ []) (given_all ks) n)) (e (first_false b (given_all ks) n))

  abbrev At : Expr-F Expr → Type 0
  At l = None (given_step (map-Expr Expr (List Bool) expr_given l)) → Direct (expr_step (map-Expr Expr Lays lay_expr l))

  layer : (y : Expr-F Kept) → At (map-Expr Kept Expr (λ (k : Kept). k.0) y)
  layer (Expr-F.Long z) n = one (ops.Push (constants.Long z)) refl
  layer (Expr-F.Str t) n = one (ops.Push (constants.Str t)) refl
  layer (Expr-F.Boolean b) n = one (ops.Push (constants.Boolean b)) refl
  layer Expr-F.Nil n = one (ops.Push constants.Nil) refl
  layer (Expr-F.Local i) n = one (ops.Get i) refl
  layer Expr-F.Me n = one ops.Me refl
  layer (Expr-F.Variable i) n = one (ops.GetVariable i) refl
  layer (Expr-F.Unary op k) n = last (lay_expr k.0) (ops.Unary op) (k.1 n) refl
  layer (Expr-F.Binary op k l) n = pair k l (lay_right (binary_op op) op (lay_expr l.0)) n (right (binary_op op) op (lay_expr l.0))
  layer (Expr-F.New c) n = one (ops.New c) refl
  layer (Expr-F.Class c) n = one (ops.Class c) refl
  layer Expr-F.Manager n = one ops.Manager refl
  layer (Expr-F.Cast c k) n = last (lay_expr k.0) (ops.Cast c) (k.1 n) refl
  layer (Expr-F.Isa c k) n = last (lay_expr k.0) (ops.Isa c) (k.1 n) refl
  layer (Expr-F.Proxy c k) n = last (lay_expr k.0) (ops.Proxy c) (k.1 n) refl
  layer (Expr-F.OffsetCall r k ks) n = called k ks (ops.OffsetCall r (many ks)) (is_asking (owner r)) n (λ e. e)
  layer (Expr-F.Lookup kind name k ks) n = called k ks (ops.Lookup kind name (many ks)) true n (λ e. e)
  layer (Expr-F.Dispatch kind name k ks) n = called k ks (ops.Dispatch kind name (many ks)) true n (λ e. e)
  layer (Expr-F.ParentCall i r ks) n = called_up ks (ops.ParentCall i r (many ks)) (is_asking (owner r)) n (λ e. e)
  layer (Expr-F.ParentsCall r ks) n = called_up ks (ops.ParentsCall r (many ks)) (is_asking (owner r)) n (λ e. e)
  layer (Expr-F.Host code k l) n = pair k l (lay_expr l.0 then just (ops.Host code)) n (λ h. last (lay_expr l.0) (ops.Host code) h refl)

  at_layer : (l : Expr-F Expr) → At l → Good (roll-Expr l)
  at_layer l h =
      subst (λ z. None z → Direct (lay_expr (roll-Expr l))) (sym (fold-roll-Expr (List Bool) given_step l))
      (subst (λ z. None (given_step (map-Expr Expr (List Bool) expr_given l)) → Direct z) (sym (fold-roll-Expr Lays expr_step l)) h)

  expr_good : (e : Expr) → Good e
  expr_good = ind-Expr Good (λ x y is. at_layer x (subst At is (layer y)))

  -- ---- statements and blocks

  abbrev stmt_form : Stmt-F (List Bool) (List Bool) → List Bool
  stmt_form (Stmt-F.Var kind e) = expr_given e
  stmt_form (Stmt-F.SetLocal n e) = expr_given e
  stmt_form (Stmt-F.SetVariable n e) = expr_given e
  stmt_form (Stmt-F.If c x y) = expr_given c ++ x ++ y
  stmt_form (Stmt-F.While c b) = expr_given c ++ b
  stmt_form Stmt-F.Return = []
  stmt_form (Stmt-F.ReturnValue e) = expr_given e
  stmt_form (Stmt-F.Print e) = expr_given e
  stmt_form (Stmt-F.Free e) = expr_given e
  stmt_form (Stmt-F.Call e) = expr_given e

  abbrev block_form : Block-F (List Bool) (List Bool) → List Bool
  block_form b = joined b.statements

  abbrev stmt_given : Stmt → List Bool
  stmt_given = fold-Stmt (List Bool) (List Bool) stmt_form block_form

  abbrev block_given : Block → List Bool
  block_given = given_in search_form

  -- with any number of locals visible before it
  record DirectAll (lays : Bodies) : Type 0 where
    by : (d : ℕ) → Direct (lays d)

  abbrev GoodStmt : Stmt → Type 0
  GoodStmt s = None (stmt_given s) → DirectAll (lay_stmt s).lays

  abbrev GoodBlock : Block → Type 0
  GoodBlock b = None (block_given b) → DirectAll (lay_block b)

  abbrev KeptStmt : Type 0
  KeptStmt = (s : Stmt) × GoodStmt s

  abbrev KeptBlock : Type 0
  KeptBlock = (b : Block) × GoodBlock b

  abbrev stmt_searched : Stmt-F Stmt Block → List Bool
  stmt_searched l = stmt_form (map-Stmt Stmt Block (List Bool) (List Bool) stmt_given block_given l)

  abbrev block_searched : Block-F Stmt Block → List Bool
  block_searched l = block_form (map-Block Stmt Block (List Bool) (List Bool) stmt_given block_given l)

  abbrev AtStmt : Stmt-F Stmt Block → Type 0
  AtStmt l = None (stmt_searched l) → DirectAll (stmt_step (map-Stmt Stmt Block Laid Bodies lay_stmt lay_block l)).lays

  abbrev AtBlock : Block-F Stmt Block → Type 0
  AtBlock l = None (block_searched l) → DirectAll (block_step (map-Block Stmt Block Laid Bodies lay_stmt lay_block l))

  abbrev bare : Stmt-F KeptStmt KeptBlock → Stmt-F Stmt Block
  bare = map-Stmt KeptStmt KeptBlock Stmt Block (λ (k : KeptStmt). k.0) (λ (k : KeptBlock). k.0)

  abbrev bare_block : Block-F KeptStmt KeptBlock → Block-F Stmt Block
  bare_block = map-Block KeptStmt KeptBlock Stmt Block (λ (k : KeptStmt). k.0) (λ (k : KeptBlock). k.0)

  abbrev stmts : List KeptStmt → List Stmt
  stmts = map (λ (k : KeptStmt). k.0)

  -- an expression, and then an instruction that doesn't search
  plain : (e : Expr) (i : Instruction) → test i ≡ false → None (expr_given e) → Direct (lay_expr e then just i)
  plain e i f n = last (lay_expr e) i (expr_good e n) f

  set_plain : (i : ℕ) (b : Bool) → test (if b then ops.Set i else ops.Drop) ≡ false
  set_plain i true = refl
  set_plain i false = refl

  stmt_layer : (y : Stmt-F KeptStmt KeptBlock) → AtStmt (bare y)
  stmt_layer (Stmt-F.Var kind e) n = record { by = λ d. plain e (ops.Set d) refl n }
  stmt_layer (Stmt-F.SetLocal i e) n = record { by = λ d. plain e (set_local i d) (set_plain i (nat_lt i d)) n }
  stmt_layer (Stmt-F.SetVariable i e) n = record { by = λ d. plain e (ops.SetVariable i) refl n }
  stmt_layer (Stmt-F.If e a b) n =
      let first = none_left id (expr_given e ++ block_given a.0) (block_given b.0) n in record {
        by = λ d. both (lay_expr e) (lay_choice (lay_block a.0 d) (lay_block b.0 d)) (expr_good e (none_left id (expr_given e) (block_given a.0) first))
            (choice (lay_block a.0 d) (lay_block b.0 d) ((a.1 (none_right id (expr_given e) (block_given a.0) first)).by d) ((b.1 (none_right id (expr_given e ++ block_given a.0) (block_given b.0) n)).by d));
      }
  stmt_layer (Stmt-F.While e b) n = record {
    by = λ d. loop (lay_expr e) (lay_block b.0 d) (expr_good e (none_left id (expr_given e) (block_given b.0) n)) ((b.1 (none_right id (expr_given e) (block_given b.0) n)).by d);
  }
  stmt_layer Stmt-F.Return n = record { by = λ d. one ops.Return refl }
  stmt_layer (Stmt-F.ReturnValue e) n = record { by = λ d. plain e ops.ReturnValue refl n }
  stmt_layer (Stmt-F.Print e) n = record { by = λ d. plain e ops.Print refl n }
  stmt_layer (Stmt-F.Free e) n = record { by = λ d. both (lay_expr e) (just (ops.OffsetCall som_free 0) then just ops.Drop) (expr_good e n) (both (just (ops.OffsetCall som_free 0)) (just ops.Drop) (one (ops.OffsetCall som_free 0) free) (one ops.Drop refl)) }
  stmt_layer (Stmt-F.Call e) n = record { by = λ d. plain e ops.Drop refl n }

  all_stmts : (ks : List KeptStmt) (d : ℕ) → None (joined (map stmt_given (stmts ks))) → Direct (lay_all (map lay_stmt (stmts ks)) d)
  all_stmts [] d n = record { by = λ a. refl }
  all_stmts (k ∷ ks) d n =
      let d' = d + (lay_stmt k.0).adds in
      both ((lay_stmt k.0).lays d) (lay_all (map lay_stmt (stmts ks)) d') ((k.1 (none_left id (stmt_given k.0) (joined (map stmt_given (stmts ks))) n)).by d)
      (all_stmts ks d' (none_right id (stmt_given k.0) (joined (map stmt_given (stmts ks))) n))

  block_layer : (y : Block-F KeptStmt KeptBlock) → AtBlock (bare_block y)
  block_layer y n = record { by = λ d. last (lay_all (map lay_stmt (stmts y.statements)) d) (ops.Cut d) (all_stmts y.statements d n) refl }

  from_stmt : (x : Stmt-F Stmt Block) (y : Stmt-F KeptStmt KeptBlock) → bare y ≡ x → GoodStmt (roll-Stmt x)
  from_stmt x y is =
      subst (λ z. None z → DirectAll (lay_stmt (roll-Stmt x)).lays) (sym (fold-roll-Stmt (List Bool) (List Bool) stmt_form block_form x))
      (subst (λ (z : Laid). None (stmt_searched x) → DirectAll z.lays) (sym (fold-roll-Stmt Laid Bodies stmt_step block_step x))
      (subst AtStmt is (stmt_layer y)))

  from_block : (x : Block-F Stmt Block) (y : Block-F KeptStmt KeptBlock) → bare_block y ≡ x → GoodBlock (roll-Block x)
  from_block x y is =
      subst (λ z. None z → DirectAll (lay_block (roll-Block x))) (sym (fold-roll-Block (List Bool) (List Bool) stmt_form block_form x))
      (subst (λ (z : Bodies). None (block_searched x) → DirectAll z) (sym (fold-roll-Block Laid Bodies stmt_step block_step x))
      (subst AtBlock is (block_layer y)))

  block_good : (b : Block) → GoodBlock b
  block_good = ind-Block GoodStmt GoodBlock from_stmt from_block

  -- the code of a block's body, for whatever number of arguments it is laid out
  pub body_direct : (b : Block) (params : ℕ) → None (block_given b) → some test (lay_body b params) ≡ false
  body_direct b params n = (last (lay_block b params) ops.Return ((block_good b n).by params) refl).by 0
