-- What the code of a block names, the block names; and the code's proxies are those of the block.
use Rattle.std.proofs.Common.{◌≡◌, ◌+◌, ℕ, Bool, true, false, if◌then◌else◌, nat_lt, List, [], ◌∷◌, ◌++◌, map, length, refl, sym, subst, append_assoc}
use Rattle.som_model.specs.declared.key.ClassKey.{ClassKey}
use Rattle.som_model.specs.declared.syntax.Expr.{Expr, ind-Expr, roll-Expr, fold-roll-Expr, map-Expr}
use Rattle.som_model.specs.declared.syntax.Expr.TheOpen.{Expr-F}
use Rattle.som_model.specs.declared.syntax.Stmt.{Stmt, roll-Stmt, fold-roll-Stmt, map-Stmt}
use Rattle.som_model.specs.declared.syntax.Stmt.TheOpen.{Stmt-F, Block-F}
use Rattle.som_model.specs.declared.syntax.Block.{Block, ind-Block, roll-Block, fold-roll-Block, map-Block}
use Rattle.som_model.specs.Lists.{Mem, joined}
use Rattle.som_model.specs.Made.{proxies_in}
use Rattle.som_model.specs.Named.{Named, block_names, block_names_step, expr_names, expr_names_step, stmt_names, stmt_names_step, type_names}
use Rattle.som_model.specs.Parts.{parts}
use Rattle.som_semantics.specs.Values.{binary_op}
use Rattle.som_proxy_uses.specs.Forms.{block_proxies_step, expr_proxies, proxy_of_form, stmt_proxies, stmt_proxies_step}
use Rattle.som_code.specs.declared.instruction.Constant.TheVariants as constants
use Rattle.som_code.specs.declared.instruction.Instruction.{Instruction}
use Rattle.som_code.specs.declared.instruction.Instruction.TheVariants as ops
use Rattle.som_code.specs.Laid.{Lays, Bodies, Laid, just, ◌then◌, lay_each, lay_right, expr_step, lay_expr, lay_all, lay_choice, set_local, stmt_step, block_step, lay_stmt, lay_block, lay_body}
use Rattle.som_machine_laws.proofs.Pieces.{IsOf, Covers, named_by, proxies_by, covers_nothing, covers_one, covers_after, covers_then, covers_last, covers_plain, covers_call, covers_right, covers_choice, covers_loop, covers_free}

-- ---- expressions

abbrev Good : Expr → Type 0
Good e = Covers (expr_names e) (expr_proxies e) (lay_expr e)

abbrev Kept : Type 0
Kept = (e : Expr) × Good e

abbrev exprs : List Kept → List Expr
exprs = map (λ (k : Kept). k.0)

abbrev names_of : List Kept → List Named
names_of ks = joined (map expr_names (exprs ks))

abbrev proxies_of : List Kept → List ClassKey
proxies_of ks = joined (map expr_proxies (exprs ks))

abbrev code_of : List Kept → Lays
code_of ks = lay_each (map lay_expr (exprs ks))

abbrev many : List Kept → ℕ
many ks = length (map lay_expr (exprs ks))

abbrev proxies_step : Expr-F (List ClassKey) → List ClassKey
proxies_step x = proxy_of_form x ++ parts x

all_good : (ks : List Kept) → Covers (names_of ks) (proxies_of ks) (code_of ks)
all_good [] = covers_nothing
all_good (k ∷ ks) = covers_then (expr_names k.0) (names_of ks) (expr_proxies k.0) (proxies_of ks) (lay_expr k.0) (code_of ks) k.1 (all_good ks)

-- a call with its receiver, and one without
calls : (k : Kept) (ks : List Kept) (i : Instruction) → Covers (named_by i ++ (expr_names k.0 ++ names_of ks)) (proxies_by i ++ (expr_proxies k.0 ++ proxies_of ks)) (lay_expr k.0 then (code_of ks then just i))
calls k ks i = covers_call (expr_names k.0) (names_of ks) (expr_proxies k.0) (proxies_of ks) (lay_expr k.0) (code_of ks) i k.1 (all_good ks)

calls_up : (ks : List Kept) (i : Instruction) → Covers (named_by i ++ names_of ks) (proxies_by i ++ proxies_of ks) (code_of ks then just i)
calls_up ks i = covers_last (names_of ks) (proxies_of ks) (code_of ks) (all_good ks) i

last : (k : Kept) (i : Instruction) → Covers (named_by i ++ expr_names k.0) (proxies_by i ++ expr_proxies k.0) (lay_expr k.0 then just i)
last k i = covers_last (expr_names k.0) (expr_proxies k.0) (lay_expr k.0) k.1 i

abbrev At : Expr-F Expr → Type 0
At l = Covers (expr_names_step (map-Expr Expr (List Named) expr_names l)) (proxies_step (map-Expr Expr (List ClassKey) expr_proxies l)) (expr_step (map-Expr Expr Lays lay_expr l))

layer : (y : Expr-F Kept) → At (map-Expr Kept Expr (λ (k : Kept). k.0) y)
layer (Expr-F.Long z) = covers_one (ops.Push (constants.Long z))
layer (Expr-F.Str t) = covers_one (ops.Push (constants.Str t))
layer (Expr-F.Boolean b) = covers_one (ops.Push (constants.Boolean b))
layer Expr-F.Nil = covers_one (ops.Push constants.Nil)
layer (Expr-F.Local n) = covers_one (ops.Get n)
layer Expr-F.Me = covers_one ops.Me
layer (Expr-F.Variable n) = covers_one (ops.GetVariable n)
layer (Expr-F.Unary op k) = last k (ops.Unary op)
layer (Expr-F.Binary op k l) =
    covers_then (expr_names k.0) (expr_names l.0) (expr_proxies k.0) (expr_proxies l.0) (lay_expr k.0) (lay_right (binary_op op) op (lay_expr l.0)) k.1
    (covers_right (expr_names l.0) (expr_proxies l.0) (lay_expr l.0) l.1 (binary_op op) op)
layer (Expr-F.New c) = covers_one (ops.New c)
layer (Expr-F.Class c) = covers_one (ops.Class c)
layer Expr-F.Manager = covers_one ops.Manager
layer (Expr-F.Cast c k) = last k (ops.Cast c)
layer (Expr-F.Isa c k) = last k (ops.Isa c)
layer (Expr-F.Proxy c k) = last k (ops.Proxy c)
layer (Expr-F.OffsetCall r k ks) = calls k ks (ops.OffsetCall r (many ks))
layer (Expr-F.Lookup kind name k ks) = calls k ks (ops.Lookup kind name (many ks))
layer (Expr-F.Dispatch kind name k ks) = calls k ks (ops.Dispatch kind name (many ks))
layer (Expr-F.ParentCall n r ks) = calls_up ks (ops.ParentCall n r (many ks))
layer (Expr-F.ParentsCall r ks) = calls_up ks (ops.ParentsCall r (many ks))
layer (Expr-F.Host code k l) = covers_call (expr_names k.0) (expr_names l.0) (expr_proxies k.0) (expr_proxies l.0) (lay_expr k.0) (lay_expr l.0) (ops.Host code) k.1 l.1

at_layer : (l : Expr-F Expr) → At l → Good (roll-Expr l)
at_layer l h =
    subst (λ z. Covers z (expr_proxies (roll-Expr l)) (lay_expr (roll-Expr l))) (sym (fold-roll-Expr (List Named) expr_names_step l))
    (subst (λ z. Covers (expr_names_step (map-Expr Expr (List Named) expr_names l)) z (lay_expr (roll-Expr l))) (sym (fold-roll-Expr (List ClassKey) proxies_step l))
    (subst (λ z. Covers (expr_names_step (map-Expr Expr (List Named) expr_names l)) (proxies_step (map-Expr Expr (List ClassKey) expr_proxies l)) z) (sym (fold-roll-Expr Lays expr_step l)) h))

expr_good : (e : Expr) → Good e
expr_good = ind-Expr Good (λ x y is. at_layer x (subst At is (layer y)))

-- ---- statements and blocks

-- with any number of locals visible before it
record CoversAll (ns : List Named) (ps : List ClassKey) (lays : Bodies) : Type 0 where
  by : (d : ℕ) → Covers ns ps (lays d)

abbrev GoodStmt : Stmt → Type 0
GoodStmt s = CoversAll (stmt_names s) (stmt_proxies s) (lay_stmt s).lays

abbrev GoodBlock : Block → Type 0
GoodBlock b = CoversAll (block_names b) (proxies_in b) (lay_block b)

abbrev KeptStmt : Type 0
KeptStmt = (s : Stmt) × GoodStmt s

abbrev KeptBlock : Type 0
KeptBlock = (b : Block) × GoodBlock b

abbrev stmt_given : Stmt-F Stmt Block → List Named
stmt_given l = stmt_names_step (map-Stmt Stmt Block (List Named) (List Named) stmt_names block_names l)

abbrev stmt_proxied : Stmt-F Stmt Block → List ClassKey
stmt_proxied l = stmt_proxies_step (map-Stmt Stmt Block (List ClassKey) (List ClassKey) stmt_proxies proxies_in l)

abbrev block_given : Block-F Stmt Block → List Named
block_given l = block_names_step (map-Block Stmt Block (List Named) (List Named) stmt_names block_names l)

abbrev block_proxied : Block-F Stmt Block → List ClassKey
block_proxied l = block_proxies_step (map-Block Stmt Block (List ClassKey) (List ClassKey) stmt_proxies proxies_in l)

abbrev AtStmt : Stmt-F Stmt Block → Type 0
AtStmt l = CoversAll (stmt_given l) (stmt_proxied l) (stmt_step (map-Stmt Stmt Block Laid Bodies lay_stmt lay_block l)).lays

abbrev AtBlock : Block-F Stmt Block → Type 0
AtBlock l = CoversAll (block_given l) (block_proxied l) (block_step (map-Block Stmt Block Laid Bodies lay_stmt lay_block l))

abbrev bare : Stmt-F KeptStmt KeptBlock → Stmt-F Stmt Block
bare = map-Stmt KeptStmt KeptBlock Stmt Block (λ (k : KeptStmt). k.0) (λ (k : KeptBlock). k.0)

abbrev bare_block : Block-F KeptStmt KeptBlock → Block-F Stmt Block
bare_block = map-Block KeptStmt KeptBlock Stmt Block (λ (k : KeptStmt). k.0) (λ (k : KeptBlock). k.0)

abbrev stmts : List KeptStmt → List Stmt
stmts = map (λ (k : KeptStmt). k.0)

-- the value of an expression, and then an instruction that names nothing
then_plain : (e : Expr) (i : Instruction) → named_by i ≡ [] → proxies_by i ≡ [] → Covers (expr_names e) (expr_proxies e) (lay_expr e then just i)
then_plain e i f g = covers_plain (expr_names e) (expr_proxies e) (lay_expr e) (expr_good e) i f g

set_names : (n : ℕ) (b : Bool) → named_by (if b then ops.Set n else ops.Drop) ≡ []
set_names n true = refl
set_names n false = refl

set_proxies : (n : ℕ) (b : Bool) → proxies_by (if b then ops.Set n else ops.Drop) ≡ []
set_proxies n true = refl
set_proxies n false = refl

stmt_layer : (y : Stmt-F KeptStmt KeptBlock) → AtStmt (bare y)
stmt_layer (Stmt-F.Var kind e) = record { by = λ d. covers_after (type_names kind) (expr_names e) (expr_proxies e) (lay_expr e then just (ops.Set d)) (then_plain e (ops.Set d) refl refl) }
stmt_layer (Stmt-F.SetLocal n e) = record { by = λ d. then_plain e (set_local n d) (set_names n (nat_lt n d)) (set_proxies n (nat_lt n d)) }
stmt_layer (Stmt-F.SetVariable n e) = record { by = λ d. then_plain e (ops.SetVariable n) refl refl }
stmt_layer (Stmt-F.If e a b) = record {
  by = λ d.
      subst (λ z. Covers (expr_names e ++ (block_names a.0 ++ block_names b.0)) z (lay_expr e then lay_choice (lay_block a.0 d) (lay_block b.0 d))) (sym (append_assoc (expr_proxies e) (proxies_in a.0) (proxies_in b.0)))
      (covers_then (expr_names e) (block_names a.0 ++ block_names b.0) (expr_proxies e) (proxies_in a.0 ++ proxies_in b.0) (lay_expr e) (lay_choice (lay_block a.0 d) (lay_block b.0 d)) (expr_good e)
      (covers_choice (block_names a.0) (block_names b.0) (proxies_in a.0) (proxies_in b.0) (lay_block a.0 d) (lay_block b.0 d) (a.1.by d) (b.1.by d)));
}
stmt_layer (Stmt-F.While e b) = record { by = λ d. covers_loop (expr_names e) (block_names b.0) (expr_proxies e) (proxies_in b.0) (lay_expr e) (lay_block b.0 d) (expr_good e) (b.1.by d) }
stmt_layer Stmt-F.Return = record { by = λ d. covers_one ops.Return }
stmt_layer (Stmt-F.ReturnValue e) = record { by = λ d. then_plain e ops.ReturnValue refl refl }
stmt_layer (Stmt-F.Print e) = record { by = λ d. then_plain e ops.Print refl refl }
stmt_layer (Stmt-F.Free e) = record { by = λ d. covers_free (expr_names e) (expr_proxies e) (lay_expr e) (expr_good e) }
stmt_layer (Stmt-F.Call e) = record { by = λ d. then_plain e ops.Drop refl refl }

all_stmts : (ks : List KeptStmt) (d : ℕ) → Covers (joined (map stmt_names (stmts ks))) (joined (map stmt_proxies (stmts ks))) (lay_all (map lay_stmt (stmts ks)) d)
all_stmts [] d = covers_nothing
all_stmts (k ∷ ks) d =
    let d' = d + (lay_stmt k.0).adds in
    covers_then (stmt_names k.0) (joined (map stmt_names (stmts ks))) (stmt_proxies k.0) (joined (map stmt_proxies (stmts ks))) ((lay_stmt k.0).lays d) (lay_all (map lay_stmt (stmts ks)) d') (k.1.by d) (all_stmts ks d')

block_layer : (y : Block-F KeptStmt KeptBlock) → AtBlock (bare_block y)
block_layer y = record {
  by = λ d. covers_plain (joined (map stmt_names (stmts y.statements))) (joined (map stmt_proxies (stmts y.statements))) (lay_all (map lay_stmt (stmts y.statements)) d) (all_stmts y.statements d) (ops.Cut d) refl refl;
}

from_stmt : (x : Stmt-F Stmt Block) (y : Stmt-F KeptStmt KeptBlock) → bare y ≡ x → GoodStmt (roll-Stmt x)
from_stmt x y is =
    subst (λ z. CoversAll z (stmt_proxies (roll-Stmt x)) (lay_stmt (roll-Stmt x)).lays) (sym (fold-roll-Stmt (List Named) (List Named) stmt_names_step block_names_step x))
    (subst (λ z. CoversAll (stmt_given x) z (lay_stmt (roll-Stmt x)).lays) (sym (fold-roll-Stmt (List ClassKey) (List ClassKey) stmt_proxies_step block_proxies_step x))
    (subst (λ (z : Laid). CoversAll (stmt_given x) (stmt_proxied x) z.lays) (sym (fold-roll-Stmt Laid Bodies stmt_step block_step x))
    (subst AtStmt is (stmt_layer y))))

from_block : (x : Block-F Stmt Block) (y : Block-F KeptStmt KeptBlock) → bare_block y ≡ x → GoodBlock (roll-Block x)
from_block x y is =
    subst (λ z. CoversAll z (proxies_in (roll-Block x)) (lay_block (roll-Block x))) (sym (fold-roll-Block (List Named) (List Named) stmt_names_step block_names_step x))
    (subst (λ z. CoversAll (block_given x) z (lay_block (roll-Block x))) (sym (fold-roll-Block (List ClassKey) (List ClassKey) stmt_proxies_step block_proxies_step x))
    (subst (λ (z : Bodies). CoversAll (block_given x) (block_proxied x) z) (sym (fold-roll-Block Laid Bodies stmt_step block_step x))
    (subst AtBlock is (block_layer y))))

block_good : (b : Block) → GoodBlock b
block_good = ind-Block GoodStmt GoodBlock from_stmt from_block

pub body_covered : (b : Block) (params : ℕ) (i : Instruction) → Mem i (lay_body b params) → IsOf (block_names b) (proxies_in b) i
body_covered b params i m = (covers_plain (block_names b) (proxies_in b) (lay_block b params) ((block_good b).by params) ops.Return refl refl).by 0 i m
