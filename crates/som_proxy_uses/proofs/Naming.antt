-- Each class of which a block names a proxy is among the classes that the block names.
use Rattle.std.proofs.Common.{◌≡◌, inl, inr, List, [], ◌∷◌, ◌++◌, map, refl, sym, subst, append_assoc}
use Rattle.som_model.specs.declared.key.ClassKey.{ClassKey}
use Rattle.som_model.specs.declared.key.ClassKey.TheVariants as keys
use Rattle.som_model.specs.declared.syntax.Expr.{Expr, ind-Expr, roll-Expr, fold-roll-Expr, map-Expr}
use Rattle.som_model.specs.declared.syntax.Expr.TheOpen.{Expr-F}
use Rattle.som_model.specs.declared.syntax.Stmt.{Stmt, roll-Stmt, fold-roll-Stmt, map-Stmt}
use Rattle.som_model.specs.declared.syntax.Stmt.TheOpen.{Stmt-F, Block-F}
use Rattle.som_model.specs.declared.syntax.Block.{Block, ind-Block, roll-Block, fold-roll-Block, map-Block}
use Rattle.som_model.specs.Lists.{Mem, joined}
use Rattle.som_model.specs.Made.{proxies_in}
use Rattle.som_model.specs.Named.{Named, AClass, AProxy, block_names, block_names_step, expr_names, expr_names_step, method_names, stmt_names, stmt_names_step, type_names}
use Rattle.som_model.specs.Parts.{parts}
use Rattle.som_model_laws.proofs.Members.{mem_left, mem_right, mem_split}
use Rattle.som_proxy_uses.specs.Forms.{block_proxies_step, expr_proxies, proxy_of_form, stmt_proxies, stmt_proxies_step}

-- each of these is a proxy of a class that is named
pub record Covers (ps : List ClassKey) (ns : List Named) : Type 0 where
  pub by : (p : ClassKey) → Mem p ps → (k : ClassKey) × (p ≡ keys.Proxy k) × Mem (AClass k) ns

no_proxies : (ns : List Named) → Covers [] ns
no_proxies ns = record { by = λ p m. absurd m }

both : (ps qs : List ClassKey) (ns ms : List Named) → Covers ps ns → Covers qs ms → Covers (ps ++ qs) (ns ++ ms)
both ps qs ns ms a b = record {
  by = λ p m. elim (mem_split p ps qs m) [
    | inl n ↦ (let r = a.by p n in (r.0, r.1, mem_left (AClass r.0) ns ms r.2))
    | inr n ↦ (let r = b.by p n in (r.0, r.1, mem_right (AClass r.0) ns ms r.2))
  ];
}

after : (ms : List Named) (ps : List ClassKey) (ns : List Named) → Covers ps ns → Covers ps (ms ++ ns)
after ms ps ns a = record { by = λ p m. (let r = a.by p m in (r.0, r.1, mem_right (AClass r.0) ms ns r.2)) }

one_more : (k : ClassKey) (ps : List ClassKey) (ns : List Named) → Covers ps ns → Covers (keys.Proxy k ∷ ps) (AClass k ∷ AProxy k ∷ ns)
one_more k ps ns a = record { by = λ p m. elim m [ inl is ↦ (k, is, inl refl) | inr n ↦ (let r = a.by p n in (r.0, r.1, inr (inr r.2))) ] }

-- ---- expressions

abbrev Good : Expr → Type 0
Good e = Covers (expr_proxies e) (expr_names e)

abbrev Kept : Type 0
Kept = (e : Expr) × Good e

abbrev exprs : List Kept → List Expr
exprs = map (λ (k : Kept). k.0)

abbrev proxies_step : Expr-F (List ClassKey) → List ClassKey
proxies_step x = proxy_of_form x ++ parts x

all_good : (ks : List Kept) → Covers (joined (map expr_proxies (exprs ks))) (joined (map expr_names (exprs ks)))
all_good [] = no_proxies []
all_good (k ∷ ks) = both (expr_proxies k.0) (joined (map expr_proxies (exprs ks))) (expr_names k.0) (joined (map expr_names (exprs ks))) k.1 (all_good ks)

with_args : (ms : List Named) (k : Kept) (ks : List Kept) → Covers (expr_proxies k.0 ++ joined (map expr_proxies (exprs ks))) (ms ++ (expr_names k.0 ++ joined (map expr_names (exprs ks))))
with_args ms k ks =
    after ms (expr_proxies k.0 ++ joined (map expr_proxies (exprs ks))) (expr_names k.0 ++ joined (map expr_names (exprs ks)))
    (both (expr_proxies k.0) (joined (map expr_proxies (exprs ks))) (expr_names k.0) (joined (map expr_names (exprs ks))) k.1 (all_good ks))

abbrev At : Expr-F Expr → Type 0
At l = Covers (proxies_step (map-Expr Expr (List ClassKey) expr_proxies l)) (expr_names_step (map-Expr Expr (List Named) expr_names l))

layer : (y : Expr-F Kept) → At (map-Expr Kept Expr (λ (k : Kept). k.0) y)
layer (Expr-F.Long z) = no_proxies []
layer (Expr-F.Str t) = no_proxies []
layer (Expr-F.Boolean b) = no_proxies []
layer Expr-F.Nil = no_proxies []
layer (Expr-F.Local n) = no_proxies []
layer Expr-F.Me = no_proxies []
layer (Expr-F.Variable n) = no_proxies []
layer (Expr-F.Unary op k) = k.1
layer (Expr-F.Binary op k l) = both (expr_proxies k.0) (expr_proxies l.0) (expr_names k.0) (expr_names l.0) k.1 l.1
layer (Expr-F.New c) = no_proxies (AClass c ∷ [])
layer (Expr-F.Class c) = no_proxies (AClass c ∷ [])
layer Expr-F.Manager = no_proxies []
layer (Expr-F.Cast c k) = after (AClass c ∷ []) (expr_proxies k.0) (expr_names k.0) k.1
layer (Expr-F.Isa c k) = after (AClass c ∷ []) (expr_proxies k.0) (expr_names k.0) k.1
layer (Expr-F.Proxy c k) = one_more c (expr_proxies k.0) (expr_names k.0) k.1
layer (Expr-F.OffsetCall r k ks) = with_args (method_names r) k ks
layer (Expr-F.Lookup kind name k ks) = with_args (type_names kind) k ks
layer (Expr-F.Dispatch kind name k ks) = with_args (type_names kind) k ks
layer (Expr-F.ParentCall n r ks) = after (method_names r) (joined (map expr_proxies (exprs ks))) (joined (map expr_names (exprs ks))) (all_good ks)
layer (Expr-F.ParentsCall r ks) = after (method_names r) (joined (map expr_proxies (exprs ks))) (joined (map expr_names (exprs ks))) (all_good ks)
layer (Expr-F.Host code k l) = both (expr_proxies k.0) (expr_proxies l.0) (expr_names k.0) (expr_names l.0) k.1 l.1

at_layer : (l : Expr-F Expr) → At l → Good (roll-Expr l)
at_layer l h =
    subst (λ z. Covers z (expr_names (roll-Expr l))) (sym (fold-roll-Expr (List ClassKey) proxies_step l))
    (subst (λ z. Covers (proxies_step (map-Expr Expr (List ClassKey) expr_proxies l)) z) (sym (fold-roll-Expr (List Named) expr_names_step l)) h)

expr_good : (e : Expr) → Good e
expr_good = ind-Expr Good (λ x y is. at_layer x (subst At is (layer y)))

-- ---- statements and blocks

abbrev GoodStmt : Stmt → Type 0
GoodStmt s = Covers (stmt_proxies s) (stmt_names s)

abbrev GoodBlock : Block → Type 0
GoodBlock b = Covers (proxies_in b) (block_names b)

abbrev KeptStmt : Type 0
KeptStmt = (s : Stmt) × GoodStmt s

abbrev KeptBlock : Type 0
KeptBlock = (b : Block) × GoodBlock b

abbrev AtStmt : Stmt-F Stmt Block → Type 0
AtStmt l = Covers (stmt_proxies_step (map-Stmt Stmt Block (List ClassKey) (List ClassKey) stmt_proxies proxies_in l)) (stmt_names_step (map-Stmt Stmt Block (List Named) (List Named) stmt_names block_names l))

abbrev AtBlock : Block-F Stmt Block → Type 0
AtBlock l = Covers (block_proxies_step (map-Block Stmt Block (List ClassKey) (List ClassKey) stmt_proxies proxies_in l)) (block_names_step (map-Block Stmt Block (List Named) (List Named) stmt_names block_names l))

abbrev bare : Stmt-F KeptStmt KeptBlock → Stmt-F Stmt Block
bare = map-Stmt KeptStmt KeptBlock Stmt Block (λ (k : KeptStmt). k.0) (λ (k : KeptBlock). k.0)

abbrev bare_block : Block-F KeptStmt KeptBlock → Block-F Stmt Block
bare_block = map-Block KeptStmt KeptBlock Stmt Block (λ (k : KeptStmt). k.0) (λ (k : KeptBlock). k.0)

stmt_layer : (y : Stmt-F KeptStmt KeptBlock) → AtStmt (bare y)
stmt_layer (Stmt-F.Var kind e) = after (type_names kind) (expr_proxies e) (expr_names e) (expr_good e)
stmt_layer (Stmt-F.SetLocal n e) = expr_good e
stmt_layer (Stmt-F.SetVariable n e) = expr_good e
stmt_layer (Stmt-F.If e a b) =
    subst (λ z. Covers (expr_proxies e ++ proxies_in a.0 ++ proxies_in b.0) z) (append_assoc (expr_names e) (block_names a.0) (block_names b.0))
    (both (expr_proxies e ++ proxies_in a.0) (proxies_in b.0) (expr_names e ++ block_names a.0) (block_names b.0)
    (both (expr_proxies e) (proxies_in a.0) (expr_names e) (block_names a.0) (expr_good e) a.1) b.1)
stmt_layer (Stmt-F.While e b) = both (expr_proxies e) (proxies_in b.0) (expr_names e) (block_names b.0) (expr_good e) b.1
stmt_layer Stmt-F.Return = no_proxies []
stmt_layer (Stmt-F.ReturnValue e) = expr_good e
stmt_layer (Stmt-F.Print e) = expr_good e
stmt_layer (Stmt-F.Free e) = expr_good e
stmt_layer (Stmt-F.Call e) = expr_good e

all_stmts : (ks : List KeptStmt) → Covers (joined (map stmt_proxies (map (λ (k : KeptStmt). k.0) ks))) (joined (map stmt_names (map (λ (k : KeptStmt). k.0) ks)))
all_stmts [] = no_proxies []
all_stmts (k ∷ ks) =
    both (stmt_proxies k.0) (joined (map stmt_proxies (map (λ (k : KeptStmt). k.0) ks))) (stmt_names k.0) (joined (map stmt_names (map (λ (k : KeptStmt). k.0) ks))) k.1 (all_stmts ks)

from_stmt : (x : Stmt-F Stmt Block) (y : Stmt-F KeptStmt KeptBlock) → bare y ≡ x → GoodStmt (roll-Stmt x)
from_stmt x y is =
    subst (λ z. Covers z (stmt_names (roll-Stmt x))) (sym (fold-roll-Stmt (List ClassKey) (List ClassKey) stmt_proxies_step block_proxies_step x))
    (subst (λ z. Covers (stmt_proxies_step (map-Stmt Stmt Block (List ClassKey) (List ClassKey) stmt_proxies proxies_in x)) z) (sym (fold-roll-Stmt (List Named) (List Named) stmt_names_step block_names_step x))
    (subst AtStmt is (stmt_layer y)))

from_block : (x : Block-F Stmt Block) (y : Block-F KeptStmt KeptBlock) → bare_block y ≡ x → GoodBlock (roll-Block x)
from_block x y is =
    subst (λ z. Covers z (block_names (roll-Block x))) (sym (fold-roll-Block (List ClassKey) (List ClassKey) stmt_proxies_step block_proxies_step x))
    (subst (λ z. Covers (block_proxies_step (map-Block Stmt Block (List ClassKey) (List ClassKey) stmt_proxies proxies_in x)) z) (sym (fold-roll-Block (List Named) (List Named) stmt_names_step block_names_step x))
    (subst AtBlock is (all_stmts y.statements)))

pub block_covered : (b : Block) → Covers (proxies_in b) (block_names b)
block_covered = ind-Block GoodStmt GoodBlock from_stmt from_block
