-- What is found has a number, and what is ready is found.
use Rattle.std.proofs.Common.{◌≡◌, ℕ, zero, suc, inl, inr, Bool, true, false, ◌&&◌, if◌then◌else◌, true≢false, List, [], ◌∷◌, map, get_or, is_some, Some, refl, sym, ap, ◌∙◌}
use Rattle.std.specs.List.{list_all}
use Rattle.std.specs.Str.{bytes_eq}
use Rattle.std.proofs.lemmas.List.Elements.{recursion_from_All}
use Rattle.som_model.specs.declared.key.ClassKey.{ClassKey}
use Rattle.som_model.specs.declared.key.MethodRef.{MethodRef}
use Rattle.som_model.specs.declared.key.ValueType.{ValueType}
use Rattle.som_model.specs.declared.key.ValueType.TheVariants as types
use Rattle.som_model.specs.declared.syntax.Expr.{Expr, out-Expr, roll-out-Expr, map-Expr, fold-roll-Expr}
use Rattle.som_model.specs.declared.syntax.Expr.TheOpen.{Expr-F}
use Rattle.som_model.specs.declared.syntax.Stmt.{Stmt, out-Stmt, roll-out-Stmt, map-Stmt, fold-roll-Stmt}
use Rattle.som_model.specs.declared.syntax.Stmt.TheOpen.{Stmt-F}
use Rattle.som_model.specs.declared.syntax.Block.{Block, fold-roll-Block}
use Rattle.som_model.specs.Lists.{Mem, place_from}
use Rattle.som_model.specs.Keys.{same_key}
use Rattle.som_model.proofs.KeyLaws.{Exact, both, exact_bytes, exact_keys}
use Rattle.som_image_fields.specs.Fitting.{levels_left}
use Rattle.som_image_decode.specs.declared.directory.Directory.{Directory}
use Rattle.som_image_encode.specs.Numbering.{number_of, MethodKnown, IsKnown}
use Rattle.som_image_decode.specs.Tests.{all_found}
use Rattle.som_image_encode.specs.FoundNames.{has_number, has_slot, kind_found, found_step, expr_found, stmt_found_step, block_found_step, stmt_found, block_found, statements_found}
use Rattle.som_image_decode.specs.BlockLimits.{ArgsWithin, StatementsWithin}
use Rattle.som_image_encode.specs.ReadyBlocks.{ExprPartsReady, ExprReady, StmtPartsReady, StmtReady, BlockReady}
use Rattle.som_image_encode.proofs.Numbering.{first_place, as_type}
use Rattle.som_image_decode.proofs.Tests.{and_true, each_found, all_if}

-- ---- what is found

-- what has a place is a member
place_mem : {A : Type 0} (same : A → A → Bool) → Exact same → (x : A) (xs : List A) (start : ℕ) → is_some (place_from start (λ y. same y x) xs) ≡ true → Mem x xs
place_mem same exact x [] start h = absurd (true≢false (sym h))
place_mem same exact x (y ∷ ys) start h = by (same y x) refl (place_mem same exact x ys (suc start)) h
  where
    by : (b : Bool) → same y x ≡ b → (is_some (place_from (suc start) (λ z. same z x) ys) ≡ true → Mem x ys) → is_some (if b then Some start else place_from (suc start) (λ z. same z x) ys) ≡ true → Mem x (y ∷ ys)
    by true e f g = inl (sym (exact.two y x e))
    by false e f g = inr (f g)

pub number_there : (d : Directory) (k : ClassKey) → has_number d k ≡ true → Mem k d.keys
unfolding has_number
number_there d k h = place_mem same_key exact_keys k d.keys 0 h

pub slot_there : (d : Directory) (r : MethodRef) → has_slot d r ≡ true → MethodKnown d r
unfolding has_slot
slot_there d r h =
    let b = both (has_number d r.class) (is_some (place_from 0 (λ x. bytes_eq x r.name) (get_or d.slots (number_of d.keys r.class) []))) h in
    record { class = number_there d r.class b.0; name = place_mem bytes_eq exact_bytes r.name (get_or d.slots (number_of d.keys r.class) []) 0 b.1 }

pub kind_there : (d : Directory) (t : ValueType) → kind_found d t ≡ true → IsKnown d.keys t
unfolding kind_found
kind_there d types.Void h = tt
kind_there d types.Long h = tt
kind_there d types.Boolean h = tt
kind_there d types.Str h = tt
kind_there d (types.Class k) h = number_there d k h

-- the test of each, asked of the values
pub found_each : {A : Type 0} (test : A → Bool) (xs : List A) → list_all (λ (b : Bool). b) (map test xs) ≡ true → list_all test xs ≡ true
found_each = each_found

-- a block, by its statements
pub statements_there : (d : Directory) (b : Block) → block_found d b ≡ true → statements_found d b ≡ true
unfolding statements_found
statements_there d b h =
    each_found (stmt_found d) b.statements (sym (fold-roll-Block Bool Bool (stmt_found_step d) block_found_step (record { statements = b.statements })) ∙ h)

-- ---- what is ready is found

has_number_if : (d : Directory) (k : ClassKey) → Mem k d.keys → has_number d k ≡ true
unfolding has_number
has_number_if d k m = first_place same_key exact_keys k d.keys 0 m

has_slot_if : (d : Directory) (r : MethodRef) → MethodKnown d r → has_slot d r ≡ true
unfolding has_slot
has_slot_if d r known = and_true (has_number d r.class) _ (has_number_if d r.class known.class) (first_place bytes_eq exact_bytes r.name (get_or d.slots (number_of d.keys r.class) []) 0 known.name)

kind_found_if : (d : Directory) (t : ValueType) → IsKnown d.keys t → kind_found d t ≡ true
unfolding kind_found
kind_found_if d types.Void known = refl
kind_found_if d types.Long known = refl
kind_found_if d types.Boolean known = refl
kind_found_if d types.Str known = refl
kind_found_if d (types.Class k) known = has_number_if d k known

module _ (d : Directory) where
  module _ (Ready : Expr → Type 0) (inner : (e : Expr) → Ready e → expr_found d e ≡ true) where
    args_found : (es : List Expr) → ArgsWithin Ready es → all_found (map (expr_found d) es) ≡ true
    args_found es ready = all_if Ready (expr_found d) inner es (recursion_from_All Ready es ready.1)

    with_args : (b : Bool) (e : Expr) (es : List Expr) → b ≡ true → Ready e → ArgsWithin Ready es → (b && (expr_found d e && all_found (map (expr_found d) es))) ≡ true
    with_args b e es h ready args =
        and_true b (expr_found d e && all_found (map (expr_found d) es)) h (and_true (expr_found d e) (all_found (map (expr_found d) es)) (inner e ready) (args_found es args))

    layer_found : (layer : Expr-F Expr) → ExprPartsReady d Ready layer → found_step d (map-Expr Expr Bool (expr_found d) layer) ≡ true
    layer_found (Expr-F.Long z) ready = refl
    layer_found (Expr-F.Str t) ready = refl
    layer_found (Expr-F.Boolean b) ready = refl
    layer_found Expr-F.Nil ready = refl
    layer_found (Expr-F.Local n) ready = refl
    layer_found Expr-F.Me ready = refl
    layer_found (Expr-F.Variable n) ready = refl
    layer_found (Expr-F.Unary op a) ready = inner a ready.1
    layer_found (Expr-F.Binary op a b) ready = and_true (expr_found d a) (expr_found d b) (inner a ready.1) (inner b ready.2)
    layer_found (Expr-F.New k) ready = has_number_if d k ready
    layer_found (Expr-F.Class k) ready = has_number_if d k ready
    layer_found Expr-F.Manager ready = refl
    layer_found (Expr-F.Cast k a) ready = and_true (has_number d k) (expr_found d a) (has_number_if d k ready.0) (inner a ready.1)
    layer_found (Expr-F.Isa k a) ready = and_true (has_number d k) (expr_found d a) (has_number_if d k ready.0) (inner a ready.1)
    layer_found (Expr-F.Proxy k a) ready = and_true (has_number d k) (expr_found d a) (has_number_if d k ready.0) (inner a ready.1)
    layer_found (Expr-F.OffsetCall m a es) ready = with_args (has_slot d m) a es (has_slot_if d m ready.0) ready.1 ready.2
    layer_found (Expr-F.Lookup t name a es) ready = with_args (kind_found d t) a es (kind_found_if d t ready.0) ready.2 ready.3
    layer_found (Expr-F.Dispatch t name a es) ready = with_args (kind_found d t) a es (kind_found_if d t ready.0) ready.2 ready.3
    layer_found (Expr-F.ParentCall n m es) ready = and_true (has_slot d m) (all_found (map (expr_found d) es)) (has_slot_if d m ready.1) (args_found es ready.2)
    layer_found (Expr-F.ParentsCall m es) ready = and_true (has_slot d m) (all_found (map (expr_found d) es)) (has_slot_if d m ready.0) (args_found es ready.1)
    layer_found (Expr-F.Host code a b) ready = and_true (expr_found d a) (expr_found d b) (inner a ready.0) (inner b ready.1)

  ready_expr : (left : ℕ) (e : Expr) → ExprReady left d e → expr_found d e ≡ true
  unfolding ExprReady
  ready_expr zero e ready = absurd ready
  ready_expr (suc left) e ready =
      ap (expr_found d) (sym (roll-out-Expr e)) ∙ fold-roll-Expr Bool (found_step d) (out-Expr e) ∙ layer_found (ExprReady left d) (ready_expr left) (out-Expr e) ready

  module _ (Ready : Expr → Type 0) (inner : (e : Expr) → Ready e → expr_found d e ≡ true) (BlockIn : Block → Type 0) (block : (b : Block) → BlockIn b → block_found d b ≡ true) where
    statement_found : (layer : Stmt-F Stmt Block) → StmtPartsReady d Ready BlockIn layer → stmt_found_step d (map-Stmt Stmt Block Bool Bool (stmt_found d) (block_found d) layer) ≡ true
    statement_found (Stmt-F.Var t e) ready = and_true (kind_found d t) (expr_found d e) (kind_found_if d t (as_type d.keys t ready.0)) (inner e ready.1)
    statement_found (Stmt-F.SetLocal n e) ready = inner e ready.1
    statement_found (Stmt-F.SetVariable n e) ready = inner e ready.1
    statement_found (Stmt-F.If e a b) ready = and_true (expr_found d e) (block_found d a && block_found d b) (inner e ready.0) (and_true (block_found d a) (block_found d b) (block a ready.1) (block b ready.2))
    statement_found (Stmt-F.While e b) ready = and_true (expr_found d e) (block_found d b) (inner e ready.0) (block b ready.1)
    statement_found Stmt-F.Return ready = refl
    statement_found (Stmt-F.ReturnValue e) ready = inner e ready
    statement_found (Stmt-F.Print e) ready = inner e ready
    statement_found (Stmt-F.Free e) ready = inner e ready
    statement_found (Stmt-F.Call e) ready = inner e ready.0

  each_statement : (Ready : Stmt → Type 0) → ((s : Stmt) → Ready s → stmt_found d s ≡ true) → (b : Block) → StatementsWithin Ready b → block_found d b ≡ true
  each_statement Ready one b ready =
      fold-roll-Block Bool Bool (stmt_found_step d) block_found_step (record { statements = b.statements })
      ∙ all_if Ready (stmt_found d) one b.statements (recursion_from_All Ready b.statements ready.1)

  ready_stmt : (left : ℕ) (s : Stmt) → StmtReady left d s → stmt_found d s ≡ true
  unfolding StmtReady
  ready_stmt zero s ready = absurd ready
  ready_stmt (suc left) s ready =
      ap (stmt_found d) (sym (roll-out-Stmt s)) ∙ fold-roll-Stmt Bool Bool (stmt_found_step d) block_found_step (out-Stmt s)
      ∙ statement_found (ExprReady left d) (ready_expr left) (StatementsWithin (StmtReady left d)) (each_statement (StmtReady left d) (ready_stmt left)) (out-Stmt s) ready

  pub ready_is_found : (b : Block) → BlockReady d b → block_found d b ≡ true
  ready_is_found b ready = each_statement (StmtReady (levels_left 1) d) (ready_stmt (levels_left 1)) b ready
