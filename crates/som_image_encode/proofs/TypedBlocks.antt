-- What is well typed and within the limits is ready to be numbered.
use Rattle.std.proofs.Common.{◌≡◌, ℕ, zero, suc, ◌<◌, ◌&&◌, not, ◌==◌, Bool, true, false, if◌then◌else◌, true≢false, nat_lt, nat_le, List, [], ◌∷◌, ◌++◌, length, map, slice_get, Option, Some, None, Ok, Err, refl, sym, ap, subst, ◌∙◌, arith}
use Rattle.std.specs.List.{AllByRecursion}
use Rattle.std.proofs.lemmas.Bool.{eqb-true, ltb-true}
use Rattle.std.proofs.lemmas.List.Elements.{All-from_recursion, recursion_from_All}
use Rattle.som_model.specs.declared.key.ClassKey.{ClassKey}
use Rattle.som_model.specs.declared.key.MethodRef.{MethodRef}
use Rattle.som_model.specs.declared.key.ValueType.{ValueType}
use Rattle.som_model.specs.declared.key.ValueType.TheVariants as types
use Rattle.som_model.specs.declared.syntax.Expr.{Expr, out-Expr, roll-out-Expr, map-Expr, fold-roll-Expr}
use Rattle.som_model.specs.declared.syntax.Expr.TheOpen.{Expr-F}
use Rattle.som_model.specs.declared.syntax.Stmt.{Stmt, out-Stmt, roll-out-Stmt, map-Stmt, fold-roll-Stmt}
use Rattle.som_model.specs.declared.syntax.Stmt.TheOpen.{Stmt-F}
use Rattle.som_model.specs.declared.syntax.Block.{Block}
use Rattle.som_model.specs.declared.class.Sig.{Sig}
use Rattle.som_model.specs.declared.limits.TheConstants.{MAX_PARAMETERS}
use Rattle.som_model.specs.Lists.{Mem}
use Rattle.som_model.specs.Keys.{same_key}
use Rattle.som_model.specs.Class.{Class}
use Rattle.som_model.specs.Steps.{◌>>=◌}
use Rattle.som_model.specs.Blocks.{is_call}
use Rattle.som_model.specs.Typing.{ClassFacts, CodePlace, ExprType, Of, PlainNil, Ruled, Typed, needs, there, is_nothing, kind_is_known, fits, all_fit, descends_to, is_boolean, value_of, value, values, gives, unary_type, binary_type, cast_type, isa_type, proxy_type, offset_call_type, named_call_type, parent_call_type, parents_call_type, host_type, is_reference, has_text, is_class, expr_step, expr_type}
use Rattle.som_model.specs.TypedBlocks.{Scope, Scoped, var_scope, local_set, variable_set, value_return, in_turn, stmt_step, block_step, stmt_scope, block_scope}
use Rattle.som_model.proofs.TypingLaws.{block_typed}
use Rattle.som_image_fields.specs.Fitting.{levels_left}
use Rattle.som_image_decode.specs.declared.directory.Directory.{Directory}
use Rattle.som_image_encode.specs.Numbering.{MethodKnown, IsKnown, IsValue}
use Rattle.som_image_decode.specs.BlockLimits.{ArgsWithin, ExprPartsWithin, ExprWithin, StmtPartsWithin, StatementsWithin, StmtWithin, BlockWithin}
use Rattle.som_image_encode.specs.ReadyBlocks.{ExprPartsReady, ExprReady, StmtPartsReady, StmtReady, BlockReady}

-- ---- what came to a value

-- a step gave a value, and the next one went on with it
pub record Went {A B : Type 0} (x : Ruled A) (next : A → Ruled B) (r : B) : Type 0 where
  pub value : A
  pub first : x ≡ Ok value
  pub further : next value ≡ Ok r

went : {A B : Type 0} (x : Ruled A) (next : A → Ruled B) (r : B) → (x >>= next) ≡ Ok r → Went x next r
went (Ok a) next r e = record { value = a; first = refl; further = e }
went (Err rule) next r e = absurd (let z = e in cc)

held : {A : Type 0} (rule : ℕ) (b : Bool) (further : Ruled A) (r : A) → needs rule b further ≡ Ok r → (b ≡ true) × (further ≡ Ok r)
held rule true further r e = (refl, e)
held rule false further r e = absurd (let z = e in cc)

found : {A : Type 0} (rule : ℕ) (o : Option A) (x : A) → there rule o ≡ Ok x → o ≡ Some x
found rule (Some y) x e = let z = e in cc
found rule None x e = absurd (let z = e in cc)

-- a part that has a value
pub record HasValue (part : Typed) (t : ExprType) : Type 0 where
  pub typed : part ≡ Ok t
  pub some : is_nothing t ≡ false

same_value : (s t : ExprType) → needs 20 true (Ok s) ≡ Ok t → s ≡ t
same_value s t e = let z = e in cc

has_value : (part : Typed) (t : ExprType) → value part ≡ Ok t → HasValue part t
has_value part t e =
    let w = went part value_of t e in
    by w.value w.first (is_nothing w.value) refl w.further
  where
    by : (s : ExprType) → part ≡ Ok s → (b : Bool) → is_nothing s ≡ b → needs 20 (not b) (Ok s) ≡ Ok t → HasValue part t
    by s first true e k = absurd (let z = k in cc)
    by s first false e k = subst (HasValue part) (same_value s t k) (record { typed = first; some = e })

-- each of several parts has a type
each_typed : (parts : List Typed) (ts : List ExprType) → values parts ≡ Ok ts → AllByRecursion (λ part. (t : ExprType) × (part ≡ Ok t)) parts
each_typed [] ts e = tt
each_typed (part ∷ parts) ts e =
    let first = went (value part) (λ t. values parts >>= λ us. Ok (t ∷ us)) ts e in
    let rest = went (values parts) (λ us. Ok (first.value ∷ us)) ts first.further in
    ((first.value, (has_value part first.value first.first).typed), each_typed parts rest.value rest.first)

-- ---- operators

-- one of two ways led here
branch : {P : Type 0} (test : Bool) (x y : Typed) (r : ExprType) → (if test then x else y) ≡ Ok r → (test ≡ true → P) → (y ≡ Ok r → P) → P
branch true x y r e here further = here refl
branch false x y r e here further = further e

unary_below : (op : ℕ) (t r : ExprType) → unary_type op t ≡ Ok r → op < 4
unary_below op t r e =
    branch (op == 0) _ _ r e (λ is. let h = eqb-true op 0 is in omega (arith, h)) (λ e.
    branch (op == 1) _ _ r e (λ is. let h = eqb-true op 1 is in omega (arith, h)) (λ e.
    branch (op == 2) _ _ r e (λ is. let h = eqb-true op 2 is in omega (arith, h)) (λ e.
    branch (op == 3) _ _ r e (λ is. let h = eqb-true op 3 is in omega (arith, h)) (λ e.
    absurd (let z = e in cc)))))

binary_below : (op : ℕ) (s t r : ExprType) → binary_type op s t ≡ Ok r → op < 14
binary_below op s t r e =
    branch (nat_lt op 5) _ _ r e (λ is. let h = ltb-true op 5 is in omega (arith, h)) (λ e.
    branch (nat_lt op 7) _ _ r e (λ is. let h = ltb-true op 7 is in omega (arith, h)) (λ e.
    branch (nat_lt op 11) _ _ r e (λ is. let h = ltb-true op 11 is in omega (arith, h)) (λ e.
    branch (nat_lt op 13) _ _ r e (λ is. let h = ltb-true op 13 is in omega (arith, h)) (λ e.
    branch (op == 13) _ _ r e (λ is. let h = eqb-true op 13 is in omega (arith, h)) (λ e.
    absurd (let z = e in cc))))))

-- ---- what a directory knows of these classes

-- a directory with each class that is known, and each method that has a signature
pub record Covers (w : ClassFacts) (d : Directory) : Type 0 where
  pub class : (k : ClassKey) → w.is_known k ≡ true → Mem k d.keys
  pub method : (r : MethodRef) (sig : Sig) → w.signature r ≡ Some sig → MethodKnown d r

module _ (w : ClassFacts) (d : Directory) (covers : Covers w d) (at : CodePlace) where
  kind_ready : (t : ValueType) → kind_is_known w t ≡ true → IsKnown d.keys t
  kind_ready types.Void h = tt
  kind_ready types.Long h = tt
  kind_ready types.Boolean h = tt
  kind_ready types.Str h = tt
  kind_ready (types.Class k) h = covers.class k h

  -- what a value fits isn't void
  value_ready : (kind : ValueType) (t : ExprType) → kind_is_known w kind ≡ true → is_nothing t ≡ false → fits w kind t ≡ true → IsValue d.keys kind
  value_ready types.Long t h some f = tt
  value_ready types.Boolean t h some f = tt
  value_ready types.Str t h some f = tt
  value_ready (types.Class k) t h some f = covers.class k h
  value_ready types.Void (Of types.Void) h some f = absurd (true≢false some)
  value_ready types.Void (Of types.Long) h some f = absurd (true≢false (sym f))
  value_ready types.Void (Of types.Boolean) h some f = absurd (true≢false (sym f))
  value_ready types.Void (Of types.Str) h some f = absurd (true≢false (sym f))
  value_ready types.Void (Of (types.Class k)) h some f = absurd (true≢false (sym f))
  value_ready types.Void PlainNil h some f = absurd (true≢false (sym f))

  known_class : {A : Type 0} (k : ClassKey) (further : Ruled A) (r : A) → needs 16 (w.is_known k) further ≡ Ok r → Mem k d.keys
  known_class k further r e = covers.class k (held 16 (w.is_known k) further r e).0

  -- a type that a call by name gives
  known_kind : (kind : ValueType) (on : ExprType) (ts : List ExprType) (r : ExprType) → named_call_type w kind on ts ≡ Ok r → IsKnown d.keys kind
  known_kind kind on ts r e = kind_ready kind (held 16 (kind_is_known w kind) (needs 17 (is_class on) (needs 18 (nat_le (length ts) MAX_PARAMETERS) (Ok (Of kind)))) r e).0

  -- what follows the signature of each call
  abbrev after_offset : MethodRef → ExprType → List ExprType → Sig → Typed
  after_offset m on ts sig = needs 17 (descends_to w m.class on) (needs 18 (all_fit w sig.params ts) (Ok (Of sig.result)))

  abbrev parent_of : Option Class → ℕ → Option ClassKey
  parent_of None n = None
  parent_of (Some c) n = slice_get c.decl.face.parents n

  abbrev after_parent_method : MethodRef → List ExprType → ClassKey → Sig → Typed
  after_parent_method m ts p sig = needs 17 (w.is_a p m.class) (needs 18 (all_fit w sig.params ts) (Ok (Of sig.result)))

  abbrev after_parent : MethodRef → List ExprType → ClassKey → Typed
  after_parent m ts p = there 16 (w.signature m) >>= after_parent_method m ts p

  abbrev is_proper_here : Option Class → ClassKey → Bool
  is_proper_here None k = false
  is_proper_here (Some c) k = not (same_key k c.key) && w.is_a c.key k

  abbrev after_parents : MethodRef → List ExprType → Sig → Typed
  after_parents m ts sig = needs 18 (all_fit w sig.params ts) (needs 20 (is_nothing (Of sig.result) && is_proper_here at.class (w.owner m).class) (Ok (Of sig.result)))

  known_method : {A : Type 0} (m : MethodRef) (next : Sig → Ruled A) (r : A) → (there 16 (w.signature m) >>= next) ≡ Ok r → MethodKnown d m
  known_method m next r e = let s = went (there 16 (w.signature m)) next r e in covers.method m s.value (found 16 (w.signature m) s.value s.first)

  -- ---- expressions, by those that can stand in them

  module _ (scope : Scope) (Within Ready : Expr → Type 0) (inner : (e : Expr) → Within e → (t : ExprType) → expr_type w at scope e ≡ Ok t → Ready e) where
    abbrev type_of : Expr → Typed
    type_of = expr_type w at scope

    operand : (e : Expr) (t : ExprType) → Within e → value (type_of e) ≡ Ok t → Ready e
    operand e t within v = inner e within t (has_value (type_of e) t v).typed

    each_ready : (es : List Expr) → AllByRecursion Within es → AllByRecursion (λ part. (t : ExprType) × (part ≡ Ok t)) (map type_of es) → AllByRecursion Ready es
    each_ready [] within typed = tt
    each_ready (e ∷ es) within typed = (inner e within.0 typed.0.0 typed.0.1, each_ready es within.1 typed.1)

    args_ready : (es : List Expr) (ts : List ExprType) → ArgsWithin Within es → values (map type_of es) ≡ Ok ts → ArgsWithin Ready es
    args_ready es ts within e = (within.0, All-from_recursion Ready es (each_ready es (recursion_from_All Within es within.1) (each_typed (map type_of es) ts e)))

    layer_ready : (layer : Expr-F Expr) (r : ExprType) → ExprPartsWithin Within layer → expr_step w at scope (map-Expr Expr Typed type_of layer) ≡ Ok r → ExprPartsReady d Ready layer
    layer_ready (Expr-F.Long z) r p e = p
    layer_ready (Expr-F.Str t) r p e = p
    layer_ready (Expr-F.Boolean b) r p e = tt
    layer_ready Expr-F.Nil r p e = tt
    layer_ready (Expr-F.Local n) r p e = p
    layer_ready Expr-F.Me r p e = tt
    layer_ready (Expr-F.Variable n) r p e = p
    layer_ready (Expr-F.Unary op a) r p e =
        let s = went (value (type_of a)) (unary_type op) r e in
        (unary_below op s.value r s.further, operand a s.value p s.first)
    layer_ready (Expr-F.Binary op a b) r p e =
        let s = went (value (type_of a)) (λ s. value (type_of b) >>= binary_type op s) r e in
        let t = went (value (type_of b)) (binary_type op s.value) r s.further in
        (binary_below op s.value t.value r t.further, operand a s.value p.0 s.first, operand b t.value p.1 t.first)
    layer_ready (Expr-F.New k) r p e = known_class k (Ok (Of (types.Class k))) r e
    layer_ready (Expr-F.Class k) r p e = known_class k (Ok (Of (types.Class (w.class_object k)))) r e
    layer_ready Expr-F.Manager r p e = tt
    layer_ready (Expr-F.Cast k a) r p e =
        let s = went (value (type_of a)) (cast_type w k) r e in
        (known_class k (gives (is_reference s.value) (types.Class k)) r s.further, operand a s.value p s.first)
    layer_ready (Expr-F.Isa k a) r p e =
        let s = went (value (type_of a)) (isa_type w k) r e in
        (known_class k (gives (is_reference s.value) types.Boolean) r s.further, operand a s.value p s.first)
    layer_ready (Expr-F.Proxy k a) r p e =
        let s = went (value (type_of a)) (proxy_type w k) r e in
        (known_class k (gives (fits w (types.Class k) s.value) (types.Class k)) r s.further, operand a s.value p s.first)
    layer_ready (Expr-F.OffsetCall m a es) r p e =
        let s = went (value (type_of a)) (λ on. values (map type_of es) >>= offset_call_type w m on) r e in
        let u = went (values (map type_of es)) (offset_call_type w m s.value) r s.further in
        (known_method m (after_offset m s.value u.value) r u.further, operand a s.value p.0 s.first, args_ready es u.value p.1 u.first)
    layer_ready (Expr-F.Lookup kind name a es) r p e =
        let s = went (value (type_of a)) (λ on. values (map type_of es) >>= named_call_type w kind on) r e in
        let u = went (values (map type_of es)) (named_call_type w kind s.value) r s.further in
        (known_kind kind s.value u.value r u.further, p.0, operand a s.value p.1 s.first, args_ready es u.value p.2 u.first)
    layer_ready (Expr-F.Dispatch kind name a es) r p e =
        let s = went (value (type_of a)) (λ on. values (map type_of es) >>= named_call_type w kind on) r e in
        let u = went (values (map type_of es)) (named_call_type w kind s.value) r s.further in
        (known_kind kind s.value u.value r u.further, p.0, operand a s.value p.1 s.first, args_ready es u.value p.2 u.first)
    layer_ready (Expr-F.ParentCall n m es) r p e =
        let u = went (values (map type_of es)) (parent_call_type w at n m) r e in
        let q = went (there 16 (parent_of at.class n)) (after_parent m u.value) r u.further in
        (p.0, known_method m (after_parent_method m u.value q.value) r q.further, args_ready es u.value p.1 u.first)
    layer_ready (Expr-F.ParentsCall m es) r p e =
        let u = went (values (map type_of es)) (parents_call_type w at m) r e in
        (known_method m (after_parents m u.value) r u.further, args_ready es u.value p u.first)
    layer_ready (Expr-F.Host code a b) r p e =
        let s = went (value (type_of a)) (λ s. value (type_of b) >>= host_type s) r e in
        let t = went (value (type_of b)) (host_type s.value) r s.further in
        (operand a s.value p.0 s.first, operand b t.value p.1 t.first)

  -- an expression, where so many levels are left
  expr_ready : (left : ℕ) (scope : Scope) (e : Expr) → ExprWithin left e → (t : ExprType) → expr_type w at scope e ≡ Ok t → ExprReady left d e
  unfolding ExprWithin ExprReady
  expr_ready zero scope e within t typed = absurd within
  expr_ready (suc left) scope e within t typed =
      layer_ready scope (ExprWithin left) (ExprReady left d) (expr_ready left scope) (out-Expr e) t within
      (sym (ap (expr_type w at scope) (sym (roll-out-Expr e)) ∙ fold-roll-Expr Typed (expr_step w at scope) (out-Expr e)) ∙ typed)

  -- ---- statements, by what can stand in them

  module _ (Within Ready : Expr → Type 0) (inner : (scope : Scope) (e : Expr) → Within e → (t : ExprType) → expr_type w at scope e ≡ Ok t → Ready e)
      (BlockIn BlockOut : Block → Type 0) (block : (scope r : Scope) (b : Block) → BlockIn b → block_scope w at b scope ≡ Ok r → BlockOut b) where
    part_ready : (scope : Scope) (e : Expr) (t : ExprType) → Within e → value (expr_type w at scope e) ≡ Ok t → Ready e
    part_ready scope e t within v = inner scope e within t (has_value (expr_type w at scope e) t v).typed

    statement_ready : (layer : Stmt-F Stmt Block) (scope r : Scope) → StmtPartsWithin Within BlockIn layer → stmt_step w at (map-Stmt Stmt Block Scoped Scoped (stmt_scope w at) (block_scope w at) layer) scope ≡ Ok r → StmtPartsReady d Ready BlockOut layer
    statement_ready (Stmt-F.Var kind e) scope r p h =
        let s = went (value (expr_type w at scope e)) (var_scope w scope kind) r h in
        let v = has_value (expr_type w at scope e) s.value s.first in
        let k = held 16 (kind_is_known w kind) (needs 17 (fits w kind s.value) (Ok (scope ++ kind ∷ []))) r s.further in
        let f = held 17 (fits w kind s.value) (Ok (scope ++ kind ∷ [])) r k.1 in
        (value_ready kind s.value k.0 v.some f.0, inner scope e p s.value v.typed)
    statement_ready (Stmt-F.SetLocal n e) scope r p h =
        let s = went (value (expr_type w at scope e)) (local_set w scope n) r h in
        (p.0, part_ready scope e s.value p.1 s.first)
    statement_ready (Stmt-F.SetVariable n e) scope r p h =
        let s = went (value (expr_type w at scope e)) (variable_set w at scope n) r h in
        (p.0, part_ready scope e s.value p.1 s.first)
    statement_ready (Stmt-F.If e a b) scope r p h =
        let s = went (value (expr_type w at scope e)) (λ t. block_scope w at a scope >>= λ _. block_scope w at b scope >>= λ _. needs 17 (is_boolean t) (Ok scope)) r h in
        let x = went (block_scope w at a scope) (λ _. block_scope w at b scope >>= λ _. needs 17 (is_boolean s.value) (Ok scope)) r s.further in
        let y = went (block_scope w at b scope) (λ _. needs 17 (is_boolean s.value) (Ok scope)) r x.further in
        (part_ready scope e s.value p.0 s.first, block scope x.value a p.1 x.first, block scope y.value b p.2 y.first)
    statement_ready (Stmt-F.While e b) scope r p h =
        let s = went (value (expr_type w at scope e)) (λ t. block_scope w at b scope >>= λ _. needs 17 (is_boolean t) (Ok scope)) r h in
        let y = went (block_scope w at b scope) (λ _. needs 17 (is_boolean s.value) (Ok scope)) r s.further in
        (part_ready scope e s.value p.0 s.first, block scope y.value b p.1 y.first)
    statement_ready Stmt-F.Return scope r p h = tt
    statement_ready (Stmt-F.ReturnValue e) scope r p h =
        let s = went (value (expr_type w at scope e)) (value_return w at scope) r h in
        part_ready scope e s.value p s.first
    statement_ready (Stmt-F.Print e) scope r p h =
        let s = went (value (expr_type w at scope e)) (λ t. needs 17 (has_text t) (Ok scope)) r h in
        part_ready scope e s.value p s.first
    statement_ready (Stmt-F.Free e) scope r p h =
        let s = went (value (expr_type w at scope e)) (λ t. needs 17 (is_class t) (Ok scope)) r h in
        part_ready scope e s.value p s.first
    statement_ready (Stmt-F.Call e) scope r p h =
        let s = went (expr_type w at scope e) (λ t. needs 20 (is_call e) (Ok scope)) r h in
        (inner scope e p s.value s.first, (held 20 (is_call e) (Ok scope) r s.further).0)

  -- a block, by the statements that can stand in it
  module _ (Within Ready : Stmt → Type 0) (one : (scope r : Scope) (s : Stmt) → Within s → stmt_scope w at s scope ≡ Ok r → Ready s) where
    in_order : (ss : List Stmt) (scope r : Scope) → AllByRecursion Within ss → in_turn (map (stmt_scope w at) ss) scope ≡ Ok r → AllByRecursion Ready ss
    in_order [] scope r within h = tt
    in_order (s ∷ ss) scope r within h =
        let f = went (stmt_scope w at s scope) (in_turn (map (stmt_scope w at) ss)) r h in
        (one scope f.value s within.0 f.first, in_order ss f.value r within.1 f.further)

    statements_ready : (scope r : Scope) (b : Block) → StatementsWithin Within b → block_scope w at b scope ≡ Ok r → StatementsWithin Ready b
    statements_ready scope r b within h =
        (within.0, All-from_recursion Ready b.statements (in_order b.statements scope r (recursion_from_All Within b.statements within.1) (sym (ap (λ (f : Scoped). f scope) (block_typed w at b.statements)) ∙ h)))

  -- a statement, where so many levels are left
  stmt_ready : (left : ℕ) (scope r : Scope) (s : Stmt) → StmtWithin left s → stmt_scope w at s scope ≡ Ok r → StmtReady left d s
  unfolding StmtWithin StmtReady
  stmt_ready zero scope r s within h = absurd within
  stmt_ready (suc left) scope r s within h =
      statement_ready (ExprWithin left) (ExprReady left d) (expr_ready left)
      (StatementsWithin (StmtWithin left)) (StatementsWithin (StmtReady left d)) (statements_ready (StmtWithin left) (StmtReady left d) (stmt_ready left))
      (out-Stmt s) scope r within
      (sym (ap (λ (f : Scoped). f scope) (ap (stmt_scope w at) (sym (roll-out-Stmt s)) ∙ fold-roll-Stmt Scoped Scoped (stmt_step w at) block_step (out-Stmt s))) ∙ h)

  -- a block that is well typed where it stands, and within the limits
  pub typed_is_ready : (scope r : Scope) (b : Block) → BlockWithin b → block_scope w at b scope ≡ Ok r → BlockReady d b
  typed_is_ready scope r b within typed = statements_ready (StmtWithin (levels_left 1)) (StmtReady (levels_left 1) d) (stmt_ready (levels_left 1)) scope r b within typed
