-- A change of modules that leaves each name in its module leaves keys, classes and blocks as they are.
use Rattle.std.proofs.Common.{◌≡◌, ℕ, List, [], ◌∷◌, map, Option, Some, None, refl, ap, ◌∙◌, subst}
use Rattle.std.specs.Option.{option_map}
use Rattle.som_model.specs.declared.key.Module.{Module}
use Rattle.som_model.specs.declared.key.ClassKey.{ClassKey, roll-ClassKey, ind-ClassKey, fold-roll-ClassKey, map-ClassKey}
use Rattle.som_model.specs.declared.key.ClassKey.TheOpen.{ClassKey-F}
use Rattle.som_model.specs.declared.key.ValueType.{ValueType}
use Rattle.som_model.specs.declared.key.ValueType.TheVariants as types
use Rattle.som_model.specs.declared.key.MethodRef.{MethodRef}
use Rattle.som_model.specs.declared.syntax.Expr.{Expr, roll-Expr, map-Expr, ind-Expr, fold-roll-Expr}
use Rattle.som_model.specs.declared.syntax.Expr.TheOpen.{Expr-F}
use Rattle.som_model.specs.declared.syntax.Stmt.{Stmt, roll-Stmt, map-Stmt, fold-Stmt, fold-roll-Stmt}
use Rattle.som_model.specs.declared.syntax.Stmt.TheOpen.{Stmt-F, Block-F}
use Rattle.som_model.specs.declared.syntax.Block.{Block, roll-Block, map-Block, ind-Block, fold-roll-Block}
use Rattle.som_model.specs.declared.class.Sig.{Sig}
use Rattle.som_model.specs.declared.class.Entry.{Entry}
use Rattle.som_model.specs.declared.class.Entry.TheVariants as entries
use Rattle.som_model.specs.declared.class.Variable.{Variable}
use Rattle.som_model.specs.declared.class.Body.{Body}
use Rattle.som_model.specs.declared.class.Body.TheVariants as bodies
use Rattle.som_model.specs.declared.class.Override.{Override}
use Rattle.som_model.specs.declared.class.Select.{Select}
use Rattle.som_model.specs.declared.class.ClassFace.{ClassFace}
use Rattle.som_model.specs.declared.class.ClassDecl.{ClassDecl}
use Rattle.som_rekey_laws.specs.Rekeying.{ModuleChange, rekey, rekey_layer, rekey_type, rekey_method, rekey_sig, rekey_entry, rekey_face, rekey_expr, rekey_expr_layer, rekey_stmt_layer, rekey_block, rekey_variable, rekey_body, rekey_override, rekey_select, rekey_decl}

-- ---- lists and options of which each member stays

-- something that a function leaves as it is
abbrev Fixed : {A : Type 0} → (A → A) → Type 0
Fixed {A} u = (a : A) × (u a ≡ a)

abbrev all_of : {A : Type 0} (u : A → A) → List (Fixed u) → List A
all_of u ks = map (λ (k : Fixed u). k.0) ks

each_fixed : {A : Type 0} (u : A → A) (ks : List (Fixed u)) → map u (all_of u ks) ≡ all_of u ks
each_fixed u [] = refl
each_fixed u (k ∷ ks) = ap (λ z. z ∷ map u (all_of u ks)) k.1 ∙ ap (λ l. k.0 ∷ l) (each_fixed u ks)

pub all_same : {A : Type 0} (u : A → A) → ((a : A) → u a ≡ a) → (xs : List A) → map u xs ≡ xs
all_same u e [] = refl
all_same u e (x ∷ xs) = ap (λ z. z ∷ map u xs) (e x) ∙ ap (λ l. x ∷ l) (all_same u e xs)

option_same : {A : Type 0} (u : A → A) → ((a : A) → u a ≡ a) → (o : Option A) → option_map u o ≡ o
option_same u e None = refl
option_same u e (Some x) = ap (λ z. Some z) (e x)

module _ (f : ModuleChange) (stays : (m : Module) (name : List ℕ) → f m name ≡ m) where
  -- ---- keys

  abbrev IsSameKey : ClassKey → Type 0
  IsSameKey k = rekey f k ≡ k

  abbrev plain : ClassKey-F (Fixed (rekey f)) → ClassKey-F ClassKey
  plain = map-ClassKey (Fixed (rekey f)) ClassKey (λ (k : Fixed (rekey f)). k.0)

  key_layer : (y : ClassKey-F (Fixed (rekey f))) → rekey_layer f (map-ClassKey ClassKey ClassKey (rekey f) (plain y)) ≡ plain y
  key_layer (ClassKey-F.Named m name) = ap (λ z. ClassKey-F.Named z name) (stays m name)
  key_layer (ClassKey-F.Derived ks) = ap (λ l. ClassKey-F.Derived l) (each_fixed (rekey f) ks)
  key_layer (ClassKey-F.Proxy k) = ap (λ z. ClassKey-F.Proxy z) k.1

  key_rolled : (y : ClassKey-F (Fixed (rekey f))) → IsSameKey (roll-ClassKey (plain y))
  key_rolled y = fold-roll-ClassKey ClassKey (λ x. roll-ClassKey (rekey_layer f x)) (plain y) ∙ ap roll-ClassKey (key_layer y)

  pub key_same : (k : ClassKey) → rekey f k ≡ k
  key_same = ind-ClassKey IsSameKey (λ x y is. subst (λ z. IsSameKey (roll-ClassKey z)) is (key_rolled y))

  type_same : (t : ValueType) → rekey_type f t ≡ t
  type_same types.Void = refl
  type_same types.Long = refl
  type_same types.Boolean = refl
  type_same types.Str = refl
  type_same (types.Class k) = ap types.Class (key_same k)

  method_same : (r : MethodRef) → rekey_method f r ≡ r
  method_same r = ap (λ k. record { class = k; name = r.name }) (key_same r.class)

  -- ---- expressions

  abbrev R : Expr → Expr
  R = rekey_expr f

  abbrev IsSameExpr : Expr → Type 0
  IsSameExpr e = R e ≡ e

  abbrev bare : Expr-F (Fixed R) → Expr-F Expr
  bare = map-Expr (Fixed R) Expr (λ (k : Fixed R). k.0)

  abbrev new_args : List (Fixed R) → List Expr
  new_args es = map R (all_of R es)

  expr_layer : (y : Expr-F (Fixed R)) → rekey_expr_layer f (map-Expr Expr Expr R (bare y)) ≡ bare y
  expr_layer (Expr-F.Long z) = refl
  expr_layer (Expr-F.Str z) = refl
  expr_layer (Expr-F.Boolean b) = refl
  expr_layer Expr-F.Nil = refl
  expr_layer (Expr-F.Local n) = refl
  expr_layer Expr-F.Me = refl
  expr_layer (Expr-F.Variable n) = refl
  expr_layer (Expr-F.Unary op e) = ap (λ z. Expr-F.Unary op z) e.1
  expr_layer (Expr-F.Binary op a b) = ap (λ z. Expr-F.Binary op z (R b.0)) a.1 ∙ ap (λ z. Expr-F.Binary op a.0 z) b.1
  expr_layer (Expr-F.New k) = ap (λ z. Expr-F.New z) (key_same k)
  expr_layer (Expr-F.Class k) = ap (λ z. Expr-F.Class z) (key_same k)
  expr_layer Expr-F.Manager = refl
  expr_layer (Expr-F.Cast k e) = ap (λ z. Expr-F.Cast z (R e.0)) (key_same k) ∙ ap (λ z. Expr-F.Cast k z) e.1
  expr_layer (Expr-F.Isa k e) = ap (λ z. Expr-F.Isa z (R e.0)) (key_same k) ∙ ap (λ z. Expr-F.Isa k z) e.1
  expr_layer (Expr-F.Proxy k e) = ap (λ z. Expr-F.Proxy z (R e.0)) (key_same k) ∙ ap (λ z. Expr-F.Proxy k z) e.1
  expr_layer (Expr-F.OffsetCall r e es) =
      ap (λ z. Expr-F.OffsetCall z (R e.0) (new_args es)) (method_same r) ∙ ap (λ z. Expr-F.OffsetCall r z (new_args es)) e.1 ∙ ap (λ l. Expr-F.OffsetCall r e.0 l) (each_fixed R es)
  expr_layer (Expr-F.Lookup kind name e es) =
      ap (λ z. Expr-F.Lookup z name (R e.0) (new_args es)) (type_same kind) ∙ ap (λ z. Expr-F.Lookup kind name z (new_args es)) e.1 ∙ ap (λ l. Expr-F.Lookup kind name e.0 l) (each_fixed R es)
  expr_layer (Expr-F.Dispatch kind name e es) =
      ap (λ z. Expr-F.Dispatch z name (R e.0) (new_args es)) (type_same kind) ∙ ap (λ z. Expr-F.Dispatch kind name z (new_args es)) e.1 ∙ ap (λ l. Expr-F.Dispatch kind name e.0 l) (each_fixed R es)
  expr_layer (Expr-F.ParentCall n r es) = ap (λ z. Expr-F.ParentCall n z (new_args es)) (method_same r) ∙ ap (λ l. Expr-F.ParentCall n r l) (each_fixed R es)
  expr_layer (Expr-F.ParentsCall r es) = ap (λ z. Expr-F.ParentsCall z (new_args es)) (method_same r) ∙ ap (λ l. Expr-F.ParentsCall r l) (each_fixed R es)
  expr_layer (Expr-F.Host code a b) = ap (λ z. Expr-F.Host code z (R b.0)) a.1 ∙ ap (λ z. Expr-F.Host code a.0 z) b.1

  expr_rolled : (y : Expr-F (Fixed R)) → IsSameExpr (roll-Expr (bare y))
  expr_rolled y = fold-roll-Expr Expr (λ x. roll-Expr (rekey_expr_layer f x)) (bare y) ∙ ap roll-Expr (expr_layer y)

  expr_same : (e : Expr) → IsSameExpr e
  expr_same = ind-Expr IsSameExpr (λ x y is. subst (λ z. IsSameExpr (roll-Expr z)) is (expr_rolled y))

  -- ---- statements and blocks

  abbrev S : Stmt → Stmt
  S = fold-Stmt Stmt Block (λ x. roll-Stmt (rekey_stmt_layer f x)) (λ b. roll-Block b)

  abbrev B : Block → Block
  B = rekey_block f

  abbrev IsSameStmt : Stmt → Type 0
  IsSameStmt s = S s ≡ s

  abbrev IsSameBlock : Block → Type 0
  IsSameBlock b = B b ≡ b

  abbrev bare_stmt : Stmt-F (Fixed S) (Fixed B) → Stmt-F Stmt Block
  bare_stmt = map-Stmt (Fixed S) (Fixed B) Stmt Block (λ (k : Fixed S). k.0) (λ (k : Fixed B). k.0)

  abbrev bare_block : Block-F (Fixed S) (Fixed B) → Block-F Stmt Block
  bare_block = map-Block (Fixed S) (Fixed B) Stmt Block (λ (k : Fixed S). k.0) (λ (k : Fixed B). k.0)

  stmt_layer : (y : Stmt-F (Fixed S) (Fixed B)) → rekey_stmt_layer f (map-Stmt Stmt Block Stmt Block S B (bare_stmt y)) ≡ bare_stmt y
  stmt_layer (Stmt-F.Var kind e) = ap (λ z. Stmt-F.Var z (R e)) (type_same kind) ∙ ap (λ z. Stmt-F.Var kind z) (expr_same e)
  stmt_layer (Stmt-F.SetLocal n e) = ap (λ z. Stmt-F.SetLocal n z) (expr_same e)
  stmt_layer (Stmt-F.SetVariable n e) = ap (λ z. Stmt-F.SetVariable n z) (expr_same e)
  stmt_layer (Stmt-F.If e a b) = ap (λ z. Stmt-F.If z (B a.0) (B b.0)) (expr_same e) ∙ ap (λ z. Stmt-F.If e z (B b.0)) a.1 ∙ ap (λ z. Stmt-F.If e a.0 z) b.1
  stmt_layer (Stmt-F.While e b) = ap (λ z. Stmt-F.While z (B b.0)) (expr_same e) ∙ ap (λ z. Stmt-F.While e z) b.1
  stmt_layer Stmt-F.Return = refl
  stmt_layer (Stmt-F.ReturnValue e) = ap (λ z. Stmt-F.ReturnValue z) (expr_same e)
  stmt_layer (Stmt-F.Print e) = ap (λ z. Stmt-F.Print z) (expr_same e)
  stmt_layer (Stmt-F.Free e) = ap (λ z. Stmt-F.Free z) (expr_same e)
  stmt_layer (Stmt-F.Call e) = ap (λ z. Stmt-F.Call z) (expr_same e)

  stmt_rolled : (y : Stmt-F (Fixed S) (Fixed B)) → IsSameStmt (roll-Stmt (bare_stmt y))
  stmt_rolled y = fold-roll-Stmt Stmt Block (λ x. roll-Stmt (rekey_stmt_layer f x)) (λ b. roll-Block b) (bare_stmt y) ∙ ap roll-Stmt (stmt_layer y)

  block_layer : (y : Block-F (Fixed S) (Fixed B)) → map-Block Stmt Block Stmt Block S B (bare_block y) ≡ bare_block y
  block_layer y = ap (λ l. record { statements = l }) (each_fixed S y.statements)

  block_rolled : (y : Block-F (Fixed S) (Fixed B)) → IsSameBlock (roll-Block (bare_block y))
  block_rolled y = fold-roll-Block Stmt Block (λ x. roll-Stmt (rekey_stmt_layer f x)) (λ b. roll-Block b) (bare_block y) ∙ ap roll-Block (block_layer y)

  pub block_same : (b : Block) → rekey_block f b ≡ b
  block_same = ind-Block IsSameStmt IsSameBlock
      (λ x y is. subst (λ z. IsSameStmt (roll-Stmt z)) is (stmt_rolled y))
      (λ x y is. subst (λ z. IsSameBlock (roll-Block z)) is (block_rolled y))

  -- ---- classes

  sig_same : (s : Sig) → rekey_sig f s ≡ s
  sig_same s = ap (λ r. record { result = r; params = map (rekey_type f) s.params }) (type_same s.result) ∙ ap (λ l. record { result = s.result; params = l }) (all_same (rekey_type f) type_same s.params)

  entry_same : (e : Entry) → rekey_entry f e ≡ e
  entry_same (entries.Introduced name sig way) = ap (λ s. entries.Introduced name s way) (sig_same sig)
  entry_same (entries.Moved name to) = ap (λ k. entries.Moved name k) (key_same to)

  abbrev face_of : ClassFace → List ClassKey → Option ClassKey → List Entry → ClassFace
  face_of c ps o es = record { name = c.name; major = c.major; minor = c.minor; parents = ps; metaclass = o; entries = es }

  pub face_same : (c : ClassFace) → rekey_face f c ≡ c
  face_same c =
      ap (λ l. face_of c l (option_map (rekey f) c.metaclass) (map (rekey_entry f) c.entries)) (all_same (rekey f) key_same c.parents)
      ∙ ap (λ o. face_of c c.parents o (map (rekey_entry f) c.entries)) (option_same (rekey f) key_same c.metaclass)
      ∙ ap (λ l. face_of c c.parents c.metaclass l) (all_same (rekey_entry f) entry_same c.entries)

  variable_same : (v : Variable) → rekey_variable f v ≡ v
  variable_same v = ap (λ t. record { name = v.name; kind = t }) (type_same v.kind)

  body_same : (b : Body) → rekey_body f b ≡ b
  body_same (bodies.User b) = ap (λ z. bodies.User z) (block_same b)
  body_same (bodies.Get n) = refl
  body_same (bodies.Set n) = refl

  override_same : (o : Override) → rekey_override f o ≡ o
  override_same o = ap (λ r. record { method = r; block = rekey_block f o.block }) (method_same o.method) ∙ ap (λ b. record { method = o.method; block = b }) (block_same o.block)

  select_same : (s : Select) → rekey_select f s ≡ s
  select_same s = ap (λ r. record { method = r; parent = s.parent }) (method_same s.method)

  abbrev decl_of : ClassFace → List Variable → List Body → List Override → List Select → ClassDecl
  decl_of c vs bs os ss = record { face = c; variables = vs; bodies = bs; overrides = os; selects = ss }

  pub decl_same : (d : ClassDecl) → rekey_decl f d ≡ d
  decl_same d =
      let new_bodies = map (rekey_body f) d.bodies in
      let new_overrides = map (rekey_override f) d.overrides in
      let new_selects = map (rekey_select f) d.selects in
      ap (λ c. decl_of c (map (rekey_variable f) d.variables) new_bodies new_overrides new_selects) (face_same d.face)
      ∙ ap (λ l. decl_of d.face l new_bodies new_overrides new_selects) (all_same (rekey_variable f) variable_same d.variables)
      ∙ ap (λ l. decl_of d.face d.variables l new_overrides new_selects) (all_same (rekey_body f) body_same d.bodies)
      ∙ ap (λ l. decl_of d.face d.variables d.bodies l new_selects) (all_same (rekey_override f) override_same d.overrides)
      ∙ ap (λ l. decl_of d.face d.variables d.bodies d.overrides l) (all_same (rekey_select f) select_same d.selects)
