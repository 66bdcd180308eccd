-- Classes and blocks are within the counts under new keys where they were.
use Rattle.std.proofs.Common.{◌≡◌, ℕ, ◌≤◌, Bool, ◌&&◌, nat_lt, List, [], ◌∷◌, length, map, refl, sym, ap, ◌∙◌, subst}
use Rattle.std.specs.Prelude.{◌^◌}
use Rattle.som_model.specs.declared.limits.TheConstants.{MAX_TEXT, MAX_PARENTS, MAX_ENTRIES, MAX_PARAMETERS, MAX_VARIABLES, MAX_OVERRIDES, MAX_SELECTS}
use Rattle.som_model.specs.declared.syntax.Expr.{Expr, roll-Expr, map-Expr, ind-Expr, fold-roll-Expr}
use Rattle.som_model.specs.declared.syntax.Expr.TheOpen.{Expr-F}
use Rattle.som_model.specs.declared.syntax.Stmt.{Stmt, roll-Stmt, map-Stmt, fold-Stmt, fold-roll-Stmt}
use Rattle.som_model.specs.declared.syntax.Stmt.TheOpen.{Stmt-F, Block-F}
use Rattle.som_model.specs.declared.syntax.Block.{Block, roll-Block, map-Block, ind-Block, fold-roll-Block}
use Rattle.som_model.specs.declared.class.Sig.{Sig}
use Rattle.som_model.specs.declared.class.Way.{Way}
use Rattle.som_model.specs.declared.class.Entry.{Entry}
use Rattle.som_model.specs.declared.class.Entry.TheVariants as entries
use Rattle.som_model.specs.declared.class.Body.{Body}
use Rattle.som_model.specs.declared.class.Body.TheVariants as bodies
use Rattle.som_model.specs.declared.class.Override.{Override}
use Rattle.som_model.specs.declared.class.Variable.{Variable}
use Rattle.som_model.specs.declared.class.ClassFace.{ClassFace}
use Rattle.som_model.specs.declared.class.ClassDecl.{ClassDecl}
use Rattle.som_model.specs.Lists.{Mem, every}
use Rattle.som_model.specs.Class.{entry_name}
use Rattle.som_model.specs.Counts.{FaceCounted, ClassCounted, is_short, args_counted, expr_counted, expr_counted_step, stmt_counted_step, block_counted, block_counted_step, body_counted}
use Rattle.som_model_laws.proofs.Lists.{map_mem}
use Rattle.som_rekey_laws.specs.Rekeying.{ModuleChange, rekey_type, rekey_sig, rekey_entry, rekey_face, rekey_variable, rekey_body, rekey_override, rekey_decl, rekey_expr, rekey_expr_layer, rekey_stmt_layer, rekey_block}
use Rattle.som_rekey_laws.proofs.OwnersKept.{name_kept}
use Rattle.som_rekey_rules.proofs.RulesRekeyed.{as_long, every_map}

module _ (f : ModuleChange) where
  -- ---- expressions

  abbrev R : Expr → Expr
  R = rekey_expr f

  abbrev Same : Expr → Type 0
  Same e = expr_counted (R e) ≡ expr_counted e

  abbrev Item : Type 0
  Item = (e : Expr) × Same e

  abbrev exprs : List Item → List Expr
  exprs = map (λ (k : Item). k.0)

  abbrev bare : Expr-F Item → Expr-F Expr
  bare = map-Expr Item Expr (λ (k : Item). k.0)

  parts_same : (ks : List Item) → map expr_counted (map R (exprs ks)) ≡ map expr_counted (exprs ks)
  parts_same [] = refl
  parts_same (k ∷ ks) = ap (λ b. b ∷ map expr_counted (map R (exprs ks))) k.1 ∙ ap (λ l. expr_counted k.0 ∷ l) (parts_same ks)

  args_same : (ks : List Item) → args_counted (map expr_counted (map R (exprs ks))) ≡ args_counted (map expr_counted (exprs ks))
  args_same ks = ap args_counted (parts_same ks)

  both_same : (a b c d : Bool) → a ≡ b → c ≡ d → (a && c) ≡ (b && d)
  both_same a b c d e g = ap (λ z. z && c) e ∙ ap (λ z. b && z) g

  layer : (y : Expr-F Item) → expr_counted_step (map-Expr Expr Bool expr_counted (rekey_expr_layer f (map-Expr Expr Expr R (bare y)))) ≡ expr_counted_step (map-Expr Expr Bool expr_counted (bare y))
  layer (Expr-F.Long z) = refl
  layer (Expr-F.Str z) = refl
  layer (Expr-F.Boolean b) = refl
  layer Expr-F.Nil = refl
  layer (Expr-F.Local n) = refl
  layer Expr-F.Me = refl
  layer (Expr-F.Variable n) = refl
  layer (Expr-F.Unary op k) = k.1
  layer (Expr-F.Binary op k l) = both_same _ _ _ _ k.1 l.1
  layer (Expr-F.New k) = refl
  layer (Expr-F.Class k) = refl
  layer Expr-F.Manager = refl
  layer (Expr-F.Cast k e) = e.1
  layer (Expr-F.Isa k e) = e.1
  layer (Expr-F.Proxy k e) = e.1
  layer (Expr-F.OffsetCall r e es) = both_same _ _ _ _ e.1 (args_same es)
  layer (Expr-F.Lookup kind name e es) = ap (λ b. is_short name && b) (both_same _ _ _ _ e.1 (args_same es))
  layer (Expr-F.Dispatch kind name e es) = ap (λ b. is_short name && b) (both_same _ _ _ _ e.1 (args_same es))
  layer (Expr-F.ParentCall i r es) = args_same es
  layer (Expr-F.ParentsCall r es) = args_same es
  layer (Expr-F.Host code k l) = both_same _ _ _ _ k.1 l.1

  rolled : (y : Expr-F Item) → Same (roll-Expr (bare y))
  rolled y =
      ap expr_counted (fold-roll-Expr Expr (λ x. roll-Expr (rekey_expr_layer f x)) (bare y))
      ∙ fold-roll-Expr Bool expr_counted_step (rekey_expr_layer f (map-Expr Expr Expr R (bare y)))
      ∙ layer y ∙ sym (fold-roll-Expr Bool expr_counted_step (bare y))

  expr_same : (e : Expr) → Same e
  expr_same = ind-Expr Same (λ x y is. subst (λ z. Same (roll-Expr z)) is (rolled y))

  -- ---- statements and blocks

  abbrev RS : Stmt → Stmt
  RS = fold-Stmt Stmt Block (λ x. roll-Stmt (rekey_stmt_layer f x)) (λ b. roll-Block b)

  abbrev RB : Block → Block
  RB = rekey_block f

  abbrev C : Stmt → Bool
  C = fold-Stmt Bool Bool stmt_counted_step block_counted_step

  abbrev SameStmt : Stmt → Type 0
  SameStmt s = C (RS s) ≡ C s

  abbrev SameBlock : Block → Type 0
  SameBlock b = block_counted (RB b) ≡ block_counted b

  abbrev StmtItem : Type 0
  StmtItem = (s : Stmt) × SameStmt s

  abbrev BlockItem : Type 0
  BlockItem = (b : Block) × SameBlock b

  abbrev bare_stmt : Stmt-F StmtItem BlockItem → Stmt-F Stmt Block
  bare_stmt = map-Stmt StmtItem BlockItem Stmt Block (λ (k : StmtItem). k.0) (λ (k : BlockItem). k.0)

  abbrev bare_block : Block-F StmtItem BlockItem → Block-F Stmt Block
  bare_block = map-Block StmtItem BlockItem Stmt Block (λ (k : StmtItem). k.0) (λ (k : BlockItem). k.0)

  abbrev stmts : List StmtItem → List Stmt
  stmts = map (λ (k : StmtItem). k.0)

  stmt_layer : (y : Stmt-F StmtItem BlockItem) → stmt_counted_step (map-Stmt Stmt Block Bool Bool C block_counted (rekey_stmt_layer f (map-Stmt Stmt Block Stmt Block RS RB (bare_stmt y)))) ≡ stmt_counted_step (map-Stmt Stmt Block Bool Bool C block_counted (bare_stmt y))
  stmt_layer (Stmt-F.Var kind e) = expr_same e
  stmt_layer (Stmt-F.SetLocal n e) = expr_same e
  stmt_layer (Stmt-F.SetVariable n e) = expr_same e
  stmt_layer (Stmt-F.If e a b) = both_same _ _ _ _ (expr_same e) (both_same _ _ _ _ a.1 b.1)
  stmt_layer (Stmt-F.While e b) = both_same _ _ _ _ (expr_same e) b.1
  stmt_layer Stmt-F.Return = refl
  stmt_layer (Stmt-F.ReturnValue e) = expr_same e
  stmt_layer (Stmt-F.Print e) = expr_same e
  stmt_layer (Stmt-F.Free e) = expr_same e
  stmt_layer (Stmt-F.Call e) = expr_same e

  stmt_rolled : (y : Stmt-F StmtItem BlockItem) → SameStmt (roll-Stmt (bare_stmt y))
  stmt_rolled y =
      ap C (fold-roll-Stmt Stmt Block (λ x. roll-Stmt (rekey_stmt_layer f x)) (λ b. roll-Block b) (bare_stmt y))
      ∙ fold-roll-Stmt Bool Bool stmt_counted_step block_counted_step (rekey_stmt_layer f (map-Stmt Stmt Block Stmt Block RS RB (bare_stmt y)))
      ∙ stmt_layer y ∙ sym (fold-roll-Stmt Bool Bool stmt_counted_step block_counted_step (bare_stmt y))

  list_same : (ks : List StmtItem) → map C (map RS (stmts ks)) ≡ map C (stmts ks)
  list_same [] = refl
  list_same (k ∷ ks) = ap (λ b. b ∷ map C (map RS (stmts ks))) k.1 ∙ ap (λ l. C k.0 ∷ l) (list_same ks)

  block_rolled : (y : Block-F StmtItem BlockItem) → SameBlock (roll-Block (bare_block y))
  block_rolled y =
      ap block_counted (fold-roll-Block Stmt Block (λ x. roll-Stmt (rekey_stmt_layer f x)) (λ b. roll-Block b) (bare_block y))
      ∙ fold-roll-Block Bool Bool stmt_counted_step block_counted_step (map-Block Stmt Block Stmt Block RS RB (bare_block y))
      ∙ ap (λ l. nat_lt (length l) (2 ^ 32) && every (λ s. s) l) (list_same y.statements)
      ∙ sym (fold-roll-Block Bool Bool stmt_counted_step block_counted_step (bare_block y))

  pub block_same : (b : Block) → block_counted (rekey_block f b) ≡ block_counted b
  block_same = ind-Block SameStmt SameBlock
      (λ x y is. subst (λ z. SameStmt (roll-Stmt z)) is (stmt_rolled y))
      (λ x y is. subst (λ z. SameBlock (roll-Block z)) is (block_rolled y))

  -- ---- classes

  body_same : (b : Body) → body_counted (rekey_body f b) ≡ body_counted b
  body_same (bodies.User b) = block_same b
  body_same (bodies.Get n) = refl
  body_same (bodies.Set n) = refl

  -- the entry that was introduced
  was_introduced : (e : Entry) (name : List ℕ) (sig : Sig) (way : Way) → entries.Introduced name sig way ≡ rekey_entry f e → (s : Sig) × (e ≡ entries.Introduced name s way) × (sig ≡ rekey_sig f s)
  was_introduced (entries.Moved n to) name sig way e = absurd (let z = e in cc)
  was_introduced (entries.Introduced n s w) name sig way e =
      let a : n ≡ name = cc in
      let b : w ≡ way = cc in
      let c : sig ≡ rekey_sig f s = cc in
      (s, ap (λ z. entries.Introduced z s w) a ∙ ap (entries.Introduced name s) b, c)

  face_counted : (d : ClassFace) → FaceCounted d → FaceCounted (rekey_face f d)
  face_counted d c = record {
    name = c.name;
    some_parent = subst (λ n. 1 ≤ n) (sym (as_long _ d.parents)) c.some_parent;
    parents = subst (λ n. n ≤ MAX_PARENTS) (sym (as_long _ d.parents)) c.parents;
    order = subst (λ n. n ≤ MAX_ENTRIES) (sym (as_long _ d.entries)) c.order;
    names = λ e m. (let r = map_mem (rekey_entry f) e d.entries m in subst (λ n. length n ≤ MAX_TEXT) (sym (ap entry_name r.2 ∙ name_kept f r.0)) (c.names r.0 r.1));
    params = λ name sig way m. (let r = map_mem (rekey_entry f) (entries.Introduced name sig way) d.entries m in
        let w = was_introduced r.0 name sig way r.2 in
        subst (λ n. n ≤ MAX_PARAMETERS) (sym (ap (λ (s : Sig). length s.params) w.2 ∙ as_long (rekey_type f) w.0.params)) (c.params name w.0 way (subst (λ z. Mem z d.entries) w.1 r.1)));
  }

  pub class_counted : (d : ClassDecl) → ClassCounted d → ClassCounted (rekey_decl f d)
  class_counted d c = record {
    face = face_counted d.face c.face;
    variables = subst (λ n. n ≤ MAX_VARIABLES) (sym (as_long _ d.variables)) c.variables;
    names = every_map (λ (v : Variable). is_short v.name) (λ (v : Variable). is_short v.name) (rekey_variable f) d.variables (λ v m. refl) ∙ c.names;
    user = every_map body_counted body_counted (rekey_body f) d.bodies (λ b m. body_same b) ∙ c.user;
    overrides = subst (λ n. n ≤ MAX_OVERRIDES) (sym (as_long _ d.overrides)) c.overrides;
    blocks = every_map (λ (o : Override). block_counted o.block) (λ (o : Override). block_counted o.block) (rekey_override f) d.overrides (λ o m. block_same o.block) ∙ c.blocks;
    selects = subst (λ n. n ≤ MAX_SELECTS) (sym (as_long _ d.selects)) c.selects;
  }
