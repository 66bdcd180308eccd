-- Statements and blocks under new keys leave the new scope, or break the same rule.
use Rattle.std.proofs.Common.{◌≡◌, inl, inr, ℕ, Bool, not, ◌&&◌, List, [], ◌∷◌, ◌++◌, map, slice_get, Ok, refl, sym, ap, ◌∙◌, subst}
use Rattle.std.proofs.lemmas.Option.{slice_get-map}
use Rattle.som_model.specs.declared.key.ValueType.{ValueType}
use Rattle.som_model.specs.declared.syntax.Expr.{Expr, roll-Expr, out-Expr, map-Expr, fold-roll-Expr, out-roll-Expr, roll-out-Expr}
use Rattle.som_model.specs.declared.syntax.Expr.TheOpen.{Expr-F}
use Rattle.som_model.specs.declared.syntax.Stmt.{Stmt, roll-Stmt, map-Stmt, fold-Stmt, fold-roll-Stmt}
use Rattle.som_model.specs.declared.syntax.Stmt.TheOpen.{Stmt-F, Block-F}
use Rattle.som_model.specs.declared.syntax.Block.{Block, roll-Block, map-Block, ind-Block, fold-roll-Block}
use Rattle.som_model.specs.Lists.{joined}
use Rattle.som_model.specs.Steps.{◌>>=◌}
use Rattle.som_model.specs.Blocks.{is_call, is_call_form}
use Rattle.som_model.specs.Named.{Named, block_names, block_names_step, expr_names, stmt_names, stmt_names_step, type_names}
use Rattle.som_model.specs.Typing.{ClassFacts, CodePlace, ExprType, Of, Ruled, Typed, needs, there, is_nothing, is_boolean, is_class, has_text, kind_is_known, fits, own_variable, value, expr_type}
use Rattle.som_model.specs.TypedBlocks.{Scope, Scoped, var_scope, local_set, variable_set, plain_return, value_return, stmt_scope, block_scope, stmt_step, block_step, in_turn}
use Rattle.som_model_laws.proofs.Lists.{get_mem}
use Rattle.som_rekey_laws.specs.Rekeying.{ModuleChange, rekey_type, rekey_expr, rekey_expr_layer, rekey_stmt_layer, rekey_block}
use Rattle.som_rekey_laws.specs.Apart.{Names, IsApart, KeepsKernel}
use Rattle.som_rekey_laws.specs.AlikeFacts.{AreFactsAlike}
use Rattle.som_rekey_laws.proofs.Lists.{map_append}
use Rattle.som_rekey_rules.specs.NamesAlone.{AreOf, IsTypeNamed, AreTypesNamed, IsPlaceNamed, AreAnswersNamed}
use Rattle.som_rekey_rules.specs.NewTypes.{rekey_place, rekey_expr_type}
use Rattle.som_rekey_rules.proofs.Steps.{Kept, ok_kept, needs_kept, there_kept, step_kept}
use Rattle.som_rekey_rules.proofs.TypesRekeyed.{left_of, right_of, IsAnswerNamed, type_alike, fits_kept, kind_kept}
use Rattle.som_rekey_rules.proofs.ExpressionsRekeyed.{value_kept, own_kept, expr_kept}

-- ---- calls stay calls

out_rekeyed : (f : ModuleChange) (e : Expr) → out-Expr (rekey_expr f e) ≡ rekey_expr_layer f (map-Expr Expr Expr (rekey_expr f) (out-Expr e))
out_rekeyed f e =
    ap (λ z. out-Expr (rekey_expr f z)) (sym (roll-out-Expr e))
    ∙ ap out-Expr (fold-roll-Expr Expr (λ x. roll-Expr (rekey_expr_layer f x)) (out-Expr e))
    ∙ out-roll-Expr (rekey_expr_layer f (map-Expr Expr Expr (rekey_expr f) (out-Expr e)))

form_kept : (f : ModuleChange) (g : Expr → Expr) (y : Expr-F Expr) → is_call_form (rekey_expr_layer f (map-Expr Expr Expr g y)) ≡ is_call_form y
form_kept f g (Expr-F.Long z) = refl
form_kept f g (Expr-F.Str z) = refl
form_kept f g (Expr-F.Boolean b) = refl
form_kept f g Expr-F.Nil = refl
form_kept f g (Expr-F.Local n) = refl
form_kept f g Expr-F.Me = refl
form_kept f g (Expr-F.Variable n) = refl
form_kept f g (Expr-F.Unary op e) = refl
form_kept f g (Expr-F.Binary op a b) = refl
form_kept f g (Expr-F.New k) = refl
form_kept f g (Expr-F.Class k) = refl
form_kept f g Expr-F.Manager = refl
form_kept f g (Expr-F.Cast k e) = refl
form_kept f g (Expr-F.Isa k e) = refl
form_kept f g (Expr-F.Proxy k e) = refl
form_kept f g (Expr-F.OffsetCall r e es) = refl
form_kept f g (Expr-F.Lookup kind name e es) = refl
form_kept f g (Expr-F.Dispatch kind name e es) = refl
form_kept f g (Expr-F.ParentCall n r es) = refl
form_kept f g (Expr-F.ParentsCall r es) = refl
form_kept f g (Expr-F.Host code a b) = refl

call_kept : (f : ModuleChange) (e : Expr) → is_call (rekey_expr f e) ≡ is_call e
call_kept f e = ap is_call_form (out_rekeyed f e) ∙ form_kept f (rekey_expr f) (out-Expr e)

module _ (f : ModuleChange) (names : Names) (kk : KeepsKernel f names) (apart : IsApart f names)
    (old new : ClassFacts) (like : AreFactsAlike f names old new) (told : AreAnswersNamed names old)
    (at : CodePlace) (stands : IsPlaceNamed names at) where
  abbrev rk : ExprType → ExprType
  rk = rekey_expr_type f

  abbrev N : ExprType → Type 0
  N = IsAnswerNamed names

  abbrev types_ : Scope → Scope
  types_ = map (rekey_type f)

  abbrev Q : Scope → Type 0
  Q = AreTypesNamed names

  -- a scope, and the scope under new keys
  abbrev KeptScope : Ruled Scope → Ruled Scope → Type 0
  KeptScope = Kept types_ Q

  abbrev there_place : CodePlace
  there_place = rekey_place f at

  abbrev T : Scope → Expr → Typed
  T = expr_type old at

  abbrev V : Scope → Expr → Typed
  V scope e = expr_type new there_place (types_ scope) (rekey_expr f e)

  same_scope : (scope : Scope) → Q scope → KeptScope (Ok scope) (Ok (types_ scope))
  same_scope scope q = ok_kept types_ Q scope (types_ scope) refl q

  -- ---- statements, by the types of their parts

  one_more : (scope : Scope) (kind : ValueType) → Q scope → IsTypeNamed names kind → Q (scope ++ kind ∷ [])
  one_more [] kind q n t (inl e) = subst (IsTypeNamed names) (sym e) n
  one_more [] kind q n t (inr m) = absurd m
  one_more (s ∷ ss) kind q n t (inl e) = q t (inl e)
  one_more (s ∷ ss) kind q n t (inr m) = one_more ss kind (λ x k. q x (inr k)) n t m

  fitting : (rule : ℕ) (kind : ValueType) (t : ExprType) (x y : Ruled Scope) → IsTypeNamed names kind → N t → KeptScope x y → KeptScope (needs rule (fits old kind t) x) (needs rule (fits new (rekey_type f kind) (rk t)) y)
  fitting rule kind t x y n l k = needs_kept types_ Q rule (fits old kind t) _ x y (fits_kept f names old new like kind t n l) k

  var_kept : (scope : Scope) (kind : ValueType) (t : ExprType) → Q scope → IsTypeNamed names kind → N t → KeptScope (var_scope old scope kind t) (var_scope new (types_ scope) (rekey_type f kind) (rk t))
  var_kept scope kind t q n l =
      needs_kept types_ Q 16 (kind_is_known old kind) (kind_is_known new (rekey_type f kind)) _ _ (kind_kept f names old new like kind n)
      (fitting 17 kind t _ _ n l (ok_kept types_ Q (scope ++ kind ∷ []) _ (sym (map_append (rekey_type f) scope (kind ∷ []))) (one_more scope kind q n)))

  local_kept : (scope : Scope) (i : ℕ) (t : ExprType) → Q scope → N t → KeptScope (local_set old scope i t) (local_set new (types_ scope) i (rk t))
  local_kept scope i t q l =
      step_kept types_ Q (rekey_type f) (IsTypeNamed names) (there 16 (slice_get scope i)) (there 16 (slice_get (types_ scope) i)) _ _
      (there_kept (rekey_type f) (IsTypeNamed names) 16 (slice_get scope i) (slice_get (types_ scope) i) (slice_get-map (rekey_type f) scope i) (λ kind e. q kind (get_mem scope i kind e)))
      (λ kind n. fitting 17 kind t _ _ n l (same_scope scope q))

  variable_kept : (scope : Scope) (i : ℕ) (t : ExprType) → Q scope → N t → KeptScope (variable_set old at scope i t) (variable_set new there_place (types_ scope) i (rk t))
  variable_kept scope i t q l =
      step_kept types_ Q (rekey_type f) (IsTypeNamed names) (own_variable at i) (own_variable there_place i) _ _
      (own_kept f names kk apart old new like told at stands i)
      (λ kind n. fitting 17 kind t _ _ n l (same_scope scope q))

  nothing_kept : is_nothing (Of (rekey_type f at.result)) ≡ is_nothing (Of at.result)
  nothing_kept = type_alike f is_nothing (λ a b. refl) (Of at.result)

  plain_kept : (scope : Scope) → Q scope → KeptScope (plain_return at scope) (plain_return there_place (types_ scope))
  plain_kept scope q = needs_kept types_ Q 19 (is_nothing (Of at.result)) _ _ _ nothing_kept (same_scope scope q)

  return_kept : (scope : Scope) (t : ExprType) → Q scope → N t → KeptScope (value_return old at scope t) (value_return new there_place (types_ scope) (rk t))
  return_kept scope t q l =
      needs_kept types_ Q 19 (not (is_nothing (Of at.result)) && fits old at.result t) _ _ _
      (ap (λ b. not b && fits new (rekey_type f at.result) (rk t)) nothing_kept
      ∙ ap (λ b. not (is_nothing (Of at.result)) && b) (fits_kept f names old new like at.result t stands.result l))
      (same_scope scope q)

  -- a demand on a type that looks into no class
  plain_demand : (g : ExprType → Bool) → (same : (t : ExprType) → g (rk t) ≡ g t) → (scope : Scope) (t : ExprType) → Q scope → KeptScope (needs 17 (g t) (Ok scope)) (needs 17 (g (rk t)) (Ok (types_ scope)))
  plain_demand g same scope t q = needs_kept types_ Q 17 (g t) (g (rk t)) _ _ (same t) (same_scope scope q)

  -- ---- statements and blocks

  abbrev R : Stmt → Stmt
  R = fold-Stmt Stmt Block (λ x. roll-Stmt (rekey_stmt_layer f x)) (λ b. roll-Block b)

  abbrev B : Block → Block
  B = rekey_block f

  abbrev S : Stmt → Scoped
  S = stmt_scope old at

  abbrev SB : Block → Scoped
  SB = block_scope old at

  abbrev SV : Stmt → Scoped
  SV = stmt_scope new there_place

  abbrev BV : Block → Scoped
  BV = block_scope new there_place

  abbrev GoodScope : Scoped → Scoped → Type 0
  GoodScope u v = (scope : Scope) → Q scope → KeptScope (u scope) (v (types_ scope))

  abbrev Good : Stmt → Type 0
  Good s = AreOf names (stmt_names s) → GoodScope (S s) (SV (R s))

  abbrev GoodBlock : Block → Type 0
  GoodBlock b = AreOf names (block_names b) → GoodScope (SB b) (BV (B b))

  abbrev Item : Type 0
  Item = (s : Stmt) × Good s

  abbrev BlockItem : Type 0
  BlockItem = (b : Block) × GoodBlock b

  abbrev bare : Stmt-F Item BlockItem → Stmt-F Stmt Block
  bare = map-Stmt Item BlockItem Stmt Block (λ (k : Item). k.0) (λ (k : BlockItem). k.0)

  abbrev bare_block : Block-F Item BlockItem → Block-F Stmt Block
  bare_block = map-Block Item BlockItem Stmt Block (λ (k : Item). k.0) (λ (k : BlockItem). k.0)

  abbrev stmts : List Item → List Stmt
  stmts = map (λ (k : Item). k.0)

  -- a part that has a value, and what is made of its type
  of_value : (scope : Scope) (e : Expr) (u v : ExprType → Ruled Scope) → Q scope → AreOf names (expr_names e) → ((t : ExprType) → N t → KeptScope (u t) (v (rk t))) → KeptScope (value (T scope e) >>= u) (value (V scope e) >>= v)
  of_value scope e u v q n next =
      step_kept types_ Q rk N (value (T scope e)) (value (V scope e)) u v
      (value_kept f names kk apart old new like told at stands (T scope e) (V scope e) (expr_kept f names kk apart old new like told at stands scope q e n)) next

  of_block : (scope : Scope) (k : BlockItem) (x y : Ruled Scope) → Q scope → AreOf names (block_names k.0) → KeptScope x y → KeptScope (SB k.0 scope >>= λ _. x) (BV (B k.0) (types_ scope) >>= λ _. y)
  of_block scope k x y q n h = step_kept types_ Q types_ Q (SB k.0 scope) (BV (B k.0) (types_ scope)) _ _ (k.1 n scope q) (λ _ p. h)

  abbrev IsLayerKept : Stmt-F Stmt Block → Type 0
  IsLayerKept l = AreOf names (stmt_names_step (map-Stmt Stmt Block (List Named) (List Named) stmt_names block_names l))
      → GoodScope (stmt_step old at (map-Stmt Stmt Block Scoped Scoped S SB l)) (stmt_step new there_place (map-Stmt Stmt Block Scoped Scoped SV BV (rekey_stmt_layer f (map-Stmt Stmt Block Stmt Block R B l))))

  layer : (y : Stmt-F Item BlockItem) → IsLayerKept (bare y)
  layer (Stmt-F.Var kind e) n scope q =
      let k = left_of names (type_names kind) (expr_names e) n in
      of_value scope e (var_scope old scope kind) (var_scope new (types_ scope) (rekey_type f kind)) q (right_of names (type_names kind) (expr_names e) n) (λ t l. var_kept scope kind t q k l)
  layer (Stmt-F.SetLocal i e) n scope q = of_value scope e (local_set old scope i) (local_set new (types_ scope) i) q n (λ t l. local_kept scope i t q l)
  layer (Stmt-F.SetVariable i e) n scope q = of_value scope e (variable_set old at scope i) (variable_set new there_place (types_ scope) i) q n (λ t l. variable_kept scope i t q l)
  layer (Stmt-F.If e a b) n scope q =
      let rest = right_of names (expr_names e) (block_names a.0 ++ block_names b.0) n in
      of_value scope e (λ t. SB a.0 scope >>= λ _. SB b.0 scope >>= λ _. needs 17 (is_boolean t) (Ok scope)) (λ t. BV (B a.0) (types_ scope) >>= λ _. BV (B b.0) (types_ scope) >>= λ _. needs 17 (is_boolean t) (Ok (types_ scope)))
      q (left_of names (expr_names e) (block_names a.0 ++ block_names b.0) n) (λ t l.
      of_block scope a _ _ q (left_of names (block_names a.0) (block_names b.0) rest)
      (of_block scope b _ _ q (right_of names (block_names a.0) (block_names b.0) rest)
      (plain_demand is_boolean (type_alike f is_boolean (λ a b. refl)) scope t q)))
  layer (Stmt-F.While e b) n scope q =
      of_value scope e (λ t. SB b.0 scope >>= λ _. needs 17 (is_boolean t) (Ok scope)) (λ t. BV (B b.0) (types_ scope) >>= λ _. needs 17 (is_boolean t) (Ok (types_ scope)))
      q (left_of names (expr_names e) (block_names b.0) n) (λ t l.
      of_block scope b _ _ q (right_of names (expr_names e) (block_names b.0) n) (plain_demand is_boolean (type_alike f is_boolean (λ a b. refl)) scope t q))
  layer Stmt-F.Return n scope q = plain_kept scope q
  layer (Stmt-F.ReturnValue e) n scope q = of_value scope e (value_return old at scope) (value_return new there_place (types_ scope)) q n (λ t l. return_kept scope t q l)
  layer (Stmt-F.Print e) n scope q =
      of_value scope e (λ t. needs 17 (has_text t) (Ok scope)) (λ t. needs 17 (has_text t) (Ok (types_ scope))) q n (λ t l. plain_demand has_text (type_alike f has_text (λ a b. refl)) scope t q)
  layer (Stmt-F.Free e) n scope q =
      of_value scope e (λ t. needs 17 (is_class t) (Ok scope)) (λ t. needs 17 (is_class t) (Ok (types_ scope))) q n (λ t l. plain_demand is_class (type_alike f is_class (λ a b. refl)) scope t q)
  layer (Stmt-F.Call e) n scope q =
      step_kept types_ Q rk N (T scope e) (V scope e) _ _ (expr_kept f names kk apart old new like told at stands scope q e n) (λ t l.
      needs_kept types_ Q 20 (is_call e) (is_call (rekey_expr f e)) _ _ (call_kept f e) (same_scope scope q))

  rolled : (l : Stmt-F Stmt Block) → IsLayerKept l → Good (roll-Stmt l)
  rolled l k n scope q =
      let there_is : SV (R (roll-Stmt l)) ≡ stmt_step new there_place (map-Stmt Stmt Block Scoped Scoped SV BV (rekey_stmt_layer f (map-Stmt Stmt Block Stmt Block R B l))) =
      ap SV (fold-roll-Stmt Stmt Block (λ x. roll-Stmt (rekey_stmt_layer f x)) (λ b. roll-Block b) l)
      ∙ fold-roll-Stmt Scoped Scoped (stmt_step new there_place) block_step (rekey_stmt_layer f (map-Stmt Stmt Block Stmt Block R B l)) in
      let h = k (subst (AreOf names) (fold-roll-Stmt (List Named) (List Named) stmt_names_step block_names_step l) n) scope q in
      subst (λ (z : Scoped). KeptScope (z scope) (SV (R (roll-Stmt l)) (types_ scope))) (sym (fold-roll-Stmt Scoped Scoped (stmt_step old at) block_step l))
      (subst (λ (z : Scoped). KeptScope (stmt_step old at (map-Stmt Stmt Block Scoped Scoped S SB l) scope) (z (types_ scope))) (sym there_is) h)

  turn : (ks : List Item) → AreOf names (joined (map stmt_names (stmts ks))) → GoodScope (in_turn (map S (stmts ks))) (in_turn (map SV (map R (stmts ks))))
  turn [] n scope q = same_scope scope q
  turn (k ∷ ks) n scope q =
      step_kept types_ Q types_ Q (S k.0 scope) (SV (R k.0) (types_ scope)) _ _ (k.1 (left_of names (stmt_names k.0) (joined (map stmt_names (stmts ks))) n) scope q)
      (λ after p. turn ks (right_of names (stmt_names k.0) (joined (map stmt_names (stmts ks))) n) after p)

  block_rolled : (y : Block-F Item BlockItem) → GoodBlock (roll-Block (bare_block y))
  block_rolled y n scope q =
      let l = bare_block y in
      let there_is : BV (B (roll-Block l)) ≡ block_step (map-Block Stmt Block Scoped Scoped SV BV (map-Block Stmt Block Stmt Block R B l)) =
      ap BV (fold-roll-Block Stmt Block (λ x. roll-Stmt (rekey_stmt_layer f x)) (λ b. roll-Block b) l)
      ∙ fold-roll-Block Scoped Scoped (stmt_step new there_place) block_step (map-Block Stmt Block Stmt Block R B l) in
      let h = turn y.statements (subst (AreOf names) (fold-roll-Block (List Named) (List Named) stmt_names_step block_names_step l) n) scope q in
      subst (λ (z : Scoped). KeptScope (z scope) (BV (B (roll-Block l)) (types_ scope))) (sym (fold-roll-Block Scoped Scoped (stmt_step old at) block_step l))
      (subst (λ (z : Scoped). KeptScope (block_step (map-Block Stmt Block Scoped Scoped S SB l) scope) (z (types_ scope))) (sym there_is) h)

  pub block_kept : (b : Block) → AreOf names (block_names b) → (scope : Scope) → AreTypesNamed names scope → KeptScope (SB b scope) (BV (B b) (types_ scope))
  block_kept = ind-Block Good GoodBlock
      (λ x y is. subst (λ z. Good (roll-Stmt z)) is (rolled (bare y) (layer y)))
      (λ x y is. subst (λ z. GoodBlock (roll-Block z)) is (block_rolled y))
