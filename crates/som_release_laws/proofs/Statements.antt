-- Statements and blocks that are well typed by some facts are so by others that refine them, in the same scopes.
use Rattle.std.proofs.Common.{◌≡◌, ℕ, Bool, not, ◌&&◌, List, [], ◌∷◌, ◌++◌, map, slice_get, Ok, refl, sym, ap, ◌∙◌, subst}
use Rattle.som_model.specs.declared.key.ClassKey.{ClassKey}
use Rattle.som_model.specs.declared.key.ValueType.TheVariants as types
use Rattle.som_model.specs.declared.syntax.Stmt.{Stmt, roll-Stmt, map-Stmt, fold-roll-Stmt}
use Rattle.som_model.specs.declared.syntax.Stmt.TheOpen.{Stmt-F, Block-F}
use Rattle.som_model.specs.declared.syntax.Block.{Block, roll-Block, map-Block, ind-Block, fold-roll-Block}
use Rattle.som_model.specs.Lists.{joined}
use Rattle.som_model.specs.Steps.{◌>>=◌}
use Rattle.som_model.specs.Blocks.{is_call}
use Rattle.som_model.specs.Named.{Named, block_names, block_names_step, expr_names, stmt_names, stmt_names_step, type_names}
use Rattle.som_model.specs.Typing.{ClassFacts, CodePlace, ExprType, Of, Ruled, Typed, needs, there, is_nothing, is_boolean, is_class, has_text, kind_is_known, fits, own_variable, value, expr_type}
use Rattle.som_model.specs.TypedBlocks.{Scope, Scoped, var_scope, local_set, variable_set, value_return, stmt_scope, block_scope, stmt_step, block_step, in_turn}
use Rattle.som_model.proofs.KeyLaws.{both}
use Rattle.som_model.proofs.StepLaws.{went, held, met}
use Rattle.som_release_laws.specs.Refining.{Refines, AreKnown}
use Rattle.som_release_laws.proofs.Lists.{both_true}
use Rattle.som_release_laws.proofs.TypesBelow.{Below, none_named, both_named, kind_named, alike, fits_below, kind_below}
use Rattle.som_release_laws.proofs.Expressions.{expr_carried, part_carried}

module _ (w v : ClassFacts) (r : Refines w v) (at : CodePlace) where
  abbrev S : Stmt → Scoped
  S = stmt_scope w at

  abbrev B : Block → Scoped
  B = block_scope w at

  abbrev SV : Stmt → Scoped
  SV = stmt_scope v at

  abbrev BV : Block → Scoped
  BV = block_scope v at

  abbrev Carries : Stmt → Type 0
  Carries s = (scope after : Scope) → S s scope ≡ Ok after → (SV s scope ≡ Ok after) × AreKnown w (stmt_names s)

  abbrev CarriesBlock : Block → Type 0
  CarriesBlock b = (scope after : Scope) → B b scope ≡ Ok after → (BV b scope ≡ Ok after) × AreKnown w (block_names b)

  abbrev Kept : Type 0
  Kept = (s : Stmt) × Carries s

  abbrev KeptBlock : Type 0
  KeptBlock = (b : Block) × CarriesBlock b

  abbrev bare : Stmt-F Kept KeptBlock → Stmt-F Stmt Block
  bare = map-Stmt Kept KeptBlock Stmt Block (λ (k : Kept). k.0) (λ (k : KeptBlock). k.0)

  abbrev bare_block : Block-F Kept KeptBlock → Block-F Stmt Block
  bare_block = map-Block Kept KeptBlock Stmt Block (λ (k : Kept). k.0) (λ (k : KeptBlock). k.0)

  -- by the outermost part
  carried : (l : Stmt-F Stmt Block) (scope after : Scope) → stmt_step v at (map-Stmt Stmt Block Scoped Scoped SV BV l) scope ≡ Ok after
      → AreKnown w (stmt_names_step (map-Stmt Stmt Block (List Named) (List Named) stmt_names block_names l)) → (SV (roll-Stmt l) scope ≡ Ok after) × AreKnown w (stmt_names (roll-Stmt l))
  carried l scope after e n = (
    ap (λ (f : Scoped). f scope) (fold-roll-Stmt Scoped Scoped (stmt_step v at) block_step l) ∙ e,
    subst (AreKnown w) (sym (fold-roll-Stmt (List Named) (List Named) stmt_names_step block_names_step l)) n,
  )

  -- a demand on a type that looks into no class
  needs_same : (rule : ℕ) (f : ExprType → Bool) → ((a b : ClassKey) → f (Of (types.Class a)) ≡ f (Of (types.Class b))) → (s t : ExprType) (further : Ruled Scope) → Below v s t → needs rule (f s) further ≡ needs rule (f t) further
  needs_same rule f same s t further b = ap (λ z. needs rule z further) (alike v f same s t b)

  layer : (y : Stmt-F Kept KeptBlock) (scope after : Scope) → stmt_step w at (map-Stmt Stmt Block Scoped Scoped S B (bare y)) scope ≡ Ok after → (SV (roll-Stmt (bare y)) scope ≡ Ok after) × AreKnown w (stmt_names (roll-Stmt (bare y)))
  layer (Stmt-F.Var kind e) scope after h =
      let q = went (value (expr_type w at scope e)) (var_scope w scope kind) after h in
      let p = part_carried w v r at scope e q.value q.first in
      let k = held 16 (kind_is_known w kind) (needs 17 (fits w kind q.value) (Ok (scope ++ kind ∷ []))) after q.further in
      let f = held 17 (fits w kind q.value) (Ok (scope ++ kind ∷ [])) after k.1 in
      carried (Stmt-F.Var kind e) scope after
      (ap (λ z. z >>= var_scope v scope kind) p.typed
      ∙ met 16 (kind_is_known v kind) (needs 17 (fits v kind p.type) (Ok (scope ++ kind ∷ []))) (kind_below w v r kind k.0)
      ∙ met 17 (fits v kind p.type) (Ok (scope ++ kind ∷ [])) (fits_below w v r kind p.type q.value f.0 p.below) ∙ f.1)
      (both_named w (type_names kind) (expr_names e) (kind_named w kind k.0) p.named)
  layer (Stmt-F.SetLocal n e) scope after h =
      let q = went (value (expr_type w at scope e)) (local_set w scope n) after h in
      let p = part_carried w v r at scope e q.value q.first in
      let k = went (there 16 (slice_get scope n)) (λ kind. needs 17 (fits w kind q.value) (Ok scope)) after q.further in
      let f = held 17 (fits w k.value q.value) (Ok scope) after k.further in
      carried (Stmt-F.SetLocal n e) scope after
      (ap (λ z. z >>= local_set v scope n) p.typed
      ∙ ap (λ z. z >>= λ kind. needs 17 (fits v kind p.type) (Ok scope)) k.first
      ∙ met 17 (fits v k.value p.type) (Ok scope) (fits_below w v r k.value p.type q.value f.0 p.below) ∙ f.1) p.named
  layer (Stmt-F.SetVariable n e) scope after h =
      let q = went (value (expr_type w at scope e)) (variable_set w at scope n) after h in
      let p = part_carried w v r at scope e q.value q.first in
      let k = went (own_variable at n) (λ kind. needs 17 (fits w kind q.value) (Ok scope)) after q.further in
      let f = held 17 (fits w k.value q.value) (Ok scope) after k.further in
      carried (Stmt-F.SetVariable n e) scope after
      (ap (λ z. z >>= variable_set v at scope n) p.typed
      ∙ ap (λ z. z >>= λ kind. needs 17 (fits v kind p.type) (Ok scope)) k.first
      ∙ met 17 (fits v k.value p.type) (Ok scope) (fits_below w v r k.value p.type q.value f.0 p.below) ∙ f.1) p.named
  layer (Stmt-F.If e a b) scope after h =
      let q = went (value (expr_type w at scope e)) (λ t. B a.0 scope >>= λ _. B b.0 scope >>= λ _. needs 17 (is_boolean t) (Ok scope)) after h in
      let x = went (B a.0 scope) (λ _. B b.0 scope >>= λ _. needs 17 (is_boolean q.value) (Ok scope)) after q.further in
      let y = went (B b.0 scope) (λ _. needs 17 (is_boolean q.value) (Ok scope)) after x.further in
      let p = part_carried w v r at scope e q.value q.first in
      let c = a.1 scope x.value x.first in
      let d = b.1 scope y.value y.first in
      carried (Stmt-F.If e a.0 b.0) scope after
      (ap (λ z. z >>= λ t. BV a.0 scope >>= λ _. BV b.0 scope >>= λ _. needs 17 (is_boolean t) (Ok scope)) p.typed
      ∙ ap (λ z. z >>= λ _. BV b.0 scope >>= λ _. needs 17 (is_boolean p.type) (Ok scope)) c.0
      ∙ ap (λ z. z >>= λ _. needs 17 (is_boolean p.type) (Ok scope)) d.0
      ∙ needs_same 17 is_boolean (λ m n. refl) p.type q.value (Ok scope) p.below ∙ y.further)
      (both_named w (expr_names e) (block_names a.0 ++ block_names b.0) p.named (both_named w (block_names a.0) (block_names b.0) c.1 d.1))
  layer (Stmt-F.While e b) scope after h =
      let q = went (value (expr_type w at scope e)) (λ t. B b.0 scope >>= λ _. needs 17 (is_boolean t) (Ok scope)) after h in
      let x = went (B b.0 scope) (λ _. needs 17 (is_boolean q.value) (Ok scope)) after q.further in
      let p = part_carried w v r at scope e q.value q.first in
      let c = b.1 scope x.value x.first in
      carried (Stmt-F.While e b.0) scope after
      (ap (λ z. z >>= λ t. BV b.0 scope >>= λ _. needs 17 (is_boolean t) (Ok scope)) p.typed
      ∙ ap (λ z. z >>= λ _. needs 17 (is_boolean p.type) (Ok scope)) c.0
      ∙ needs_same 17 is_boolean (λ m n. refl) p.type q.value (Ok scope) p.below ∙ x.further)
      (both_named w (expr_names e) (block_names b.0) p.named c.1)
  layer Stmt-F.Return scope after h = carried Stmt-F.Return scope after h (none_named w)
  layer (Stmt-F.ReturnValue e) scope after h =
      let q = went (value (expr_type w at scope e)) (value_return w at scope) after h in
      let p = part_carried w v r at scope e q.value q.first in
      let f = held 19 (not (is_nothing (Of at.result)) && fits w at.result q.value) (Ok scope) after q.further in
      let b = both (not (is_nothing (Of at.result))) (fits w at.result q.value) f.0 in
      carried (Stmt-F.ReturnValue e) scope after
      (ap (λ z. z >>= value_return v at scope) p.typed
      ∙ met 19 (not (is_nothing (Of at.result)) && fits v at.result p.type) (Ok scope) (both_true (not (is_nothing (Of at.result))) (fits v at.result p.type) b.0 (fits_below w v r at.result p.type q.value b.1 p.below)) ∙ f.1) p.named
  layer (Stmt-F.Print e) scope after h =
      let q = went (value (expr_type w at scope e)) (λ t. needs 17 (has_text t) (Ok scope)) after h in
      let p = part_carried w v r at scope e q.value q.first in
      carried (Stmt-F.Print e) scope after (ap (λ z. z >>= λ t. needs 17 (has_text t) (Ok scope)) p.typed ∙ needs_same 17 has_text (λ m n. refl) p.type q.value (Ok scope) p.below ∙ q.further) p.named
  layer (Stmt-F.Free e) scope after h =
      let q = went (value (expr_type w at scope e)) (λ t. needs 17 (is_class t) (Ok scope)) after h in
      let p = part_carried w v r at scope e q.value q.first in
      carried (Stmt-F.Free e) scope after (ap (λ z. z >>= λ t. needs 17 (is_class t) (Ok scope)) p.typed ∙ needs_same 17 is_class (λ m n. refl) p.type q.value (Ok scope) p.below ∙ q.further) p.named
  layer (Stmt-F.Call e) scope after h =
      let q = went (expr_type w at scope e) (λ t. needs 20 (is_call e) (Ok scope)) after h in
      let p = expr_carried w v r at scope e q.value q.first in
      carried (Stmt-F.Call e) scope after (ap (λ (z : Typed). z >>= λ t. needs 20 (is_call e) (Ok scope)) p.typed ∙ q.further) p.named

  -- statements one after the other
  turn : (ks : List Kept) (scope after : Scope) → in_turn (map S (map (λ (k : Kept). k.0) ks)) scope ≡ Ok after
      → (in_turn (map SV (map (λ (k : Kept). k.0) ks)) scope ≡ Ok after) × AreKnown w (joined (map stmt_names (map (λ (k : Kept). k.0) ks)))
  turn [] scope after h = (h, none_named w)
  turn (k ∷ ks) scope after h =
      let q = went (S k.0 scope) (in_turn (map S (map (λ (k : Kept). k.0) ks))) after h in
      let c = k.1 scope q.value q.first in
      let rest = turn ks q.value after q.further in (
        ap (λ z. z >>= in_turn (map SV (map (λ (k : Kept). k.0) ks))) c.0 ∙ rest.0,
        both_named w (stmt_names k.0) (joined (map stmt_names (map (λ (k : Kept). k.0) ks))) c.1 rest.1,
      )

  block_layer : (y : Block-F Kept KeptBlock) (scope after : Scope) → block_step (map-Block Stmt Block Scoped Scoped S B (bare_block y)) scope ≡ Ok after
      → (BV (roll-Block (bare_block y)) scope ≡ Ok after) × AreKnown w (block_names (roll-Block (bare_block y)))
  block_layer y scope after h =
      let t = turn y.statements scope after h in (
        ap (λ (f : Scoped). f scope) (fold-roll-Block Scoped Scoped (stmt_step v at) block_step (bare_block y)) ∙ t.0,
        subst (AreKnown w) (sym (fold-roll-Block (List Named) (List Named) stmt_names_step block_names_step (bare_block y))) t.1,
      )

  pub block_carried : (b : Block) → CarriesBlock b
  block_carried = ind-Block Carries CarriesBlock
      (λ x y is. subst (λ z. Carries (roll-Stmt z)) is (λ scope after h. layer y scope after
      (sym (ap (λ (f : Scoped). f scope) (fold-roll-Stmt Scoped Scoped (stmt_step w at) block_step (bare y))) ∙ h)))
      (λ x y is. subst (λ z. CarriesBlock (roll-Block z)) is (λ scope after h. block_layer y scope after
      (sym (ap (λ (f : Scoped). f scope) (fold-roll-Block Scoped Scoped (stmt_step w at) block_step (bare_block y))) ∙ h)))
