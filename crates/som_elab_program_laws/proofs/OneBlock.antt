-- The block that a text of one stands for is the only one that it says.
use Rattle.std.proofs.Common.{◌≡◌, ℕ, suc, inl, inr, ◌⊎◌, Bool, true, false, not, if◌then◌else◌, nat_lt, List, [], ◌∷◌, ◌++◌, length, map, slice_get, Option, Some, None, Ok, Err, refl, sym, ap, ◌∙◌, subst, true≢false}
use Rattle.std.specs.Str.{bytes_eq}
use Rattle.som_model.specs.declared.key.ValueType.{ValueType}
use Rattle.som_model.specs.declared.syntax.Block.{Block}
use Rattle.som_model.specs.declared.syntax.Expr.{Expr}
use Rattle.som_model.specs.declared.syntax.Stmt.{Stmt}
use Rattle.som_model.specs.declared.syntax.Stmt.TheVariants as stmts
use Rattle.som_model.specs.declared.limits.TheConstants.{MAX_LOCALS}
use Rattle.som_model.specs.Lists.{Mem, among}
use Rattle.som_model.specs.Steps.{◌>>=◌}
use Rattle.som_model.specs.Typing.{CodePlace, needs, is_boolean, kind_is_known, fits}
use Rattle.som_model_laws.proofs.Laws.{among_mem}
use Rattle.som_model_laws.proofs.Members.{Apart}
use Rattle.som_ast.specs.declared.words.TypeName.{TypeName}
use Rattle.som_ast.specs.declared.words.Word.{Word}
use Rattle.som_ast.specs.declared.expression.ExprText.{ExprText}
use Rattle.som_ast.specs.declared.body.StmtText.{StmtText, out-StmtText, roll-StmtText, out-roll-StmtText, map-StmtText, fold-roll-StmtText}
use Rattle.som_ast.specs.declared.body.StmtText.TheOpen.{StmtText-F, BlockText-F}
use Rattle.som_ast.specs.declared.body.StmtText.TheVariants as texts
use Rattle.som_ast.specs.declared.body.BlockText.{BlockText, roll-BlockText, map-BlockText, ind-BlockText, fold-roll-BlockText}
use Rattle.som_sema_scope.specs.ClassNames.{type_of}
use Rattle.som_verify_classes.proofs.PlainLists.{apart_differ, differ_apart}
use Rattle.som_elab_body.specs.Locals.{Named, Names, in_scope, names_of}
use Rattle.som_elab_body.specs.Expressions.{Among, Elaborated, elaborated_value, facts_among}
use Rattle.som_elab_body.specs.Statements.{BlockElab, Placed, StmtElab, Told, block_step, declared, elaborated_block, elaborated_stmt, in_turn, placed, ruled, stmt_step, with_local}
use Rattle.som_model.proofs.StepLaws.{same_answer, went}
use Rattle.som_model.proofs.StepLaws.{held as demand_held}
use Rattle.som_elab_laws.specs.Expressions.{ExprSays}
use Rattle.som_elab_laws.specs.Statements.{BlockSays, StmtSays, StmtsSay, a_block, a_call, a_choice, a_declaration, a_free, a_loop, a_print, a_return, a_return_with_value, a_variable_assignment, an_assignment, local_named, no_statement, one_statement}
use Rattle.som_elab_laws.specs.Named.{IsLocal, IsVariable}
use Rattle.som_elab_body.proofs.TypedBodies.{ruled_ok}
use Rattle.som_elab_laws.proofs.StatementLaws.{stmt_says}
use Rattle.som_elab_program_laws.specs.NothingTwice.{NothingTwice}
use Rattle.som_elab_program_laws.proofs.OneExpression.{one_expr}
use Rattle.som_elab_program_laws.proofs.OneName.{one_local, one_own_variable}

-- ---- one more name in scope

apart_push : (names : List (List ℕ)) (name : List ℕ) → Apart names → (Mem name names → ⊥) → Apart (names ++ name ∷ [])
apart_push [] name apart fresh = (λ m. m, tt)
apart_push (x ∷ names) name apart fresh = (stays, apart_push names name apart.1 (λ m. fresh (inr m)))
  where
    pushed : (xs : List (List ℕ)) → Mem x (xs ++ name ∷ []) → Mem x xs ⊎ (x ≡ name)
    pushed [] (inl e) = inr e
    pushed [] (inr m) = absurd m
    pushed (y ∷ xs) (inl e) = inl (inl e)
    pushed (y ∷ xs) (inr m) = elim (pushed xs m) [ inl n ↦ inl (inr n) | inr e ↦ inr e ]

    stays : Mem x (names ++ name ∷ []) → ⊥
    stays m = elim (pushed names m) [ inl n ↦ apart.0 n | inr e ↦ fresh (inl (sym e)) ]

names_push : (scope : Names) (n : Named) → names_of (scope ++ n ∷ []) ≡ names_of scope ++ n.name ∷ []
names_push [] n = refl
names_push (x ∷ scope) n = ap (λ z. x.name ∷ z) (names_push scope n)

not_so : (b : Bool) → not b ≡ true → b ≡ false
not_so true e = absurd (true≢false (sym e))
not_so false e = refl

more_once : (at : CodePlace) (scope : Names) (n : Named) → NothingTwice at scope → in_scope scope n.name ≡ false → NothingTwice at (scope ++ n ∷ [])
more_once at scope n once fresh = record {
  locals = apart_differ (λ (x : Named). x.name) (scope ++ n ∷ [])
      (subst Apart (sym (names_push scope n)) (apart_push (names_of scope) n.name (differ_apart (λ (x : Named). x.name) scope once.locals)
      (λ m. true≢false (sym ((among_mem n.name (names_of scope)).1 m) ∙ fresh))));
  variables = once.variables;
  parents = once.parents;
}

module _ (a : Among) (at : CodePlace) where
  -- ---- what the text of a form says

  record IsPlain (scope : Names) (e : ExprText) (form : Expr → Stmt) (y : Stmt) (after : Names) : Type 0 where
    part : Expr
    says : ExprSays a at scope e part
    is : y ≡ form part
    leaves : after ≡ scope

  record IsChoice (scope : Names) (e : ExprText) (b c : BlockText) (y : Stmt) (after : Names) : Type 0 where
    part : Expr
    held : Block
    failed : Block
    says : ExprSays a at scope e part
    held_says : BlockSays a at scope b held
    failed_says : BlockSays a at scope c failed
    is : y ≡ stmts.If part held failed
    leaves : after ≡ scope

  record IsLoop (scope : Names) (e : ExprText) (b : BlockText) (y : Stmt) (after : Names) : Type 0 where
    part : Expr
    block : Block
    says : ExprSays a at scope e part
    block_says : BlockSays a at scope b block
    is : y ≡ stmts.While part block
    leaves : after ≡ scope

  record IsDeclaration (scope : Names) (name : Word) (kind : TypeName) (e : ExprText) (y : Stmt) (after : Names) : Type 0 where
    part : Expr
    says : ExprSays a at scope e part
    is : y ≡ stmts.Var (type_of a.module_of kind) part
    leaves : after ≡ scope ++ local_named a at name kind ∷ []

  record IsSetting (scope : Names) (IsPlace : ℕ → Type 0) (e : ExprText) (form : ℕ → Expr → Stmt) (y : Stmt) (after : Names) : Type 0 where
    place : ℕ
    part : Expr
    says : ExprSays a at scope e part
    named : IsPlace place
    is : y ≡ form place part
    leaves : after ≡ scope

  abbrev FormSays : Names → StmtText-F StmtText BlockText → Stmt → Names → Type 0
  FormSays scope (StmtText-F.Var name kind e) y after = IsDeclaration scope name kind e y after
  FormSays scope (StmtText-F.Set name e) y after = IsSetting scope (IsLocal scope name.text) e stmts.SetLocal y after
  FormSays scope (StmtText-F.SetVariable name e) y after = IsSetting scope (IsVariable at name.text) e stmts.SetVariable y after
  FormSays scope (StmtText-F.If e b c) y after = IsChoice scope e b c y after
  FormSays scope (StmtText-F.While e b) y after = IsLoop scope e b y after
  FormSays scope (StmtText-F.Return None) y after = (y ≡ stmts.Return) × (after ≡ scope)
  FormSays scope (StmtText-F.Return (Some e)) y after = IsPlain scope e stmts.ReturnValue y after
  FormSays scope (StmtText-F.Print e) y after = IsPlain scope e stmts.Print y after
  FormSays scope (StmtText-F.Free e) y after = IsPlain scope e stmts.Free y after
  FormSays scope (StmtText-F.Call e) y after = IsPlain scope e stmts.Call y after

  opened : (t : StmtText) (layer : StmtText-F StmtText BlockText) → roll-StmtText layer ≡ t → out-StmtText t ≡ layer
  opened t layer rolls = ap out-StmtText (sym rolls) ∙ out-roll-StmtText layer

  stated : (scope : Names) (t : StmtText) (layer : StmtText-F StmtText BlockText) (y : Stmt) (after : Names) → roll-StmtText layer ≡ t → FormSays scope layer y after → FormSays scope (out-StmtText t) y after
  stated scope t layer y after rolls s = subst (λ (z : StmtText-F StmtText BlockText). FormSays scope z y after) (sym (opened t layer rolls)) s

  form_says : (scope : Names) (t : StmtText) (y : Stmt) (after : Names) → StmtSays a at scope t y after → FormSays scope (out-StmtText t) y after
  form_says scope t y after (a_declaration {name = name} {kind = kind} {e = e} {x = x} p) =
      stated scope (texts.Var name kind e) (StmtText-F.Var name kind e) (stmts.Var (type_of a.module_of kind) x) (scope ++ local_named a at name kind ∷ []) (texts.rolls-Var name kind e) (record { part = x; says = p; is = refl; leaves = refl })
  form_says scope t y after (an_assignment {name = name} {e = e} {x = x} {n = n} p is) =
      stated scope (texts.Set name e) (StmtText-F.Set name e) (stmts.SetLocal n x) scope (texts.rolls-Set name e) (record { place = n; part = x; says = p; named = is; is = refl; leaves = refl })
  form_says scope t y after (a_variable_assignment {name = name} {e = e} {x = x} {n = n} p is) =
      stated scope (texts.SetVariable name e) (StmtText-F.SetVariable name e) (stmts.SetVariable n x) scope (texts.rolls-SetVariable name e) (record { place = n; part = x; says = p; named = is; is = refl; leaves = refl })
  form_says scope t y after (a_choice {e = e} {b = b} {c = c} {x = x} {y = u} {z = v} p q r) =
      stated scope (texts.If e b c) (StmtText-F.If e b c) (stmts.If x u v) scope (texts.rolls-If e b c) (record { part = x; held = u; failed = v; says = p; held_says = q; failed_says = r; is = refl; leaves = refl })
  form_says scope t y after (a_loop {e = e} {b = b} {x = x} {y = u} p q) =
      stated scope (texts.While e b) (StmtText-F.While e b) (stmts.While x u) scope (texts.rolls-While e b) (record { part = x; block = u; says = p; block_says = q; is = refl; leaves = refl })
  form_says scope t y after a_return = stated scope (texts.Return None) (StmtText-F.Return None) stmts.Return scope (texts.rolls-Return None) (refl, refl)
  form_says scope t y after (a_return_with_value {e = e} {x = x} p) =
      stated scope (texts.Return (Some e)) (StmtText-F.Return (Some e)) (stmts.ReturnValue x) scope (texts.rolls-Return (Some e)) (record { part = x; says = p; is = refl; leaves = refl })
  form_says scope t y after (a_print {e = e} {x = x} p) = stated scope (texts.Print e) (StmtText-F.Print e) (stmts.Print x) scope (texts.rolls-Print e) (record { part = x; says = p; is = refl; leaves = refl })
  form_says scope t y after (a_free {e = e} {x = x} p) = stated scope (texts.Free e) (StmtText-F.Free e) (stmts.Free x) scope (texts.rolls-Free e) (record { part = x; says = p; is = refl; leaves = refl })
  form_says scope t y after (a_call {e = e} {x = x} p) = stated scope (texts.Call e) (StmtText-F.Call e) (stmts.Call x) scope (texts.rolls-Call e) (record { part = x; says = p; is = refl; leaves = refl })

  -- what the text of a layer says
  of_layer : (scope : Names) (layer : StmtText-F StmtText BlockText) (y : Stmt) (after : Names) → StmtSays a at scope (roll-StmtText layer) y after → FormSays scope layer y after
  of_layer scope layer y after p = subst (λ (z : StmtText-F StmtText BlockText). FormSays scope z y after) (out-roll-StmtText layer) (form_says scope (roll-StmtText layer) y after p)

  -- ---- one statement

  -- a statement and the names after it are these, and among these nothing stands twice
  record IsOne (y : Stmt) (after : Names) (q : Placed) : Type 0 where
    stmt : y ≡ q.stmt
    leaves : after ≡ q.scope
    once : NothingTwice at q.scope

  abbrev One : StmtText → Type 0
  One s = (scope : Names) → NothingTwice at scope → (q : Placed) → elaborated_stmt a at s scope ≡ Ok q → (y : Stmt) (after : Names) → StmtSays a at scope s y after → IsOne y after q

  abbrev OneBlock : BlockText → Type 0
  OneBlock t = (scope : Names) → NothingTwice at scope → (b : Block) → elaborated_block a at t scope ≡ Ok b → (y : Block) → BlockSays a at scope t y → y ≡ b

  abbrev Kept : Type 0
  Kept = (s : StmtText) × One s

  abbrev KeptBlock : Type 0
  KeptBlock = (t : BlockText) × OneBlock t

  abbrev texts_of : List Kept → List StmtText
  texts_of = map (λ (k : Kept). k.0)

  abbrev layer_of : StmtText-F Kept KeptBlock → StmtText-F StmtText BlockText
  layer_of y = map-StmtText Kept KeptBlock StmtText BlockText (λ (k : Kept). k.0) (λ (k : KeptBlock). k.0) y

  one_plain : (scope : Names) → NothingTwice at scope → (e : ExprText) (form : Expr → Stmt) (q : Placed) (y : Stmt) (after : Names) → IsPlain scope e form q.stmt q.scope → IsPlain scope e form y after → IsOne y after q
  one_plain scope once e form q y after p r = record {
    stmt = r.is ∙ ap form (one_expr a at scope once e r.part p.part r.says p.says) ∙ sym p.is;
    leaves = r.leaves ∙ sym p.leaves;
    once = subst (NothingTwice at) (sym p.leaves) once;
  }

  one_setting : (scope : Names) → NothingTwice at scope → (IsPlace : ℕ → Type 0) → ((n m : ℕ) → IsPlace n → IsPlace m → n ≡ m) → (e : ExprText) (form : ℕ → Expr → Stmt) (q : Placed) (y : Stmt) (after : Names)
      → IsSetting scope IsPlace e form q.stmt q.scope → IsSetting scope IsPlace e form y after → IsOne y after q
  one_setting scope once IsPlace same e form q y after p r = record {
    stmt = r.is ∙ ap (λ n. form n r.part) (same r.place p.place r.named p.named) ∙ ap (form p.place) (one_expr a at scope once e r.part p.part r.says p.says) ∙ sym p.is;
    leaves = r.leaves ∙ sym p.leaves;
    once = subst (NothingTwice at) (sym p.leaves) once;
  }

  -- a declared name is new
  fresh : (scope : Names) (name : Word) (kind : ValueType) (p : Elaborated) (q : Placed) → declared a scope name.text kind p ≡ Ok q → in_scope scope name.text ≡ false
  fresh scope name kind p q h =
      let w = went (ruled (needs 15 (not (in_scope scope name.text)) (needs 16 (kind_is_known (facts_among a) kind) (needs 17 (fits (facts_among a) kind p.type) (Ok p)))))
      (λ r. with_local scope (record { name = name.text; kind = kind }) (stmts.Var kind r.expr)) q h in
      let e15 = demand_held 15 (not (in_scope scope name.text)) (needs 16 (kind_is_known (facts_among a) kind) (needs 17 (fits (facts_among a) kind p.type) (Ok p))) w.value (ruled_ok _ w.value w.first) in
      not_so (in_scope scope name.text) e15.0

  one_declaration : (scope : Names) → NothingTwice at scope → (name : Word) (kind : TypeName) (e : ExprText) (q : Placed) (y : Stmt) (after : Names) → in_scope scope name.text ≡ false
      → IsDeclaration scope name kind e q.stmt q.scope → IsDeclaration scope name kind e y after → IsOne y after q
  one_declaration scope once name kind e q y after new p r = record {
    stmt = r.is ∙ ap (stmts.Var (type_of a.module_of kind)) (one_expr a at scope once e r.part p.part r.says p.says) ∙ sym p.is;
    leaves = r.leaves ∙ sym p.leaves;
    once = subst (NothingTwice at) (sym p.leaves) (more_once at scope (local_named a at name kind) once new);
  }

  abbrev Comes : StmtText-F Kept KeptBlock → Names → Placed → Type 0
  Comes y scope q = stmt_step a at (map-StmtText StmtText BlockText StmtElab BlockElab (elaborated_stmt a at) (elaborated_block a at) (layer_of y)) scope ≡ Ok q

  same_choice : (x y : Expr) (u v s t : Block) → x ≡ y → u ≡ v → s ≡ t → stmts.If x u s ≡ stmts.If y v t
  same_choice x y u v s t e f g = ap (λ (z : Expr). stmts.If z u s) e ∙ ap (λ (z : Block). stmts.If y z s) f ∙ ap (λ (z : Block). stmts.If y v z) g

  one_choice : (scope : Names) → NothingTwice at scope → (e : ExprText) (b c : KeptBlock) (q : Placed) (y : Stmt) (after : Names) → Comes (StmtText-F.If e b c) scope q
      → IsChoice scope e b.0 c.0 q.stmt q.scope → IsChoice scope e b.0 c.0 y after → IsOne y after q
  one_choice scope once e b c q y after h p r =
      let v = went (ruled (elaborated_value a at scope e))
      (λ v. elaborated_block a at b.0 scope >>= λ u. elaborated_block a at c.0 scope >>= λ w. ruled (needs 17 (is_boolean v.type) (placed scope (stmts.If v.expr u w)))) q h in
      let u = went (elaborated_block a at b.0 scope) (λ u. elaborated_block a at c.0 scope >>= λ w. ruled (needs 17 (is_boolean v.value.type) (placed scope (stmts.If v.value.expr u w)))) q v.further in
      let w = went (elaborated_block a at c.0 scope) (λ w. ruled (needs 17 (is_boolean v.value.type) (placed scope (stmts.If v.value.expr u.value w)))) q u.further in
      let value : r.part ≡ p.part = one_expr a at scope once e r.part p.part r.says p.says in
      let first : r.held ≡ p.held = b.1 scope once u.value u.first r.held r.held_says ∙ sym (b.1 scope once u.value u.first p.held p.held_says) in
      let second : r.failed ≡ p.failed = c.1 scope once w.value w.first r.failed r.failed_says ∙ sym (c.1 scope once w.value w.first p.failed p.failed_says) in
      record {
        stmt = r.is ∙ same_choice r.part p.part r.held p.held r.failed p.failed value first second ∙ sym p.is;
        leaves = r.leaves ∙ sym p.leaves;
        once = subst (NothingTwice at) (sym p.leaves) once;
      }

  same_loop : (x y : Expr) (u v : Block) → x ≡ y → u ≡ v → stmts.While x u ≡ stmts.While y v
  same_loop x y u v e f = ap (λ (z : Expr). stmts.While z u) e ∙ ap (λ (z : Block). stmts.While y z) f

  one_loop : (scope : Names) → NothingTwice at scope → (e : ExprText) (b : KeptBlock) (q : Placed) (y : Stmt) (after : Names) → Comes (StmtText-F.While e b) scope q
      → IsLoop scope e b.0 q.stmt q.scope → IsLoop scope e b.0 y after → IsOne y after q
  one_loop scope once e b q y after h p r =
      let v = went (ruled (elaborated_value a at scope e)) (λ v. elaborated_block a at b.0 scope >>= λ u. ruled (needs 17 (is_boolean v.type) (placed scope (stmts.While v.expr u)))) q h in
      let u = went (elaborated_block a at b.0 scope) (λ u. ruled (needs 17 (is_boolean v.value.type) (placed scope (stmts.While v.value.expr u)))) q v.further in
      let value : r.part ≡ p.part = one_expr a at scope once e r.part p.part r.says p.says in
      let same : r.block ≡ p.block = b.1 scope once u.value u.first r.block r.block_says ∙ sym (b.1 scope once u.value u.first p.block p.block_says) in
      record {
        stmt = r.is ∙ same_loop r.part p.part r.block p.block value same ∙ sym p.is;
        leaves = r.leaves ∙ sym p.leaves;
        once = subst (NothingTwice at) (sym p.leaves) once;
      }

  one_layer : (l : StmtText-F Kept KeptBlock) (scope : Names) → NothingTwice at scope → (q : Placed) (y : Stmt) (after : Names) → Comes l scope q
      → FormSays scope (layer_of l) q.stmt q.scope → FormSays scope (layer_of l) y after → IsOne y after q
  one_layer (StmtText-F.Var name kind e) scope once q y after h p r =
      let v = went (ruled (elaborated_value a at scope e)) (declared a scope name.text (type_of a.module_of kind)) q h in
      one_declaration scope once name kind e q y after (fresh scope name (type_of a.module_of kind) v.value q v.further) p r
  one_layer (StmtText-F.Set name e) scope once q y after h p r = one_setting scope once (IsLocal scope name.text) (one_local at scope once name.text) e stmts.SetLocal q y after p r
  one_layer (StmtText-F.SetVariable name e) scope once q y after h p r = one_setting scope once (IsVariable at name.text) (one_own_variable at scope once name.text) e stmts.SetVariable q y after p r
  one_layer (StmtText-F.If e b c) scope once q y after h p r = one_choice scope once e b c q y after h p r
  one_layer (StmtText-F.While e b) scope once q y after h p r = one_loop scope once e b q y after h p r
  one_layer (StmtText-F.Return None) scope once q y after h p r = record { stmt = r.0 ∙ sym p.0; leaves = r.1 ∙ sym p.1; once = subst (NothingTwice at) (sym p.1) once }
  one_layer (StmtText-F.Return (Some e)) scope once q y after h p r = one_plain scope once e stmts.ReturnValue q y after p r
  one_layer (StmtText-F.Print e) scope once q y after h p r = one_plain scope once e stmts.Print q y after p r
  one_layer (StmtText-F.Free e) scope once q y after h p r = one_plain scope once e stmts.Free q y after p r
  one_layer (StmtText-F.Call e) scope once q y after h p r = one_plain scope once e stmts.Call q y after p r

  one_rolled : (x : StmtText-F StmtText BlockText) (l : StmtText-F Kept KeptBlock) → layer_of l ≡ x → One (roll-StmtText x)
  one_rolled x l is = subst (λ z. One (roll-StmtText z)) is (λ scope once q h y after r.
      one_layer l scope once q y after (sym (ap (λ (f : StmtElab). f scope) (fold-roll-StmtText StmtElab BlockElab (stmt_step a at) block_step (layer_of l))) ∙ h)
      (of_layer scope (layer_of l) q.stmt q.scope (stmt_says a at (roll-StmtText (layer_of l)) scope q h)) (of_layer scope (layer_of l) y after r))

  -- ---- statements one after the other

  one_turn : (ks : List Kept) (scope : Names) → NothingTwice at scope → (ss : List Stmt) → in_turn (map (elaborated_stmt a at) (texts_of ks)) scope ≡ Ok ss → (ys : List Stmt) → StmtsSay a at scope (texts_of ks) ys → ys ≡ ss
  one_turn [] scope once ss h ys no_statement = same_answer h
  one_turn (k ∷ ks) scope once ss h ys (one_statement {after = after} {x = x} {xs = xs} p ps) =
      let v = went (elaborated_stmt a at k.0 scope) (λ q. in_turn (map (elaborated_stmt a at) (texts_of ks)) q.scope >>= λ more. Ok (q.stmt ∷ more)) ss h in
      let more = went (in_turn (map (elaborated_stmt a at) (texts_of ks)) v.value.scope) (λ more. Ok (v.value.stmt ∷ more)) ss v.further in
      let one = k.1 scope once v.value v.first x after p in
      let rest = one_turn ks v.value.scope one.once more.value more.first xs (subst (λ (z : Names). StmtsSay a at z (texts_of ks) xs) one.leaves ps) in
      ap (λ (z : Stmt). z ∷ xs) one.stmt ∙ ap (λ (z : List Stmt). v.value.stmt ∷ z) rest ∙ same_answer more.further

  abbrev block_of : BlockText-F Kept KeptBlock → BlockText-F StmtText BlockText
  block_of y = map-BlockText Kept KeptBlock StmtText BlockText (λ (k : Kept). k.0) (λ (k : KeptBlock). k.0) y

  -- what the text of a block says
  record IsBlock (scope : Names) (t : BlockText) (y : Block) : Type 0 where
    within : List Stmt
    say : StmtsSay a at scope t.statements within
    is : y ≡ record { statements = within }

  block_says : (scope : Names) (t : BlockText) (y : Block) → BlockSays a at scope t y → IsBlock scope t y
  block_says scope t y (a_block {xs = xs} p) = record { within = xs; say = p; is = refl }

  one_statements : (l : BlockText-F Kept KeptBlock) (scope : Names) → NothingTwice at scope → (b : Block) → block_step (map-BlockText StmtText BlockText StmtElab BlockElab (elaborated_stmt a at) (elaborated_block a at) (block_of l)) scope ≡ Ok b
      → (y : Block) → BlockSays a at scope (record { statements = texts_of l.statements }) y → y ≡ b
  one_statements l scope once b h y p =
      let ss = went (in_turn (map (elaborated_stmt a at) (texts_of l.statements)) scope) (λ ss. Ok (record { statements = ss })) b h in
      let r = block_says scope (record { statements = texts_of l.statements }) y p in
      r.is ∙ ap (λ (z : List Stmt). let x : Block = record { statements = z } in x) (one_turn l.statements scope once ss.value ss.first r.within r.say) ∙ same_answer ss.further

  block_rolled : (x : BlockText-F StmtText BlockText) (l : BlockText-F Kept KeptBlock) → block_of l ≡ x → OneBlock (roll-BlockText x)
  block_rolled x l is = subst (λ z. OneBlock (roll-BlockText z)) is (λ scope once b h y p.
      one_statements l scope once b (sym (ap (λ (f : BlockElab). f scope) (fold-roll-BlockText StmtElab BlockElab (stmt_step a at) block_step (block_of l))) ∙ h) y p)

  pub one_block : (t : BlockText) → OneBlock t
  one_block = ind-BlockText One OneBlock one_rolled block_rolled
