-- What a text of a block comes to is well typed where it stands.
use Rattle.std.proofs.Common.{◌≡◌, ℕ, Bool, true, false, not, ◌&&◌, if◌then◌else◌, nat_lt, List, [], ◌∷◌, ◌++◌, length, map, slice_get, Some, None, Ok, Err, refl, sym, ap, ◌∙◌, subst}
use Rattle.som_model.specs.declared.key.ValueType.{ValueType}
use Rattle.som_model.specs.declared.syntax.Stmt.{Stmt, roll-Stmt, map-Stmt, fold-roll-Stmt}
use Rattle.som_model.specs.declared.syntax.Stmt.TheVariants as stmts
use Rattle.som_model.specs.declared.syntax.Stmt.TheOpen.{Stmt-F}
use Rattle.som_model.specs.declared.syntax.Block.{Block, fold-roll-Block}
use Rattle.som_model.specs.declared.limits.TheConstants.{MAX_LOCALS}
use Rattle.som_model.specs.Steps.{◌>>=◌}
use Rattle.som_model.specs.Blocks.{is_call}
use Rattle.som_model.specs.Typing.{ClassFacts, CodePlace, Of, Ruled, Typed, needs, there, is_nothing, is_boolean, is_class, has_text, kind_is_known, fits, own_variable, value, expr_type}
use Rattle.som_model.specs.TypedBlocks.{Scope, Scoped, var_scope, local_set, variable_set, stmt_scope, block_scope, stmt_step as typed_step, block_step as typed_block, in_turn as typed_in_turn, value_return as typed_return}
use Rattle.som_model.proofs.StepLaws.{held, same_answer, went, met}
use Rattle.som_ast.specs.declared.expression.ExprText.{ExprText}
use Rattle.som_ast.specs.declared.body.StmtText.{StmtText, roll-StmtText, map-StmtText, fold-roll-StmtText}
use Rattle.som_ast.specs.declared.body.StmtText.TheOpen.{StmtText-F, BlockText-F}
use Rattle.som_ast.specs.declared.body.BlockText.{BlockText, roll-BlockText, map-BlockText, ind-BlockText, fold-roll-BlockText}
use Rattle.som_sema_scope.specs.ClassNames.{type_of}
use Rattle.som_elab_body.specs.Locals.{Named, Names, in_scope, kinds_of, local_of}
use Rattle.som_elab_body.specs.Methods.{variable_place}
use Rattle.som_elab_body.specs.Expressions.{Among, Elaborated, elaborated, elaborated_value, facts_among}
use Rattle.som_elab_body.proofs.TypedExpressions.{expr_typed, value_typed_by}
use Rattle.som_elab_body.specs.Statements.{BlockElab, ManyLocals, Placed, StmtElab, Told, block_step, call_statement, declared, elaborated_block, elaborated_stmt, freed, in_turn, placed, printed, ruled, set_local, set_variable, stmt_step, value_return, with_local}

pub ruled_ok : {A : Type 0} (x : Ruled A) (r : A) → ruled x ≡ Ok r → x ≡ Ok r
ruled_ok (Ok a) r e = ap Ok (same_answer e)
ruled_ok (Err rule) r e = absurd (let z = e in cc)

kinds_more : (scope : Names) (n : Named) → kinds_of (scope ++ n ∷ []) ≡ kinds_of scope ++ n.kind ∷ []
kinds_more [] n = refl
kinds_more (m ∷ scope) n = ap (λ z. m.kind ∷ z) (kinds_more scope n)

module _ (a : Among) (at : CodePlace) where
  abbrev facts : ClassFacts
  facts = facts_among a

  abbrev S : Stmt → Scoped
  S = stmt_scope facts at

  abbrev B : Block → Scoped
  B = block_scope facts at

  -- a statement that was placed is well typed, and leaves the kinds of the names that are in scope then
  abbrev Stands : Names → Placed → Type 0
  Stands scope q = S q.stmt (kinds_of scope) ≡ Ok (kinds_of q.scope)

  abbrev IsTyped : StmtText → Type 0
  IsTyped s = (scope : Names) (q : Placed) → elaborated_stmt a at s scope ≡ Ok q → Stands scope q

  abbrev AreTyped : BlockText → Type 0
  AreTyped t = (scope : Names) (b : Block) → elaborated_block a at t scope ≡ Ok b → (k : Scope) × (B b (kinds_of scope) ≡ Ok k)

  abbrev Kept : Type 0
  Kept = (s : StmtText) × IsTyped s

  abbrev KeptBlock : Type 0
  KeptBlock = (t : BlockText) × AreTyped t

  -- by the outermost part
  opened : (l : Stmt-F Stmt Block) (s : Stmt) (scope : Names) → roll-Stmt l ≡ s → S s (kinds_of scope) ≡ typed_step facts at (map-Stmt Stmt Block Scoped Scoped S B l) (kinds_of scope)
  opened l s scope rolls = ap (λ (f : Scoped). f (kinds_of scope)) (ap S (sym rolls) ∙ fold-roll-Stmt Scoped Scoped (typed_step facts at) typed_block l)

  -- a statement that declares nothing
  stands : (l : Stmt-F Stmt Block) (s : Stmt) (scope : Names) (q : Placed) → roll-Stmt l ≡ s → typed_step facts at (map-Stmt Stmt Block Scoped Scoped S B l) (kinds_of scope) ≡ Ok (kinds_of scope)
      → placed scope s ≡ Ok q → Stands scope q
  stands l s scope q rolls same h = subst (Stands scope) (same_answer h) (opened l s scope rolls ∙ same)

  needs_ok : (rule : ℕ) (b : Bool) (scope : Names) → b ≡ true → needs rule b (Ok (kinds_of scope)) ≡ Ok (kinds_of scope)
  needs_ok rule b scope e = met rule b (Ok (kinds_of scope)) e

  abbrev added : Names → Named → Stmt → Placed
  added scope n s = record { stmt = s; scope = scope ++ n ∷ [] }

  abbrev limited : Names → Named → Stmt → Bool → Told Placed
  limited scope n s few = if few then Ok (added scope n s) else Err ManyLocals

  declared_typed : (scope : Names) (name : List ℕ) (kind : ValueType) (p : Elaborated) (q : Placed) → value (expr_type facts at (kinds_of scope) p.expr) ≡ Ok p.type → declared a scope name kind p ≡ Ok q → Stands scope q
  declared_typed scope name kind p q v h =
      let w = went (ruled (needs 15 (not (in_scope scope name)) (needs 16 (kind_is_known facts kind) (needs 17 (fits facts kind p.type) (Ok p)))))
      (λ r. with_local scope (record { name = name; kind = kind }) (stmts.Var kind r.expr)) q h in
      let e15 = held 15 (not (in_scope scope name)) (needs 16 (kind_is_known facts kind) (needs 17 (fits facts kind p.type) (Ok p))) w.value (ruled_ok _ w.value w.first) in
      let e16 = held 16 (kind_is_known facts kind) (needs 17 (fits facts kind p.type) (Ok p)) w.value e15.1 in
      let e17 = held 17 (fits facts kind p.type) (Ok p) w.value e16.1 in
      let n : Named = record { name = name; kind = kind } in
      let same : p ≡ w.value = same_answer e17.1 in
      by n p w.value same (nat_lt (length scope) MAX_LOCALS) w.further
      (opened (Stmt-F.Var kind p.expr) (stmts.Var kind p.expr) scope (stmts.rolls-Var kind p.expr)
      ∙ ap (λ x. x >>= var_scope facts (kinds_of scope) kind) v
      ∙ met 16 (kind_is_known facts kind) (needs 17 (fits facts kind p.type) (Ok (kinds_of scope ++ kind ∷ []))) e16.0
      ∙ met 17 (fits facts kind p.type) (Ok (kinds_of scope ++ kind ∷ [])) e17.0
      ∙ ap Ok (sym (kinds_more scope n)))
    where
      by : (n : Named) (p r : Elaborated) → p ≡ r → (b : Bool) → limited scope n (stmts.Var n.kind r.expr) b ≡ Ok q
          → S (stmts.Var n.kind p.expr) (kinds_of scope) ≡ Ok (kinds_of (scope ++ n ∷ [])) → Stands scope q
      by n p r same true e t = subst (Stands scope) (same_answer e)
          (subst (λ (z : Elaborated). S (stmts.Var n.kind z.expr) (kinds_of scope) ≡ Ok (kinds_of (scope ++ n ∷ []))) same t)
      by n p r same false e t = absurd (let z = e in cc)

  set_local_typed : (scope : Names) (name : List ℕ) (p : Elaborated) (q : Placed) → value (expr_type facts at (kinds_of scope) p.expr) ≡ Ok p.type → set_local a scope name p ≡ Ok q → Stands scope q
  set_local_typed scope name p q v h =
      let n = went (there 16 (local_of scope name)) (λ n. there 16 (slice_get (kinds_of scope) n) >>= λ kind. needs 17 (fits facts kind p.type) (placed scope (stmts.SetLocal n p.expr))) q h in
      let k = went (there 16 (slice_get (kinds_of scope) n.value)) (λ kind. needs 17 (fits facts kind p.type) (placed scope (stmts.SetLocal n.value p.expr))) q n.further in
      let f = held 17 (fits facts k.value p.type) (placed scope (stmts.SetLocal n.value p.expr)) q k.further in
      stands (Stmt-F.SetLocal n.value p.expr) (stmts.SetLocal n.value p.expr) scope q (stmts.rolls-SetLocal n.value p.expr)
      (ap (λ x. x >>= local_set facts (kinds_of scope) n.value) v ∙ ap (λ x. x >>= λ kind. needs 17 (fits facts kind p.type) (Ok (kinds_of scope))) k.first ∙ needs_ok 17 (fits facts k.value p.type) scope f.0) f.1

  set_variable_typed : (scope : Names) (name : List ℕ) (p : Elaborated) (q : Placed) → value (expr_type facts at (kinds_of scope) p.expr) ≡ Ok p.type → set_variable a at scope name p ≡ Ok q → Stands scope q
  set_variable_typed scope name p q v h =
      let n = went (there 16 (variable_place at.class name)) (λ n. own_variable at n >>= λ kind. needs 17 (fits facts kind p.type) (placed scope (stmts.SetVariable n p.expr))) q h in
      let k = went (own_variable at n.value) (λ kind. needs 17 (fits facts kind p.type) (placed scope (stmts.SetVariable n.value p.expr))) q n.further in
      let f = held 17 (fits facts k.value p.type) (placed scope (stmts.SetVariable n.value p.expr)) q k.further in
      stands (Stmt-F.SetVariable n.value p.expr) (stmts.SetVariable n.value p.expr) scope q (stmts.rolls-SetVariable n.value p.expr)
      (ap (λ x. x >>= variable_set facts at (kinds_of scope) n.value) v ∙ ap (λ x. x >>= λ kind. needs 17 (fits facts kind p.type) (Ok (kinds_of scope))) k.first ∙ needs_ok 17 (fits facts k.value p.type) scope f.0) f.1

  -- a value of a text has its type
  value_there : (e : ExprText) (scope : Names) (p : Elaborated) → elaborated_value a at scope e ≡ Ok p → value (expr_type facts at (kinds_of scope) p.expr) ≡ Ok p.type
  value_there e scope p h = value_typed_by a at scope e p h

  return_typed : (scope : Names) (p : Elaborated) (q : Placed) → value (expr_type facts at (kinds_of scope) p.expr) ≡ Ok p.type → value_return a at scope p ≡ Ok q → Stands scope q
  return_typed scope p q v h =
      let fit = not (is_nothing (Of at.result)) && fits facts at.result p.type in
      let f = held 19 fit (placed scope (stmts.ReturnValue p.expr)) q h in
      stands (Stmt-F.ReturnValue p.expr) (stmts.ReturnValue p.expr) scope q (stmts.rolls-ReturnValue p.expr) (ap (λ x. x >>= typed_return facts at (kinds_of scope)) v ∙ needs_ok 19 fit scope f.0) f.1

  print_typed : (scope : Names) (p : Elaborated) (q : Placed) → value (expr_type facts at (kinds_of scope) p.expr) ≡ Ok p.type → printed scope p ≡ Ok q → Stands scope q
  print_typed scope p q v h =
      let f = held 17 (has_text p.type) (placed scope (stmts.Print p.expr)) q h in
      stands (Stmt-F.Print p.expr) (stmts.Print p.expr) scope q (stmts.rolls-Print p.expr) (ap (λ x. x >>= λ t. needs 17 (has_text t) (Ok (kinds_of scope))) v ∙ needs_ok 17 (has_text p.type) scope f.0) f.1

  free_typed : (scope : Names) (p : Elaborated) (q : Placed) → value (expr_type facts at (kinds_of scope) p.expr) ≡ Ok p.type → freed scope p ≡ Ok q → Stands scope q
  free_typed scope p q v h =
      let f = held 17 (is_class p.type) (placed scope (stmts.Free p.expr)) q h in
      stands (Stmt-F.Free p.expr) (stmts.Free p.expr) scope q (stmts.rolls-Free p.expr) (ap (λ x. x >>= λ t. needs 17 (is_class t) (Ok (kinds_of scope))) v ∙ needs_ok 17 (is_class p.type) scope f.0) f.1

  call_typed : (scope : Names) (p : Elaborated) (q : Placed) → expr_type facts at (kinds_of scope) p.expr ≡ Ok p.type → call_statement scope p ≡ Ok q → Stands scope q
  call_typed scope p q v h =
      let f = held 20 (is_call p.expr) (placed scope (stmts.Call p.expr)) q h in
      stands (Stmt-F.Call p.expr) (stmts.Call p.expr) scope q (stmts.rolls-Call p.expr) (ap (λ (x : Typed). x >>= λ t. needs 20 (is_call p.expr) (Ok (kinds_of scope))) v ∙ needs_ok 20 (is_call p.expr) scope f.0) f.1

  if_typed : (scope : Names) (p : Elaborated) (x y : Block) (k l : Scope) (q : Placed) → value (expr_type facts at (kinds_of scope) p.expr) ≡ Ok p.type → B x (kinds_of scope) ≡ Ok k → B y (kinds_of scope) ≡ Ok l
      → ruled (needs 17 (is_boolean p.type) (placed scope (stmts.If p.expr x y))) ≡ Ok q → Stands scope q
  if_typed scope p x y k l q v first second h =
      let f = held 17 (is_boolean p.type) (placed scope (stmts.If p.expr x y)) q (ruled_ok _ q h) in
      stands (Stmt-F.If p.expr x y) (stmts.If p.expr x y) scope q (stmts.rolls-If p.expr x y)
      (ap (λ z. z >>= λ t. B x (kinds_of scope) >>= λ _. B y (kinds_of scope) >>= λ _. needs 17 (is_boolean t) (Ok (kinds_of scope))) v
      ∙ ap (λ z. z >>= λ _. B y (kinds_of scope) >>= λ _. needs 17 (is_boolean p.type) (Ok (kinds_of scope))) first
      ∙ ap (λ z. z >>= λ _. needs 17 (is_boolean p.type) (Ok (kinds_of scope))) second
      ∙ needs_ok 17 (is_boolean p.type) scope f.0) f.1

  while_typed : (scope : Names) (p : Elaborated) (x : Block) (k : Scope) (q : Placed) → value (expr_type facts at (kinds_of scope) p.expr) ≡ Ok p.type → B x (kinds_of scope) ≡ Ok k
      → ruled (needs 17 (is_boolean p.type) (placed scope (stmts.While p.expr x))) ≡ Ok q → Stands scope q
  while_typed scope p x k q v body h =
      let f = held 17 (is_boolean p.type) (placed scope (stmts.While p.expr x)) q (ruled_ok _ q h) in
      stands (Stmt-F.While p.expr x) (stmts.While p.expr x) scope q (stmts.rolls-While p.expr x)
      (ap (λ z. z >>= λ t. B x (kinds_of scope) >>= λ _. needs 17 (is_boolean t) (Ok (kinds_of scope))) v
      ∙ ap (λ z. z >>= λ _. needs 17 (is_boolean p.type) (Ok (kinds_of scope))) body
      ∙ needs_ok 17 (is_boolean p.type) scope f.0) f.1

  layer_typed : (y : StmtText-F Kept KeptBlock) (scope : Names) (q : Placed)
      → stmt_step a at (map-StmtText StmtText BlockText StmtElab BlockElab (elaborated_stmt a at) (elaborated_block a at) (map-StmtText Kept KeptBlock StmtText BlockText (λ (k : Kept). k.0) (λ (k : KeptBlock). k.0) y)) scope ≡ Ok q
      → Stands scope q
  layer_typed (StmtText-F.Var name kind e) scope q h =
      let p = went (ruled (elaborated_value a at scope e)) (declared a scope name.text (type_of a.module_of kind)) q h in
      declared_typed scope name.text (type_of a.module_of kind) p.value q (value_there e scope p.value (ruled_ok _ p.value p.first)) p.further
  layer_typed (StmtText-F.Set name e) scope q h =
      let p = went (elaborated_value a at scope e) (set_local a scope name.text) q (ruled_ok _ q h) in
      set_local_typed scope name.text p.value q (value_there e scope p.value p.first) p.further
  layer_typed (StmtText-F.SetVariable name e) scope q h =
      let p = went (elaborated_value a at scope e) (set_variable a at scope name.text) q (ruled_ok _ q h) in
      set_variable_typed scope name.text p.value q (value_there e scope p.value p.first) p.further
  layer_typed (StmtText-F.If e b c) scope q h =
      let p = went (ruled (elaborated_value a at scope e))
      (λ p. elaborated_block a at b.0 scope >>= λ x. elaborated_block a at c.0 scope >>= λ y. ruled (needs 17 (is_boolean p.type) (placed scope (stmts.If p.expr x y)))) q h in
      let x = went (elaborated_block a at b.0 scope) (λ x. elaborated_block a at c.0 scope >>= λ y. ruled (needs 17 (is_boolean p.value.type) (placed scope (stmts.If p.value.expr x y)))) q p.further in
      let y = went (elaborated_block a at c.0 scope) (λ y. ruled (needs 17 (is_boolean p.value.type) (placed scope (stmts.If p.value.expr x.value y)))) q x.further in
      let left = b.1 scope x.value x.first in
      let right = c.1 scope y.value y.first in
      if_typed scope p.value x.value y.value left.0 right.0 q (value_there e scope p.value (ruled_ok _ p.value p.first)) left.1 right.1 y.further
  layer_typed (StmtText-F.While e b) scope q h =
      let p = went (ruled (elaborated_value a at scope e)) (λ p. elaborated_block a at b.0 scope >>= λ x. ruled (needs 17 (is_boolean p.type) (placed scope (stmts.While p.expr x)))) q h in
      let x = went (elaborated_block a at b.0 scope) (λ x. ruled (needs 17 (is_boolean p.value.type) (placed scope (stmts.While p.value.expr x)))) q p.further in
      let body = b.1 scope x.value x.first in
      while_typed scope p.value x.value body.0 q (value_there e scope p.value (ruled_ok _ p.value p.first)) body.1 x.further
  layer_typed (StmtText-F.Return None) scope q h =
      let f = held 19 (is_nothing (Of at.result)) (placed scope stmts.Return) q (ruled_ok _ q h) in
      stands Stmt-F.Return stmts.Return scope q stmts.rolls-Return (needs_ok 19 (is_nothing (Of at.result)) scope f.0) f.1
  layer_typed (StmtText-F.Return (Some e)) scope q h =
      let p = went (elaborated_value a at scope e) (value_return a at scope) q (ruled_ok _ q h) in
      return_typed scope p.value q (value_there e scope p.value p.first) p.further
  layer_typed (StmtText-F.Print e) scope q h =
      let p = went (elaborated_value a at scope e) (printed scope) q (ruled_ok _ q h) in
      print_typed scope p.value q (value_there e scope p.value p.first) p.further
  layer_typed (StmtText-F.Free e) scope q h =
      let p = went (elaborated_value a at scope e) (freed scope) q (ruled_ok _ q h) in
      free_typed scope p.value q (value_there e scope p.value p.first) p.further
  layer_typed (StmtText-F.Call e) scope q h =
      let p = went (elaborated a at scope e) (call_statement scope) q (ruled_ok _ q h) in
      call_typed scope p.value q (expr_typed a at scope e p.value p.first) p.further

  -- statements one after the other
  turn_typed : (ks : List Kept) (scope : Names) (ss : List Stmt) → in_turn (map (elaborated_stmt a at) (map (λ (k : Kept). k.0) ks)) scope ≡ Ok ss → (k : Scope) × (typed_in_turn (map S ss) (kinds_of scope) ≡ Ok k)
  turn_typed [] scope ss h = (kinds_of scope, subst (λ (z : List Stmt). typed_in_turn (map S z) (kinds_of scope) ≡ Ok (kinds_of scope)) (same_answer h) refl)
  turn_typed (k ∷ ks) scope ss h =
      let p = went (elaborated_stmt a at k.0 scope) (λ p. in_turn (map (elaborated_stmt a at) (map (λ (k : Kept). k.0) ks)) p.scope >>= λ more. Ok (p.stmt ∷ more)) ss h in
      let more = went (in_turn (map (elaborated_stmt a at) (map (λ (k : Kept). k.0) ks)) p.value.scope) (λ more. Ok (p.value.stmt ∷ more)) ss p.further in
      let rest = turn_typed ks p.value.scope more.value more.first in (
        rest.0,
        subst (λ (z : List Stmt). typed_in_turn (map S z) (kinds_of scope) ≡ Ok rest.0) (same_answer more.further)
            (ap (λ x. x >>= typed_in_turn (map S more.value)) (k.1 scope p.value p.first) ∙ rest.1),
      )

  block_is : (ss : List Stmt) (scope : Names) → B (record { statements = ss }) (kinds_of scope) ≡ typed_in_turn (map S ss) (kinds_of scope)
  block_is ss scope = ap (λ (f : Scoped). f (kinds_of scope)) (fold-roll-Block Scoped Scoped (typed_step facts at) typed_block (record { statements = ss }))

  block_typed : (y : BlockText-F Kept KeptBlock) (scope : Names) (b : Block)
      → block_step (map-BlockText StmtText BlockText StmtElab BlockElab (elaborated_stmt a at) (elaborated_block a at) (map-BlockText Kept KeptBlock StmtText BlockText (λ (k : Kept). k.0) (λ (k : KeptBlock). k.0) y)) scope ≡ Ok b
      → (k : Scope) × (B b (kinds_of scope) ≡ Ok k)
  block_typed y scope b h =
      let ss = went (in_turn (map (elaborated_stmt a at) (map (λ (k : Kept). k.0) y.statements)) scope) (λ ss. Ok (record { statements = ss })) b h in
      let t = turn_typed y.statements scope ss.value ss.first in
      (t.0, subst (λ (z : Block). B z (kinds_of scope) ≡ Ok t.0) (same_answer ss.further) (block_is ss.value scope ∙ t.1))

  pub text_typed : (t : BlockText) → AreTyped t
  text_typed = ind-BlockText IsTyped AreTyped
      (λ x y is. subst (λ z. IsTyped (roll-StmtText z)) is (λ scope q h. layer_typed y scope q
      (sym (ap (λ (f : StmtElab). f scope) (fold-roll-StmtText StmtElab BlockElab (stmt_step a at) block_step (map-StmtText Kept KeptBlock StmtText BlockText (λ (k : Kept). k.0) (λ (k : KeptBlock). k.0) y))) ∙ h)))
      (λ x y is. subst (λ z. AreTyped (roll-BlockText z)) is (λ scope b h. block_typed y scope b
      (sym (ap (λ (f : BlockElab). f scope) (fold-roll-BlockText StmtElab BlockElab (stmt_step a at) block_step (map-BlockText Kept KeptBlock StmtText BlockText (λ (k : Kept). k.0) (λ (k : KeptBlock). k.0) y))) ∙ h)))
