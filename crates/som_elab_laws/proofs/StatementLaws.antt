-- What the text of a block comes to is what it says.
use Rattle.std.proofs.Common.{◌≡◌, Bool, true, false, not, ◌&&◌, if◌then◌else◌, nat_lt, List, [], ◌∷◌, ◌++◌, length, map, slice_get, Some, None, Ok, Err, sym, ap, ◌∙◌, subst}
use Rattle.som_model.specs.declared.syntax.Block.{Block}
use Rattle.som_model.specs.declared.syntax.Stmt.{Stmt}
use Rattle.som_model.specs.declared.syntax.Stmt.TheVariants as stmts
use Rattle.som_model.specs.declared.limits.TheConstants.{MAX_LOCALS}
use Rattle.som_model.specs.Steps.{◌>>=◌}
use Rattle.som_model.specs.Blocks.{is_call}
use Rattle.som_model.specs.Typing.{ClassFacts, CodePlace, Of, needs, there, is_nothing, is_boolean, is_class, has_text, kind_is_known, fits, own_variable}
use Rattle.som_model.proofs.StepLaws.{held, same_answer, went, found}
use Rattle.som_ast.specs.declared.words.TypeName.{TypeName}
use Rattle.som_ast.specs.declared.words.Word.{Word}
use Rattle.som_ast.specs.declared.expression.ExprText.{ExprText}
use Rattle.som_ast.specs.declared.body.StmtText.{StmtText, roll-StmtText, map-StmtText, ind-StmtText, fold-roll-StmtText}
use Rattle.som_ast.specs.declared.body.StmtText.TheOpen.{StmtText-F, BlockText-F}
use Rattle.som_ast.specs.declared.body.StmtText.TheVariants as texts
use Rattle.som_ast.specs.declared.body.BlockText.{BlockText, roll-BlockText, map-BlockText, ind-BlockText, fold-roll-BlockText}
use Rattle.som_sema_scope.specs.ClassNames.{type_of}
use Rattle.som_elab_body.specs.Locals.{Named, Names, in_scope, kinds_of, local_of}
use Rattle.som_elab_body.specs.Methods.{variable_place}
use Rattle.som_elab_body.specs.Expressions.{Among, Elaborated, elaborated, elaborated_value, facts_among}
use Rattle.som_elab_body.specs.Statements.{BlockElab, ManyLocals, Placed, StmtElab, block_step, call_statement, declared, elaborated_block, elaborated_stmt, freed, in_turn, placed, printed, ruled, set_local, set_variable, stmt_step, value_return, with_local}
use Rattle.som_elab_body.proofs.TypedBodies.{ruled_ok}
use Rattle.som_elab_laws.specs.Expressions.{ExprSays}
use Rattle.som_elab_laws.specs.Statements.{BlockSays, StmtSays, StmtsSay, a_block, a_call, a_choice, a_declaration, a_free, a_loop, a_print, a_return, a_return_with_value, a_variable_assignment, an_assignment, local_named, no_statement, one_statement}
use Rattle.som_elab_laws.proofs.NamedLaws.{local_is, variable_is}
use Rattle.som_elab_laws.proofs.ExpressionLaws.{expr_says, value_says}

module _ (a : Among) (at : CodePlace) where
  abbrev facts : ClassFacts
  facts = facts_among a

  abbrev Says : StmtText → Type 0
  Says s = (scope : Names) (q : Placed) → elaborated_stmt a at s scope ≡ Ok q → StmtSays a at scope s q.stmt q.scope

  abbrev BlockHolds : BlockText → Type 0
  BlockHolds t = (scope : Names) (b : Block) → elaborated_block a at t scope ≡ Ok b → BlockSays a at scope t b

  abbrev Kept : Type 0
  Kept = (s : StmtText) × Says s

  abbrev KeptBlock : Type 0
  KeptBlock = (t : BlockText) × BlockHolds t

  abbrev kept_texts : List Kept → List StmtText
  kept_texts = map (λ (k : Kept). k.0)

  -- a statement that declares nothing
  says : (l : StmtText-F StmtText BlockText) (t : StmtText) (s : Stmt) (scope : Names) (q : Placed) → roll-StmtText l ≡ t → StmtSays a at scope t s scope → placed scope s ≡ Ok q → StmtSays a at scope (roll-StmtText l) q.stmt q.scope
  says l t s scope q rolls is h =
      subst (λ z. StmtSays a at scope z q.stmt q.scope) (sym rolls) (subst (λ (z : Placed). StmtSays a at scope t z.stmt z.scope) (same_answer h) is)

  abbrev added : Names → Named → Stmt → Placed
  added scope n s = record { stmt = s; scope = scope ++ n ∷ [] }

  declared_says : (scope : Names) (name : Word) (kind : TypeName) (e : ExprText) (p : Elaborated) (q : Placed) → ExprSays a at scope e p.expr → declared a scope name.text (type_of a.module_of kind) p ≡ Ok q
      → StmtSays a at scope (roll-StmtText (StmtText-F.Var name kind e)) q.stmt q.scope
  declared_says scope name kind e p q s h =
      let type = type_of a.module_of kind in
      let w = went (ruled (needs 15 (not (in_scope scope name.text)) (needs 16 (kind_is_known facts type) (needs 17 (fits facts type p.type) (Ok p)))))
      (λ r. with_local scope (local_named a at name kind) (stmts.Var type r.expr)) q h in
      let e15 = held 15 (not (in_scope scope name.text)) (needs 16 (kind_is_known facts type) (needs 17 (fits facts type p.type) (Ok p))) w.value (ruled_ok _ w.value w.first) in
      let e16 = held 16 (kind_is_known facts type) (needs 17 (fits facts type p.type) (Ok p)) w.value e15.1 in
      let e17 = held 17 (fits facts type p.type) (Ok p) w.value e16.1 in
      by w.value (same_answer e17.1) (nat_lt (length scope) MAX_LOCALS) w.further
    where
      by : (r : Elaborated) → p ≡ r → (b : Bool) → (if b then Ok (added scope (local_named a at name kind) (stmts.Var (type_of a.module_of kind) r.expr)) else Err ManyLocals) ≡ Ok q
          → StmtSays a at scope (roll-StmtText (StmtText-F.Var name kind e)) q.stmt q.scope
      by r same false f = absurd (let z = f in cc)
      by r same true f =
          let said : StmtSays a at scope (texts.Var name kind e) (stmts.Var (type_of a.module_of kind) r.expr) (scope ++ local_named a at name kind ∷ []) =
          a_declaration (subst (λ (z : Elaborated). ExprSays a at scope e z.expr) same s) in
          subst (λ z. StmtSays a at scope z q.stmt q.scope) (sym (texts.rolls-Var name kind e)) (subst (λ (z : Placed). StmtSays a at scope (texts.Var name kind e) z.stmt z.scope) (same_answer f) said)

  layer_says : (y : StmtText-F Kept KeptBlock) (scope : Names) (q : Placed)
      → stmt_step a at (map-StmtText StmtText BlockText StmtElab BlockElab (elaborated_stmt a at) (elaborated_block a at) (map-StmtText Kept KeptBlock StmtText BlockText (λ (k : Kept). k.0) (λ (k : KeptBlock). k.0) y)) scope ≡ Ok q
      → StmtSays a at scope (roll-StmtText (map-StmtText Kept KeptBlock StmtText BlockText (λ (k : Kept). k.0) (λ (k : KeptBlock). k.0) y)) q.stmt q.scope
  layer_says (StmtText-F.Var name kind e) scope q h =
      let p = went (ruled (elaborated_value a at scope e)) (declared a scope name.text (type_of a.module_of kind)) q h in
      declared_says scope name kind e p.value q (value_says a at scope e p.value (ruled_ok _ p.value p.first)) p.further
  layer_says (StmtText-F.Set name e) scope q h =
      let p = went (elaborated_value a at scope e) (set_local a scope name.text) q (ruled_ok _ q h) in
      let n = went (there 16 (local_of scope name.text)) (λ n. there 16 (slice_get (kinds_of scope) n) >>= λ kind. needs 17 (fits facts kind p.value.type) (placed scope (stmts.SetLocal n p.value.expr))) q p.further in
      let k = went (there 16 (slice_get (kinds_of scope) n.value)) (λ kind. needs 17 (fits facts kind p.value.type) (placed scope (stmts.SetLocal n.value p.value.expr))) q n.further in
      let f = held 17 (fits facts k.value p.value.type) (placed scope (stmts.SetLocal n.value p.value.expr)) q k.further in
      says (StmtText-F.Set name e) (texts.Set name e) (stmts.SetLocal n.value p.value.expr) scope q (texts.rolls-Set name e)
      (an_assignment (value_says a at scope e p.value p.first) (local_is scope name.text n.value (found 16 (local_of scope name.text) n.value n.first))) f.1
  layer_says (StmtText-F.SetVariable name e) scope q h =
      let p = went (elaborated_value a at scope e) (set_variable a at scope name.text) q (ruled_ok _ q h) in
      let n = went (there 16 (variable_place at.class name.text)) (λ n. own_variable at n >>= λ kind. needs 17 (fits facts kind p.value.type) (placed scope (stmts.SetVariable n p.value.expr))) q p.further in
      let k = went (own_variable at n.value) (λ kind. needs 17 (fits facts kind p.value.type) (placed scope (stmts.SetVariable n.value p.value.expr))) q n.further in
      let f = held 17 (fits facts k.value p.value.type) (placed scope (stmts.SetVariable n.value p.value.expr)) q k.further in
      says (StmtText-F.SetVariable name e) (texts.SetVariable name e) (stmts.SetVariable n.value p.value.expr) scope q (texts.rolls-SetVariable name e)
      (a_variable_assignment (value_says a at scope e p.value p.first) (variable_is at name.text n.value (found 16 (variable_place at.class name.text) n.value n.first))) f.1
  layer_says (StmtText-F.If e b c) scope q h =
      let p = went (ruled (elaborated_value a at scope e))
      (λ p. elaborated_block a at b.0 scope >>= λ x. elaborated_block a at c.0 scope >>= λ y. ruled (needs 17 (is_boolean p.type) (placed scope (stmts.If p.expr x y)))) q h in
      let x = went (elaborated_block a at b.0 scope) (λ x. elaborated_block a at c.0 scope >>= λ y. ruled (needs 17 (is_boolean p.value.type) (placed scope (stmts.If p.value.expr x y)))) q p.further in
      let y = went (elaborated_block a at c.0 scope) (λ y. ruled (needs 17 (is_boolean p.value.type) (placed scope (stmts.If p.value.expr x.value y)))) q x.further in
      let f = held 17 (is_boolean p.value.type) (placed scope (stmts.If p.value.expr x.value y.value)) q (ruled_ok _ q y.further) in
      says (StmtText-F.If e b.0 c.0) (texts.If e b.0 c.0) (stmts.If p.value.expr x.value y.value) scope q (texts.rolls-If e b.0 c.0)
      (a_choice (value_says a at scope e p.value (ruled_ok _ p.value p.first)) (b.1 scope x.value x.first) (c.1 scope y.value y.first)) f.1
  layer_says (StmtText-F.While e b) scope q h =
      let p = went (ruled (elaborated_value a at scope e)) (λ p. elaborated_block a at b.0 scope >>= λ x. ruled (needs 17 (is_boolean p.type) (placed scope (stmts.While p.expr x)))) q h in
      let x = went (elaborated_block a at b.0 scope) (λ x. ruled (needs 17 (is_boolean p.value.type) (placed scope (stmts.While p.value.expr x)))) q p.further in
      let f = held 17 (is_boolean p.value.type) (placed scope (stmts.While p.value.expr x.value)) q (ruled_ok _ q x.further) in
      says (StmtText-F.While e b.0) (texts.While e b.0) (stmts.While p.value.expr x.value) scope q (texts.rolls-While e b.0)
      (a_loop (value_says a at scope e p.value (ruled_ok _ p.value p.first)) (b.1 scope x.value x.first)) f.1
  layer_says (StmtText-F.Return None) scope q h =
      let f = held 19 (is_nothing (Of at.result)) (placed scope stmts.Return) q (ruled_ok _ q h) in
      says (StmtText-F.Return None) (texts.Return None) stmts.Return scope q (texts.rolls-Return None) a_return f.1
  layer_says (StmtText-F.Return (Some e)) scope q h =
      let p = went (elaborated_value a at scope e) (value_return a at scope) q (ruled_ok _ q h) in
      let f = held 19 (not (is_nothing (Of at.result)) && fits facts at.result p.value.type) (placed scope (stmts.ReturnValue p.value.expr)) q p.further in
      says (StmtText-F.Return (Some e)) (texts.Return (Some e)) (stmts.ReturnValue p.value.expr) scope q (texts.rolls-Return (Some e)) (a_return_with_value (value_says a at scope e p.value p.first)) f.1
  layer_says (StmtText-F.Print e) scope q h =
      let p = went (elaborated_value a at scope e) (printed scope) q (ruled_ok _ q h) in
      let f = held 17 (has_text p.value.type) (placed scope (stmts.Print p.value.expr)) q p.further in
      says (StmtText-F.Print e) (texts.Print e) (stmts.Print p.value.expr) scope q (texts.rolls-Print e) (a_print (value_says a at scope e p.value p.first)) f.1
  layer_says (StmtText-F.Free e) scope q h =
      let p = went (elaborated_value a at scope e) (freed scope) q (ruled_ok _ q h) in
      let f = held 17 (is_class p.value.type) (placed scope (stmts.Free p.value.expr)) q p.further in
      says (StmtText-F.Free e) (texts.Free e) (stmts.Free p.value.expr) scope q (texts.rolls-Free e) (a_free (value_says a at scope e p.value p.first)) f.1
  layer_says (StmtText-F.Call e) scope q h =
      let p = went (elaborated a at scope e) (call_statement scope) q (ruled_ok _ q h) in
      let f = held 20 (is_call p.value.expr) (placed scope (stmts.Call p.value.expr)) q p.further in
      says (StmtText-F.Call e) (texts.Call e) (stmts.Call p.value.expr) scope q (texts.rolls-Call e) (a_call (expr_says a at scope e p.value p.first)) f.1

  -- statements one after the other
  turn_says : (ks : List Kept) (scope : Names) (ss : List Stmt) → in_turn (map (elaborated_stmt a at) (kept_texts ks)) scope ≡ Ok ss → StmtsSay a at scope (kept_texts ks) ss
  turn_says [] scope ss h = subst (λ (z : List Stmt). StmtsSay a at scope [] z) (same_answer h) no_statement
  turn_says (k ∷ ks) scope ss h =
      let p = went (elaborated_stmt a at k.0 scope) (λ p. in_turn (map (elaborated_stmt a at) (kept_texts ks)) p.scope >>= λ more. Ok (p.stmt ∷ more)) ss h in
      let more = went (in_turn (map (elaborated_stmt a at) (kept_texts ks)) p.value.scope) (λ more. Ok (p.value.stmt ∷ more)) ss p.further in
      subst (λ (z : List Stmt). StmtsSay a at scope (k.0 ∷ kept_texts ks) z) (same_answer more.further)
      (one_statement (k.1 scope p.value p.first) (turn_says ks p.value.scope more.value more.first))

  block_says : (y : BlockText-F Kept KeptBlock) (scope : Names) (b : Block)
      → block_step (map-BlockText StmtText BlockText StmtElab BlockElab (elaborated_stmt a at) (elaborated_block a at) (map-BlockText Kept KeptBlock StmtText BlockText (λ (k : Kept). k.0) (λ (k : KeptBlock). k.0) y)) scope ≡ Ok b
      → BlockSays a at scope (roll-BlockText (map-BlockText Kept KeptBlock StmtText BlockText (λ (k : Kept). k.0) (λ (k : KeptBlock). k.0) y)) b
  block_says y scope b h =
      let ss = went (in_turn (map (elaborated_stmt a at) (kept_texts y.statements)) scope) (λ ss. Ok (record { statements = ss })) b h in
      subst (λ (z : Block). BlockSays a at scope (record { statements = kept_texts y.statements }) z) (same_answer ss.further) (a_block (turn_says y.statements scope ss.value ss.first))

  stmt_rolled : (x : StmtText-F StmtText BlockText) (y : StmtText-F Kept KeptBlock) → map-StmtText Kept KeptBlock StmtText BlockText (λ (k : Kept). k.0) (λ (k : KeptBlock). k.0) y ≡ x → Says (roll-StmtText x)
  stmt_rolled x y is = subst (λ z. Says (roll-StmtText z)) is (λ scope q h. layer_says y scope q
      (sym (ap (λ (f : StmtElab). f scope) (fold-roll-StmtText StmtElab BlockElab (stmt_step a at) block_step (map-StmtText Kept KeptBlock StmtText BlockText (λ (k : Kept). k.0) (λ (k : KeptBlock). k.0) y))) ∙ h))

  block_rolled : (x : BlockText-F StmtText BlockText) (y : BlockText-F Kept KeptBlock) → map-BlockText Kept KeptBlock StmtText BlockText (λ (k : Kept). k.0) (λ (k : KeptBlock). k.0) y ≡ x → BlockHolds (roll-BlockText x)
  block_rolled x y is = subst (λ z. BlockHolds (roll-BlockText z)) is (λ scope b h. block_says y scope b
      (sym (ap (λ (f : BlockElab). f scope) (fold-roll-BlockText StmtElab BlockElab (stmt_step a at) block_step (map-BlockText Kept KeptBlock StmtText BlockText (λ (k : Kept). k.0) (λ (k : KeptBlock). k.0) y))) ∙ h))

  pub stmt_says : (s : StmtText) → Says s
  stmt_says = ind-StmtText Says BlockHolds stmt_rolled block_rolled

  pub text_says : (t : BlockText) → BlockHolds t
  text_says = ind-BlockText Says BlockHolds stmt_rolled block_rolled
