-- Statements and blocks are fields.
use Rattle.std.proofs.Common.{◌≡◌, ℕ, zero, suc, ◌+◌, ◌<◌, ◌≤◌, ◌^◌, false, eqb, List, [], ◌∷◌, ◌++◌, length, Result, Ok, refl, sym, ap, subst, ◌∙◌, arith}
use Rattle.std.specs.Prelude.{All}
use Rattle.std.specs.List.{flat_map}
use Rattle.std.specs.Int.{w8, w16, w32}
use Rattle.som_model.specs.Bytes.{AreBytes}
use Rattle.som_model.specs.Steps.{◌>>=◌}
use Rattle.som_image_fields.specs.declared.fault.ImageFault.{ImageFault}
use Rattle.som_image_fields.specs.declared.read.Read.{Read}
use Rattle.som_image_fields.specs.declared.kind.WireType.{WireType}
use Rattle.som_image_fields.specs.declared.method.Ranges.{Ranges}
use Rattle.som_image_fields.specs.Fields.{Stands, done, many_at}
use Rattle.som_image_fields.specs.Spelling.{number, counted, kind, FitsKind, FitsMethod, AreShort}
use Rattle.som_image_fields.specs.Reading.{number_at, kind_at}
use Rattle.som_image_fields.proofs.Parts.{IsField, Stands-join, came, took, went}
use Rattle.som_image_fields.proofs.NumberFields.{byte_field, short_field, long_field}
use Rattle.som_image_fields.proofs.ManyFields.{many_field}
use Rattle.som_image_fields.proofs.TypeFields.{kind_field}
use Rattle.som_image_fields.specs.declared.syntax.WireExpr.{WireExpr}
use Rattle.som_image_fields.specs.declared.syntax.WireStmt.{WireStmt, out-WireStmt, roll-WireStmt, out-roll-WireStmt, roll-out-WireStmt, fold-roll-WireStmt}
use Rattle.som_image_fields.specs.declared.syntax.WireStmt.TheVariants as stmts
use Rattle.som_image_fields.specs.declared.syntax.WireStmt.TheVariants.{rolls-Var, rolls-SetLocal, rolls-SetVariable, rolls-Return, rolls-ReturnValue, rolls-Print, rolls-Free, rolls-Call, rolls-If, rolls-While}
use Rattle.som_image_fields.specs.declared.syntax.WireStmt.TheOpen.{WireStmt-F}
use Rattle.som_image_fields.specs.declared.syntax.WireBlock.{WireBlock}
use Rattle.som_wire.specs.Making.{Reads, of_one, of_two, of_three}
use Rattle.som_image_fields.specs.SyntaxSpelling.{expr, block_step, stmt_step, stmt, block}
use Rattle.som_image_fields.specs.Fitting.{FitsExpr, FitsCall, FitsStmtParts, FitsStatements, FitsStmt, FitsBlock}
use Rattle.som_image_fields.proofs.Forms.{block_is}
use Rattle.som_wire.specs.Reading.{expr_at, call_at, statements_at, stmt_after, is_stmt_tag, stmt_at, block_at}
use Rattle.som_wire.proofs.Made.{IsMade, made_none, made_one, made_two, made_three, IsCase, a_case, pick}
use Rattle.som_wire.proofs.ExprFields.{none_deep, expr_field, call_field}

-- ---- blocks, by the statements that can stand in them

module _ (one : Reads WireStmt) (Fits : WireStmt → Type 0) (field : IsField one stmt Fits) where
  abbrev after_count : List ℕ → Read ℕ → Result (Read WireBlock) ImageFault
  after_count bytes count = many_at (one bytes) count.value count.next >>= λ statements. done (record { statements = statements.value }) statements.next

  statements_takes : (bytes : List ℕ) → AreBytes bytes → (place : ℕ) (r : Read WireBlock) → place ≤ length bytes → statements_at one bytes place ≡ Ok r → Stands bytes place (block r.value) r.next × FitsStatements Fits r.value
  statements_takes bytes all place r le e =
      let n = took (number_at w32) (number w32) (λ n. n < 2 ^ 32) long_field bytes all place le (after_count bytes) r e in
      let m = took (λ bytes. many_at (one bytes) n.0.value) (flat_map stmt) (λ vs. (length vs ≡ n.0.value) × All Fits vs) (many_field one stmt Fits field n.0.value) bytes all n.0.next n.1.within (λ statements. done (record { statements = statements.value }) statements.next) r n.3 in
      let both = Stands-join bytes place (number w32 n.0.value) n.0.next (flat_map stmt m.0.value) m.0.next n.1 m.1 in
      let whole : Stands bytes place (counted w32 stmt m.0.value) m.0.next = subst (λ (k : ℕ). Stands bytes place (number w32 k ++ flat_map stmt m.0.value) m.0.next) (sym m.2.0) both in
      came block (FitsStatements Fits) bytes place (record { statements = m.0.value }) m.0.next r m.3 (subst (λ (t : List ℕ). Stands bytes place t m.0.next) (sym (block_is m.0.value)) whole) (omega (arith, m.2.0, n.2), m.2.1)

  statements_again : (bytes : List ℕ) (place : ℕ) (v : WireBlock) (next : ℕ) → Stands bytes place (block v) next → FitsStatements Fits v → statements_at one bytes place ≡ done v next
  statements_again bytes place v next h fits =
      let whole : Stands bytes place (counted w32 stmt v.statements) next = subst (λ (t : List ℕ). Stands bytes place t next) (block_is v.statements) h in
      let n = went (number_at w32) (number w32) (λ n. n < 2 ^ 32) long_field bytes place (length v.statements) (flat_map stmt v.statements) next whole fits.0 in
      let many = (many_field one stmt Fits field (length v.statements)).again bytes (place + length (number w32 (length v.statements))) v.statements next n.1 (refl, fits.1) in
      rw (n.0, many) refl

  pub statements_field : IsField (statements_at one) block (FitsStatements Fits)
  statements_field = record { takes = statements_takes; again = statements_again }

-- what a statement is, by its outermost part
value_is : (v : WireStmt) (layer : WireStmt-F WireStmt WireBlock) (w : WireStmt) → out-WireStmt v ≡ layer → roll-WireStmt layer ≡ w → v ≡ w
value_is v layer w is rolls = sym (roll-out-WireStmt v) ∙ ap roll-WireStmt is ∙ rolls

-- ---- statements, by what can stand in them

module _ (ranges : Ranges) (known : AreShort ranges) (inner : Reads WireExpr) (Inner : WireExpr → Type 0) (field : IsField inner expr Inner) (call : Reads WireExpr) (Call : WireExpr → Type 0) (call_is : IsField call expr Call) (within : Reads WireBlock) (Block : WireBlock → Type 0) (block_is : IsField within block Block) where
  abbrev Parts : WireStmt-F WireStmt WireBlock → Type 0
  Parts = FitsStmtParts ranges.classes Inner Call Block

  abbrev FitsHere : WireStmt → Type 0
  FitsHere s = Parts (out-WireStmt s)

  stmt_case : {P : Type 0} (one : Reads WireStmt) (make : P → WireStmt) (rest : P → List ℕ) (layer : P → WireStmt-F WireStmt WireBlock) → IsMade one make rest (λ p. Parts (layer p)) → (tag : ℕ) → tag < 256 → ((p : P) → roll-WireStmt (layer p) ≡ make p) → ((p : P) → stmt (roll-WireStmt (layer p)) ≡ tag ∷ rest p) → IsCase one make (λ p. Parts (layer p)) tag stmt FitsHere
  stmt_case one make rest layer made tag small rolls spelled =
      a_case one make rest (λ p. Parts (layer p)) made tag small stmt FitsHere (λ p. ap stmt (sym (rolls p)) ∙ spelled p)
      (λ p parts. subst (λ (x : WireStmt-F WireStmt WireBlock). Parts x) (sym (ap out-WireStmt (sym (rolls p)) ∙ out-roll-WireStmt (layer p))) parts)

  var_case : IsCase (of_two (kind_at ranges.classes false) inner stmts.Var) (λ (p : WireType × WireExpr). stmts.Var p.0 p.1) (λ p. Parts ((λ (p : WireType × WireExpr). WireStmt-F.Var p.0 p.1) p)) 0x01 stmt FitsHere
  var_case = stmt_case (of_two (kind_at ranges.classes false) inner stmts.Var) (λ (p : WireType × WireExpr). stmts.Var p.0 p.1) (λ (p : WireType × WireExpr). kind p.0 ++ expr p.1) (λ (p : WireType × WireExpr). WireStmt-F.Var p.0 p.1)
      (made_two (kind_at ranges.classes false) kind (FitsKind ranges.classes false) (kind_field ranges.classes false known.classes) inner expr Inner field stmts.Var)
      0x01 (omega arith)
      (λ p. rolls-Var p.0 p.1)
      (λ p. fold-roll-WireStmt (List ℕ) (List ℕ) stmt_step block_step (WireStmt-F.Var p.0 p.1))

  local_case : IsCase (of_two (number_at w16) inner stmts.SetLocal) (λ (p : ℕ × WireExpr). stmts.SetLocal p.0 p.1) (λ p. Parts ((λ (p : ℕ × WireExpr). WireStmt-F.SetLocal p.0 p.1) p)) 0x02 stmt FitsHere
  local_case = stmt_case (of_two (number_at w16) inner stmts.SetLocal) (λ (p : ℕ × WireExpr). stmts.SetLocal p.0 p.1) (λ (p : ℕ × WireExpr). (number w16) p.0 ++ expr p.1) (λ (p : ℕ × WireExpr). WireStmt-F.SetLocal p.0 p.1)
      (made_two (number_at w16) (number w16) (λ n. n < 2 ^ 16) short_field inner expr Inner field stmts.SetLocal)
      0x02 (omega arith)
      (λ p. rolls-SetLocal p.0 p.1)
      (λ p. fold-roll-WireStmt (List ℕ) (List ℕ) stmt_step block_step (WireStmt-F.SetLocal p.0 p.1))

  variable_case : IsCase (of_two (number_at w8) inner stmts.SetVariable) (λ (p : ℕ × WireExpr). stmts.SetVariable p.0 p.1) (λ p. Parts ((λ (p : ℕ × WireExpr). WireStmt-F.SetVariable p.0 p.1) p)) 0x03 stmt FitsHere
  variable_case = stmt_case (of_two (number_at w8) inner stmts.SetVariable) (λ (p : ℕ × WireExpr). stmts.SetVariable p.0 p.1) (λ (p : ℕ × WireExpr). (number w8) p.0 ++ expr p.1) (λ (p : ℕ × WireExpr). WireStmt-F.SetVariable p.0 p.1)
      (made_two (number_at w8) (number w8) (λ n. n < 2 ^ 8) byte_field inner expr Inner field stmts.SetVariable)
      0x03 (omega arith)
      (λ p. rolls-SetVariable p.0 p.1)
      (λ p. fold-roll-WireStmt (List ℕ) (List ℕ) stmt_step block_step (WireStmt-F.SetVariable p.0 p.1))

  return_case : IsCase (λ bytes place. done stmts.Return place) (λ (p : Unit {0}). stmts.Return) (λ p. Parts ((λ (p : Unit {0}). WireStmt-F.Return) p)) 0x06 stmt FitsHere
  return_case = stmt_case (λ bytes place. done stmts.Return place) (λ (p : Unit {0}). stmts.Return) (λ (p : Unit {0}). []) (λ (p : Unit {0}). WireStmt-F.Return)
      (made_none stmts.Return)
      0x06 (omega arith)
      (λ p. rolls-Return)
      (λ p. fold-roll-WireStmt (List ℕ) (List ℕ) stmt_step block_step (WireStmt-F.Return))

  value_case : IsCase (of_one inner stmts.ReturnValue) (λ (p : WireExpr). stmts.ReturnValue p) (λ p. Parts ((λ (p : WireExpr). WireStmt-F.ReturnValue p) p)) 0x07 stmt FitsHere
  value_case = stmt_case (of_one inner stmts.ReturnValue) (λ (p : WireExpr). stmts.ReturnValue p) (λ (p : WireExpr). expr p) (λ (p : WireExpr). WireStmt-F.ReturnValue p)
      (made_one inner expr Inner field stmts.ReturnValue)
      0x07 (omega arith)
      (λ p. rolls-ReturnValue p)
      (λ p. fold-roll-WireStmt (List ℕ) (List ℕ) stmt_step block_step (WireStmt-F.ReturnValue p))

  print_case : IsCase (of_one inner stmts.Print) (λ (p : WireExpr). stmts.Print p) (λ p. Parts ((λ (p : WireExpr). WireStmt-F.Print p) p)) 0x08 stmt FitsHere
  print_case = stmt_case (of_one inner stmts.Print) (λ (p : WireExpr). stmts.Print p) (λ (p : WireExpr). expr p) (λ (p : WireExpr). WireStmt-F.Print p)
      (made_one inner expr Inner field stmts.Print)
      0x08 (omega arith)
      (λ p. rolls-Print p)
      (λ p. fold-roll-WireStmt (List ℕ) (List ℕ) stmt_step block_step (WireStmt-F.Print p))

  free_case : IsCase (of_one inner stmts.Free) (λ (p : WireExpr). stmts.Free p) (λ p. Parts ((λ (p : WireExpr). WireStmt-F.Free p) p)) 0x09 stmt FitsHere
  free_case = stmt_case (of_one inner stmts.Free) (λ (p : WireExpr). stmts.Free p) (λ (p : WireExpr). expr p) (λ (p : WireExpr). WireStmt-F.Free p)
      (made_one inner expr Inner field stmts.Free)
      0x09 (omega arith)
      (λ p. rolls-Free p)
      (λ p. fold-roll-WireStmt (List ℕ) (List ℕ) stmt_step block_step (WireStmt-F.Free p))

  call_case : IsCase (of_one call stmts.Call) (λ (p : WireExpr). stmts.Call p) (λ p. Parts ((λ (p : WireExpr). WireStmt-F.Call p) p)) 0x0a stmt FitsHere
  call_case = stmt_case (of_one call stmts.Call) (λ (p : WireExpr). stmts.Call p) (λ (p : WireExpr). expr p) (λ (p : WireExpr). WireStmt-F.Call p)
      (made_one call expr Call call_is stmts.Call)
      0x0a (omega arith)
      (λ p. rolls-Call p)
      (λ p. fold-roll-WireStmt (List ℕ) (List ℕ) stmt_step block_step (WireStmt-F.Call p))

  if_case : IsCase (of_three inner within within stmts.If) (λ (p : WireExpr × WireBlock × WireBlock). stmts.If p.0 p.1 p.2) (λ p. Parts ((λ (p : WireExpr × WireBlock × WireBlock). WireStmt-F.If p.0 p.1 p.2) p)) 0x04 stmt FitsHere
  if_case = stmt_case (of_three inner within within stmts.If) (λ (p : WireExpr × WireBlock × WireBlock). stmts.If p.0 p.1 p.2) (λ (p : WireExpr × WireBlock × WireBlock). expr p.0 ++ block p.1 ++ block p.2) (λ (p : WireExpr × WireBlock × WireBlock). WireStmt-F.If p.0 p.1 p.2)
      (made_three inner expr Inner field within block Block block_is within block Block block_is stmts.If)
      0x04 (omega arith)
      (λ p. rolls-If p.0 p.1 p.2)
      (λ p. fold-roll-WireStmt (List ℕ) (List ℕ) stmt_step block_step (WireStmt-F.If p.0 p.1 p.2))

  while_case : IsCase (of_two inner within stmts.While) (λ (p : WireExpr × WireBlock). stmts.While p.0 p.1) (λ p. Parts ((λ (p : WireExpr × WireBlock). WireStmt-F.While p.0 p.1) p)) 0x05 stmt FitsHere
  while_case = stmt_case (of_two inner within stmts.While) (λ (p : WireExpr × WireBlock). stmts.While p.0 p.1) (λ (p : WireExpr × WireBlock). expr p.0 ++ block p.1) (λ (p : WireExpr × WireBlock). WireStmt-F.While p.0 p.1)
      (made_two inner expr Inner field within block Block block_is stmts.While)
      0x05 (omega arith)
      (λ p. rolls-While p.0 p.1)
      (λ p. fold-roll-WireStmt (List ℕ) (List ℕ) stmt_step block_step (WireStmt-F.While p.0 p.1))

  stmt_takes : (bytes : List ℕ) → AreBytes bytes → (place : ℕ) (tag : Read ℕ) (r : Read WireStmt) → Stands bytes place (number w8 tag.value) tag.next → stmt_after ranges inner call within bytes place tag ≡ Ok r → Stands bytes place (stmt r.value) r.next × FitsHere r.value
  stmt_takes bytes all place tag r stands e =
      pick _ (eqb tag.value 0x01) _ _ r e (var_case.takes bytes all place tag r stands) (λ e.
      pick _ (eqb tag.value 0x02) _ _ r e (local_case.takes bytes all place tag r stands) (λ e.
      pick _ (eqb tag.value 0x03) _ _ r e (variable_case.takes bytes all place tag r stands) (λ e.
      pick _ (eqb tag.value 0x06) _ _ r e (return_case.takes bytes all place tag r stands) (λ e.
      pick _ (eqb tag.value 0x07) _ _ r e (value_case.takes bytes all place tag r stands) (λ e.
      pick _ (eqb tag.value 0x08) _ _ r e (print_case.takes bytes all place tag r stands) (λ e.
      pick _ (eqb tag.value 0x09) _ _ r e (free_case.takes bytes all place tag r stands) (λ e.
      pick _ (eqb tag.value 0x0a) _ _ r e (call_case.takes bytes all place tag r stands) (λ e.
      pick _ (eqb tag.value 0x04) _ _ r e (if_case.takes bytes all place tag r stands) (λ e.
      pick _ (eqb tag.value 0x05) _ _ r e (while_case.takes bytes all place tag r stands) (λ e.
      absurd (let z = e in cc)))))))))))

  stmt_again : (bytes : List ℕ) (place : ℕ) (v : WireStmt) (next : ℕ) → Stands bytes place (stmt v) next → FitsHere v → (number_at w8 bytes place >>= stmt_after ranges inner call within bytes place) ≡ done v next
  stmt_again bytes place v next h fits = by (out-WireStmt v) refl fits
    where
      by : (layer : WireStmt-F WireStmt WireBlock) → out-WireStmt v ≡ layer → Parts layer → (number_at w8 bytes place >>= stmt_after ranges inner call within bytes place) ≡ done v next
      by (WireStmt-F.Var a b) is fits = var_case.again bytes place (a, b) v next (value_is v (WireStmt-F.Var a b) (stmts.Var a b) is (rolls-Var a b)) h fits (stmt_after ranges inner call within bytes place) refl
      by (WireStmt-F.SetLocal a b) is fits = local_case.again bytes place (a, b) v next (value_is v (WireStmt-F.SetLocal a b) (stmts.SetLocal a b) is (rolls-SetLocal a b)) h fits (stmt_after ranges inner call within bytes place) refl
      by (WireStmt-F.SetVariable a b) is fits = variable_case.again bytes place (a, b) v next (value_is v (WireStmt-F.SetVariable a b) (stmts.SetVariable a b) is (rolls-SetVariable a b)) h fits (stmt_after ranges inner call within bytes place) refl
      by WireStmt-F.Return is fits = return_case.again bytes place tt v next (value_is v WireStmt-F.Return stmts.Return is rolls-Return) h fits (stmt_after ranges inner call within bytes place) refl
      by (WireStmt-F.ReturnValue a) is fits = value_case.again bytes place a v next (value_is v (WireStmt-F.ReturnValue a) (stmts.ReturnValue a) is (rolls-ReturnValue a)) h fits (stmt_after ranges inner call within bytes place) refl
      by (WireStmt-F.Print a) is fits = print_case.again bytes place a v next (value_is v (WireStmt-F.Print a) (stmts.Print a) is (rolls-Print a)) h fits (stmt_after ranges inner call within bytes place) refl
      by (WireStmt-F.Free a) is fits = free_case.again bytes place a v next (value_is v (WireStmt-F.Free a) (stmts.Free a) is (rolls-Free a)) h fits (stmt_after ranges inner call within bytes place) refl
      by (WireStmt-F.Call a) is fits = call_case.again bytes place a v next (value_is v (WireStmt-F.Call a) (stmts.Call a) is (rolls-Call a)) h fits (stmt_after ranges inner call within bytes place) refl
      by (WireStmt-F.If a b c) is fits = if_case.again bytes place (a, b, c) v next (value_is v (WireStmt-F.If a b c) (stmts.If a b c) is (rolls-If a b c)) h fits (stmt_after ranges inner call within bytes place) refl
      by (WireStmt-F.While a b) is fits = while_case.again bytes place (a, b) v next (value_is v (WireStmt-F.While a b) (stmts.While a b) is (rolls-While a b)) h fits (stmt_after ranges inner call within bytes place) refl

-- ---- where so many levels are left

module _ (ranges : Ranges) (known : AreShort ranges) where
  pub stmt_field : (left : ℕ) → IsField (stmt_at left ranges) stmt (FitsStmt left ranges.classes (FitsMethod ranges))
  unfolding stmt_at FitsStmt
  stmt_field zero = record {
    takes = λ bytes all place r le e. absurd (none_deep is_stmt_tag bytes place r e);
    again = λ bytes place v next h fits. absurd fits;
  }
  stmt_field (suc left) = record {
    takes = λ bytes all place r le e.
        let t = took (number_at w8) (number w8) (λ n. n < 2 ^ 8) byte_field bytes all place le (stmt_after ranges (expr_at left ranges) (call_at left ranges) (statements_at (stmt_at left ranges)) bytes place) r e in
        stmt_takes ranges known (expr_at left ranges) (FitsExpr left ranges.classes (FitsMethod ranges)) (expr_field ranges known left) (call_at left ranges) (FitsCall left ranges.classes (FitsMethod ranges)) (call_field ranges known left) (statements_at (stmt_at left ranges)) (FitsStatements (FitsStmt left ranges.classes (FitsMethod ranges))) (statements_field (stmt_at left ranges) (FitsStmt left ranges.classes (FitsMethod ranges)) (stmt_field left)) bytes all place t.0 r t.1 t.3;
    again = stmt_again ranges known (expr_at left ranges) (FitsExpr left ranges.classes (FitsMethod ranges)) (expr_field ranges known left) (call_at left ranges) (FitsCall left ranges.classes (FitsMethod ranges)) (call_field ranges known left) (statements_at (stmt_at left ranges)) (FitsStatements (FitsStmt left ranges.classes (FitsMethod ranges))) (statements_field (stmt_at left ranges) (FitsStmt left ranges.classes (FitsMethod ranges)) (stmt_field left));
  }

  pub block_field : (left : ℕ) → IsField (block_at left ranges) block (FitsBlock left ranges.classes (FitsMethod ranges))
  unfolding block_at
  block_field left = statements_field (stmt_at left ranges) (FitsStmt left ranges.classes (FitsMethod ranges)) (stmt_field left)
