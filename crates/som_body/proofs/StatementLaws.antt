-- The readers of statements and blocks read their languages, whatever the levels.
use Rattle.std.proofs.Common.{◌≡◌, ℕ, zero, suc, ◌+◌, ◌-◌, List, [], ◌∷◌, ◌++◌, Bool, true, false, cond, Option, Some, None, refl, ◌∙◌, subst, append_assoc, length-append, arith}
use Rattle.std.proofs.lemmas.List.{append-nil}
use Rattle.som_parse.specs.Languages.{Lang, Repeated, nothing_yet, one_kept, one_left_out, Kept, it_is_kept}
use Rattle.som_parse.specs.Readers.{Parser, ◌>>◌, ◌>>=◌, pure, stop, expect, keeping}
use Rattle.som_parse.specs.Tokens.{is_sign, is_key, word}
use Rattle.som_parse.specs.declared.cursor.Stop.TheVariants.{Syntax}
use Rattle.som_parse.specs.declared.token.Key.TheVariants as key
use Rattle.som_parse.specs.declared.token.Sign.TheVariants as sign
use Rattle.som_parse.specs.declared.token.Token.{Token}
use Rattle.som_parse.specs.declared.token.Token.TheVariants as token
use Rattle.som_ast.specs.declared.words.TypeName.TheVariants as types
use Rattle.som_ast.specs.declared.words.Word.{Word}
use Rattle.som_parse.proofs.Laws.{Lawful, Member, wider, bind_law, pure_law, stop_law, when_law}
use Rattle.som_parse.proofs.Repetition.{repeated_law, keeping_law}
use Rattle.som_parse.proofs.Steps.{is_key_true, after_sign, after_key, expect_then, keyword_then}
use Rattle.som_parse.proofs.Turns.{IsLong}
use Rattle.som_body.specs.Grammar as g
use Rattle.som_body.specs.Levels.{down}
use Rattle.som_body.specs.Reading as r
use Rattle.som_body.specs.Reading.{tall}
use Rattle.som_body.specs.declared.level.Line.TheVariants as line
use Rattle.som_body.specs.declared.level.Tall.{Tall}
use Rattle.som_ast.specs.declared.expression.ExprText.{ExprText}
use Rattle.som_ast.specs.declared.expression.ExprText.TheVariants as expr
use Rattle.som_body.proofs.LineLaws.{Stepped, at_law, steps_law}
use Rattle.som_body.proofs.OperatorLaws.{too_deep_law}
use Rattle.som_body.proofs.PrimaryLaws.{OnLine}
use Rattle.som_body.proofs.StartLaws.{named_atom, postfix_starts, zero_expr}
use Rattle.som_body.proofs.WordLaws.{any_word_law, name_law, kind_law}
use Rattle.som_body.specs.StatementReading as sr
use Rattle.som_body.specs.Statements as s
use Rattle.som_ast.specs.declared.body.BlockText.{BlockText}
use Rattle.som_ast.specs.declared.body.StmtText.{StmtText}
use Rattle.som_ast.specs.declared.body.StmtText.TheVariants as stmt
use Rattle.som_body.proofs.CallForms.{step_is_call, lookup_is_call, dispatch_is_call}

pub all_kept : {A : Type 0} {L : Lang A} {u : List Token} {o : Option A} → Kept L u o → o ≡ None → ⊥
all_kept (it_is_kept h) e = cc

module _ (text_at : ℕ → List ℕ) where
  abbrev pub Statement : Lang StmtText
  Statement u x = (l : List ℕ) × s.IsStmt text_at l u x

  abbrev pub If : Lang StmtText
  If u x = (l : List ℕ) × s.IsIf text_at l u x

  abbrev pub Else : Lang BlockText
  Else u x = (l : List ℕ) × s.IsElse text_at l u x

  abbrev pub Block : Lang BlockText
  Block u x = (l : List ℕ) × s.IsBlock text_at l u x

  abbrev pub Statements : Lang (List StmtText)
  Statements u x = (l : List ℕ) × s.IsStmts text_at l u x

  -- ---- call statements

  -- a call by a plain word
  abbrev step_tokens : List Token
  step_tokens = token.Mark sign.Dot ∷ token.Word key.Plain 0 ∷ token.Mark sign.Open ∷ token.Mark sign.Close ∷ []

  -- any postfix without a call goes on to one
  stepped_on : (u : List Token) (l : List ℕ) (a : ExprText) → g.IsStepped text_at l u a → Statement (u ++ (step_tokens ++ token.Mark sign.Semicolon ∷ [])) (stmt.Call (expr.Call a (word text_at 0) []))
  stepped_on u l a x = subst (λ y. Statement y (stmt.Call (expr.Call a (word text_at 0) []))) (append_assoc u step_tokens (token.Mark sign.Semicolon ∷ []))
      (_, s.a_call (g.a_stepped (g.a_step x (g.a_word key.Plain 0) g.no_arguments)) (step_is_call a (word text_at 0) []))

  some_call : {l : List ℕ} {u : List Token} {a : ExprText} → g.IsPostfix text_at l u a → s.is_call a ≡ false → Member (λ v. Statement (u ++ v))
  some_call (g.a_stepped {l = l} {u = u} {a = a} x) e = record { tokens = step_tokens ++ token.Mark sign.Semicolon ∷ []; value = stmt.Call (expr.Call a (word text_at 0) []); reads = stepped_on u l a x }
  some_call (g.a_lookup {t = t} {a = a} {n = m} {g = x} i j) e = let f : s.is_call (expr.Lookup t a m x) ≡ true = lookup_is_call t a m x in cc
  some_call (g.a_dispatch {t = t} {a = a} {n = m} {g = x} i j) e = let f : s.is_call (expr.Dispatch t a m x) ≡ true = dispatch_is_call t a m x in cc

  finish_by : (u : List Token) (a : Tall) → OnLine text_at line.Postfix u a → (b : Bool) → s.is_call a.tree ≡ b → Lawful (λ v. Statement (u ++ v)) (cond b (expect sign.Semicolon >> pure (stmt.Call a.tree)) (stop Syntax))
  finish_by u a h true is = expect_then _ _ sign.Semicolon (pure_law _ (stmt.Call a.tree) (_, s.a_call h.2 is))
  finish_by u a h false is = stop_law _ (some_call h.2 is)

  finish_law : (u : List Token) (a : Tall) → OnLine text_at line.Postfix u a → Lawful (λ v. Statement (u ++ v)) (sr.finish a)
  finish_law u a h = finish_by u a h (s.is_call a.tree) refl

  module _ (e : ℕ) where
    -- what begins with a stepped expression
    stepped_finish_law : (u : List Token) (a : Tall) → Stepped text_at u a → Lawful (λ v. Statement (u ++ v)) (r.steps_from text_at e a >>= sr.finish)
    stepped_finish_law u a h = bind_law (λ v. Stepped text_at (u ++ v)) _ _ _ (steps_law text_at (r.at text_at (e - 1)) (at_law text_at (e - 1)) e u a h) (λ v b i.
        wider (λ w. Statement ((u ++ v) ++ w)) (λ w. Statement (u ++ (v ++ w))) _ (λ w c k. (k.0, subst (λ y. s.IsStmt text_at k.0 y c) (append_assoc u v w) k.1)) (finish_law (u ++ v) b (i.0, i.1, g.a_stepped i.2)))

    call_statement_law : Lawful Statement (sr.call_statement text_at e)
    unfolding sr.call_statement
    call_statement_law = bind_law (OnLine text_at line.Postfix) Statement _ _ (at_law text_at e line.Postfix) (λ u a h. finish_law u a h)

    -- an expression and ";", after the tokens u
    ending_law : (u : List Token) (f : ExprText → StmtText) → ((v : List Token) (a : Tall) → OnLine text_at line.Expr v a → Statement (u ++ (v ++ token.Mark sign.Semicolon ∷ [])) (f a.tree)) → Lawful (λ v. Statement (u ++ v)) (sr.ending text_at e f)
    unfolding sr.ending
    ending_law u f made = bind_law (OnLine text_at line.Expr) _ _ _ (at_law text_at e line.Expr) (λ v a h. expect_then _ _ sign.Semicolon (pure_law _ (f a.tree) (made v a h)))

    variable_law : (x : ℕ) → Lawful (λ u. Statement (token.Word key.Var x ∷ u)) (sr.variable text_at e)
    unfolding sr.variable sr.ending
    variable_law x = bind_law (g.IsName text_at) _ _ _ (name_law text_at) (λ u n h. expect_then _ _ sign.Colon (bind_law (g.IsType text_at) _ _ _ (kind_law text_at) (λ v t i. expect_then _ _ sign.Assign
        (bind_law (OnLine text_at line.Expr) _ _ _ (at_law text_at e line.Expr) (λ w a j. expect_then _ _ sign.Semicolon (pure_law _ (stmt.Var n t a.tree) (_, s.a_var h i j.2)))))))

    set_law : (u : List Token) (n : Word) → g.IsName text_at u n → Lawful (λ v. Statement (u ++ token.Mark sign.Assign ∷ v)) (sr.ending text_at e (λ a. stmt.Set n a))
    unfolding sr.ending
    set_law u n h = bind_law (OnLine text_at line.Expr) _ _ _ (at_law text_at e line.Expr) (λ v a i. expect_then _ _ sign.Semicolon (pure_law _ (stmt.Set n a.tree) (_, s.a_set h i.2)))

    name_stepped : {u : List Token} {n : Word} → g.IsName text_at u n → Stepped text_at u (tall (expr.Name n) 1)
    name_stepped (g.a_name k p e) = (1 ∷ [], refl, g.no_step (g.an_atom (token.Word k p) (named_atom text_at k p e)))

    named_statement_law : Lawful Statement (sr.named_statement text_at e)
    unfolding sr.named_statement
    named_statement_law = bind_law (g.IsName text_at) Statement _ _ (name_law text_at) (λ u n h. after_sign (λ v. Statement (u ++ v)) _ _ sign.Assign (set_law u n h) (stepped_finish_law u (tall (expr.Name n) 1) (name_stepped h)))

    set_variable_law : (x : ℕ) (u : List Token) (m : Word) → g.IsWord text_at u m → Lawful (λ v. Statement (token.Word key.SomThis x ∷ token.Mark sign.Dot ∷ (u ++ token.Mark sign.Assign ∷ v))) (sr.ending text_at e (λ a. stmt.SetVariable m a))
    unfolding sr.ending
    set_variable_law x u m h = bind_law (OnLine text_at line.Expr) _ _ _ (at_law text_at e line.Expr) (λ v a i. expect_then _ _ sign.Semicolon (pure_law _ (stmt.SetVariable m a.tree) (_, s.a_set_variable h i.2)))

    own_statement_law : (x : ℕ) → Lawful (λ u. Statement (token.Word key.SomThis x ∷ u)) (sr.own_statement text_at e)
    unfolding sr.own_statement
    own_statement_law x = expect_then _ _ sign.Dot (bind_law (g.IsWord text_at) _ _ _ (any_word_law text_at) (λ u m h.
        after_sign (λ v. Statement (token.Word key.SomThis x ∷ token.Mark sign.Dot ∷ (u ++ v))) _ _ sign.Assign (set_variable_law x u m h)
        (stepped_finish_law (token.Word key.SomThis x ∷ token.Mark sign.Dot ∷ u) (tall (expr.Variable m) 1) (1 ∷ 1 ∷ 1 ∷ [], refl, g.no_step (g.a_variable h)))))

    returned_law : (x : ℕ) → Lawful (λ u. Statement (token.Word key.Return x ∷ u)) (sr.returned text_at e)
    unfolding sr.returned
    returned_law x = after_sign (λ u. Statement (token.Word key.Return x ∷ u)) _ _ sign.Semicolon (pure_law _ (stmt.Return None) (_, s.a_return))
        (ending_law (token.Word key.Return x ∷ []) (λ a. stmt.Return (Some a)) (λ v a h. (_, s.a_return_value h.2)))

    -- ---- blocks, over lawful readers of statements
    module _ (inner inner_if : Parser StmtText) (law : Lawful Statement inner) (if_law : Lawful If inner_if) where
      long_statement : {l : List ℕ} {u : List Token} {x : StmtText} → s.IsStmt text_at l u x → IsLong u
      long_statement (s.a_var i j k) = omega arith
      long_statement (s.a_set i j) = simp length-append (omega arith)
      long_statement (s.a_set_variable i j) = omega arith
      long_statement (s.an_if (s.the_if i j k)) = omega arith
      long_statement (s.a_while i j) = omega arith
      long_statement s.a_return = omega arith
      long_statement (s.a_return_value i) = omega arith
      long_statement (s.a_print i) = omega arith
      long_statement (s.a_free i) = omega arith
      long_statement (s.a_call i j) = simp length-append (omega arith)

      long_kept : {u : List Token} {o : Option StmtText} → Kept Statement u o → IsLong u
      long_kept (it_is_kept h) = long_statement h.1

      one_more : {u v : List Token} {xs : List StmtText} {x : StmtText} → Statements u xs → Kept Statement v (Some x) → Statements (u ++ v) (xs ++ x ∷ [])
      one_more h (it_is_kept i) = (h.0 ++ i.0, s.one_statement h.1 i.1)

      kept : {u : List Token} {xs : List StmtText} → Repeated (Kept Statement) u xs → Statements u xs
      kept nothing_yet = ([], s.no_statement)
      kept (one_kept h i) = one_more (kept h) i
      kept (one_left_out h i) = absurd (all_kept i refl)

      block_of : {u : List Token} {xs : List StmtText} → Repeated (Kept Statement) u xs → Block (token.Mark sign.OpenBrace ∷ (u ++ token.Mark sign.CloseBrace ∷ [])) (s.block_of xs)
      block_of h = let k = kept h in (_, s.a_block k.1)

      pub block_law : Lawful Block (sr.block text_at inner inner_if)
      unfolding sr.block
      block_law = expect_then Block _ sign.OpenBrace (bind_law (Repeated (Kept Statement)) _ _ _ (repeated_law (is_sign sign.CloseBrace) (Kept Statement) (keeping inner) (keeping_law Statement inner law) (λ u o h. long_kept h)) (λ u xs h.
          expect_then _ _ sign.CloseBrace (pure_law _ (s.block_of xs) (block_of h))))

      while_law : (x : ℕ) → Lawful (λ u. Statement (token.Word key.While x ∷ u)) (sr.while_statement text_at inner inner_if e)
      unfolding sr.while_statement
      while_law x = expect_then _ _ sign.Open (bind_law (OnLine text_at line.Expr) _ _ _ (at_law text_at e line.Expr) (λ u a h. expect_then _ _ sign.Close
          (bind_law Block _ _ _ block_law (λ v b i. pure_law _ (stmt.While a.tree b) (down (0 ∷ 0 ∷ (h.0 ++ 0 ∷ i.0)), rw append-nil (s.a_while h.2 i.1))))))

      else_law : Lawful Else (sr.else_part text_at inner inner_if)
      unfolding sr.else_part
      else_law = after_key Else _ _ key.Else (λ x. when_law (λ u. Else (token.Word key.Else x ∷ u)) (is_sign sign.OpenBrace) _ _
          (wider Block (λ u. Else (token.Word key.Else x ∷ u)) _ (λ u b h. (0 ∷ h.0, s.else_block h.1)) block_law)
          (bind_law If _ _ _ if_law (λ u b h. pure_law _ (s.block_of (b ∷ [])) (0 ∷ h.0, rw append-nil (s.else_if h.1))))) (pure_law _ (s.block_of []) ([], s.no_else))

      pub if_statement_law : Lawful If (sr.if_statement text_at inner inner_if e)
      unfolding sr.if_statement
      if_statement_law = keyword_then If _ key.If (λ x. expect_then _ _ sign.Open (bind_law (OnLine text_at line.Expr) _ _ _ (at_law text_at e line.Expr) (λ u a h. expect_then _ _ sign.Close
          (bind_law Block _ _ _ block_law (λ v b i. bind_law Else _ _ _ else_law (λ w c j. pure_law _ (stmt.If a.tree b c) (down (0 ∷ 0 ∷ (h.0 ++ 0 ∷ (i.0 ++ j.0))), rw append-nil (s.the_if h.2 i.1 j.1))))))))

      other_law : Lawful Statement (sr.other_statement text_at inner inner_if e)
      other_law = after_key Statement _ _ key.SomThis own_statement_law (when_law Statement sr.begins_name _ _ named_statement_law call_statement_law)

      pub statement_law : Lawful Statement (sr.statement text_at inner inner_if e)
      unfolding sr.statement
      statement_law = when_law Statement (is_key key.If) _ _ (wider If Statement _ (λ u x h. (h.0, s.an_if h.1)) if_statement_law) (after_key Statement _ _ key.Var variable_law
          (after_key Statement _ _ key.While while_law (after_key Statement _ _ key.Return returned_law
          (after_key Statement _ _ key.Print (λ x. ending_law (token.Word key.Print x ∷ []) (λ a. stmt.Print a) (λ v a h. (_, s.a_print h.2)))
          (after_key Statement _ _ key.Free (λ x. ending_law (token.Word key.Free x ∷ []) (λ a. stmt.Free a) (λ v a h. (_, s.a_free h.2))) other_law)))))

  -- ---- no level is left
  empty_block : s.IsBlock text_at (0 ∷ 0 ∷ []) (token.Mark sign.OpenBrace ∷ token.Mark sign.CloseBrace ∷ []) (s.block_of [])
  empty_block = s.a_block s.no_statement

  abbrev if_tokens : List Token
  if_tokens = token.Mark sign.Open ∷ token.Number 0 ∷ token.Mark sign.Close ∷ token.Mark sign.OpenBrace ∷ token.Mark sign.CloseBrace ∷ []

  some_if : (p : ℕ) → Member (λ u. If (token.Word key.If p ∷ u))
  some_if p = record { tokens = if_tokens; value = stmt.If (expr.Number 0) (s.block_of []) (s.block_of []); reads = (_, s.the_if (zero_expr text_at) empty_block s.no_else) }

  abbrev value_tokens : List Token
  value_tokens = token.Number 0 ∷ token.Mark sign.Semicolon ∷ []

  call_by : (b : Bool) (t : Token) (m : Member (λ u. OnLine text_at line.Postfix (t ∷ u))) → s.is_call m.value.tree ≡ b → Member (λ u. Statement (t ∷ u))
  call_by true t m is = record { tokens = m.tokens ++ token.Mark sign.Semicolon ∷ []; value = stmt.Call m.value.tree; reads = (_, s.a_call m.reads.2 is) }
  call_by false t m is = let n = some_call m.reads.2 is in record { tokens = m.tokens ++ n.tokens; value = n.value; reads = n.reads }

  call_starts : (t : Token) → Member (λ u. OnLine text_at line.Postfix (t ∷ u)) → Member (λ u. Statement (t ∷ u))
  call_starts t m = call_by (s.is_call m.value.tree) t m refl

  stmt_starts : (t : Token) → sr.begins_stmt (Some t) ≡ true → Member (λ u. Statement (t ∷ u))
  stmt_starts (token.Word key.Var p) e = record {
    tokens = token.Word key.Plain 0 ∷ token.Mark sign.Colon ∷ token.Word key.Long 0 ∷ token.Mark sign.Assign ∷ token.Number 0 ∷ token.Mark sign.Semicolon ∷ [];
    value = stmt.Var (word text_at 0) types.Long (expr.Number 0);
    reads = (_, s.a_var (g.a_name key.Plain 0 refl) g.type_long (zero_expr text_at));
  }
  stmt_starts (token.Word key.If p) e = let m = some_if p in record { tokens = m.tokens; value = m.value; reads = (m.reads.0, s.an_if m.reads.1) }
  stmt_starts (token.Word key.While p) e = record { tokens = if_tokens; value = stmt.While (expr.Number 0) (s.block_of []); reads = (_, s.a_while (zero_expr text_at) empty_block) }
  stmt_starts (token.Word key.Return p) e = record { tokens = token.Mark sign.Semicolon ∷ []; value = stmt.Return None; reads = (_, s.a_return) }
  stmt_starts (token.Word key.Print p) e = record { tokens = value_tokens; value = stmt.Print (expr.Number 0); reads = (_, s.a_print (zero_expr text_at)) }
  stmt_starts (token.Word key.Free p) e = record { tokens = value_tokens; value = stmt.Free (expr.Number 0); reads = (_, s.a_free (zero_expr text_at)) }
  stmt_starts t e = call_starts t (postfix_starts text_at t e)

  if_starts : (t : Token) → is_key key.If (Some t) ≡ true → Member (λ u. If (t ∷ u))
  if_starts t e = let w = is_key_true key.If t e in rw (w.is) (some_if w.place)

  zero_stmt : Lawful Statement (r.too_deep sr.begins_stmt)
  zero_stmt = too_deep_law Statement sr.begins_stmt refl stmt_starts (record { tokens = token.Word key.Return 0 ∷ token.Mark sign.Semicolon ∷ []; value = stmt.Return None; reads = (_, s.a_return) })

  zero_if : Lawful If (r.too_deep (is_key key.If))
  zero_if = too_deep_law If (is_key key.If) refl if_starts (let m = some_if 0 in record { tokens = token.Word key.If 0 ∷ m.tokens; value = m.value; reads = m.reads })

  mutual
    unfolding sr.statement_at

    pub statement_at_law : (d : ℕ) → Lawful Statement (sr.statement_at text_at d)
    statement_at_law zero = zero_stmt
    statement_at_law (suc e) = statement_law e (sr.statement_at text_at e) (sr.if_at text_at e) (statement_at_law e) (if_at_law e)

    pub if_at_law : (d : ℕ) → Lawful If (sr.if_at text_at d)
    if_at_law zero = zero_if
    if_at_law (suc e) = if_statement_law e (sr.statement_at text_at e) (sr.if_at text_at e) (statement_at_law e) (if_at_law e)
