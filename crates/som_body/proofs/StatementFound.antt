-- What the grammar derives as a statement or a block is read where its levels suffice, and else is answered as a level too many.
use Rattle.std.proofs.Common.{◌≡◌, ℕ, zero, suc, ◌+◌, ◌<◌, ◌≤◌, List, [], ◌∷◌, ◌++◌, length, take, Bool, true, false, Option, Some, None, refl, ◌∙◌, ap, append_assoc, length-append, arith}
use Rattle.som_parse.specs.Readers.{Outcome, Parser, ◌>>=◌, one_more, repeated, keeping}
use Rattle.som_parse.specs.Tokens.{head, is_sign, is_key, same_key, same_sign}
use Rattle.som_parse.specs.declared.cursor.Turn.{Turn}
use Rattle.som_parse.specs.declared.token.Key.{Key}
use Rattle.som_parse.specs.declared.token.Key.TheVariants as key
use Rattle.som_parse.specs.declared.token.Sign.TheVariants as sign
use Rattle.som_parse.specs.declared.token.Token.{Token}
use Rattle.som_parse.specs.declared.token.Token.TheVariants as token
use Rattle.som_ast.specs.declared.words.TypeName.{TypeName}
use Rattle.som_ast.specs.declared.words.Word.{Word}
use Rattle.som_parse.proofs.Found.{expect_found, keyword_found}
use Rattle.som_parse.proofs.Steps.{apart_key, same_key_self}
use Rattle.som_body.specs.Grammar as g
use Rattle.som_body.specs.Levels.{top, down}
use Rattle.som_body.specs.Reading as r
use Rattle.som_ast.specs.declared.expression.ExprText.{ExprText}
use Rattle.som_body.proofs.FormsFound.{opening, closing, closes, word_read, name_read, kind_read}
use Rattle.som_body.proofs.LevelFound.{Found, now, now_one, single, passed, made, next, lifted, Climbs, climbs_first, climbs_end, level_chain}
use Rattle.som_body.proofs.LineFound.{expr_found}
use Rattle.som_body.proofs.StartsOf.{expr_starts, postfix_starts}
use Rattle.som_body.proofs.Strengths.{Starts, starts_deep, starts_low, starts_not, no_semicolon}
use Rattle.som_body.specs.StatementReading as sr
use Rattle.som_body.specs.Statements as s
use Rattle.som_body.specs.Statements.{block_of}
use Rattle.som_ast.specs.declared.body.BlockText.{BlockText}
use Rattle.som_ast.specs.declared.body.StmtText.{StmtText}
use Rattle.som_ast.specs.declared.body.StmtText.TheVariants as stmt
use Rattle.som_body.proofs.CallFound.{call_found, name_first}

abbrev semicolon : Token
semicolon = token.Mark sign.Semicolon

-- no `else` follows
abbrev pub NoElse : List Token → Type 0
NoElse z = is_key key.Else (head z) ≡ false

-- ---- what begins a statement

stmt_wide : (t : Token) → r.begins_postfix (Some t) ≡ true → sr.begins_stmt (Some t) ≡ true
stmt_wide (token.Word key.Var p) e = refl
stmt_wide (token.Word key.If p) e = refl
stmt_wide (token.Word key.While p) e = refl
stmt_wide (token.Word key.Return p) e = refl
stmt_wide (token.Word key.Print p) e = refl
stmt_wide (token.Word key.Free p) e = refl
stmt_wide t e = e

name_begins : (k : Key) (p : ℕ) → g.is_name k ≡ true → sr.begins_stmt (Some (token.Word k p)) ≡ true
name_begins key.Var p e = refl
name_begins key.If p e = refl
name_begins key.While p e = refl
name_begins key.Return p e = refl
name_begins key.Print p e = refl
name_begins key.Free p e = refl
name_begins key.Lookup p e = refl
name_begins key.Dispatch p e = refl
name_begins key.True p e = refl
name_begins key.False p e = refl
name_begins key.Nil p e = refl
name_begins key.Me p e = refl
name_begins key.Manager p e = refl
name_begins key.SomThis p e = refl
name_begins key.Length p e = refl
name_begins key.TextOf p e = refl
name_begins key.New p e = refl
name_begins key.Class p e = refl
name_begins key.Isa p e = refl
name_begins key.Proxy p e = refl
name_begins key.Host p e = refl
name_begins key.Parent p e = refl
name_begins key.Parents p e = refl
name_begins k p e = e

no_else : (t : Token) → sr.begins_stmt (Some t) ≡ true → is_key key.Else (Some t) ≡ false
no_else (token.Word k p) e = apart_key (λ j. sr.begins_stmt (Some (token.Word j p))) k key.Else e refl
no_else t e = refl

no_brace : (t : Token) → sr.begins_stmt (Some t) ≡ true → is_sign sign.CloseBrace (Some t) ≡ false
unfolding same_sign
no_brace (token.Mark sign.Open) e = refl
no_brace (token.Mark x) e = cc
no_brace t e = refl

if_no_brace : (t : Token) → is_key key.If (Some t) ≡ true → is_sign sign.OpenBrace (Some t) ≡ false
if_no_brace (token.Mark x) e = cc
if_no_brace t e = refl

shorter : {test : Option Token → Bool} {l : List ℕ} (v z : List Token) → Starts test l v → length z < length (v ++ z)
shorter v z x = rw (x.is) (simp length-append (omega arith))

high_down : (k : List ℕ) → 0 < top (take 1 (down (k ++ 0 ∷ [])))
high_down [] = omega arith
high_down (n ∷ k) = omega arith

module _ (text_at : ℕ → List ℕ) where
  starting : {test : Option Token → Bool} {l : List ℕ} (t : Token) (v : List Token) → test (Some t) ≡ true → 0 < top (take 1 l) → Starts test l (t ∷ v)
  starting t v e high = record { first = t; others = v; is = refl; begins = e; high = high }

  name_starts : {l : List ℕ} {u : List Token} {n : Word} (v : List Token) → 0 < top (take 1 l) → g.IsName text_at u n → Starts sr.begins_stmt l (u ++ v)
  name_starts v high (g.a_name k p e) = starting (token.Word k p) v (name_begins k p e) high

  if_starts : {l : List ℕ} {u : List Token} {x : StmtText} → s.IsIf text_at l u x → Starts (is_key key.If) l u
  if_starts (s.the_if {p = p} i j k) = starting (token.Word key.If p) _ (same_key_self key.If) (omega arith)

  pub stmt_starts : {l : List ℕ} {u : List Token} {x : StmtText} → s.IsStmt text_at l u x → Starts sr.begins_stmt l u
  stmt_starts (s.a_var {p = p} i j k) = starting (token.Word key.Var p) _ refl (omega arith)
  stmt_starts (s.a_set i j) = name_starts _ (omega arith) i
  stmt_starts (s.a_set_variable {p = p} i j) = starting (token.Word key.SomThis p) _ refl (omega arith)
  stmt_starts (s.an_if (s.the_if {p = p} i j k)) = starting (token.Word key.If p) _ refl (omega arith)
  stmt_starts (s.a_while {p = p} i j) = starting (token.Word key.While p) _ refl (omega arith)
  stmt_starts (s.a_return {p = p}) = starting (token.Word key.Return p) _ refl (omega arith)
  stmt_starts (s.a_return_value {p = p} i) = starting (token.Word key.Return p) _ refl (omega arith)
  stmt_starts (s.a_print {p = p} i) = starting (token.Word key.Print p) _ refl (omega arith)
  stmt_starts (s.a_free {p = p} i) = starting (token.Word key.Free p) _ refl (omega arith)
  stmt_starts (s.a_call {l = l} {u = u} i j) =
      let x = postfix_starts text_at i in
      record { first = x.first; others = x.others ++ semicolon ∷ []; is = ap (λ y. y ++ semicolon ∷ []) x.is; begins = stmt_wide x.first x.begins; high = high_down (s.as_begun_by u l) }

  -- ---- statements of one part
  ending_found : (l : List ℕ) (u : List Token) {a : ExprText} (c : ExprText → StmtText) (e : ℕ) (z : List Token) → g.IsExpr text_at l u a → Found e (l ++ 0 ∷ []) (c a) z (u ++ semicolon ∷ z) (sr.ending text_at e c (u ++ semicolon ∷ z))
  unfolding sr.ending
  ending_found l u c e z i = next _ (expr_found text_at i e (semicolon ∷ z) (omega arith)) (made _ (now_one semicolon (expect_found sign.Semicolon z)) refl)

  -- the readers of the statements inside, and those of the expressions where e levels are left
  module _ (in' in_if : Parser StmtText) (e : ℕ) where
    abbrev reading : List Token → Outcome StmtText
    reading = sr.statement text_at in' in_if e

    abbrev Read : List ℕ → StmtText → List Token → List Token → Type 0
    Read l x z w = Found (suc e) l x z w (reading w)

    var_read : (p : ℕ) (l : List ℕ) (u v w : List Token) {n : Word} {t : TypeName} {a : ExprText} (z : List Token) → g.IsName text_at u n → g.IsType text_at v t → g.IsExpr text_at l w a
        → Read (down (0 ∷ 0 ∷ 0 ∷ 0 ∷ 0 ∷ (l ++ 0 ∷ []))) (stmt.Var n t a) z (token.Word key.Var p ∷ (u ++ token.Mark sign.Colon ∷ (v ++ token.Mark sign.Assign ∷ (w ++ semicolon ∷ z))))
    unfolding sr.statement sr.variable same_key
    var_read p l u v w {n = n} {t = t} z i j k = lifted (passed (token.Word key.Var p) (next _ (name_read text_at (token.Mark sign.Colon ∷ (v ++ token.Mark sign.Assign ∷ (w ++ semicolon ∷ z))) i) (next _ (now_one (token.Mark sign.Colon) (expect_found sign.Colon _))
        (next _ (kind_read text_at (token.Mark sign.Assign ∷ (w ++ semicolon ∷ z)) j) (next _ (now_one (token.Mark sign.Assign) (expect_found sign.Assign _)) (ending_found l w (λ a. stmt.Var n t a) e z k))))))

    set_read : (l : List ℕ) (u v : List Token) {n : Word} {a : ExprText} (z : List Token) → g.IsName text_at u n → g.IsExpr text_at l v a
        → Found (suc e) (down (0 ∷ 0 ∷ (l ++ 0 ∷ []))) (stmt.Set n a) z (u ++ token.Mark sign.Assign ∷ (v ++ semicolon ∷ z)) (sr.named_statement text_at e (u ++ token.Mark sign.Assign ∷ (v ++ semicolon ∷ z)))
    unfolding sr.named_statement same_sign
    set_read l u v {n = n} z i j = lifted (next _ (name_read text_at (token.Mark sign.Assign ∷ (v ++ semicolon ∷ z)) i) (passed (token.Mark sign.Assign) (ending_found l v (λ a. stmt.Set n a) e z j)))

    set_variable_read : (p : ℕ) (l : List ℕ) (u v : List Token) {n : Word} {a : ExprText} (z : List Token) → g.IsWord text_at u n → g.IsExpr text_at l v a
        → Read (down (0 ∷ 0 ∷ 0 ∷ 0 ∷ (l ++ 0 ∷ []))) (stmt.SetVariable n a) z (token.Word key.SomThis p ∷ token.Mark sign.Dot ∷ (u ++ token.Mark sign.Assign ∷ (v ++ semicolon ∷ z)))
    unfolding sr.statement sr.own_statement same_sign same_key
    set_variable_read p l u v {n = n} z i j = lifted (passed (token.Word key.SomThis p) (next _ (now_one (token.Mark sign.Dot) (expect_found sign.Dot _)) (next _ (word_read text_at (token.Mark sign.Assign ∷ (v ++ semicolon ∷ z)) i)
        (passed (token.Mark sign.Assign) (ending_found l v (λ a. stmt.SetVariable n a) e z j)))))

    return_read : (p : ℕ) (z : List Token) → Read (down (0 ∷ 0 ∷ [])) (stmt.Return None) z (token.Word key.Return p ∷ semicolon ∷ z)
    unfolding sr.statement sr.returned same_sign same_key
    return_read p z = single (down (0 ∷ 0 ∷ [])) (token.Word key.Return p ∷ semicolon ∷ []) refl refl refl

    return_value_read : (p : ℕ) (l : List ℕ) (u : List Token) {a : ExprText} (z : List Token) → g.IsExpr text_at l u a → Read (down (0 ∷ (l ++ 0 ∷ []))) (stmt.Return (Some a)) z (token.Word key.Return p ∷ (u ++ semicolon ∷ z))
    unfolding sr.statement sr.returned same_key
    return_value_read p l u z i = rw (starts_not (is_sign sign.Semicolon) (semicolon ∷ z) (expr_starts text_at i) no_semicolon) (lifted (passed (token.Word key.Return p) (ending_found l u (λ a. stmt.Return (Some a)) e z i)))

    print_read : (p : ℕ) (l : List ℕ) (u : List Token) {a : ExprText} (z : List Token) → g.IsExpr text_at l u a → Read (down (0 ∷ (l ++ 0 ∷ []))) (stmt.Print a) z (token.Word key.Print p ∷ (u ++ semicolon ∷ z))
    unfolding sr.statement same_key
    print_read p l u z i = lifted (passed (token.Word key.Print p) (ending_found l u (λ a. stmt.Print a) e z i))

    free_read : (p : ℕ) (l : List ℕ) (u : List Token) {a : ExprText} (z : List Token) → g.IsExpr text_at l u a → Read (down (0 ∷ (l ++ 0 ∷ []))) (stmt.Free a) z (token.Word key.Free p ∷ (u ++ semicolon ∷ z))
    unfolding sr.statement same_key
    free_read p l u z i = lifted (passed (token.Word key.Free p) (ending_found l u (λ a. stmt.Free a) e z i))

    while_read : (p : ℕ) (l m : List ℕ) (u v : List Token) {a : ExprText} {b : BlockText} (z : List Token) → g.IsExpr text_at l u a → Found e m b z (v ++ z) (sr.block text_at in' in_if (v ++ z))
        → Read (down (0 ∷ 0 ∷ (l ++ 0 ∷ m))) (stmt.While a b) z (token.Word key.While p ∷ opening ∷ (u ++ closing ∷ (v ++ z)))
    unfolding sr.statement sr.while_statement same_key
    while_read p l m u v z i n = lifted (passed (token.Word key.While p) (next _ (now_one opening (expect_found sign.Open _)) (next _ (expr_found text_at i e (closing ∷ (v ++ z)) (closes (v ++ z))) (next _ (now_one closing (expect_found sign.Close (v ++ z))) (made _ n refl)))))

    if_read : (p : ℕ) (l m k : List ℕ) (u v w : List Token) {a : ExprText} {b c : BlockText} (z : List Token) → g.IsExpr text_at l u a → Found e m b (w ++ z) (v ++ (w ++ z)) (sr.block text_at in' in_if (v ++ (w ++ z))) → Found e k c z (w ++ z) (sr.else_part text_at in' in_if (w ++ z))
        → Found (suc e) (down (0 ∷ 0 ∷ (l ++ 0 ∷ (m ++ k)))) (stmt.If a b c) z (token.Word key.If p ∷ opening ∷ (u ++ closing ∷ (v ++ (w ++ z)))) (sr.if_statement text_at in' in_if e (token.Word key.If p ∷ opening ∷ (u ++ closing ∷ (v ++ (w ++ z)))))
    unfolding sr.if_statement
    if_read p l m k u v w z i n o = lifted (next _ (now_one (token.Word key.If p) (keyword_found key.If p _)) (next _ (now_one opening (expect_found sign.Open _)) (next _ (expr_found text_at i e (closing ∷ (v ++ (w ++ z))) (closes (v ++ (w ++ z))))
        (next _ (now_one closing (expect_found sign.Close (v ++ (w ++ z)))) (next _ n (made _ o refl))))))

    if_first : (p : ℕ) (y : List Token) → reading (token.Word key.If p ∷ y) ≡ sr.if_statement text_at in' in_if e (token.Word key.If p ∷ y)
    unfolding sr.statement same_key
    if_first p y = refl

  -- ---- blocks, where d levels are left for their statements
  module _ (d : ℕ) where
    abbrev within : Parser StmtText
    within = sr.statement_at text_at d

    abbrev within_if : Parser StmtText
    within_if = sr.if_at text_at d

    abbrev adding : List StmtText → Parser (Turn (List StmtText) (List StmtText))
    adding = one_more (is_sign sign.CloseBrace) (keeping within)

    abbrev StmtsClimb : List ℕ → List Token → List StmtText → Type 0
    StmtsClimb l u xs = (z : List Token) → NoElse z → Climbs adding d l xs z (u ++ z) (repeated (is_sign sign.CloseBrace) (keeping within) (u ++ z))

    none_climbs : (z : List Token) → Climbs adding d [] [] z z (repeated (is_sign sign.CloseBrace) (keeping within) z)
    unfolding repeated
    none_climbs z = climbs_first adding d [] [] [] z refl (omega arith)

    one_climbs : (l m : List ℕ) (v : List Token) {xs : List StmtText} {x : StmtText} (z w : List Token) (o : Outcome (List StmtText)) → Starts sr.begins_stmt m v → Climbs adding d l xs (v ++ z) w o → Found d m x z (v ++ z) (within (v ++ z))
        → Climbs adding d (l ++ m) (xs ++ x ∷ []) z w o
    one_climbs l m v {xs = xs} {x = x} z w o starts climbs n =
        level_chain adding d l m xs (xs ++ x ∷ []) z (v ++ z) w o climbs
        (rw (starts_not (is_sign sign.CloseBrace) z starts no_brace) (made _ (made _ n refl) refl)) (shorter v z starts)

    block_found : (l : List ℕ) (u : List Token) {xs : List StmtText} (z : List Token) → StmtsClimb l u xs → Found d (0 ∷ (l ++ 0 ∷ [])) (block_of xs) z (token.Mark sign.OpenBrace ∷ (u ++ token.Mark sign.CloseBrace ∷ z)) (sr.block text_at within within_if (token.Mark sign.OpenBrace ∷ (u ++ token.Mark sign.CloseBrace ∷ z)))
    unfolding sr.block same_sign
    block_found l u {xs = xs} z climbs = next _ (now_one (token.Mark sign.OpenBrace) (expect_found sign.OpenBrace _))
        (next _ (climbs_end adding d l xs xs (token.Mark sign.CloseBrace ∷ z) (u ++ token.Mark sign.CloseBrace ∷ z) _ (climbs (token.Mark sign.CloseBrace ∷ z) refl) refl) (made _ (now_one (token.Mark sign.CloseBrace) (expect_found sign.CloseBrace z)) refl))

    no_else_found : (z : List Token) → NoElse z → Found d [] (block_of []) z z (sr.else_part text_at within within_if z)
    unfolding sr.else_part
    no_else_found z safe = now [] [] refl refl (rw safe refl)

    else_block_found : (p : ℕ) (l : List ℕ) {b : BlockText} (y z : List Token) → Found d l b z (token.Mark sign.OpenBrace ∷ y) (sr.block text_at within within_if (token.Mark sign.OpenBrace ∷ y))
        → Found d (0 ∷ l) b z (token.Word key.Else p ∷ token.Mark sign.OpenBrace ∷ y) (sr.else_part text_at within within_if (token.Word key.Else p ∷ token.Mark sign.OpenBrace ∷ y))
    unfolding sr.else_part same_key same_sign
    else_block_found p l y z m = passed (token.Word key.Else p) m

    else_if_found : (p : ℕ) (l : List ℕ) (u : List Token) {x : StmtText} (z : List Token) → Starts (is_key key.If) l u → Found d l x z (u ++ z) (within_if (u ++ z)) → Found d (0 ∷ l) (block_of (x ∷ [])) z (token.Word key.Else p ∷ (u ++ z)) (sr.else_part text_at within within_if (token.Word key.Else p ∷ (u ++ z)))
    unfolding sr.else_part same_key
    else_if_found p l u z starts m = rw (starts_not (is_sign sign.OpenBrace) z starts if_no_brace) (passed (token.Word key.Else p) (made _ m refl))

  -- ---- each number of levels
  stmt_by : (l : List ℕ) (u : List Token) {x : StmtText} → Starts sr.begins_stmt l u → ((e : ℕ) (z : List Token) → NoElse z → Found (suc e) l x z (u ++ z) (sr.statement text_at (sr.statement_at text_at e) (sr.if_at text_at e) e (u ++ z)))
      → (d : ℕ) (z : List Token) → NoElse z → Found d l x z (u ++ z) (sr.statement_at text_at d (u ++ z))
  unfolding sr.statement_at
  stmt_by l u starts m zero z safe = let n = m 0 z safe in record { taken = n.taken; splits = n.splits; counts = n.counts; fits = λ le. starts_low starts le; deep = λ gt. starts_deep z starts }
  stmt_by l u starts m (suc e) z safe = m e z safe

  if_by : (l : List ℕ) (u : List Token) {x : StmtText} → Starts (is_key key.If) l u → ((e : ℕ) (z : List Token) → NoElse z → Found (suc e) l x z (u ++ z) (sr.if_statement text_at (sr.statement_at text_at e) (sr.if_at text_at e) e (u ++ z)))
      → (d : ℕ) (z : List Token) → NoElse z → Found d l x z (u ++ z) (sr.if_at text_at d (u ++ z))
  unfolding sr.statement_at
  if_by l u starts m zero z safe = let n = m 0 z safe in record { taken = n.taken; splits = n.splits; counts = n.counts; fits = λ le. starts_low starts le; deep = λ gt. starts_deep z starts }
  if_by l u starts m (suc e) z safe = m e z safe

  mutual
    stmt_read : {l : List ℕ} {u : List Token} {x : StmtText} → s.IsStmt text_at l u x → (e : ℕ) (z : List Token) → NoElse z → Found (suc e) l x z (u ++ z) (sr.statement text_at (sr.statement_at text_at e) (sr.if_at text_at e) e (u ++ z))
    stmt_read (s.a_var {p = p} {l = l} {u = u} {v = v} {w = w} i j k) e z safe =
        rw (append_assoc u (token.Mark sign.Colon ∷ (v ++ token.Mark sign.Assign ∷ (w ++ semicolon ∷ []))) z, append_assoc v (token.Mark sign.Assign ∷ (w ++ semicolon ∷ [])) z, append_assoc w (semicolon ∷ []) z)
        (var_read (sr.statement_at text_at e) (sr.if_at text_at e) e p l u v w z i j k)
    stmt_read (s.a_set {l = l} {u = u} {v = v} i j) e z safe =
        rw (append_assoc u (token.Mark sign.Assign ∷ (v ++ semicolon ∷ [])) z, append_assoc v (semicolon ∷ []) z, name_first text_at (sr.statement_at text_at e) (sr.if_at text_at e) e (token.Mark sign.Assign ∷ (v ++ semicolon ∷ z)) i)
        (set_read (sr.statement_at text_at e) (sr.if_at text_at e) e l u v z i j)
    stmt_read (s.a_set_variable {p = p} {l = l} {u = u} {v = v} i j) e z safe =
        rw (append_assoc u (token.Mark sign.Assign ∷ (v ++ semicolon ∷ [])) z, append_assoc v (semicolon ∷ []) z) (set_variable_read (sr.statement_at text_at e) (sr.if_at text_at e) e p l u v z i j)
    stmt_read (s.an_if (s.the_if {p = p} {l = l} {m = m} {k = n} {u = u} {v = v} {w = w} i j k)) e z safe =
        rw (append_assoc u (closing ∷ (v ++ w)) z, append_assoc v w z, if_first (sr.statement_at text_at e) (sr.if_at text_at e) e p (opening ∷ (u ++ closing ∷ (v ++ (w ++ z)))))
        (if_read (sr.statement_at text_at e) (sr.if_at text_at e) e p l m n u v w z i (block_read j e (w ++ z)) (else_read k e z safe))
    stmt_read (s.a_while {p = p} {l = l} {m = m} {u = u} {v = v} i j) e z safe = rw (append_assoc u (closing ∷ v) z) (while_read (sr.statement_at text_at e) (sr.if_at text_at e) e p l m u v z i (block_read j e z))
    stmt_read (s.a_return {p = p}) e z safe = return_read (sr.statement_at text_at e) (sr.if_at text_at e) e p z
    stmt_read (s.a_return_value {p = p} {l = l} {u = u} i) e z safe = rw (append_assoc u (semicolon ∷ []) z) (return_value_read (sr.statement_at text_at e) (sr.if_at text_at e) e p l u z i)
    stmt_read (s.a_print {p = p} {l = l} {u = u} i) e z safe = rw (append_assoc u (semicolon ∷ []) z) (print_read (sr.statement_at text_at e) (sr.if_at text_at e) e p l u z i)
    stmt_read (s.a_free {p = p} {l = l} {u = u} i) e z safe = rw (append_assoc u (semicolon ∷ []) z) (free_read (sr.statement_at text_at e) (sr.if_at text_at e) e p l u z i)
    stmt_read (s.a_call {u = u} i is) e z safe = rw (append_assoc u (semicolon ∷ []) z) (call_found text_at (sr.statement_at text_at e) (sr.if_at text_at e) e z is i)

    if_part_read : {l : List ℕ} {u : List Token} {x : StmtText} → s.IsIf text_at l u x → (e : ℕ) (z : List Token) → NoElse z → Found (suc e) l x z (u ++ z) (sr.if_statement text_at (sr.statement_at text_at e) (sr.if_at text_at e) e (u ++ z))
    if_part_read (s.the_if {p = p} {l = l} {m = m} {k = n} {u = u} {v = v} {w = w} i j k) e z safe =
        rw (append_assoc u (closing ∷ (v ++ w)) z, append_assoc v w z) (if_read (sr.statement_at text_at e) (sr.if_at text_at e) e p l m n u v w z i (block_read j e (w ++ z)) (else_read k e z safe))

    else_read : {l : List ℕ} {u : List Token} {b : BlockText} → s.IsElse text_at l u b → (d : ℕ) (z : List Token) → NoElse z → Found d l b z (u ++ z) (sr.else_part text_at (sr.statement_at text_at d) (sr.if_at text_at d) (u ++ z))
    else_read s.no_else d z safe = no_else_found d z safe
    else_read (s.else_block {p = p} (s.a_block {l = l} {u = u} x)) d z safe = else_block_found d p (0 ∷ (l ++ 0 ∷ [])) ((u ++ token.Mark sign.CloseBrace ∷ []) ++ z) z (rw (append_assoc u (token.Mark sign.CloseBrace ∷ []) z) (block_found d l u z (stmts_climbs x d)))
    else_read (s.else_if {p = p} {l = l} {u = u} x) d z safe = else_if_found d p l u z (if_starts x) (if_by l u (if_starts x) (if_part_read x) d z safe)

    pub block_read : {l : List ℕ} {u : List Token} {b : BlockText} → s.IsBlock text_at l u b → (d : ℕ) (z : List Token) → Found d l b z (u ++ z) (sr.block text_at (sr.statement_at text_at d) (sr.if_at text_at d) (u ++ z))
    block_read (s.a_block {l = l} {u = u} x) d z = rw (append_assoc u (token.Mark sign.CloseBrace ∷ []) z) (block_found d l u z (stmts_climbs x d))

    stmts_climbs : {l : List ℕ} {u : List Token} {xs : List StmtText} → s.IsStmts text_at l u xs → (d : ℕ) → StmtsClimb d l u xs
    stmts_climbs s.no_statement d z safe = none_climbs d z
    stmts_climbs (s.one_statement {l = l} {m = m} {u = u} {v = v} x y) d z safe = rw (append_assoc u v z)
        (one_climbs d l m v z _ _ (stmt_starts y) (stmts_climbs x d (v ++ z) (starts_not (is_key key.Else) z (stmt_starts y) no_else)) (stmt_by m v (stmt_starts y) (stmt_read y) d z safe))
