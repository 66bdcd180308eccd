-- What the grammar derives of tokens within their limits is within its limits, and no deeper than its levels say.
use Rattle.std.proofs.Common.{◌≡◌, ℕ, suc, ◌≤◌, max, true, false, List, [], ◌∷◌, ◌++◌, length, map, drop, Some, None, Ok, refl, sym, ◌∙◌, ap, subst, arith, length-append}
use Rattle.std.specs.Prelude.{All}
use Rattle.std.proofs.lemmas.List.Elements.{All-nil, All-cons}
use Rattle.som_lex.specs.declared.token.Tokens.{Tokens}
use Rattle.som_lex.specs.Spans.{IsSpelled}
use Rattle.som_model.specs.declared.limits.TheConstants.{MAX_NESTING}
use Rattle.som_parse.specs.Seen.{text_at}
use Rattle.som_parse.specs.Tokens.{word}
use Rattle.som_parse.specs.declared.token.Token.{Token}
use Rattle.som_ast.specs.declared.words.Word.{Word}
use Rattle.som_body.specs.Grammar as g
use Rattle.som_body.specs.Levels.{top, down}
use Rattle.som_body.specs.ExpressionWithin.{WordWithin, ExprTextWithin}
use Rattle.som_ast.specs.declared.expression.ExprText.{ExprText}
use Rattle.som_ast.specs.declared.expression.ExprText.TheVariants as expr
use Rattle.som_body.proofs.LevelLists.{top_append, top_down}
use Rattle.som_body.proofs.TokensWithin.{AreWithin, after, left, right, push, listed_within, tokens_within}
use Rattle.som_body.proofs.ExpressionsWithinLimits.{ExprLow, raised, word_within, name_within, type_within, postfix_within, expr_within}
use Rattle.som_body.specs.Answer.{AreBodies, IsMain}
use Rattle.som_body.specs.Statements as s
use Rattle.som_body.specs.Within.{StmtPartsWithin, StatementsWithin, StmtTextWithin, BlockTextWithin, BodyTextWithin, BodyFileWithin, MainFileWithin}
use Rattle.som_ast.specs.declared.body.BlockText.{BlockText}
use Rattle.som_ast.specs.declared.body.BodyFile.{BodyFile}
use Rattle.som_ast.specs.declared.body.BodyText.{BodyText}
use Rattle.som_ast.specs.declared.body.MainFile.{MainFile}
use Rattle.som_ast.specs.declared.body.StmtText.{StmtText, out-StmtText, roll-StmtText, out-roll-StmtText}
use Rattle.som_ast.specs.declared.body.StmtText.TheOpen.{StmtText-F}
use Rattle.som_ast.specs.declared.body.StmtText.TheVariants as stmt
use Rattle.som_body.proofs.CallFound.{Opens, opens_name, opens_variable, opens_other, Rest, no_rest, some_rest, parted, opens, name_is_no_call, variable_is_no_call, name_begun, other_begun}
use Rattle.som_body.proofs.StatementFound.{stmt_starts}

-- ---- trees, by their outermost form

stated_at : (most : ℕ) (x : StmtText) (layer : StmtText-F StmtText BlockText) → roll-StmtText layer ≡ x → (m : ℕ) → StmtPartsWithin (ExprTextWithin m) (StatementsWithin most (StmtTextWithin most m)) layer → StmtTextWithin most (suc m) x
unfolding StmtTextWithin
stated_at most x layer rolls m parts = subst (StmtPartsWithin (ExprTextWithin m) (StatementsWithin most (StmtTextWithin most m))) (sym (ap out-StmtText (sym rolls) ∙ out-roll-StmtText layer)) parts

stated : (most : ℕ) (x : StmtText) (layer : StmtText-F StmtText BlockText) → roll-StmtText layer ≡ x → (k n : ℕ) → suc k ≤ n → ((m : ℕ) → k ≤ m → StmtPartsWithin (ExprTextWithin m) (BlockTextWithin most m) layer) → StmtTextWithin most n x
stated most x layer rolls k n le parts = raised (λ i. StmtTextWithin most i x) k n le (λ m low. stated_at most x layer rolls m (parts m low))

-- ---- the levels of a call that begins a statement

call_low_by : {l levels others : List ℕ} {u t whole : List Token} {a b : ExprText} {at : ℕ → List ℕ} (n : ℕ) → s.is_call a ≡ true → Opens at levels u b → Rest b others t a → whole ≡ u ++ t → l ≡ levels ++ others
    → top (s.as_begun_by whole l) ≤ n → top l ≤ n
call_low_by {at = at} n is (opens_name k p i) no_rest same joined low = let no_call : s.is_call (expr.Name (word at p)) ≡ false = name_is_no_call (word at p) in absurd cc
call_low_by {at = at} n is (opens_variable p k q) no_rest same joined low = let no_call : s.is_call (expr.Variable (word at q)) ≡ false = variable_is_no_call (word at q) in absurd cc
call_low_by {l = l} n is (opens_name k p i) (some_rest m j w lt) same joined low =
    let begun : s.as_begun_by _ l ≡ 0 ∷ suc m ∷ j = ap (λ x. s.as_begun_by x l) same ∙ name_begun k p _ l i ∙ ap (λ x. 0 ∷ drop 1 x) joined in
    omega (arith, lt, low, ap top begun, ap top joined)
call_low_by {l = l} n is (opens_variable p k q) (some_rest m j w lt) same joined low =
    let begun : s.as_begun_by _ l ≡ 0 ∷ 0 ∷ 0 ∷ suc m ∷ j = ap (λ x. s.as_begun_by x l) same ∙ ap (λ x. 0 ∷ 0 ∷ 0 ∷ drop 3 x) joined in
    omega (arith, lt, low, ap top begun, ap top joined)
call_low_by {l = l} {t = rest} n is (opens_other t v not_named not_own) more same joined low =
    let begun : s.as_begun_by _ l ≡ l = ap (λ x. s.as_begun_by x l) same ∙ other_begun t (v ++ rest) l not_named not_own in
    omega (arith, low, ap top begun)

call_low : {l : List ℕ} {u : List Token} {a : ExprText} {at : ℕ → List ℕ} (n : ℕ) → s.is_call a ≡ true → g.IsPostfix at l u a → top (s.as_begun_by u l) ≤ n → top l ≤ n
call_low {at = at} n is (g.a_stepped x) low = let p = parted at x in call_low_by n is (opens at p.first) p.more p.is p.joined low
call_low n is (g.a_lookup {p = p} i x) low = low
call_low n is (g.a_dispatch {p = p} i x) low = low

ended_top : (l : List ℕ) → top (down (l ++ 0 ∷ [])) ≡ suc (top l)
ended_top [] = omega arith
ended_top (n ∷ l) = omega (arith, top_down n (l ++ 0 ∷ []), top_append l (0 ∷ []))

top_zeros : {A : Type 0} (xs : List A) (l : List ℕ) → top (map (λ x. 0) xs ++ l) ≡ top l
top_zeros [] l = refl
top_zeros (x ∷ xs) l = omega (arith, top_zeros xs l)

-- of tokens within their limits, no more than so many
module _ (at : ℕ → List ℕ) (most : ℕ) where
  abbrev Within : List Token → Type 0
  Within u = AreWithin at most u

  -- ---- statements, where as many levels are left as they have

  -- each statement has a token at least
  few_statements : {l : List ℕ} {u : List Token} {ss : List StmtText} → s.IsStmts at l u ss → length ss ≤ length u
  few_statements s.no_statement = omega arith
  few_statements (s.one_statement {u = u} {v = v} {ss = ss} {s = x} hs h) =
      omega (arith, few_statements hs, ap length (stmt_starts at h).is, length-append u v, length-append ss (x ∷ []))

  -- a form of a statement with one expression in it
  one_within : (l : List ℕ) (x : StmtText) (layer : StmtText-F StmtText BlockText) (a : ExprText) → roll-StmtText layer ≡ x → ExprLow l a
      → ((m : ℕ) → ExprTextWithin m a → StmtPartsWithin (ExprTextWithin m) (BlockTextWithin most m) layer) → (n : ℕ) → suc (top l) ≤ n → StmtTextWithin most n x
  one_within l x layer a rolls low parts n le = stated most x layer rolls (top l) n le (λ m k. parts m (low m k))

  mutual
    stmt_within : {l : List ℕ} {u : List Token} {x : StmtText} → s.IsStmt at l u x → Within u → (n : ℕ) → top l ≤ n → StmtTextWithin most n x
    stmt_within (s.a_var {l = l} {u = u} {v = v} {w = w} {n = c} {t = t} {a = a} i j x) all n le =
        let name = after _ _ all in
        let kind = after _ _ (right u _ name) in
        let value = after _ _ (right v _ kind) in
        one_within l (stmt.Var c t a) (StmtText-F.Var c t a) a (stmt.rolls-Var c t a) (expr_within at most x (left w _ value))
        (λ m h. (name_within at most i (left u _ name), type_within at most j (left v _ kind), h)) n (omega (arith, le, top_down 0 (0 ∷ 0 ∷ 0 ∷ 0 ∷ (l ++ 0 ∷ [])), top_append l (0 ∷ [])))
    stmt_within (s.a_set {l = l} {u = u} {v = v} {n = c} {a = a} i x) all n le =
        one_within l (stmt.Set c a) (StmtText-F.Set c a) a (stmt.rolls-Set c a) (expr_within at most x (left v _ (after _ _ (right u _ all))))
        (λ m h. (name_within at most i (left u _ all), h)) n (omega (arith, le, top_down 0 (0 ∷ (l ++ 0 ∷ [])), top_append l (0 ∷ [])))
    stmt_within (s.a_set_variable {l = l} {u = u} {v = v} {m = c} {a = a} i x) all n le =
        let name = after _ _ (after _ _ all) in
        one_within l (stmt.SetVariable c a) (StmtText-F.SetVariable c a) a (stmt.rolls-SetVariable c a) (expr_within at most x (left v _ (after _ _ (right u _ name))))
        (λ m h. (word_within at most i (left u _ name), h)) n (omega (arith, le, top_down 0 (0 ∷ 0 ∷ 0 ∷ (l ++ 0 ∷ [])), top_append l (0 ∷ [])))
    stmt_within (s.an_if x) all n le = if_within x all n le
    stmt_within (s.a_while {l = l} {m = k} {u = u} {v = v} {a = a} {b = b} x y) all n le =
        let test = after _ _ (after _ _ all) in
        stated most (stmt.While a b) (StmtText-F.While a b) (stmt.rolls-While a b) (max (top l) (top k)) n (omega (arith, le, top_down 0 (0 ∷ (l ++ 0 ∷ k)), top_append l (0 ∷ k)))
        (λ m low. (expr_within at most x (left u _ test) m (omega (arith, low)), block_within y (after _ v (right u _ test)) m (omega (arith, low))))
    stmt_within s.a_return all n le = stated most (stmt.Return None) (StmtText-F.Return None) (stmt.rolls-Return None) 0 n (omega (arith, le)) (λ m low. tt)
    stmt_within (s.a_return_value {l = l} {u = u} {a = a} x) all n le =
        one_within l (stmt.Return (Some a)) (StmtText-F.Return (Some a)) a (stmt.rolls-Return (Some a)) (expr_within at most x (left u _ (after _ _ all)))
        (λ m h. h) n (omega (arith, le, top_down 0 (l ++ 0 ∷ []), top_append l (0 ∷ [])))
    stmt_within (s.a_print {l = l} {u = u} {a = a} x) all n le =
        one_within l (stmt.Print a) (StmtText-F.Print a) a (stmt.rolls-Print a) (expr_within at most x (left u _ (after _ _ all)))
        (λ m h. h) n (omega (arith, le, top_down 0 (l ++ 0 ∷ []), top_append l (0 ∷ [])))
    stmt_within (s.a_free {l = l} {u = u} {a = a} x) all n le =
        one_within l (stmt.Free a) (StmtText-F.Free a) a (stmt.rolls-Free a) (expr_within at most x (left u _ (after _ _ all)))
        (λ m h. h) n (omega (arith, le, top_down 0 (l ++ 0 ∷ []), top_append l (0 ∷ [])))
    stmt_within (s.a_call {l = l} {u = u} {a = a} x is) all n le =
        let begun = ended_top (s.as_begun_by u l) in
        stated most (stmt.Call a) (StmtText-F.Call a) (stmt.rolls-Call a) (top (s.as_begun_by u l)) n (omega (arith, le, begun))
        (λ m low. postfix_within at most x (left u _ all) m (call_low m is x low))

    if_within : {l : List ℕ} {u : List Token} {x : StmtText} → s.IsIf at l u x → Within u → (n : ℕ) → top l ≤ n → StmtTextWithin most n x
    if_within (s.the_if {l = l} {m = j} {k = k} {u = u} {v = v} {w = w} {a = a} {b = b} {c = c} x y z) all n le =
        let test = after _ _ (after _ _ all) in
        let blocks = after _ (v ++ w) (right u _ test) in
        stated most (stmt.If a b c) (StmtText-F.If a b c) (stmt.rolls-If a b c) (max (top l) (max (top j) (top k))) n (omega (arith, le, top_down 0 (0 ∷ (l ++ 0 ∷ (j ++ k))), top_append l (0 ∷ (j ++ k)), top_append j k))
        (λ m low. (expr_within at most x (left u _ test) m (omega (arith, low)), block_within y (left v w blocks) m (omega (arith, low)), else_within z (right v w blocks) m (omega (arith, low))))

    else_within : {l : List ℕ} {u : List Token} {b : BlockText} → s.IsElse at l u b → Within u → (n : ℕ) → top l ≤ n → BlockTextWithin most n b
    else_within s.no_else all n le = (omega arith, All-nil (StmtTextWithin most n))
    else_within (s.else_block {l = l} {u = u} x) all n le = block_within x (after _ u all) n (omega (arith, le))
    else_within (s.else_if {l = l} {u = u} {s = y} x) all n le =
        (omega (arith, all.few), All-cons (StmtTextWithin most n) y [] (if_within x (after _ u all) n (omega (arith, le))) (All-nil (StmtTextWithin most n)))

    block_within : {l : List ℕ} {u : List Token} {b : BlockText} → s.IsBlock at l u b → Within u → (n : ℕ) → top l ≤ n → BlockTextWithin most n b
    block_within (s.a_block {l = l} {u = u} xs) all n le =
        let inside = left u _ (after _ _ all) in
        (omega (arith, few_statements xs, inside.few), stmts_within xs inside n (omega (arith, le, top_append l (0 ∷ []))))

    stmts_within : {l : List ℕ} {u : List Token} {ss : List StmtText} → s.IsStmts at l u ss → Within u → (n : ℕ) → top l ≤ n → All (StmtTextWithin most n) ss
    stmts_within s.no_statement all n le = All-nil (StmtTextWithin most n)
    stmts_within (s.one_statement {l = l} {m = m} {u = u} {v = v} {ss = ss} {s = x} hs h) all n le =
        push (StmtTextWithin most n) ss x (stmts_within hs (left u v all) n (omega (arith, le, top_append l m))) (stmt_within h (right u v all) n (omega (arith, le, top_append l m)))

  -- ---- bodies and mains
  params_within : {u : List Token} {ns : List Word} → s.IsParams at u ns → Within u → All WordWithin ns
  params_within s.no_params all = All-nil WordWithin
  params_within (s.some_params {u = u} h) all = listed_within (g.IsName at) WordWithin (λ v n i all. name_within at most i all) h (left u _ (after _ _ all))

  body_within : {l : List ℕ} {u : List Token} {b : BodyText} → s.IsBody at l u b → Within u → top l ≤ MAX_NESTING → BodyTextWithin most b
  body_within (s.a_body {l = l} {u = u} {v = v} {w = w} {x = x} i j h y) all le =
      let method = after _ _ (right u _ all) in
      let params = right v _ method in
      record {
        class = word_within at most i (left u _ all);
        method = word_within at most j (left v _ method);
        params = params_within h (left w x params);
        block = block_within y (right w x params) MAX_NESTING (omega (arith, le, top_zeros w l));
      }

  bodies_within : {l : List ℕ} {u : List Token} {bs : List BodyText} → s.IsBodies at l u bs → Within u → top l ≤ MAX_NESTING → All (BodyTextWithin most) bs
  bodies_within s.no_body all le = All-nil (BodyTextWithin most)
  bodies_within (s.one_body {l = l} {m = m} {u = u} {v = v} {bs = bs} {b = b} hs h) all le =
      push (BodyTextWithin most) bs b (bodies_within hs (left u v all) (omega (arith, le, top_append l m))) (body_within h (right u v all) (omega (arith, le, top_append l m)))

  file_within : {l : List ℕ} {u : List Token} {f : BodyFile} → s.IsBodyFile at l u f → Within u → top l ≤ MAX_NESTING → BodyFileWithin most f
  file_within (s.a_body_file h) all le = record { bodies = bodies_within h all le }

  main_within : {l : List ℕ} {u : List Token} {m : MainFile} → s.IsMainFile at l u m → Within u → top l ≤ MAX_NESTING → MainFileWithin most m
  main_within (s.a_main_file {l = l} {u = u} h) all le = record { block = block_within h (after _ u all) MAX_NESTING (omega (arith, le)) }

-- ---- the tree of a text is within its limits, and no block has more statements than the text has tokens
pub bodies_tree_within : (t : Tokens) (f : BodyFile) → AreBodies t (Ok f) → All (IsSpelled t.source) t.list → BodyFileWithin (length t.list) f
bodies_tree_within t f h spelled = file_within (text_at t) (length t.list) h.2 (tokens_within t spelled) h.1

pub main_tree_within : (t : Tokens) (m : MainFile) → IsMain t (Ok m) → All (IsSpelled t.source) t.list → MainFileWithin (length t.list) m
main_tree_within t m h spelled = main_within (text_at t) (length t.list) h.2 (tokens_within t spelled) h.1
