-- What the grammar of expressions derives of tokens within their limits is within its limits, and no deeper than its levels say.
use Rattle.std.proofs.Common.{◌≡◌, ℕ, zero, suc, ◌≤◌, max, Bool, true, false, cond, List, [], ◌∷◌, ◌++◌, length, Option, Some, None, sym, ◌∙◌, ap, subst, arith}
use Rattle.std.specs.Prelude.{All}
use Rattle.std.proofs.lemmas.List.Elements.{All-nil, All-cons}
use Rattle.som_lex.specs.Values.{text_of}
use Rattle.som_model.specs.declared.limits.TheConstants.{MAX_NAME}
use Rattle.som_parse.specs.Tokens.{word}
use Rattle.som_parse.specs.declared.token.Key.{Key}
use Rattle.som_parse.specs.declared.token.Key.TheVariants as key
use Rattle.som_parse.specs.declared.token.Token.{Token}
use Rattle.som_parse.specs.declared.token.Token.TheVariants as token
use Rattle.som_ast.specs.declared.words.TypeName.{TypeName}
use Rattle.som_ast.specs.declared.words.Word.{Word}
use Rattle.som_body.specs.Grammar as g
use Rattle.som_body.specs.Levels.{top, down}
use Rattle.som_body.specs.ExpressionWithin.{WordWithin, TypeWithin, ResultWithin, ExprPartsWithin, ExprTextWithin}
use Rattle.som_ast.specs.declared.expression.ExprText.{ExprText, out-ExprText, roll-ExprText, out-roll-ExprText}
use Rattle.som_ast.specs.declared.expression.ExprText.TheOpen.{ExprText-F}
use Rattle.som_ast.specs.declared.expression.ExprText.TheVariants as expr
use Rattle.som_body.proofs.LevelLists.{top_append, top_down}
use Rattle.som_body.proofs.TokensWithin.{AreWithin, one, after, left, right, push}

-- ---- trees, by their outermost form

-- one level at least is left
pub raised : (P : ℕ → Type 0) (k n : ℕ) → suc k ≤ n → ((m : ℕ) → k ≤ m → P (suc m)) → P n
raised P k zero le f = absurd (omega (arith, le))
raised P k (suc n) le f = f n (omega (arith, le))

formed_at : (a : ExprText) (layer : ExprText-F ExprText) → roll-ExprText layer ≡ a → (m : ℕ) → ExprPartsWithin (ExprTextWithin m) layer → ExprTextWithin (suc m) a
unfolding ExprTextWithin
formed_at a layer rolls m parts = subst (ExprPartsWithin (ExprTextWithin m)) (sym (ap out-ExprText (sym rolls) ∙ out-roll-ExprText layer)) parts

formed : (a : ExprText) (layer : ExprText-F ExprText) → roll-ExprText layer ≡ a → (k n : ℕ) → suc k ≤ n → ((m : ℕ) → k ≤ m → ExprPartsWithin (ExprTextWithin m) layer) → ExprTextWithin n a
formed a layer rolls k n le parts = raised (λ i. ExprTextWithin i a) k n le (λ m low. formed_at a layer rolls m (parts m low))

-- where it is what some atom is
atomic : (x a : ExprText) (layer : ExprText-F ExprText) → roll-ExprText layer ≡ x → ◌≡◌ {A = Option ExprText} (Some x) (Some a) → (n : ℕ) → 1 ≤ n → ((m : ℕ) → ExprPartsWithin (ExprTextWithin m) layer) → ExprTextWithin n a
atomic x a layer rolls e n le parts =
    let same : x ≡ a = cc in
    formed a layer (rolls ∙ same) 0 n le (λ m low. parts m)

-- expressions that are within their limits where as many levels are left as they have
abbrev pub ExprLow : List ℕ → ExprText → Type 0
ExprLow l a = (n : ℕ) → top l ≤ n → ExprTextWithin n a

abbrev ArgsLow : List ℕ → List ExprText → Type 0
ArgsLow l es = (n : ℕ) → top l ≤ n → All (ExprTextWithin n) es

-- of tokens within their limits, no more than so many
module _ (at : ℕ → List ℕ) (most : ℕ) where
  abbrev Within : List Token → Type 0
  Within u = AreWithin at most u

  -- ---- words and types
  pub word_within : {u : List Token} {n : Word} → g.IsWord at u n → Within u → WordWithin n
  word_within (g.a_word k p) all = one (token.Word k p) [] all

  pub name_within : {u : List Token} {n : Word} → g.IsName at u n → Within u → WordWithin n
  name_within (g.a_name k p e) all = one (token.Word k p) [] all

  pub type_within : {u : List Token} {t : TypeName} → g.IsType at u t → Within u → TypeWithin t
  type_within g.type_long all = tt
  type_within g.type_boolean all = tt
  type_within g.type_string all = tt
  type_within (g.type_class h) all = name_within h all

  result_within : {u : List Token} {t : Option TypeName} → g.IsResult at u t → Within u → ResultWithin t
  result_within g.result_void all = tt
  result_within (g.result_type h) all = type_within h all

  -- ---- atoms
  named_by : (b : Bool) (p : ℕ) (a : ExprText) → ◌≡◌ {A = Option ExprText} (cond b (Some (expr.Name (word at p))) None) (Some a) → length (at p) ≤ MAX_NAME → (n : ℕ) → 1 ≤ n → ExprTextWithin n a
  named_by true p a e h n le = atomic (expr.Name (word at p)) a (ExprText-F.Name (word at p)) (expr.rolls-Name (word at p)) e n le (λ m. h)
  named_by false p a e h n le = cc

  word_atom_within : (k : Key) (p : ℕ) (a : ExprText) → g.word_atom at k p ≡ Some a → length (at p) ≤ MAX_NAME → (n : ℕ) → 1 ≤ n → ExprTextWithin n a
  word_atom_within key.True p a e h n le = atomic (expr.Boolean true) a (ExprText-F.Boolean true) (expr.rolls-Boolean true) e n le (λ m. tt)
  word_atom_within key.False p a e h n le = atomic (expr.Boolean false) a (ExprText-F.Boolean false) (expr.rolls-Boolean false) e n le (λ m. tt)
  word_atom_within key.Nil p a e h n le = atomic expr.Nil a ExprText-F.Nil expr.rolls-Nil e n le (λ m. tt)
  word_atom_within key.Me p a e h n le = atomic expr.Me a ExprText-F.Me expr.rolls-Me e n le (λ m. tt)
  word_atom_within key.Manager p a e h n le = atomic expr.Manager a ExprText-F.Manager expr.rolls-Manager e n le (λ m. tt)
  word_atom_within k p a e h n le = named_by (g.is_name k) p a e h n le

  atom_within : (t : Token) (a : ExprText) → g.atom at t ≡ Some a → Within (t ∷ []) → (n : ℕ) → 1 ≤ n → ExprTextWithin n a
  atom_within (token.Number i) a e all n le = atomic (expr.Number i) a (ExprText-F.Number i) (expr.rolls-Number i) e n le (λ m. one (token.Number i) [] all)
  atom_within (token.Literal p) a e all n le = atomic (expr.Literal (text_of (at p))) a (ExprText-F.Literal (text_of (at p))) (expr.rolls-Literal (text_of (at p))) e n le (λ m. one (token.Literal p) [] all)
  atom_within (token.Word k p) a e all n le = word_atom_within k p a e (one (token.Word k p) [] all) n le
  atom_within (token.Mark x) a e all n le = cc
  atom_within token.Directive a e all n le = cc

  -- ---- expressions, where as many levels are left as they have
  -- a binary operator, which pushes its first operand one level down
  binary_within : (l m : List ℕ) (op : ℕ) (a b : ExprText) → ExprLow l a → ExprLow m b → ExprLow (l ++ down (top l ∷ m)) (expr.Binary op a b)
  binary_within l m op a b x y n le =
      formed (expr.Binary op a b) (ExprText-F.Binary op a b) (expr.rolls-Binary op a b) (max (top l) (top m)) n (omega (arith, le, top_append l (down (top l ∷ m)), top_down (top l) m))
      (λ k low. (x k (omega (arith, low)), y k (omega (arith, low))))

  -- a call of a method on what stands before it, which the call pushes one level down
  call_within : (k n : ℕ) (a : ExprText) (w : Word) (es : List ExprText) → suc k ≤ n → ((m : ℕ) → k ≤ m → ExprTextWithin m a × WordWithin w × All (ExprTextWithin m) es) → ExprTextWithin n (expr.Call a w es)
  call_within k n a w es le parts = formed (expr.Call a w es) (ExprText-F.Call a w es) (expr.rolls-Call a w es) k n le parts

  mutual
    primary_within : {l : List ℕ} {u : List Token} {a : ExprText} → g.IsPrimary at l u a → Within u → ExprLow l a
    primary_within (g.an_atom t {a = a} e) all n le = atom_within t a e all n (omega (arith, le))
    primary_within (g.a_variable {w = w} i) all n le =
        formed (expr.Variable w) (ExprText-F.Variable w) (expr.rolls-Variable w) 0 n (omega (arith, le)) (λ m low. word_within i (after _ _ (after _ _ all)))
    primary_within (g.a_group {l = l} {u = u} x) all n le = expr_within x (left u _ (after _ _ all)) n (omega (arith, le, top_down 0 (l ++ 0 ∷ []), top_append l (0 ∷ [])))
    primary_within (g.a_length {l = l} {u = u} {a = a} x) all n le =
        formed (expr.Unary 2 a) (ExprText-F.Unary 2 a) (expr.rolls-Unary 2 a) (top l) n (omega (arith, le, top_down 0 (0 ∷ (l ++ 0 ∷ [])), top_append l (0 ∷ [])))
        (λ m low. expr_within x (left u _ (after _ _ (after _ _ all))) m low)
    primary_within (g.a_text {l = l} {u = u} {a = a} x) all n le =
        formed (expr.Unary 3 a) (ExprText-F.Unary 3 a) (expr.rolls-Unary 3 a) (top l) n (omega (arith, le, top_down 0 (0 ∷ (l ++ 0 ∷ [])), top_append l (0 ∷ [])))
        (λ m low. expr_within x (left u _ (after _ _ (after _ _ all))) m low)
    primary_within (g.a_new {n = w} i) all n le =
        formed (expr.New w) (ExprText-F.New w) (expr.rolls-New w) 0 n (omega (arith, le)) (λ m low. name_within i (after _ _ all))
    primary_within (g.a_class {n = w} i) all n le =
        formed (expr.Class w) (ExprText-F.Class w) (expr.rolls-Class w) 0 n (omega (arith, le)) (λ m low. name_within i (after _ _ all))
    primary_within (g.an_isa {l = l} {u = u} {v = v} {a = a} {n = w} x i) all n le =
        let inside = after _ _ (after _ _ all) in
        formed (expr.Isa w a) (ExprText-F.Isa w a) (expr.rolls-Isa w a) (top l) n (omega (arith, le, top_down 0 (0 ∷ (l ++ 0 ∷ 0 ∷ 0 ∷ [])), top_append l (0 ∷ 0 ∷ 0 ∷ [])))
        (λ m low. (name_within i (left v _ (after _ _ (right u _ inside))), expr_within x (left u _ inside) m low))
    primary_within (g.a_proxy {l = l} {u = u} {v = v} {n = w} {a = a} i x) all n le =
        let inside = after _ _ (after _ _ all) in
        formed (expr.Proxy w a) (ExprText-F.Proxy w a) (expr.rolls-Proxy w a) (top l) n (omega (arith, le, top_down 0 (0 ∷ 0 ∷ 0 ∷ (l ++ 0 ∷ [])), top_append l (0 ∷ [])))
        (λ m low. (name_within i (left u _ inside), expr_within x (left v _ (after _ _ (right u _ inside))) m low))
    primary_within (g.a_host_call {l = l} {m = k} {u = u} {v = v} {w = w} {c = c} {a = a} {b = b} i x y) all n le =
        let first = after _ _ (right u _ (after _ _ all)) in
        formed (expr.Host c a b) (ExprText-F.Host c a b) (expr.rolls-Host c a b) (max (top l) (top k)) n (omega (arith, le, top_down 0 (0 ∷ 0 ∷ (l ++ 0 ∷ (k ++ 0 ∷ []))), top_append l (0 ∷ (k ++ 0 ∷ [])), top_append k (0 ∷ [])))
        (λ m low. (expr_within x (left v _ first) m (omega (arith, low)), expr_within y (left w _ (after _ _ (right v _ first))) m (omega (arith, low))))
    primary_within (g.a_parent_call {l = l} {u = u} {v = v} {w = w} {n = c} {m = k} {g = es} i j x) all n le =
        let inside = after _ _ all in
        let method = after _ _ (right u _ inside) in
        formed (expr.Parent c k es) (ExprText-F.Parent c k es) (expr.rolls-Parent c k es) (top l) n (omega (arith, le, top_down 0 (0 ∷ 0 ∷ 0 ∷ l)))
        (λ m low. (name_within i (left u _ inside), word_within j (left v _ method), arguments_within x (right v _ method) m low))
    primary_within (g.a_parents_call {l = l} {u = u} {v = v} {m = k} {g = es} i x) all n le =
        let method = after _ _ (after _ _ all) in
        formed (expr.Parents k es) (ExprText-F.Parents k es) (expr.rolls-Parents k es) (top l) n (omega (arith, le, top_down 0 (0 ∷ 0 ∷ l)))
        (λ m low. (word_within i (left u _ method), arguments_within x (right u _ method) m low))

    stepped_within : {l : List ℕ} {u : List Token} {a : ExprText} → g.IsStepped at l u a → Within u → ExprLow l a
    stepped_within (g.no_step x) all n le = primary_within x all n le
    stepped_within (g.a_step {l = l} {m = k} {u = u} {v = v} {w = w} {a = a} {n = c} {g = es} x i y) all n le =
        let method = after _ _ (right u _ all) in
        call_within (max (top l) (top k)) n a c es (omega (arith, le, top_append l (down (top l ∷ 0 ∷ k)), top_down (top l) (0 ∷ k)))
        (λ m low. (stepped_within x (left u _ all) m (omega (arith, low)), word_within i (left v _ method), arguments_within y (right v _ method) m (omega (arith, low))))

    -- what a call by name is made on, its method and its arguments
    named_within : {l : List ℕ} {u : List Token} {a : ExprText} {w : Word} {es : List ExprText} → g.IsNamedCall at l u a w es → Within u → (n : ℕ) → top l ≤ n → ExprTextWithin n a × WordWithin w × All (ExprTextWithin n) es
    named_within (g.a_first_step {l = l} {m = k} {u = u} {v = v} {w = w} x i y) all n le =
        let method = after _ _ (right u _ all) in
        let tops = top_append l (0 ∷ 0 ∷ k) in
        (primary_within x (left u _ all) n (omega (arith, le, tops)), word_within i (left v _ method), arguments_within y (right v _ method) n (omega (arith, le, tops)))
    named_within (g.a_further_step {l = l} {m = k} {u = u} {v = v} {w = w} {a = a} {n = c} {g = es} x i y) all n le =
        let method = after _ _ (right u _ all) in
        let tops = top_append l (suc (top l) ∷ 0 ∷ k) in
        (call_within (top l) n a c es (omega (arith, le, tops)) (λ m low. named_within x (left u _ all) m low), word_within i (left v _ method), arguments_within y (right v _ method) n (omega (arith, le, tops)))

    pub postfix_within : {l : List ℕ} {u : List Token} {a : ExprText} → g.IsPostfix at l u a → Within u → ExprLow l a
    postfix_within (g.a_stepped x) all n le = stepped_within x all n le
    postfix_within (g.a_lookup {l = l} {r = r} {u = u} {t = t} {a = a} {n = w} {g = es} i x) all n le =
        formed (expr.Lookup t a w es) (ExprText-F.Lookup t a w es) (expr.rolls-Lookup t a w es) (top l) n (omega (arith, le, top_down 0 (0 ∷ l)))
        (λ m low. let call = named_within x (right r u (after _ _ all)) m low in (result_within i (left r u (after _ _ all)), call.0, call.1, call.2))
    postfix_within (g.a_dispatch {l = l} {r = r} {u = u} {t = t} {a = a} {n = w} {g = es} i x) all n le =
        formed (expr.Dispatch t a w es) (ExprText-F.Dispatch t a w es) (expr.rolls-Dispatch t a w es) (top l) n (omega (arith, le, top_down 0 (0 ∷ l)))
        (λ m low. let call = named_within x (right r u (after _ _ all)) m low in (result_within i (left r u (after _ _ all)), call.0, call.1, call.2))

    arguments_within : {l : List ℕ} {u : List Token} {es : List ExprText} → g.IsArguments at l u es → Within u → ArgsLow l es
    arguments_within g.no_arguments all n le = All-nil (ExprTextWithin n)
    arguments_within (g.some_arguments {l = l} {u = u} x) all n le = exprs_within x (left u _ (after _ _ all)) n (omega (arith, le, top_append l (0 ∷ [])))

    exprs_within : {l : List ℕ} {u : List Token} {es : List ExprText} → g.IsExprs at l u es → Within u → ArgsLow l es
    exprs_within (g.first_argument {a = a} x) all n le = All-cons (ExprTextWithin n) a [] (expr_within x all n le) (All-nil (ExprTextWithin n))
    exprs_within (g.next_argument {l = l} {m = k} {u = u} {v = v} {g = es} {a = a} xs x) all n le =
        let tops = top_append l (0 ∷ k) in
        push (ExprTextWithin n) es a (exprs_within xs (left u _ all) n (omega (arith, le, tops))) (expr_within x (after _ v (right u _ all)) n (omega (arith, le, tops)))

    cast_within : {l : List ℕ} {u : List Token} {a : ExprText} → g.IsCast at l u a → Within u → ExprLow l a
    cast_within (g.no_cast x) all n le = postfix_within x all n le
    cast_within (g.a_cast p {l = l} {u = u} {v = v} {a = a} {n = w} x i) all n le =
        formed (expr.Cast w a) (ExprText-F.Cast w a) (expr.rolls-Cast w a) (top l) n (omega (arith, le, top_append l (down (top l ∷ 0 ∷ [])), top_down (top l) (0 ∷ [])))
        (λ m low. (name_within i (after _ v (right u _ all)), cast_within x (left u _ all) m low))

    unary_within : {l : List ℕ} {u : List Token} {a : ExprText} → g.IsUnary at l u a → Within u → ExprLow l a
    unary_within (g.no_minus x) all n le = cast_within x all n le
    unary_within (g.a_minus {l = l} {a = a} x) all n le =
        formed (expr.Unary 0 a) (ExprText-F.Unary 0 a) (expr.rolls-Unary 0 a) (top l) n (omega (arith, le, top_down 0 l)) (λ m low. unary_within x (after _ _ all) m low)

    prod_within : {l : List ℕ} {u : List Token} {a : ExprText} → g.IsProd at l u a → Within u → ExprLow l a
    prod_within (g.no_product x) all n le = unary_within x all n le
    prod_within (g.a_product t {op = op} {l = l} {m = m} {u = u} {v = v} {a = a} {b = b} e x y) all n le =
        binary_within l m op a b (λ k low. prod_within x (left u _ all) k low) (λ k low. unary_within y (after _ v (right u _ all)) k low) n le

    sum_within : {l : List ℕ} {u : List Token} {a : ExprText} → g.IsSum at l u a → Within u → ExprLow l a
    sum_within (g.no_sum x) all n le = prod_within x all n le
    sum_within (g.a_sum t {op = op} {l = l} {m = m} {u = u} {v = v} {a = a} {b = b} e x y) all n le =
        binary_within l m op a b (λ k low. sum_within x (left u _ all) k low) (λ k low. prod_within y (after _ v (right u _ all)) k low) n le

    cmp_within : {l : List ℕ} {u : List Token} {a : ExprText} → g.IsCmp at l u a → Within u → ExprLow l a
    cmp_within (g.no_comparison x) all n le = sum_within x all n le
    cmp_within (g.a_comparison t {op = op} {l = l} {m = m} {u = u} {v = v} {a = a} {b = b} e x y) all n le =
        binary_within l m op a b (λ k low. sum_within x (left u _ all) k low) (λ k low. sum_within y (after _ v (right u _ all)) k low) n le

    neg_within : {l : List ℕ} {u : List Token} {a : ExprText} → g.IsNeg at l u a → Within u → ExprLow l a
    neg_within (g.no_not x) all n le = cmp_within x all n le
    neg_within (g.a_not {l = l} {a = a} x) all n le =
        formed (expr.Unary 1 a) (ExprText-F.Unary 1 a) (expr.rolls-Unary 1 a) (top l) n (omega (arith, le, top_down 0 l)) (λ m low. neg_within x (after _ _ all) m low)

    conj_within : {l : List ℕ} {u : List Token} {a : ExprText} → g.IsConj at l u a → Within u → ExprLow l a
    conj_within (g.no_and x) all n le = neg_within x all n le
    conj_within (g.an_and t {op = op} {l = l} {m = m} {u = u} {v = v} {a = a} {b = b} e x y) all n le =
        binary_within l m op a b (λ k low. conj_within x (left u _ all) k low) (λ k low. neg_within y (after _ v (right u _ all)) k low) n le

    pub expr_within : {l : List ℕ} {u : List Token} {a : ExprText} → g.IsExpr at l u a → Within u → ExprLow l a
    expr_within (g.no_or x) all n le = conj_within x all n le
    expr_within (g.an_or t {op = op} {l = l} {m = m} {u = u} {v = v} {a = a} {b = b} e x y) all n le =
        binary_within l m op a b (λ k low. expr_within x (left u _ all) k low) (λ k low. conj_within y (after _ v (right u _ all)) k low) n le
