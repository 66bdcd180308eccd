-- What begins each line begins a text of it, so stopping there for want of levels is lawful.
use Rattle.std.proofs.Common.{◌≡◌, ℕ, ◌+◌, max, List, [], ◌∷◌, ◌++◌, Bool, true, false, cond, Some, None, refl}
use Rattle.som_model.specs.declared.syntax.HostCode.TheVariants as host
use Rattle.som_parse.specs.Tokens.{word}
use Rattle.som_parse.specs.declared.token.Key.{Key}
use Rattle.som_parse.specs.declared.token.Key.TheVariants as key
use Rattle.som_parse.specs.declared.token.Sign.TheVariants as sign
use Rattle.som_parse.specs.declared.token.Token.{Token}
use Rattle.som_parse.specs.declared.token.Token.TheVariants as token
use Rattle.som_ast.specs.declared.words.Word.{Word}
use Rattle.som_parse.proofs.Laws.{Lawful, Member, wider}
use Rattle.som_body.specs.Grammar as g
use Rattle.som_body.specs.Reading as r
use Rattle.som_body.specs.Reading.{tall}
use Rattle.som_body.specs.declared.level.Line.{Line}
use Rattle.som_body.specs.declared.level.Line.TheVariants as line
use Rattle.som_ast.specs.declared.expression.ExprText.{ExprText}
use Rattle.som_ast.specs.declared.expression.ExprText.TheVariants as expr
use Rattle.som_body.proofs.OperatorLaws.{too_deep_law}
use Rattle.som_body.proofs.PrimaryLaws.{OnLine, some_primary}

abbrev opening : Token
opening = token.Mark sign.Open

abbrev closing : Token
closing = token.Mark sign.Close

abbrev comma : Token
comma = token.Mark sign.Comma

abbrev dot : Token
dot = token.Mark sign.Dot

abbrev a_word : Token
a_word = token.Word key.Plain 0

abbrev zero_token : Token
zero_token = token.Number 0

named_if : (b : Bool) (a : ExprText) → b ≡ true → cond b (Some a) None ≡ Some a
named_if true a e = refl
named_if false a e = cc

module _ (text_at : ℕ → List ℕ) where
  -- ---- 0 on each line
  zero_primary : g.IsPrimary text_at (1 ∷ []) (zero_token ∷ []) (expr.Number 0)
  zero_primary = g.an_atom zero_token refl

  postfix_of : {l : List ℕ} {u : List Token} {a : ExprText} → g.IsPrimary text_at l u a → g.IsPostfix text_at l u a
  postfix_of x = g.a_stepped (g.no_step x)

  unary_of : {l : List ℕ} {u : List Token} {a : ExprText} → g.IsPostfix text_at l u a → g.IsUnary text_at l u a
  unary_of x = g.no_minus (g.no_cast x)

  sum_of : {l : List ℕ} {u : List Token} {a : ExprText} → g.IsUnary text_at l u a → g.IsSum text_at l u a
  sum_of x = g.no_sum (g.no_product x)

  neg_of : {l : List ℕ} {u : List Token} {a : ExprText} → g.IsUnary text_at l u a → g.IsNeg text_at l u a
  neg_of x = g.no_not (g.no_comparison (sum_of x))

  expr_of : {l : List ℕ} {u : List Token} {a : ExprText} → g.IsNeg text_at l u a → g.IsExpr text_at l u a
  expr_of x = g.no_or (g.no_and x)

  pub zero_expr : g.IsExpr text_at (1 ∷ []) (zero_token ∷ []) (expr.Number 0)
  zero_expr = expr_of (neg_of (unary_of (postfix_of zero_primary)))

  plain : Word
  plain = word text_at 0

  plain_word : g.IsWord text_at (a_word ∷ []) plain
  unfolding plain
  plain_word = g.a_word key.Plain 0

  plain_name : g.IsName text_at (a_word ∷ []) plain
  unfolding plain
  plain_name = g.a_name key.Plain 0 refl

  -- ---- what begins a primary expression
  pub named_atom : (k : Key) (p : ℕ) → g.is_name k ≡ true → g.word_atom text_at k p ≡ Some (expr.Name (word text_at p))
  named_atom key.True p e = cc
  named_atom key.False p e = cc
  named_atom key.Nil p e = cc
  named_atom key.Me p e = cc
  named_atom key.Manager p e = cc
  named_atom k p e = named_if (g.is_name k) (expr.Name (word text_at p)) e

  atom_starts : (t : Token) (a : ExprText) → g.atom text_at t ≡ Some a → Member (λ u. OnLine text_at line.Primary (t ∷ u))
  atom_starts t a e = record { tokens = []; value = tall a 1; reads = (_, refl, g.an_atom t e) }

  named_starts : (k : Key) (p : ℕ) → g.is_name k ≡ true → Member (λ u. OnLine text_at line.Primary (token.Word k p ∷ u))
  named_starts k p e = atom_starts (token.Word k p) (expr.Name (word text_at p)) (named_atom k p e)

  word_starts : (k : Key) (p : ℕ) → r.begins_word k ≡ true → Member (λ u. OnLine text_at line.Primary (token.Word k p ∷ u))
  word_starts key.True p e = atom_starts (token.Word key.True p) _ refl
  word_starts key.False p e = atom_starts (token.Word key.False p) _ refl
  word_starts key.Nil p e = atom_starts (token.Word key.Nil p) _ refl
  word_starts key.Me p e = atom_starts (token.Word key.Me p) _ refl
  word_starts key.Manager p e = atom_starts (token.Word key.Manager p) _ refl
  word_starts key.SomThis p e = record { tokens = dot ∷ a_word ∷ []; value = tall (expr.Variable plain) 1; reads = (_, refl, g.a_variable plain_word) }
  word_starts key.Length p e = record { tokens = opening ∷ zero_token ∷ closing ∷ []; value = tall (expr.Unary 2 (expr.Number 0)) (1 + 1); reads = (_, refl, g.a_length zero_expr) }
  word_starts key.TextOf p e = record { tokens = opening ∷ zero_token ∷ closing ∷ []; value = tall (expr.Unary 3 (expr.Number 0)) (1 + 1); reads = (_, refl, g.a_text zero_expr) }
  word_starts key.New p e = record { tokens = a_word ∷ []; value = tall (expr.New plain) 1; reads = (_, refl, g.a_new plain_name) }
  word_starts key.Class p e = record { tokens = a_word ∷ []; value = tall (expr.Class plain) 1; reads = (_, refl, g.a_class plain_name) }
  word_starts key.Isa p e = record { tokens = opening ∷ zero_token ∷ comma ∷ a_word ∷ closing ∷ []; value = tall (expr.Isa plain (expr.Number 0)) (1 + 1); reads = (_, refl, g.an_isa zero_expr plain_name) }
  word_starts key.Proxy p e = record { tokens = opening ∷ a_word ∷ comma ∷ zero_token ∷ closing ∷ []; value = tall (expr.Proxy plain (expr.Number 0)) (1 + 1); reads = (_, refl, g.a_proxy plain_name zero_expr) }
  word_starts key.Host p e = record {
    tokens = token.Word key.Min 0 ∷ opening ∷ zero_token ∷ comma ∷ zero_token ∷ closing ∷ [];
    value = tall (expr.Host host.Min (expr.Number 0) (expr.Number 0)) (max 1 1 + 1);
    reads = (_, refl, g.a_host_call (g.a_host key.Min 0 refl) zero_expr zero_expr);
  }
  word_starts key.Parent p e = record { tokens = a_word ∷ dot ∷ a_word ∷ opening ∷ closing ∷ []; value = tall (expr.Parent plain plain []) (0 + 1); reads = (_, refl, g.a_parent_call plain_name plain_word g.no_arguments) }
  word_starts key.Parents p e = record { tokens = dot ∷ a_word ∷ opening ∷ closing ∷ []; value = tall (expr.Parents plain []) (0 + 1); reads = (_, refl, g.a_parents_call plain_word g.no_arguments) }
  word_starts k p e = named_starts k p e

  primary_starts : (t : Token) → r.begins_primary (Some t) ≡ true → Member (λ u. OnLine text_at line.Primary (t ∷ u))
  primary_starts (token.Number n) e = atom_starts (token.Number n) _ refl
  primary_starts (token.Literal p) e = atom_starts (token.Literal p) _ refl
  primary_starts (token.Mark sign.Open) e = record { tokens = zero_token ∷ closing ∷ []; value = tall (expr.Number 0) (1 + 1); reads = (_, refl, g.a_group zero_expr) }
  primary_starts (token.Word k p) e = word_starts k p e
  primary_starts t e = cc

  -- ---- the other lines
  by_name_tokens : List Token
  by_name_tokens = token.Word key.Void 0 ∷ zero_token ∷ dot ∷ a_word ∷ opening ∷ closing ∷ []

  module _ (t : Token) where
    postfix_by : Member (λ u. OnLine text_at line.Primary (t ∷ u)) → Member (λ u. OnLine text_at line.Postfix (t ∷ u))
    postfix_by m = record { tokens = m.tokens; value = m.value; reads = (m.reads.0, m.reads.1, postfix_of m.reads.2) }

    unary_by : Member (λ u. OnLine text_at line.Postfix (t ∷ u)) → Member (λ u. OnLine text_at line.Unary (t ∷ u))
    unary_by m = record { tokens = m.tokens; value = m.value; reads = (m.reads.0, m.reads.1, unary_of m.reads.2) }

    neg_by : Member (λ u. OnLine text_at line.Unary (t ∷ u)) → Member (λ u. OnLine text_at line.Neg (t ∷ u))
    neg_by m = record { tokens = m.tokens; value = m.value; reads = (m.reads.0, m.reads.1, neg_of m.reads.2) }

  pub postfix_starts : (t : Token) → r.begins_postfix (Some t) ≡ true → Member (λ u. OnLine text_at line.Postfix (t ∷ u))
  unfolding by_name_tokens
  postfix_starts (token.Word key.Lookup p) e = record { tokens = by_name_tokens; value = tall (expr.Lookup None (expr.Number 0) plain []) (max 1 0 + 1); reads = (_, refl, g.a_lookup g.result_void (g.a_first_step zero_primary plain_word g.no_arguments)) }
  postfix_starts (token.Word key.Dispatch p) e = record { tokens = by_name_tokens; value = tall (expr.Dispatch None (expr.Number 0) plain []) (max 1 0 + 1); reads = (_, refl, g.a_dispatch g.result_void (g.a_first_step zero_primary plain_word g.no_arguments)) }
  postfix_starts t e = postfix_by t (primary_starts t e)

  unary_starts : (t : Token) → r.begins_unary (Some t) ≡ true → Member (λ u. OnLine text_at line.Unary (t ∷ u))
  unary_starts (token.Mark sign.Minus) e = record { tokens = zero_token ∷ []; value = tall (expr.Unary 0 (expr.Number 0)) (1 + 1); reads = (_, refl, g.a_minus (unary_of (postfix_of zero_primary))) }
  unary_starts t e = unary_by t (postfix_starts t e)

  neg_starts : (t : Token) → r.begins_neg (Some t) ≡ true → Member (λ u. OnLine text_at line.Neg (t ∷ u))
  neg_starts (token.Word key.Not p) e = record { tokens = zero_token ∷ []; value = tall (expr.Unary 1 (expr.Number 0)) (1 + 1); reads = (_, refl, g.a_not (neg_of (unary_of (postfix_of zero_primary)))) }
  neg_starts t e = neg_by t (unary_starts t e)

  some_postfix : Member (OnLine text_at line.Postfix)
  some_postfix = record { tokens = zero_token ∷ []; value = tall (expr.Number 0) 1; reads = (1 ∷ [], refl, postfix_of zero_primary) }

  some_unary : Member (OnLine text_at line.Unary)
  some_unary = record { tokens = zero_token ∷ []; value = tall (expr.Number 0) 1; reads = (1 ∷ [], refl, unary_of (postfix_of zero_primary)) }

  some_neg : Member (OnLine text_at line.Neg)
  some_neg = record { tokens = zero_token ∷ []; value = tall (expr.Number 0) 1; reads = (1 ∷ [], refl, neg_of (unary_of (postfix_of zero_primary))) }

  unary_deep : Lawful (OnLine text_at line.Unary) (r.too_deep r.begins_unary)
  unary_deep = too_deep_law (OnLine text_at line.Unary) r.begins_unary refl unary_starts some_unary

  neg_deep : Lawful (OnLine text_at line.Neg) (r.too_deep r.begins_neg)
  neg_deep = too_deep_law (OnLine text_at line.Neg) r.begins_neg refl neg_starts some_neg

  postfix_deep : Lawful (OnLine text_at line.Postfix) (r.too_deep r.begins_postfix)
  postfix_deep = too_deep_law (OnLine text_at line.Postfix) r.begins_postfix refl postfix_starts some_postfix

  pub at_zero_law : (l : Line) → Lawful (OnLine text_at l) (r.too_deep (r.begins l))
  at_zero_law line.Primary = too_deep_law (OnLine text_at line.Primary) r.begins_primary refl primary_starts (some_primary text_at)
  at_zero_law line.Postfix = postfix_deep
  at_zero_law line.Cast = wider (OnLine text_at line.Postfix) (OnLine text_at line.Cast) _ (λ u a h. (h.0, h.1, g.no_cast h.2)) postfix_deep
  at_zero_law line.Unary = unary_deep
  at_zero_law line.Prod = wider (OnLine text_at line.Unary) (OnLine text_at line.Prod) _ (λ u a h. (h.0, h.1, g.no_product h.2)) unary_deep
  at_zero_law line.Sum = wider (OnLine text_at line.Unary) (OnLine text_at line.Sum) _ (λ u a h. (h.0, h.1, sum_of h.2)) unary_deep
  at_zero_law line.Cmp = wider (OnLine text_at line.Unary) (OnLine text_at line.Cmp) _ (λ u a h. (h.0, h.1, g.no_comparison (sum_of h.2))) unary_deep
  at_zero_law line.Neg = neg_deep
  at_zero_law line.Conj = wider (OnLine text_at line.Neg) (OnLine text_at line.Conj) _ (λ u a h. (h.0, h.1, g.no_and h.2)) neg_deep
  at_zero_law line.Expr = wider (OnLine text_at line.Neg) (OnLine text_at line.Expr) _ (λ u a h. (h.0, h.1, expr_of h.2)) neg_deep
