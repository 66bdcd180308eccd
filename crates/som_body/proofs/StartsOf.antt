-- What texts of each line of the grammar begin with.
use Rattle.std.proofs.Common.{◌≡◌, ℕ, ◌+◌, ◌<◌, List, [], ◌∷◌, ◌++◌, take, Bool, true, false, cond, Some, None, refl, arith}
use Rattle.som_parse.specs.Tokens.{word}
use Rattle.som_parse.specs.declared.token.Key.{Key}
use Rattle.som_parse.specs.declared.token.Key.TheVariants as key
use Rattle.som_parse.specs.declared.token.Sign.TheVariants as sign
use Rattle.som_parse.specs.declared.token.Token.{Token}
use Rattle.som_parse.specs.declared.token.Token.TheVariants as token
use Rattle.som_body.specs.Grammar as g
use Rattle.som_body.specs.Levels.{top}
use Rattle.som_body.specs.Reading as r
use Rattle.som_ast.specs.declared.expression.ExprText.{ExprText}
use Rattle.som_ast.specs.declared.expression.ExprText.TheVariants as expr
use Rattle.som_body.proofs.Strengths.{Starts, starts_more, starts_wider, postfix_wide, unary_wide, neg_wide}

named_begins : (b : Bool) (a c : ExprText) → cond b (Some a) None ≡ Some c → b ≡ true
named_begins true a c e = refl
named_begins false a c e = cc

module _ (text_at : ℕ → List ℕ) where
  word_begins : (k : Key) (p : ℕ) (a : ExprText) → g.word_atom text_at k p ≡ Some a → r.begins_word k ≡ true
  word_begins key.True p a e = refl
  word_begins key.False p a e = refl
  word_begins key.Nil p a e = refl
  word_begins key.Me p a e = refl
  word_begins key.Manager p a e = refl
  word_begins key.SomThis p a e = refl
  word_begins key.Length p a e = refl
  word_begins key.TextOf p a e = refl
  word_begins key.New p a e = refl
  word_begins key.Class p a e = refl
  word_begins key.Isa p a e = refl
  word_begins key.Proxy p a e = refl
  word_begins key.Host p a e = refl
  word_begins key.Parent p a e = refl
  word_begins key.Parents p a e = refl
  word_begins k p a e = named_begins (g.is_name k) (expr.Name (word text_at p)) a e

  atom_begins : (t : Token) (a : ExprText) → g.atom text_at t ≡ Some a → r.begins_primary (Some t) ≡ true
  atom_begins (token.Number n) a e = refl
  atom_begins (token.Literal p) a e = refl
  atom_begins (token.Word k p) a e = word_begins k p a e
  atom_begins (token.Mark s) a e = cc
  atom_begins token.Directive a e = cc

  starting : {l : List ℕ} (t : Token) (v : List Token) → r.begins_primary (Some t) ≡ true → 0 < top (take 1 l) → Starts r.begins_primary l (t ∷ v)
  starting t v e high = record { first = t; others = v; is = refl; begins = e; high = high }

  pub primary_starts : {l : List ℕ} {u : List Token} {a : ExprText} → g.IsPrimary text_at l u a → Starts r.begins_primary l u
  primary_starts (g.an_atom t {a = a} e) = starting t _ (atom_begins t a e) (omega arith)
  primary_starts (g.a_variable {p = p} i) = starting (token.Word key.SomThis p) _ refl (omega arith)
  primary_starts (g.a_group i) = starting (token.Mark sign.Open) _ refl (omega arith)
  primary_starts (g.a_length {p = p} i) = starting (token.Word key.Length p) _ refl (omega arith)
  primary_starts (g.a_text {p = p} i) = starting (token.Word key.TextOf p) _ refl (omega arith)
  primary_starts (g.a_new {p = p} i) = starting (token.Word key.New p) _ refl (omega arith)
  primary_starts (g.a_class {p = p} i) = starting (token.Word key.Class p) _ refl (omega arith)
  primary_starts (g.an_isa {p = p} i j) = starting (token.Word key.Isa p) _ refl (omega arith)
  primary_starts (g.a_proxy {p = p} i j) = starting (token.Word key.Proxy p) _ refl (omega arith)
  primary_starts (g.a_host_call {p = p} i j k) = starting (token.Word key.Host p) _ refl (omega arith)
  primary_starts (g.a_parent_call {p = p} i j k) = starting (token.Word key.Parent p) _ refl (omega arith)
  primary_starts (g.a_parents_call {p = p} i j) = starting (token.Word key.Parents p) _ refl (omega arith)

  pub stepped_starts : {l : List ℕ} {u : List Token} {a : ExprText} → g.IsStepped text_at l u a → Starts r.begins_primary l u
  stepped_starts (g.no_step x) = primary_starts x
  stepped_starts (g.a_step {v = v} {w = w} x i j) = starts_more _ (token.Mark sign.Dot ∷ (v ++ w)) (stepped_starts x)

  pub postfix_starts : {l : List ℕ} {u : List Token} {a : ExprText} → g.IsPostfix text_at l u a → Starts r.begins_postfix l u
  postfix_starts (g.a_stepped x) = starts_wider postfix_wide (stepped_starts x)
  postfix_starts (g.a_lookup {p = p} i x) = record { first = token.Word key.Lookup p; others = _; is = refl; begins = refl; high = omega arith }
  postfix_starts (g.a_dispatch {p = p} i x) = record { first = token.Word key.Dispatch p; others = _; is = refl; begins = refl; high = omega arith }

  pub cast_starts : {l : List ℕ} {u : List Token} {a : ExprText} → g.IsCast text_at l u a → Starts r.begins_postfix l u
  cast_starts (g.no_cast x) = postfix_starts x
  cast_starts (g.a_cast p {v = v} x i) = starts_more _ (token.Word key.As p ∷ v) (cast_starts x)

  pub unary_starts : {l : List ℕ} {u : List Token} {a : ExprText} → g.IsUnary text_at l u a → Starts r.begins_unary l u
  unary_starts (g.no_minus x) = starts_wider unary_wide (cast_starts x)
  unary_starts (g.a_minus {u = u} x) = record { first = token.Mark sign.Minus; others = u; is = refl; begins = refl; high = omega arith }

  pub prod_starts : {l : List ℕ} {u : List Token} {a : ExprText} → g.IsProd text_at l u a → Starts r.begins_unary l u
  prod_starts (g.no_product x) = unary_starts x
  prod_starts (g.a_product t {v = v} e x y) = starts_more _ (t ∷ v) (prod_starts x)

  pub sum_starts : {l : List ℕ} {u : List Token} {a : ExprText} → g.IsSum text_at l u a → Starts r.begins_unary l u
  sum_starts (g.no_sum x) = prod_starts x
  sum_starts (g.a_sum t {v = v} e x y) = starts_more _ (t ∷ v) (sum_starts x)

  pub cmp_starts : {l : List ℕ} {u : List Token} {a : ExprText} → g.IsCmp text_at l u a → Starts r.begins_unary l u
  cmp_starts (g.no_comparison x) = sum_starts x
  cmp_starts (g.a_comparison t {v = v} e x y) = starts_more _ (t ∷ v) (sum_starts x)

  pub neg_starts : {l : List ℕ} {u : List Token} {a : ExprText} → g.IsNeg text_at l u a → Starts r.begins_neg l u
  neg_starts (g.no_not x) = starts_wider neg_wide (cmp_starts x)
  neg_starts (g.a_not {p = p} {u = u} x) = record { first = token.Word key.Not p; others = u; is = refl; begins = refl; high = omega arith }

  pub conj_starts : {l : List ℕ} {u : List Token} {a : ExprText} → g.IsConj text_at l u a → Starts r.begins_neg l u
  conj_starts (g.no_and x) = neg_starts x
  conj_starts (g.an_and t {v = v} e x y) = starts_more _ (t ∷ v) (conj_starts x)

  pub expr_starts : {l : List ℕ} {u : List Token} {a : ExprText} → g.IsExpr text_at l u a → Starts r.begins_neg l u
  expr_starts (g.no_or x) = conj_starts x
  expr_starts (g.an_or t {v = v} e x y) = starts_more _ (t ∷ v) (expr_starts x)

  pub exprs_starts : {l : List ℕ} {u : List Token} {x : List ExprText} → g.IsExprs text_at l u x → Starts r.begins_neg l u
  exprs_starts (g.first_argument e) = expr_starts e
  exprs_starts (g.next_argument {v = v} x e) = starts_more _ (token.Mark sign.Comma ∷ v) (exprs_starts x)
