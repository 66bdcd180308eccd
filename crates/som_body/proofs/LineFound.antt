-- What the grammar derives as an expression is read where its levels suffice, and else is answered as a level too many, at the first token with which there is one.
use Rattle.std.proofs.Common.{◌≡◌, ℕ, suc, ◌+◌, ◌<◌, ◌≤◌, max, List, [], ◌∷◌, ◌++◌, Option, Some, refl, sym, ◌∙◌, ap, append_assoc, arith}
use Rattle.som_parse.specs.Readers.{Outcome, Parser, ◌>>=◌, pure}
use Rattle.som_parse.specs.Tokens.{head, is_sign, is_key, same_key, same_sign}
use Rattle.som_parse.specs.declared.cursor.Turn.{Turn}
use Rattle.som_parse.specs.declared.cursor.Turn.TheVariants.{More, Done}
use Rattle.som_parse.specs.declared.token.Key.TheVariants as key
use Rattle.som_parse.specs.declared.token.Sign.TheVariants as sign
use Rattle.som_parse.specs.declared.token.Token.{Token}
use Rattle.som_parse.specs.declared.token.Token.TheVariants as token
use Rattle.som_ast.specs.declared.words.TypeName.{TypeName}
use Rattle.som_ast.specs.declared.words.Word.{Word}
use Rattle.som_parse.proofs.Steps.{same_key_self}
use Rattle.som_body.specs.Grammar as g
use Rattle.som_body.specs.Levels.{top, down}
use Rattle.som_body.specs.Reading as r
use Rattle.som_body.specs.Reading.{tall, given, combined, named_call}
use Rattle.som_body.specs.declared.level.Line.{Line}
use Rattle.som_body.specs.declared.level.Line.TheVariants as line
use Rattle.som_body.specs.declared.level.NamedCall.{NamedCall}
use Rattle.som_body.specs.declared.level.Tall.{Tall}
use Rattle.som_ast.specs.declared.expression.ExprText.{ExprText}
use Rattle.som_ast.specs.declared.expression.ExprText.TheVariants as expr
use Rattle.som_body.proofs.FormsFound as f
use Rattle.som_body.proofs.FormsFound.{opening, closing, comma, dot, pushed_room, pushed_none, pushed_end, operator_room, operator_none, operator_end, inner, at_found, ExprFound, ArgsFound, ExprsClimb, step, named_step, NamedClimbs, operating, name_read, outcome_read}
use Rattle.som_body.proofs.LevelFound.{Found, passed, made, next, operand, raised, lifted, valued, Climbs, valued_climbs, first_climbs, climbs_end, pushed_chain}
use Rattle.som_body.proofs.LevelLists.{top_append, top_down, level_eq, pushed_eq}
use Rattle.som_body.proofs.StartsOf.{primary_starts, stepped_starts, postfix_starts, cast_starts, unary_starts, prod_starts, sum_starts, cmp_starts, neg_starts, conj_starts, expr_starts, exprs_starts}
use Rattle.som_body.proofs.Strengths.{strength, Starts, starts_high, starts_not, product_strength, sum_strength, comparison_strength, and_strength, or_strength, no_dot, no_as, no_product, no_sum, no_comparison, no_and, no_or, no_lookup, no_dispatch, no_minus, no_not}

-- what follows binds less tight
abbrev pub Below : ℕ → List Token → Type 0
Below n z = strength (head z) < n

module _ (text_at : ℕ → List ℕ) where
  -- what each reader does with a text that has levels, where d + 1 are left
  abbrev pub SteppedClimbs : List ℕ → List Token → ExprText → Type 0
  SteppedClimbs l u a = (d : ℕ) (z : List Token) → Climbs (step text_at d) (suc d) l (tall a (top l)) z (u ++ z) (r.stepped text_at (inner text_at d) (suc d) (u ++ z))

  abbrev CastClimbs : List ℕ → List Token → ExprText → Type 0
  CastClimbs l u a = (d : ℕ) (z : List Token) → Below 7 z → Climbs (r.cast_step text_at (inner text_at d) (suc d)) (suc d) l (tall a (top l)) z (u ++ z) (r.cast text_at (inner text_at d) (suc d) (u ++ z))

  abbrev ProdClimbs : List ℕ → List Token → ExprText → Type 0
  ProdClimbs l u a = (d : ℕ) (z : List Token) → Below 6 z → Climbs (operating text_at d g.product_operator line.Unary) (suc d) l (tall a (top l)) z (u ++ z) (r.prod text_at (inner text_at d) (suc d) (u ++ z))

  abbrev SumClimbs : List ℕ → List Token → ExprText → Type 0
  SumClimbs l u a = (d : ℕ) (z : List Token) → Below 5 z → Climbs (operating text_at d g.sum_operator line.Prod) (suc d) l (tall a (top l)) z (u ++ z) (r.sum text_at (inner text_at d) (suc d) (u ++ z))

  abbrev ConjClimbs : List ℕ → List Token → ExprText → Type 0
  ConjClimbs l u a = (d : ℕ) (z : List Token) → Below 3 z → Climbs (operating text_at d g.and_operator line.Neg) (suc d) l (tall a (top l)) z (u ++ z) (r.conj text_at (inner text_at d) (suc d) (u ++ z))

  abbrev ExprClimbs : List ℕ → List Token → ExprText → Type 0
  ExprClimbs l u a = (d : ℕ) (z : List Token) → Below 2 z → Climbs (operating text_at d g.or_operator line.Conj) (suc d) l (tall a (top l)) z (u ++ z) (r.expression text_at (inner text_at d) (suc d) (u ++ z))

  -- with what follows it a text of the line k is read where d + 1 levels are left
  abbrev pub Reads : Line → ℕ → List ℕ → List Token → ExprText → Type 0
  Reads k n l u a = (d : ℕ) (z : List Token) → Below n z → Found (suc d) l (tall a (top l)) z (u ++ z) (r.read text_at (inner text_at d) (suc d) k (u ++ z))

  abbrev pub FoundOn : Line → ℕ → List ℕ → List Token → ExprText → Type 0
  FoundOn k n l u a = (d : ℕ) (z : List Token) → Below n z → Found d l (tall a (top l)) z (u ++ z) (r.at text_at d k (u ++ z))

  abbrev right : ℕ → Line → Tall → ℕ → Parser (Turn Tall Tall)
  right d k a op = r.at text_at d k >>= λ b. pure (More (combined op a b))

  abbrev compared_operand : ℕ → Tall → ℕ → Parser Tall
  compared_operand d a op = r.at text_at d line.Sum >>= λ b. pure (combined op a b)

  abbrev cast_name : Tall → Parser (Turn Tall Tall)
  cast_name a = r.name text_at >>= λ n. pure (More (tall (expr.Cast n a.tree) (a.height + 1)))

  -- ---- from a chain to what is read
  module _ (l : List ℕ) (u : List Token) {a : ExprText} where
    prod_read : ProdClimbs l u a → Reads line.Prod 5 l u a
    prod_read c d z lt = climbs_end (operating text_at d g.product_operator line.Unary) (suc d) l (tall a (top l)) (tall a (top l)) z (u ++ z) _ (c d z (omega (arith, lt))) (operator_end g.product_operator (suc d) (top l) (right d line.Unary (tall a (top l))) (pure (Done (tall a (top l)))) z (no_product (head z) lt))

    sum_read : SumClimbs l u a → Reads line.Sum 4 l u a
    sum_read c d z lt = climbs_end (operating text_at d g.sum_operator line.Prod) (suc d) l (tall a (top l)) (tall a (top l)) z (u ++ z) _ (c d z (omega (arith, lt))) (operator_end g.sum_operator (suc d) (top l) (right d line.Prod (tall a (top l))) (pure (Done (tall a (top l)))) z (no_sum (head z) lt))

    conj_read : ConjClimbs l u a → Reads line.Conj 2 l u a
    conj_read c d z lt = climbs_end (operating text_at d g.and_operator line.Neg) (suc d) l (tall a (top l)) (tall a (top l)) z (u ++ z) _ (c d z (omega (arith, lt))) (operator_end g.and_operator (suc d) (top l) (right d line.Neg (tall a (top l))) (pure (Done (tall a (top l)))) z (no_and (head z) lt))

    expr_read : ExprClimbs l u a → Reads line.Expr 1 l u a
    expr_read c d z lt = climbs_end (operating text_at d g.or_operator line.Conj) (suc d) l (tall a (top l)) (tall a (top l)) z (u ++ z) _ (c d z (omega (arith, lt))) (operator_end g.or_operator (suc d) (top l) (right d line.Conj (tall a (top l))) (pure (Done (tall a (top l)))) z (no_or (head z) lt))

    cast_read : CastClimbs l u a → Reads line.Cast 6 l u a
    cast_read c d z lt = climbs_end (r.cast_step text_at (inner text_at d) (suc d)) (suc d) l (tall a (top l)) (tall a (top l)) z (u ++ z) _ (c d z (omega (arith, lt))) (pushed_end (is_key key.As) (suc d) (top l) (cast_name (tall a (top l))) (pure (Done (tall a (top l)))) z (no_as (head z) lt))

  -- ---- from what is read to each number of levels
  expr_by : {l : List ℕ} {u : List Token} {a : ExprText} → g.IsExpr text_at l u a → ExprClimbs l u a → ExprFound text_at l u a
  expr_by {l = l} {u = u} {a = a} x c = at_found text_at line.Expr (Below 1) l u (tall a (top l)) (expr_starts text_at x) (expr_read l u c)

  conj_by : {l : List ℕ} {u : List Token} {a : ExprText} → g.IsConj text_at l u a → ConjClimbs l u a → FoundOn line.Conj 2 l u a
  conj_by {l = l} {u = u} {a = a} x c = at_found text_at line.Conj (Below 2) l u (tall a (top l)) (conj_starts text_at x) (conj_read l u c)

  neg_by : {l : List ℕ} {u : List Token} {a : ExprText} → g.IsNeg text_at l u a → Reads line.Neg 3 l u a → FoundOn line.Neg 3 l u a
  neg_by {l = l} {u = u} {a = a} x c = at_found text_at line.Neg (Below 3) l u (tall a (top l)) (neg_starts text_at x) c

  sum_by : {l : List ℕ} {u : List Token} {a : ExprText} → g.IsSum text_at l u a → SumClimbs l u a → FoundOn line.Sum 4 l u a
  sum_by {l = l} {u = u} {a = a} x c = at_found text_at line.Sum (Below 4) l u (tall a (top l)) (sum_starts text_at x) (sum_read l u c)

  prod_by : {l : List ℕ} {u : List Token} {a : ExprText} → g.IsProd text_at l u a → ProdClimbs l u a → FoundOn line.Prod 5 l u a
  prod_by {l = l} {u = u} {a = a} x c = at_found text_at line.Prod (Below 5) l u (tall a (top l)) (prod_starts text_at x) (prod_read l u c)

  unary_by : {l : List ℕ} {u : List Token} {a : ExprText} → g.IsUnary text_at l u a → Reads line.Unary 6 l u a → FoundOn line.Unary 6 l u a
  unary_by {l = l} {u = u} {a = a} x c = at_found text_at line.Unary (Below 6) l u (tall a (top l)) (unary_starts text_at x) c

  primary_by : {l : List ℕ} {u : List Token} {a : ExprText} → g.IsPrimary text_at l u a → ((d : ℕ) (z : List Token) → Found (suc d) l (tall a (top l)) z (u ++ z) (r.primary text_at (inner text_at d) (u ++ z)))
      → (d : ℕ) (z : List Token) → Found d l (tall a (top l)) z (u ++ z) (r.at text_at d line.Primary (u ++ z))
  primary_by {l = l} {u = u} {a = a} x c d z = at_found text_at line.Primary (λ y. Unit {0}) l u (tall a (top l)) (primary_starts text_at x) (λ e y i. c e y) d z tt

  -- ---- the first member of each chain
  module _ (d : ℕ) (l : List ℕ) (u : List Token) {a : ExprText} (z : List Token) where
    stepped_first : Found (suc d) l (tall a (top l)) z (u ++ z) (r.primary text_at (inner text_at d) (u ++ z)) → Climbs (step text_at d) (suc d) l (tall a (top l)) z (u ++ z) (r.stepped text_at (inner text_at d) (suc d) (u ++ z))
    unfolding r.stepped
    stepped_first m = first_climbs (step text_at d) (λ x. x) (suc d) l (tall a (top l)) z (u ++ z) _ m

    cast_first : Found (suc d) l (tall a (top l)) z (u ++ z) (r.postfix text_at (inner text_at d) (suc d) (u ++ z)) → Climbs (r.cast_step text_at (inner text_at d) (suc d)) (suc d) l (tall a (top l)) z (u ++ z) (r.cast text_at (inner text_at d) (suc d) (u ++ z))
    unfolding r.cast
    cast_first m = first_climbs (r.cast_step text_at (inner text_at d) (suc d)) (λ x. x) (suc d) l (tall a (top l)) z (u ++ z) _ m

    prod_first : Found (suc d) l (tall a (top l)) z (u ++ z) (r.unary text_at (inner text_at d) (suc d) (u ++ z)) → Climbs (operating text_at d g.product_operator line.Unary) (suc d) l (tall a (top l)) z (u ++ z) (r.prod text_at (inner text_at d) (suc d) (u ++ z))
    unfolding r.prod
    prod_first m = first_climbs (operating text_at d g.product_operator line.Unary) (λ x. x) (suc d) l (tall a (top l)) z (u ++ z) _ m

    sum_first : Found (suc d) l (tall a (top l)) z (u ++ z) (r.prod text_at (inner text_at d) (suc d) (u ++ z)) → Climbs (operating text_at d g.sum_operator line.Prod) (suc d) l (tall a (top l)) z (u ++ z) (r.sum text_at (inner text_at d) (suc d) (u ++ z))
    unfolding r.sum
    sum_first m = first_climbs (operating text_at d g.sum_operator line.Prod) (λ x. x) (suc d) l (tall a (top l)) z (u ++ z) _ m

    conj_first : Found (suc d) l (tall a (top l)) z (u ++ z) (r.neg text_at (inner text_at d) (suc d) (u ++ z)) → Climbs (operating text_at d g.and_operator line.Neg) (suc d) l (tall a (top l)) z (u ++ z) (r.conj text_at (inner text_at d) (suc d) (u ++ z))
    unfolding r.conj
    conj_first m = first_climbs (operating text_at d g.and_operator line.Neg) (λ x. x) (suc d) l (tall a (top l)) z (u ++ z) _ m

    expr_first : Found (suc d) l (tall a (top l)) z (u ++ z) (r.conj text_at (inner text_at d) (suc d) (u ++ z)) → Climbs (operating text_at d g.or_operator line.Conj) (suc d) l (tall a (top l)) z (u ++ z) (r.expression text_at (inner text_at d) (suc d) (u ++ z))
    unfolding r.expression
    expr_first m = first_climbs (operating text_at d g.or_operator line.Conj) (λ x. x) (suc d) l (tall a (top l)) z (u ++ z) _ m

    -- ---- what the tests on the first token choose
    postfix_stepped : Starts r.begins_primary l u → Climbs (step text_at d) (suc d) l (tall a (top l)) z (u ++ z) (r.stepped text_at (inner text_at d) (suc d) (u ++ z)) → Below 7 z → Found (suc d) l (tall a (top l)) z (u ++ z) (r.postfix text_at (inner text_at d) (suc d) (u ++ z))
    unfolding r.postfix
    postfix_stepped s c lt = rw (starts_not (is_key key.Lookup) z s no_lookup, starts_not (is_key key.Dispatch) z s no_dispatch)
        (climbs_end (step text_at d) (suc d) l (tall a (top l)) (tall a (top l)) z (u ++ z) _ c (pushed_end (is_sign sign.Dot) (suc d) (top l) (r.step_taken text_at (inner text_at d) (tall a (top l))) (pure (Done (tall a (top l)))) z (no_dot (head z) lt)))

    unary_cast : Starts r.begins_postfix l u → Found (suc d) l (tall a (top l)) z (u ++ z) (r.cast text_at (inner text_at d) (suc d) (u ++ z)) → Found (suc d) l (tall a (top l)) z (u ++ z) (r.unary text_at (inner text_at d) (suc d) (u ++ z))
    unfolding r.unary
    unary_cast s m = rw (starts_not (is_sign sign.Minus) z s no_minus) m

    unary_minus : Found d l (tall a (top l)) z (u ++ z) (r.at text_at d line.Unary (u ++ z)) → Found (suc d) (down (0 ∷ l)) (tall (expr.Unary 0 a) (top (down (0 ∷ l)))) z (token.Mark sign.Minus ∷ (u ++ z)) (r.unary text_at (inner text_at d) (suc d) (token.Mark sign.Minus ∷ (u ++ z)))
    unfolding r.unary same_sign
    unary_minus m = valued (ap (tall (expr.Unary 0 a)) (sym (level_eq l (top l) refl))) (lifted (passed (token.Mark sign.Minus) (made _ m refl)))

    neg_cmp : Starts r.begins_unary l u → Found (suc d) l (tall a (top l)) z (u ++ z) (r.cmp text_at (inner text_at d) (suc d) (u ++ z)) → Found (suc d) l (tall a (top l)) z (u ++ z) (r.neg text_at (inner text_at d) (suc d) (u ++ z))
    unfolding r.neg
    neg_cmp s m = rw (starts_not (is_key key.Not) z s no_not) m

    neg_not : (p : ℕ) → Found d l (tall a (top l)) z (u ++ z) (r.at text_at d line.Neg (u ++ z)) → Found (suc d) (down (0 ∷ l)) (tall (expr.Unary 1 a) (top (down (0 ∷ l)))) z (token.Word key.Not p ∷ (u ++ z)) (r.neg text_at (inner text_at d) (suc d) (token.Word key.Not p ∷ (u ++ z)))
    unfolding r.neg same_key
    neg_not p m = valued (ap (tall (expr.Unary 1 a)) (sym (level_eq l (top l) refl))) (lifted (passed (token.Word key.Not p) (made _ m refl)))

    cmp_sum : Found (suc d) l (tall a (top l)) z (u ++ z) (r.sum text_at (inner text_at d) (suc d) (u ++ z)) → Below 3 z → Found (suc d) l (tall a (top l)) z (u ++ z) (r.cmp text_at (inner text_at d) (suc d) (u ++ z))
    unfolding r.cmp
    cmp_sum m lt = made _ m (operator_end g.comparison (suc d) (top l) (compared_operand d (tall a (top l))) (pure (tall a (top l))) z (no_comparison (head z) lt))

  cmp_compared : (d : ℕ) (t : Token) {op : ℕ} (l m : List ℕ) (u v : List Token) {a b : ExprText} (z : List Token) → g.comparison t ≡ Some op → Found (suc d) l (tall a (top l)) (t ∷ (v ++ z)) (u ++ t ∷ (v ++ z)) (r.sum text_at (inner text_at d) (suc d) (u ++ t ∷ (v ++ z)))
      → Found d m (tall b (top m)) z (v ++ z) (r.at text_at d line.Sum (v ++ z))
      → Found (suc d) (l ++ down (top l ∷ m)) (tall (expr.Binary op a b) (top (l ++ down (top l ∷ m)))) z (u ++ t ∷ (v ++ z)) (r.cmp text_at (inner text_at d) (suc d) (u ++ t ∷ (v ++ z)))
  unfolding r.cmp
  cmp_compared d t {op = op} l m u v {a = a} {b = b} z e n n' =
      valued (ap (tall (expr.Binary op a b)) (sym (pushed_eq l m (top l) (top m) refl refl)))
      (operand _ l (down m) t (v ++ z) n (lifted (made _ n' refl))
      (λ le. operator_room g.comparison (suc d) (top l) (compared_operand d (tall a (top l))) (pure (tall a (top l))) t op (v ++ z) e (omega (arith, le)))
      (λ gt. operator_none g.comparison (suc d) (top l) (compared_operand d (tall a (top l))) (pure (tall a (top l))) t op (v ++ z) e (omega (arith, gt))))

  named_end : (d : ℕ) (l : List ℕ) {a : ExprText} {n : Word} {x : List ExprText} (z w : List Token) (o : Outcome NamedCall) (c : NamedClimbs text_at d l a n x z w o) → Below 7 z → Found (suc d) (down l) (named_call (tall a c.receiver) n (given x c.arguments)) z w o
  named_end d l {a = a} {n = n} {x = x} z w o c lt =
      climbs_end (named_step text_at d) (suc d) (down l) (named_call (tall a c.receiver) n (given x c.arguments)) (named_call (tall a c.receiver) n (given x c.arguments)) z w o c.climbs
      (pushed_end (is_sign sign.Dot) (suc d) (max c.receiver c.arguments + 1) (r.named_step_taken text_at (inner text_at d) (named_call (tall a c.receiver) n (given x c.arguments))) (pure (Done (named_call (tall a c.receiver) n (given x c.arguments)))) z (no_dot (head z) lt))

  cast_climbs_on : (d p : ℕ) (l : List ℕ) (v : List Token) {a : ExprText} {n : Word} (z w : List Token) (o : Outcome Tall) → g.IsName text_at v n → Climbs (r.cast_step text_at (inner text_at d) (suc d)) (suc d) l (tall a (top l)) (token.Word key.As p ∷ (v ++ z)) w o
      → Climbs (r.cast_step text_at (inner text_at d) (suc d)) (suc d) (l ++ down (top l ∷ 0 ∷ [])) (tall (expr.Cast n a) (top (l ++ down (top l ∷ 0 ∷ [])))) z w o
  cast_climbs_on d p l v {a = a} {n = n} z w o i c =
      let e : top l + 1 ≡ top (l ++ down (top l ∷ 0 ∷ [])) = omega (arith, pushed_eq l (0 ∷ []) (top l) 0 refl refl) in
      valued_climbs (ap (tall (expr.Cast n a)) e)
      (pushed_chain (r.cast_step text_at (inner text_at d) (suc d)) d l (down (0 ∷ [])) (token.Word key.As p) (v ++ z) (tall a (top l)) (tall (expr.Cast n a) (top l + 1)) z w o (cast_name (tall a (top l)) (v ++ z)) c
      (lifted (made _ (name_read text_at z i) refl))
      (λ le. pushed_room (is_key key.As) (suc d) (top l) (cast_name (tall a (top l))) (pure (Done (tall a (top l)))) (token.Word key.As p) (v ++ z) (same_key_self key.As) (omega (arith, le)))
      (λ gt. pushed_none (is_key key.As) (suc d) (top l) (cast_name (tall a (top l))) (pure (Done (tall a (top l)))) (token.Word key.As p) (v ++ z) (same_key_self key.As) (omega (arith, gt))))

  lookup_read : (d p : ℕ) (l : List ℕ) {r' : List Token} (y z : List Token) {t : Option TypeName} {a : ExprText} {n : Word} {x : List ExprText} → g.IsResult text_at r' t → NamedClimbs text_at d l a n x z y (r.call_by_name text_at (inner text_at d) (suc d) y) → Below 7 z
      → Found (suc d) (down (0 ∷ 0 ∷ l)) (tall (expr.Lookup t a n x) (top (down (0 ∷ 0 ∷ l)))) z (token.Word key.Lookup p ∷ (r' ++ y)) (r.postfix text_at (inner text_at d) (suc d) (token.Word key.Lookup p ∷ (r' ++ y)))
  unfolding r.postfix r.lookup same_key
  lookup_read d p l y z {t = t} {a = a} {n = n} {x = x} i c lt =
      let e : max c.receiver c.arguments + 1 ≡ top (down (0 ∷ 0 ∷ l)) = omega (arith, c.tops, top_down 0 (0 ∷ l)) in
      valued (ap (tall (expr.Lookup t a n x)) e) (raised (passed (token.Word key.Lookup p) (next _ (outcome_read text_at y i) (made _ (named_end d l z y _ c lt) refl))))

  dispatch_read : (d p : ℕ) (l : List ℕ) {r' : List Token} (y z : List Token) {t : Option TypeName} {a : ExprText} {n : Word} {x : List ExprText} → g.IsResult text_at r' t → NamedClimbs text_at d l a n x z y (r.call_by_name text_at (inner text_at d) (suc d) y) → Below 7 z
      → Found (suc d) (down (0 ∷ 0 ∷ l)) (tall (expr.Dispatch t a n x) (top (down (0 ∷ 0 ∷ l)))) z (token.Word key.Dispatch p ∷ (r' ++ y)) (r.postfix text_at (inner text_at d) (suc d) (token.Word key.Dispatch p ∷ (r' ++ y)))
  unfolding r.postfix r.dispatch same_key
  dispatch_read d p l y z {t = t} {a = a} {n = n} {x = x} i c lt =
      let e : max c.receiver c.arguments + 1 ≡ top (down (0 ∷ 0 ∷ l)) = omega (arith, c.tops, top_down 0 (0 ∷ l)) in
      valued (ap (tall (expr.Dispatch t a n x)) e) (raised (passed (token.Word key.Dispatch p) (next _ (outcome_read text_at y i) (made _ (named_end d l z y _ c lt) refl))))

  -- the levels of a form
  one : (a : ExprText) (l : List ℕ) (k : ℕ) → top l ≡ k → tall a (k + 1) ≡ tall a (top (down (0 ∷ l)))
  one a l k e = ap (tall a) (sym (level_eq l k e))

  -- ---- by induction on what the grammar derives
  mutual
    pub primary_found : {l : List ℕ} {u : List Token} {a : ExprText} → g.IsPrimary text_at l u a → (d : ℕ) (z : List Token) → Found (suc d) l (tall a (top l)) z (u ++ z) (r.primary text_at (inner text_at d) (u ++ z))
    primary_found (g.an_atom t {a = a} e) d z = f.atom_found text_at d t a z e
    primary_found (g.a_variable {p = p} i) d z = f.variable_found text_at d p z i
    primary_found (g.a_group {l = l} {u = u} {a = a} x) d z = rw (append_assoc u (closing ∷ []) z) (valued (one a (l ++ 0 ∷ []) (top l) (omega (arith, top_append l (0 ∷ [])))) (f.group_found text_at d l u z (expr_by x (expr_climbs x))))
    primary_found (g.a_length {p = p} {l = l} {u = u} {a = a} x) d z = rw (append_assoc u (closing ∷ []) z) (valued (one (expr.Unary 2 a) (0 ∷ (l ++ 0 ∷ [])) (top l) (omega (arith, top_append l (0 ∷ [])))) (f.length_found text_at d p l u z (expr_by x (expr_climbs x))))
    primary_found (g.a_text {p = p} {l = l} {u = u} {a = a} x) d z = rw (append_assoc u (closing ∷ []) z) (valued (one (expr.Unary 3 a) (0 ∷ (l ++ 0 ∷ [])) (top l) (omega (arith, top_append l (0 ∷ [])))) (f.text_found text_at d p l u z (expr_by x (expr_climbs x))))
    primary_found (g.a_new {p = p} i) d z = f.new_found text_at d p z i
    primary_found (g.a_class {p = p} i) d z = f.class_found text_at d p z i
    primary_found (g.an_isa {p = p} {l = l} {u = u} {v = v} {a = a} {n = n} x i) d z = rw (append_assoc u (comma ∷ (v ++ closing ∷ [])) z, append_assoc v (closing ∷ []) z)
        (valued (one (expr.Isa n a) (0 ∷ (l ++ 0 ∷ 0 ∷ 0 ∷ [])) (top l) (omega (arith, top_append l (0 ∷ 0 ∷ 0 ∷ [])))) (f.isa_found text_at d p l u v z (expr_by x (expr_climbs x)) i))
    primary_found (g.a_proxy {p = p} {l = l} {u = u} {v = v} {n = n} {a = a} i x) d z = rw (append_assoc u (comma ∷ (v ++ closing ∷ [])) z, append_assoc v (closing ∷ []) z)
        (valued (one (expr.Proxy n a) (0 ∷ 0 ∷ 0 ∷ (l ++ 0 ∷ [])) (top l) (omega (arith, top_append l (0 ∷ [])))) (f.proxy_found text_at d p l u v z i (expr_by x (expr_climbs x))))
    primary_found (g.a_host_call {p = p} {l = l} {m = m} {u = u} {v = v} {w = w} {c = c} {a = a} {b = b} i x y) d z =
        rw (append_assoc u (opening ∷ (v ++ comma ∷ (w ++ closing ∷ []))) z, append_assoc v (comma ∷ (w ++ closing ∷ [])) z, append_assoc w (closing ∷ []) z)
        (valued (one (expr.Host c a b) (0 ∷ 0 ∷ (l ++ 0 ∷ (m ++ 0 ∷ []))) (max (top l) (top m)) (omega (arith, top_append l (0 ∷ (m ++ 0 ∷ [])), top_append m (0 ∷ []))))
        (f.host_call_found text_at d p l m u v w z i (expr_by x (expr_climbs x)) (expr_by y (expr_climbs y))))
    primary_found (g.a_parent_call {p = p} {l = l} {u = u} {v = v} {w = w} {n = n} {m = m} {g = x'} i j x) d z = rw (append_assoc u (dot ∷ (v ++ w)) z, append_assoc v w z)
        (valued (one (expr.Parent n m x') (0 ∷ 0 ∷ 0 ∷ l) (top l) (omega arith)) (f.parent_found text_at d p l u v w z i j (arguments_found x)))
    primary_found (g.a_parents_call {p = p} {l = l} {u = u} {v = v} {m = m} {g = x'} i x) d z = rw (append_assoc u v z)
        (valued (one (expr.Parents m x') (0 ∷ 0 ∷ l) (top l) (omega arith)) (f.parents_found text_at d p l u v z i (arguments_found x)))

    pub stepped_climbs : {l : List ℕ} {u : List Token} {a : ExprText} → g.IsStepped text_at l u a → SteppedClimbs l u a
    stepped_climbs (g.no_step {l = l} {u = u} x) d z = stepped_first d l u z (primary_found x d z)
    stepped_climbs (g.a_step {l = l} {m = m} {u = u} {v = v} {w = w} x i y) d z = rw (append_assoc u (dot ∷ (v ++ w)) z, append_assoc v w z) (f.step_climbs text_at d l m v w z _ _ (stepped_climbs x d (dot ∷ (v ++ (w ++ z)))) i (arguments_found y))

    named_climbs : {l : List ℕ} {u : List Token} {a : ExprText} {n : Word} {x : List ExprText} → g.IsNamedCall text_at l u a n x → (d : ℕ) (z : List Token) → NamedClimbs text_at d l a n x z (u ++ z) (r.call_by_name text_at (inner text_at d) (suc d) (u ++ z))
    named_climbs (g.a_first_step {l = l} {m = m} {u = u} {v = v} {w = w} x i y) d z = rw (append_assoc u (dot ∷ (v ++ w)) z, append_assoc v w z)
        (f.named_first text_at d l m u v w z (starts_high (primary_starts text_at x)) (primary_by x (primary_found x) d (dot ∷ (v ++ (w ++ z)))) i (arguments_found y))
    named_climbs (g.a_further_step {l = l} {m = m} {u = u} {v = v} {w = w} x i y) d z = rw (append_assoc u (dot ∷ (v ++ w)) z, append_assoc v w z) (f.named_next text_at d l m v w z _ _ (named_climbs x d (dot ∷ (v ++ (w ++ z)))) i (arguments_found y))

    pub postfix_read : {l : List ℕ} {u : List Token} {a : ExprText} → g.IsPostfix text_at l u a → Reads line.Postfix 7 l u a
    postfix_read (g.a_stepped {l = l} {u = u} x) d z lt = postfix_stepped d l u z (stepped_starts text_at x) (stepped_climbs x d z) lt
    postfix_read (g.a_lookup {p = p} {l = l} {r = r'} {u = u} i y) d z lt = rw (append_assoc r' u z) (lookup_read d p l (u ++ z) z i (named_climbs y d z) lt)
    postfix_read (g.a_dispatch {p = p} {l = l} {r = r'} {u = u} i y) d z lt = rw (append_assoc r' u z) (dispatch_read d p l (u ++ z) z i (named_climbs y d z) lt)

    pub arguments_found : {l : List ℕ} {u : List Token} {x : List ExprText} → g.IsArguments text_at l u x → ArgsFound text_at l u x
    arguments_found g.no_arguments d z = f.no_arguments_found text_at d z
    arguments_found (g.some_arguments {l = l} {u = u} {g = x} y) d z = rw (append_assoc u (closing ∷ []) z)
        (valued (ap (given x) (let e : top l ≡ top (0 ∷ (l ++ 0 ∷ [])) = omega (arith, top_append l (0 ∷ [])) in e)) (f.some_arguments_found text_at d l u z (exprs_starts text_at y) (exprs_climbs y d)))

    exprs_climbs : {l : List ℕ} {u : List Token} {x : List ExprText} → g.IsExprs text_at l u x → (d : ℕ) → ExprsClimb text_at d l u x
    exprs_climbs (g.first_argument {l = l} {u = u} y) d z lt = f.first_argument_climbs text_at d l u z (expr_by y (expr_climbs y) d z lt)
    exprs_climbs (g.next_argument {l = l} {m = m} {u = u} {v = v} y y') d z lt = rw (append_assoc u (comma ∷ v) z) (f.next_argument_climbs text_at d l m v z _ _ (exprs_climbs y d (comma ∷ (v ++ z)) (f.commas (v ++ z))) (expr_by y' (expr_climbs y') d z lt))

    cast_climbs : {l : List ℕ} {u : List Token} {a : ExprText} → g.IsCast text_at l u a → CastClimbs l u a
    cast_climbs (g.no_cast {l = l} {u = u} x) d z lt = cast_first d l u z (postfix_read x d z lt)
    cast_climbs (g.a_cast p {l = l} {u = u} {v = v} x i) d z lt = rw (append_assoc u (token.Word key.As p ∷ v) z) (cast_climbs_on d p l v z _ _ i (cast_climbs x d (token.Word key.As p ∷ (v ++ z)) (omega arith)))

    unary_read : {l : List ℕ} {u : List Token} {a : ExprText} → g.IsUnary text_at l u a → Reads line.Unary 6 l u a
    unary_read (g.no_minus {l = l} {u = u} x) d z lt = unary_cast d l u z (cast_starts text_at x) (cast_read l u (cast_climbs x) d z lt)
    unary_read (g.a_minus {l = l} {u = u} x) d z lt = unary_minus d l u z (unary_by x (unary_read x) d z lt)

    prod_climbs : {l : List ℕ} {u : List Token} {a : ExprText} → g.IsProd text_at l u a → ProdClimbs l u a
    prod_climbs (g.no_product {l = l} {u = u} x) d z lt = prod_first d l u z (unary_read x d z lt)
    prod_climbs (g.a_product t {op = op} {l = l} {m = m} {u = u} {v = v} e x y) d z lt =
        rw (append_assoc u (t ∷ v) z) (f.operation_climbs text_at d g.product_operator line.Unary t l m v z _ _ e (prod_climbs x d (t ∷ (v ++ z)) (omega (arith, product_strength t op e))) (unary_by y (unary_read y) d z lt))

    sum_climbs : {l : List ℕ} {u : List Token} {a : ExprText} → g.IsSum text_at l u a → SumClimbs l u a
    sum_climbs (g.no_sum {l = l} {u = u} x) d z lt = sum_first d l u z (prod_read l u (prod_climbs x) d z lt)
    sum_climbs (g.a_sum t {op = op} {l = l} {m = m} {u = u} {v = v} e x y) d z lt =
        rw (append_assoc u (t ∷ v) z) (f.operation_climbs text_at d g.sum_operator line.Prod t l m v z _ _ e (sum_climbs x d (t ∷ (v ++ z)) (omega (arith, sum_strength t op e))) (prod_by y (prod_climbs y) d z lt))

    cmp_read : {l : List ℕ} {u : List Token} {a : ExprText} → g.IsCmp text_at l u a → Reads line.Cmp 3 l u a
    cmp_read (g.no_comparison {l = l} {u = u} x) d z lt = cmp_sum d l u z (sum_read l u (sum_climbs x) d z (omega (arith, lt))) lt
    cmp_read (g.a_comparison t {op = op} {l = l} {m = m} {u = u} {v = v} e x y) d z lt =
        rw (append_assoc u (t ∷ v) z) (cmp_compared d t l m u v z e (sum_read l u (sum_climbs x) d (t ∷ (v ++ z)) (omega (arith, comparison_strength t op e))) (sum_by y (sum_climbs y) d z (omega (arith, lt))))

    neg_read : {l : List ℕ} {u : List Token} {a : ExprText} → g.IsNeg text_at l u a → Reads line.Neg 3 l u a
    neg_read (g.no_not {l = l} {u = u} x) d z lt = neg_cmp d l u z (cmp_starts text_at x) (cmp_read x d z lt)
    neg_read (g.a_not {p = p} {l = l} {u = u} x) d z lt = neg_not d l u z p (neg_by x (neg_read x) d z lt)

    conj_climbs : {l : List ℕ} {u : List Token} {a : ExprText} → g.IsConj text_at l u a → ConjClimbs l u a
    conj_climbs (g.no_and {l = l} {u = u} x) d z lt = conj_first d l u z (neg_read x d z lt)
    conj_climbs (g.an_and t {op = op} {l = l} {m = m} {u = u} {v = v} e x y) d z lt =
        rw (append_assoc u (t ∷ v) z) (f.operation_climbs text_at d g.and_operator line.Neg t l m v z _ _ e (conj_climbs x d (t ∷ (v ++ z)) (omega (arith, and_strength t op e))) (neg_by y (neg_read y) d z lt))

    expr_climbs : {l : List ℕ} {u : List Token} {a : ExprText} → g.IsExpr text_at l u a → ExprClimbs l u a
    expr_climbs (g.no_or {l = l} {u = u} x) d z lt = expr_first d l u z (conj_read l u (conj_climbs x) d z lt)
    expr_climbs (g.an_or t {op = op} {l = l} {m = m} {u = u} {v = v} e x y) d z lt =
        rw (append_assoc u (t ∷ v) z) (f.operation_climbs text_at d g.or_operator line.Conj t l m v z _ _ e (expr_climbs x d (t ∷ (v ++ z)) (omega (arith, or_strength t op e))) (conj_by y (conj_climbs y) d z lt))

  -- ---- where d levels are left
  pub expr_found : {l : List ℕ} {u : List Token} {a : ExprText} → g.IsExpr text_at l u a → ExprFound text_at l u a
  expr_found x = expr_by x (expr_climbs x)

  pub postfix_found : {l : List ℕ} {u : List Token} {a : ExprText} → g.IsPostfix text_at l u a → FoundOn line.Postfix 7 l u a
  postfix_found {l = l} {u = u} {a = a} x = at_found text_at line.Postfix (Below 7) l u (tall a (top l)) (postfix_starts text_at x) (postfix_read x)
