-- How tight operators bind, and what each line of the grammar begins with.
use Rattle.std.proofs.Common.{◌≡◌, ℕ, ◌+◌, ◌<◌, ◌≤◌, List, [], ◌∷◌, ◌++◌, take, Bool, true, false, Option, Some, None, refl, ap, arith}
use Rattle.som_parse.specs.Tokens.{head, is_sign, is_key, same_sign, same_key}
use Rattle.som_parse.specs.declared.token.Key.TheVariants as key
use Rattle.som_parse.specs.declared.token.Sign.TheVariants as sign
use Rattle.som_parse.specs.declared.token.Token.{Token}
use Rattle.som_parse.specs.declared.token.Token.TheVariants as token
use Rattle.som_parse.proofs.Steps.{apart_key}
use Rattle.som_body.specs.Grammar as g
use Rattle.som_body.specs.Reading as r
use Rattle.som_body.specs.Reading.{found}
use Rattle.som_body.specs.Levels.{top}
use Rattle.som_body.proofs.LevelFound.{Deep}
use Rattle.som_body.proofs.LevelLists.{top_part}

-- of the operator that the token in hand is, or 0
abbrev pub strength : Option Token → ℕ
strength (Some (token.Mark sign.Dot)) = 7
strength (Some (token.Word key.As p)) = 6
strength (Some (token.Mark sign.Times)) = 5
strength (Some (token.Mark sign.Divide)) = 5
strength (Some (token.Mark sign.Remainder)) = 5
strength (Some (token.Mark sign.Plus)) = 4
strength (Some (token.Mark sign.Minus)) = 4
strength (Some (token.Mark sign.Join)) = 4
strength (Some (token.Mark sign.Equal)) = 3
strength (Some (token.Mark sign.NotEqual)) = 3
strength (Some (token.Mark sign.Less)) = 3
strength (Some (token.Mark sign.LessEqual)) = 3
strength (Some (token.Mark sign.Greater)) = 3
strength (Some (token.Mark sign.GreaterEqual)) = 3
strength (Some (token.Word key.And p)) = 2
strength (Some (token.Word key.Or p)) = 1
strength _ = 0

pub product_strength : (t : Token) (op : ℕ) → g.product_operator t ≡ Some op → strength (Some t) ≡ 5
product_strength (token.Mark sign.Times) op e = refl
product_strength (token.Mark sign.Divide) op e = refl
product_strength (token.Mark sign.Remainder) op e = refl
product_strength t op e = cc

pub sum_strength : (t : Token) (op : ℕ) → g.sum_operator t ≡ Some op → strength (Some t) ≡ 4
sum_strength (token.Mark sign.Plus) op e = refl
sum_strength (token.Mark sign.Minus) op e = refl
sum_strength (token.Mark sign.Join) op e = refl
sum_strength t op e = cc

pub comparison_strength : (t : Token) (op : ℕ) → g.comparison t ≡ Some op → strength (Some t) ≡ 3
comparison_strength (token.Mark sign.Equal) op e = refl
comparison_strength (token.Mark sign.NotEqual) op e = refl
comparison_strength (token.Mark sign.Less) op e = refl
comparison_strength (token.Mark sign.LessEqual) op e = refl
comparison_strength (token.Mark sign.Greater) op e = refl
comparison_strength (token.Mark sign.GreaterEqual) op e = refl
comparison_strength t op e = cc

pub and_strength : (t : Token) (op : ℕ) → g.and_operator t ≡ Some op → strength (Some t) ≡ 2
and_strength (token.Word key.And p) op e = refl
and_strength t op e = cc

pub or_strength : (t : Token) (op : ℕ) → g.or_operator t ≡ Some op → strength (Some t) ≡ 1
or_strength (token.Word key.Or p) op e = refl
or_strength t op e = cc

-- ---- what binds less tight is no operator of a line

pub no_dot : (o : Option Token) → strength o < 7 → is_sign sign.Dot o ≡ false
unfolding same_sign
no_dot (Some (token.Mark sign.Dot)) lt = absurd (omega (arith, lt))
no_dot o lt = refl

pub no_as : (o : Option Token) → strength o < 6 → is_key key.As o ≡ false
unfolding same_key
no_as (Some (token.Word key.As p)) lt = absurd (omega (arith, lt))
no_as o lt = refl

pub no_product : (o : Option Token) → strength o < 5 → found g.product_operator o ≡ None
no_product (Some (token.Mark sign.Times)) lt = absurd (omega (arith, lt))
no_product (Some (token.Mark sign.Divide)) lt = absurd (omega (arith, lt))
no_product (Some (token.Mark sign.Remainder)) lt = absurd (omega (arith, lt))
no_product o lt = refl

pub no_sum : (o : Option Token) → strength o < 4 → found g.sum_operator o ≡ None
no_sum (Some (token.Mark sign.Plus)) lt = absurd (omega (arith, lt))
no_sum (Some (token.Mark sign.Minus)) lt = absurd (omega (arith, lt))
no_sum (Some (token.Mark sign.Join)) lt = absurd (omega (arith, lt))
no_sum o lt = refl

pub no_comparison : (o : Option Token) → strength o < 3 → found g.comparison o ≡ None
no_comparison (Some (token.Mark sign.Equal)) lt = absurd (omega (arith, lt))
no_comparison (Some (token.Mark sign.NotEqual)) lt = absurd (omega (arith, lt))
no_comparison (Some (token.Mark sign.Less)) lt = absurd (omega (arith, lt))
no_comparison (Some (token.Mark sign.LessEqual)) lt = absurd (omega (arith, lt))
no_comparison (Some (token.Mark sign.Greater)) lt = absurd (omega (arith, lt))
no_comparison (Some (token.Mark sign.GreaterEqual)) lt = absurd (omega (arith, lt))
no_comparison o lt = refl

pub no_and : (o : Option Token) → strength o < 2 → found g.and_operator o ≡ None
no_and (Some (token.Word key.And p)) lt = absurd (omega (arith, lt))
no_and o lt = refl

pub no_or : (o : Option Token) → strength o < 1 → found g.or_operator o ≡ None
no_or (Some (token.Word key.Or p)) lt = absurd (omega (arith, lt))
no_or o lt = refl

-- ---- first tokens

-- a text with levels l begins with a token that passes the test, and with a construct
pub record Starts (test : Option Token → Bool) (l : List ℕ) (u : List Token) : Type 0 where
  pub first : Token
  pub others : List Token
  pub is : u ≡ first ∷ others
  pub begins : test (Some first) ≡ true
  pub high : 0 < top (take 1 l)

first_more : (l m : List ℕ) → 0 < top (take 1 l) → 0 < top (take 1 (l ++ m))
first_more [] m lt = absurd (omega (arith, lt))
first_more (n ∷ l) m lt = lt

pub starts_more : {test : Option Token → Bool} {l : List ℕ} {u : List Token} (m : List ℕ) (v : List Token) → Starts test l u → Starts test (l ++ m) (u ++ v)
starts_more {l = l} m v s = record { first = s.first; others = s.others ++ v; is = ap (λ y. y ++ v) s.is; begins = s.begins; high = first_more l m s.high }

pub starts_wider : {test wide : Option Token → Bool} {l : List ℕ} {u : List Token} → ((t : Token) → test (Some t) ≡ true → wide (Some t) ≡ true) → Starts test l u → Starts wide l u
starts_wider f s = record { first = s.first; others = s.others; is = s.is; begins = f s.first s.begins; high = s.high }

pub starts_deep : {A : Type 0} {test : Option Token → Bool} {l : List ℕ} {u : List Token} (z : List Token) → Starts test l u → Deep {A = A} 0 l (u ++ z) (r.too_deep test (u ++ z))
unfolding r.too_deep
starts_deep {u = u} z s = record { front = []; rest = u ++ z; splits = refl; is = rw (s.is) (rw (s.begins) refl); low = omega arith; high = s.high }

pub starts_low : {B : Type 0} {test : Option Token → Bool} {l : List ℕ} {u : List Token} → Starts test l u → top l ≤ 0 → B
starts_low {l = l} s le = absurd (omega (arith, s.high, le, top_part 1 l))

pub starts_high : {test : Option Token → Bool} {l : List ℕ} {u : List Token} → Starts test l u → 0 < top l
starts_high {l = l} s = omega (arith, s.high, top_part 1 l)

-- what the first token is not
pub starts_not : {test : Option Token → Bool} (other : Option Token → Bool) {l : List ℕ} {u : List Token} (z : List Token) → Starts test l u → ((t : Token) → test (Some t) ≡ true → other (Some t) ≡ false) → other (head (u ++ z)) ≡ false
starts_not other z s f = rw (s.is) (f s.first s.begins)

pub postfix_wide : (t : Token) → r.begins_primary (Some t) ≡ true → r.begins_postfix (Some t) ≡ true
postfix_wide (token.Word key.Lookup p) e = refl
postfix_wide (token.Word key.Dispatch p) e = refl
postfix_wide t e = e

pub unary_wide : (t : Token) → r.begins_postfix (Some t) ≡ true → r.begins_unary (Some t) ≡ true
unary_wide (token.Mark sign.Minus) e = refl
unary_wide t e = e

pub neg_wide : (t : Token) → r.begins_unary (Some t) ≡ true → r.begins_neg (Some t) ≡ true
neg_wide (token.Word key.Not p) e = refl
neg_wide t e = e

pub no_lookup : (t : Token) → r.begins_primary (Some t) ≡ true → is_key key.Lookup (Some t) ≡ false
no_lookup (token.Word k p) e = apart_key r.begins_word k key.Lookup e refl
no_lookup t e = refl

pub no_dispatch : (t : Token) → r.begins_primary (Some t) ≡ true → is_key key.Dispatch (Some t) ≡ false
no_dispatch (token.Word k p) e = apart_key r.begins_word k key.Dispatch e refl
no_dispatch t e = refl

pub no_minus : (t : Token) → r.begins_postfix (Some t) ≡ true → is_sign sign.Minus (Some t) ≡ false
unfolding same_sign
no_minus (token.Mark sign.Open) e = refl
no_minus (token.Mark s) e = cc
no_minus t e = refl

pub no_not : (t : Token) → r.begins_unary (Some t) ≡ true → is_key key.Not (Some t) ≡ false
no_not (token.Word k p) e = apart_key (λ j. r.begins_unary (Some (token.Word j p))) k key.Not e refl
no_not t e = refl

pub no_close : (t : Token) → r.begins_neg (Some t) ≡ true → is_sign sign.Close (Some t) ≡ false
unfolding same_sign
no_close (token.Mark sign.Open) e = refl
no_close (token.Mark sign.Minus) e = refl
no_close (token.Mark s) e = cc
no_close t e = refl

pub no_semicolon : (t : Token) → r.begins_neg (Some t) ≡ true → is_sign sign.Semicolon (Some t) ≡ false
unfolding same_sign
no_semicolon (token.Mark sign.Open) e = refl
no_semicolon (token.Mark sign.Minus) e = refl
no_semicolon (token.Mark s) e = cc
no_semicolon t e = refl
