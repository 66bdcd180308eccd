-- Reading with one token in hand: the steps of which the readers of a grammar are made.
use Rattle.std.specs.Prelude.{ℕ, zero, suc, Bool, if◌then◌else◌, List, [], ◌∷◌, ◌++◌, length, drop, Option, Some, None, Result, Ok, Err}
use Rattle.som_parse.specs.declared.cursor.Stop.{Stop}
use Rattle.som_parse.specs.declared.cursor.Stop.TheVariants.{Syntax}
use Rattle.som_parse.specs.declared.cursor.Turn.{Turn}
use Rattle.som_parse.specs.declared.cursor.Turn.TheVariants.{More, Done}
use Rattle.som_parse.specs.declared.token.Key.{Key}
use Rattle.som_parse.specs.declared.token.Sign.{Sign}
use Rattle.som_parse.specs.declared.token.Sign.TheVariants as sign
use Rattle.som_parse.specs.declared.token.Token.{Token}
use Rattle.som_parse.specs.declared.token.Token.TheVariants as token
use Rattle.som_parse.specs.Tokens.{head, is_sign, is_key}

-- a value and the tokens that are left, or why reading stopped and the tokens from there on
abbrev pub Outcome : Type 0 → Type 0
Outcome A = Result (A × List Token) (Stop × List Token)

abbrev pub Parser : Type 0 → Type 0
Parser A = List Token → Outcome A

abbrev pub and_then : {A B : Type 0} → Outcome A → (A → Parser B) → Outcome B
and_then (Ok p) f = f p.0 p.1
and_then (Err e) f = Err e

infixl 10 ◌>>=◌
abbrev pub ◌>>=◌ : {A B : Type 0} → Parser A → (A → Parser B) → Parser B
p >>= f = λ ts. and_then (p ts) f

infixl 10 ◌>>◌
abbrev pub ◌>>◌ : {A B : Type 0} → Parser A → Parser B → Parser B
p >> q = p >>= (λ _. q)

abbrev pub pure : {A : Type 0} → A → Parser A
pure a = λ ts. Ok (a, ts)

abbrev pub stop : {A : Type 0} → Stop → Parser A
stop f = λ ts. Err (f, ts)

-- p where the token in hand passes the test, else q
abbrev pub when : {A : Type 0} → (Option Token → Bool) → Parser A → Parser A → Parser A
when test p q = λ ts. if test (head ts) then p ts else q ts

-- p after the token in hand where that passes the test, else q
abbrev pub after : {A : Type 0} → (Option Token → Bool) → Parser A → Parser A → Parser A
after test p q = λ ts. if test (head ts) then p (drop 1 ts) else q ts

unfoldable pub expect : Sign → Parser (Unit {0})
expect s = after (is_sign s) (pure tt) (stop Syntax)

unfoldable pub keyword : Key → Parser (Unit {0})
keyword k = after (is_key k) (pure tt) (stop Syntax)

abbrev pub number_by : Option Token → Parser ℕ
number_by (Some (token.Number n)) = λ ts. Ok (n, drop 1 ts)
number_by _ = stop Syntax

unfoldable pub number : Parser ℕ
number = λ ts. number_by (head ts) ts

-- what a grammar makes of a word, by what the word is and where it stands
abbrev pub word_by : {A : Type 0} → (Key → ℕ → Option A) → Option Token → Option A
word_by f (Some (token.Word k p)) = f k p
word_by f _ = None

abbrev pub taken : {A : Type 0} → Option A → Parser A
taken (Some a) = λ ts. Ok (a, drop 1 ts)
taken None = stop Syntax

-- the word in hand, as what the grammar makes of it
unfoldable pub take_word : {A : Type 0} → (Key → ℕ → Option A) → Parser A
take_word f = λ ts. taken (word_by f (head ts)) ts

abbrev pub end_by : Option Token → Parser (Unit {0})
end_by None = pure tt
end_by (Some t) = stop Syntax

unfoldable pub end : Parser (Unit {0})
end = λ ts. end_by (head ts) ts

-- what a turn of a loop leaves is a `Turn`
abbrev pub go : {A B : Type 0} → (A → Parser B) → Turn A B → Parser B
go again (More a) = again a
go again (Done b) = pure b

abbrev pub turns : {A B : Type 0} → (A → Parser (Turn A B)) → ℕ → A → Parser B
turns turn zero a = stop Syntax
turns turn (suc n) a = turn a >>= go (turns turn n)

-- turn after turn, each of which takes a token or is the last
unfoldable pub repeat : {A B : Type 0} → (A → Parser (Turn A B)) → A → Parser B
repeat turn a = λ ts. turns turn (suc (length ts)) a ts

-- ---- a { "," a }
abbrev pub added : {A : Type 0} → Parser A → List A → Parser (Turn (List A) (List A))
added p as' = p >>= λ a. pure (More (as' ++ a ∷ []))

abbrev pub another : {A : Type 0} → Parser A → List A → Parser (Turn (List A) (List A))
another p as' = after (is_sign sign.Comma) (added p as') (pure (Done as'))

unfoldable pub listed : {A : Type 0} → Parser A → Parser (List A)
listed p = p >>= λ a. repeat (another p) (a ∷ [])

-- ---- { a }, up to the token in hand that passes the test
abbrev pub with_kept : {A : Type 0} → List A → Option A → List A
with_kept as' (Some a) = as' ++ a ∷ []
with_kept as' None = as'

abbrev pub one_more : {A : Type 0} → (Option Token → Bool) → Parser (Option A) → List A → Parser (Turn (List A) (List A))
one_more ends p as' = when ends (pure (Done as')) (p >>= λ a. pure (More (with_kept as' a)))

unfoldable pub repeated : {A : Type 0} → (Option Token → Bool) → Parser (Option A) → Parser (List A)
repeated ends p = repeat (one_more ends p) []

abbrev pub keeping : {A : Type 0} → Parser A → Parser (Option A)
keeping p = p >>= λ a. pure (Some a)
