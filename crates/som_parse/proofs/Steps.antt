-- The laws of the readers of single tokens, each with what follows it.
use Rattle.std.proofs.Common.{◌≡◌, ◌≢◌, ℕ, Bool, List, false, [], ◌∷◌, ◌++◌, true, Option, Some, None, Err, refl, ap, subst, rules}
use denote.Enum.Bare.{same_true, true_same, same_false, false_same}
use Rattle.som_parse.specs.contracts.token.Key.{the_type as key_type}
use Rattle.som_parse.specs.contracts.token.Sign.{the_type as sign_type}
use Rattle.som_parse.specs.declared.cursor.Stop.TheVariants.{Syntax}
use Rattle.som_parse.specs.declared.token.Key.{Key}
use Rattle.som_parse.specs.declared.token.Sign.{Sign}
use Rattle.som_parse.specs.declared.token.Token.{Token}
use Rattle.som_parse.specs.declared.token.Token.TheVariants as token
use Rattle.som_parse.specs.Languages.{Lang}
use Rattle.som_parse.specs.Readers.{Parser, ◌>>◌, after, expect, keyword, number, number_by, taken, take_word, end}
use Rattle.som_parse.specs.Tokens.{head, same_sign, same_key, is_sign, is_key}
use Rattle.som_parse.proofs.Laws.{Lawful, Member, Met, after_law, bind_law, pure_law, stop_law}

pub same_sign_is : (s t : Sign) → same_sign s t ≡ true → s ≡ t
unfolding same_sign
same_sign_is s t h = same_true sign_type (search rules) s t h

pub same_key_is : (j k : Key) → same_key j k ≡ true → j ≡ k
unfolding same_key
same_key_is j k h = same_true key_type (search rules) j k h

pub same_sign_self : (s : Sign) → same_sign s s ≡ true
unfolding same_sign
same_sign_self s = true_same sign_type s s refl

pub same_key_self : (k : Key) → same_key k k ≡ true
unfolding same_key
same_key_self k = true_same key_type k k refl

pub same_key_differs : (j k : Key) → same_key j k ≡ false → j ≢ k
unfolding same_key
same_key_differs j k h = same_false key_type j k h

pub differs_key : (j k : Key) → j ≢ k → same_key j k ≡ false
unfolding same_key
differs_key j k h = false_same key_type (search rules) j k h

-- keys that a test tells apart
pub apart_key : (f : Key → Bool) (j k : Key) → f j ≡ true → f k ≡ false → same_key j k ≡ false
apart_key f j k here there = differs_key j k (λ e. let both : f k ≡ true = subst (λ y. f y ≡ true) e here in cc)

pub is_sign_true : (s : Sign) (t : Token) → is_sign s (Some t) ≡ true → t ≡ token.Mark s
is_sign_true s (token.Mark t) h = ap (λ x. token.Mark x) (same_sign_is t s h)
is_sign_true s (token.Word k p) h = cc
is_sign_true s (token.Number n) h = cc
is_sign_true s (token.Literal p) h = cc
is_sign_true s token.Directive h = cc

-- a token is this word
pub record IsWordOf (k : Key) (t : Token) : Type 0 where
  pub place : ℕ
  pub is : t ≡ token.Word k place

pub is_key_true : (k : Key) (t : Token) → is_key k (Some t) ≡ true → IsWordOf k t
is_key_true k (token.Word j p) h = record { place = p; is = ap (λ x. token.Word x p) (same_key_is j k h) }
is_key_true k (token.Mark t) h = cc
is_key_true k (token.Number n) h = cc
is_key_true k (token.Literal p) h = cc
is_key_true k token.Directive h = cc

-- ---- a sign or a word that decides

module _ {A : Type 0} (W : Lang A) (p q : Parser A) where
  past_sign : (s : Sign) → Lawful (λ u. W (token.Mark s ∷ u)) p → (t : Token) → t ≡ token.Mark s → Lawful (λ u. W (t ∷ u)) p
  past_sign s law t e = rw e law

  pub after_sign : (s : Sign) → Lawful (λ u. W (token.Mark s ∷ u)) p → Lawful W q → Lawful W (after (is_sign s) p q)
  after_sign s first second = after_law W (is_sign s) p q refl (λ t e. past_sign s first t (is_sign_true s t e)) second

  past_key : (k : Key) → ((x : ℕ) → Lawful (λ u. W (token.Word k x ∷ u)) p) → (t : Token) → IsWordOf k t → Lawful (λ u. W (t ∷ u)) p
  past_key k law t e = rw (e.is) (law e.place)

  pub after_key : (k : Key) → ((x : ℕ) → Lawful (λ u. W (token.Word k x ∷ u)) p) → Lawful W q → Lawful W (after (is_key k) p q)
  after_key k first second = after_law W (is_key k) p q refl (λ t e. past_key k first t (is_key_true k t e)) second

-- ---- a sign or a word that has to stand

pub data IsSign (s : Sign) : List Token → Unit {0} → Type 0 where
  the_sign : IsSign s (token.Mark s ∷ []) tt

pub expect_law : (s : Sign) → Lawful (IsSign s) (expect s)
unfolding expect
expect_law s = after_sign (IsSign s) _ _ s (pure_law _ tt the_sign) (stop_law _ (record { tokens = token.Mark s ∷ []; value = tt; reads = the_sign }))

pub data IsKey (k : Key) : List Token → Unit {0} → Type 0 where
  the_key : {p : ℕ} → IsKey k (token.Word k p ∷ []) tt

pub keyword_law : (k : Key) → Lawful (IsKey k) (keyword k)
unfolding keyword
keyword_law k = after_key (IsKey k) _ _ k (λ x. pure_law _ tt the_key) (stop_law _ (record { tokens = token.Word k 0 ∷ []; value = tt; reads = the_key }))

module _ {B : Type 0} (W : Lang B) (q : Parser B) where
  past_the_sign : {s : Sign} {t : List Token} {a : Unit {0}} → Lawful (λ u. W (token.Mark s ∷ u)) q → IsSign s t a → Lawful (λ u. W (t ++ u)) q
  past_the_sign law the_sign = law

  pub expect_then : (s : Sign) → Lawful (λ u. W (token.Mark s ∷ u)) q → Lawful W (expect s >> q)
  expect_then s law = bind_law (IsSign s) W (expect s) (λ x. q) (expect_law s) (λ t a h. past_the_sign law h)

  past_the_key : {k : Key} {t : List Token} {a : Unit {0}} → ((x : ℕ) → Lawful (λ u. W (token.Word k x ∷ u)) q) → IsKey k t a → Lawful (λ u. W (t ++ u)) q
  past_the_key law (the_key {p = p}) = law p

  pub keyword_then : (k : Key) → ((x : ℕ) → Lawful (λ u. W (token.Word k x ∷ u)) q) → Lawful W (keyword k >> q)
  keyword_then k law = bind_law (IsKey k) W (keyword k) (λ x. q) (keyword_law k) (λ t a h. past_the_key law h)

-- ---- a number

pub data IsNumber : List Token → ℕ → Type 0 where
  the_number : {n : ℕ} → IsNumber (token.Number n ∷ []) n

some_number : Member IsNumber
some_number = record { tokens = token.Number 0 ∷ []; value = 0; reads = the_number }

no_number : (ts : List Token) → ((z : List Token) → head z ≡ head ts → number z ≡ Err (Syntax, z)) → Met IsNumber number ts (Err (Syntax, ts))
no_number ts local = record { taken = []; splits = refl; more = token.Number 0 ∷ []; value = 0; begins = the_number; shares = tt; local = local }

number_at : (ts : List Token) → Met IsNumber number ts (number ts)
unfolding number
number_at [] = no_number [] (λ z e. ap (λ o. number_by o z) e)
number_at (token.Number n ∷ ts) = record { taken = token.Number n ∷ []; splits = refl; reads = the_number; local = λ z e. refl }
number_at (token.Word k p ∷ ts) = no_number (token.Word k p ∷ ts) (λ z e. ap (λ o. number_by o z) e)
number_at (token.Literal p ∷ ts) = no_number (token.Literal p ∷ ts) (λ z e. ap (λ o. number_by o z) e)
number_at (token.Mark s ∷ ts) = no_number (token.Mark s ∷ ts) (λ z e. ap (λ o. number_by o z) e)
number_at (token.Directive ∷ ts) = no_number (token.Directive ∷ ts) (λ z e. ap (λ o. number_by o z) e)

pub number_law : Lawful IsNumber number
number_law = record { at = number_at; some = some_number }

-- ---- a word, as what the grammar makes of it

pub data IsTaken {A : Type 0} (f : Key → ℕ → Option A) : List Token → A → Type 0 where
  it_is_taken : (k : Key) (p : ℕ) {a : A} → f k p ≡ Some a → IsTaken f (token.Word k p ∷ []) a

module _ {A : Type 0} (f : Key → ℕ → Option A) (s : Member (IsTaken f)) where
  not_taken : (ts : List Token) → ((z : List Token) → head z ≡ head ts → take_word f z ≡ Err (Syntax, z)) → Met (IsTaken f) (take_word f) ts (Err (Syntax, ts))
  not_taken ts local = record { taken = []; splits = refl; more = s.tokens; value = s.value; begins = s.reads; shares = tt; local = local }

  word_taken : (k : Key) (p : ℕ) (ts : List Token) (o : Option A) → f k p ≡ o → Met (IsTaken f) (take_word f) (token.Word k p ∷ ts) (taken o (token.Word k p ∷ ts))
  unfolding take_word
  word_taken k p ts (Some a) e = record { taken = token.Word k p ∷ []; splits = refl; reads = it_is_taken k p e; local = λ z h. rw e refl }
  word_taken k p ts None e = not_taken (token.Word k p ∷ ts) (λ z h. rw (h, e) refl)

  taken_at : (ts : List Token) → Met (IsTaken f) (take_word f) ts (take_word f ts)
  unfolding take_word
  taken_at [] = not_taken [] (λ z h. rw h refl)
  taken_at (token.Word k p ∷ ts) = word_taken k p ts (f k p) refl
  taken_at (token.Number n ∷ ts) = not_taken (token.Number n ∷ ts) (λ z h. rw h refl)
  taken_at (token.Literal p ∷ ts) = not_taken (token.Literal p ∷ ts) (λ z h. rw h refl)
  taken_at (token.Mark t ∷ ts) = not_taken (token.Mark t ∷ ts) (λ z h. rw h refl)
  taken_at (token.Directive ∷ ts) = not_taken (token.Directive ∷ ts) (λ z h. rw h refl)

  pub take_word_law : Lawful (IsTaken f) (take_word f)
  take_word_law = record { at = taken_at; some = s }

-- ---- the end

pub data IsEnd : List Token → Unit {0} → Type 0 where
  the_end : IsEnd [] tt

end_at : (ts : List Token) → Met IsEnd end ts (end ts)
unfolding end
end_at [] = record { taken = []; splits = refl; reads = the_end; local = λ z h. rw h refl }
end_at (t ∷ ts) = record { taken = []; splits = refl; more = []; value = tt; begins = the_end; shares = tt; local = λ z h. rw h refl }

end_law : Lawful IsEnd end
end_law = record { at = end_at; some = record { tokens = []; value = tt; reads = the_end } }

module _ {B : Type 0} (W : Lang B) (q : Parser B) where
  past_end : {t : List Token} {a : Unit {0}} → Lawful W q → IsEnd t a → Lawful (λ u. W (t ++ u)) q
  past_end law the_end = law

  pub end_then : Lawful W q → Lawful W (end >> q)
  end_then law = bind_law IsEnd W end (λ x. q) end_law (λ t a h. past_end law h)
