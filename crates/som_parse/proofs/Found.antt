-- What is in the language is read: for single tokens and the two repetitions, whatever follows.
use Rattle.std.proofs.Common.{◌≡◌, ℕ, zero, suc, ◌<◌, List, [], ◌∷◌, ◌++◌, length, Bool, true, false, Option, Some, None, Ok, refl, sym, ◌∙◌, ap, subst, append_assoc, length-append, arith}
use Rattle.som_parse.specs.declared.cursor.Turn.{Turn}
use Rattle.som_parse.specs.declared.cursor.Turn.TheVariants.{More, Done}
use Rattle.som_parse.specs.declared.token.Key.{Key}
use Rattle.som_parse.specs.declared.token.Sign.{Sign}
use Rattle.som_parse.specs.declared.token.Sign.TheVariants as sign
use Rattle.som_parse.specs.declared.token.Token.{Token}
use Rattle.som_parse.specs.declared.token.Token.TheVariants as token
use Rattle.som_parse.specs.Languages.{Lang, Listed, the_first, the_next, Repeated, nothing_yet, one_kept, one_left_out, Kept, it_is_kept}
use Rattle.som_parse.specs.Readers.{Outcome, Parser, and_then, ◌>>=◌, expect, keyword, number, take_word, go, turns, repeat, another, listed, with_kept, one_more, repeated, keeping}
use Rattle.som_parse.specs.Tokens.{head, is_sign, is_key}
use Rattle.som_parse.proofs.Steps.{same_sign_self, same_key_self, apart_key}
use Rattle.som_parse.proofs.Turns.{IsLong}

pub expect_found : (s : Sign) (z : List Token) → expect s (token.Mark s ∷ z) ≡ Ok (tt, z)
unfolding expect
expect_found s z = rw (same_sign_self s) refl

pub keyword_found : (k : Key) (p : ℕ) (z : List Token) → keyword k (token.Word k p ∷ z) ≡ Ok (tt, z)
unfolding keyword
keyword_found k p z = rw (same_key_self k) refl

pub number_found : (n : ℕ) (z : List Token) → number (token.Number n ∷ z) ≡ Ok (n, z)
unfolding number
number_found n z = refl

pub take_word_found : {A : Type 0} (f : Key → ℕ → Option A) (k : Key) (p : ℕ) (a : A) (z : List Token) → f k p ≡ Some a → take_word f (token.Word k p ∷ z) ≡ Ok (a, z)
unfolding take_word
take_word_found f k p a z e = rw e refl

-- ---- loops

-- o is what further turns from a give on z
pub record Climbing {A B : Type 0} (turn : A → Parser (Turn A B)) (a : A) (z : List Token) (o : Outcome B) : Type 0 where
  pub fuel : ℕ
  pub enough : length z < fuel
  pub same : o ≡ turns turn fuel a z

module _ {A B : Type 0} (turn : A → Parser (Turn A B)) where
  pub climb_first : (a : A) (z : List Token) → Climbing turn a z (repeat turn a z)
  unfolding repeat
  climb_first a z = record { fuel = suc (length z); enough = omega arith; same = refl }

  on_by : (a c : A) (w z : List Token) (o : Outcome B) (n : ℕ) → length w < n → o ≡ turns turn n a w → turn a w ≡ Ok (More c, z) → length z < length w → Climbing turn c z o
  on_by a c w z o zero lt same e shorter = absurd (omega arith)
  on_by a c w z o (suc n) lt same e shorter = record { fuel = n; enough = omega arith; same = same ∙ ap (λ y. and_then y (go (turns turn n))) e }

  pub climb_on : (a c : A) (w z : List Token) (o : Outcome B) → Climbing turn a w o → turn a w ≡ Ok (More c, z) → length z < length w → Climbing turn c z o
  climb_on a c w z o m e shorter = on_by a c w z o m.fuel m.enough m.same e shorter

  end_by : (a : A) (b : B) (z : List Token) (o : Outcome B) (n : ℕ) → length z < n → o ≡ turns turn n a z → turn a z ≡ Ok (Done b, z) → o ≡ Ok (b, z)
  end_by a b z o zero lt same e = absurd (omega arith)
  end_by a b z o (suc n) lt same e = same ∙ ap (λ y. and_then y (go (turns turn n))) e

  pub climb_end : (a : A) (b : B) (z : List Token) (o : Outcome B) → Climbing turn a z o → turn a z ≡ Ok (Done b, z) → o ≡ Ok (b, z)
  climb_end a b z o m e = end_by a b z o m.fuel m.enough m.same e

-- the first of a loop
pub climb_after : {A B : Type 0} (turn : A → Parser (Turn A B)) (p : Parser A) (a : A) (w z : List Token) → p w ≡ Ok (a, z) → Climbing turn a z ((p >>= repeat turn) w)
climb_after turn p a w z e = let m = climb_first turn a z in record { fuel = m.fuel; enough = m.enough; same = ap (λ o. and_then o (repeat turn)) e ∙ m.same }

-- ---- a { "," a }, where each a may have what C says after it
module _ {A : Type 0} (L : Lang A) (p : Parser A) (C : List Token → Type 0) (comma : (z : List Token) → C (token.Mark sign.Comma ∷ z))
    (found : (v : List Token) (a : A) (z : List Token) → L v a → C z → p (v ++ z) ≡ Ok (a, z)) where
  first_climbs : (v : List Token) (a : A) (z : List Token) → p (v ++ z) ≡ Ok (a, z) → Climbing (another p) (a ∷ []) z (listed p (v ++ z))
  unfolding listed
  first_climbs v a z e = let m = climb_first (another p) (a ∷ []) z in record { fuel = m.fuel; enough = m.enough; same = ap (λ o. and_then o (λ x. repeat (another p) (x ∷ []))) e ∙ m.same }

  another_found : (v z : List Token) (so_far : List A) (a : A) → p (v ++ z) ≡ Ok (a, z) → another p so_far (token.Mark sign.Comma ∷ (v ++ z)) ≡ Ok (More (so_far ++ a ∷ []), z)
  another_found v z so_far a e = rw (same_sign_self sign.Comma, e) refl

  next_climbs : (u v z : List Token) (so_far : List A) (a : A) (o : Outcome (List A)) → Climbing (another p) so_far (token.Mark sign.Comma ∷ (v ++ z)) o → L v a → C z → Climbing (another p) (so_far ++ a ∷ []) z o
  next_climbs u v z so_far a o m h c = climb_on (another p) so_far (so_far ++ a ∷ []) (token.Mark sign.Comma ∷ (v ++ z)) z o m (another_found v z so_far a (found v a z h c)) (simp length-append (omega arith))

  listed_climbs : {u : List Token} {all : List A} → Listed L u all → (z : List Token) → C z → Climbing (another p) all z (listed p (u ++ z))
  listed_climbs (the_first {u = u} {a = a} h) z c = first_climbs u a z (found u a z h c)
  listed_climbs (the_next {u = u} {v = v} {as' = so_far} {a = a} h g) z c =
      subst (λ y. Climbing (another p) (so_far ++ a ∷ []) z (listed p y)) (sym (append_assoc u (token.Mark sign.Comma ∷ v) z))
      (next_climbs u v z so_far a _ (listed_climbs h (token.Mark sign.Comma ∷ (v ++ z)) (comma (v ++ z))) g c)

  pub listed_found : {u : List Token} {all : List A} → Listed L u all → (z : List Token) → C z → is_sign sign.Comma (head z) ≡ false → listed p (u ++ z) ≡ Ok (all, z)
  listed_found {all = all} h z c none = climb_end (another p) all all z _ (listed_climbs h z c) (rw none refl)

-- ---- { a }
module _ {A : Type 0} (ends : Option Token → Bool) (L : Lang (Option A)) (p : Parser (Option A)) (long : (u : List Token) (o : Option A) → L u o → IsLong u)
    (found : (v : List Token) (o : Option A) (z : List Token) → L v o → p (v ++ z) ≡ Ok (o, z))
    (begins : (v : List Token) (o : Option A) (z : List Token) → L v o → ends (head (v ++ z)) ≡ false) where
  one_climbs : (v z : List Token) (so_far : List A) (o : Option A) (all : Outcome (List A)) → Climbing (one_more ends p) so_far (v ++ z) all → L v o → Climbing (one_more ends p) (with_kept so_far o) z all
  one_climbs v z so_far o all m h =
      climb_on (one_more ends p) so_far (with_kept so_far o) (v ++ z) z all m (rw (begins v o z h, found v o z h) refl) (simp length-append (omega (arith, long v o h)))

  repeated_climbs : {u : List Token} {all : List A} → Repeated L u all → (z : List Token) → Climbing (one_more ends p) all z (repeated ends p (u ++ z))
  unfolding repeated
  repeated_climbs nothing_yet z = climb_first (one_more ends p) [] z
  repeated_climbs (one_kept {u = u} {v = v} {as' = so_far} {a = a} h g) z =
      subst (λ y. Climbing (one_more ends p) (so_far ++ a ∷ []) z (repeated ends p y)) (sym (append_assoc u v z)) (one_climbs v z so_far (Some a) _ (repeated_climbs h (v ++ z)) g)
  repeated_climbs (one_left_out {u = u} {v = v} {as' = so_far} h g) z =
      subst (λ y. Climbing (one_more ends p) so_far z (repeated ends p y)) (sym (append_assoc u v z)) (one_climbs v z so_far None _ (repeated_climbs h (v ++ z)) g)

  pub repeated_found : {u : List Token} {all : List A} → Repeated L u all → (z : List Token) → ends (head z) ≡ true → repeated ends p (u ++ z) ≡ Ok (all, z)
  repeated_found {all = all} h z last = climb_end (one_more ends p) all all z _ (repeated_climbs h z) (rw last refl)

pub keeping_found : {A : Type 0} (L : Lang A) (p : Parser A) → ((v : List Token) (a : A) (z : List Token) → L v a → p (v ++ z) ≡ Ok (a, z))
    → (v : List Token) (o : Option A) (z : List Token) → Kept L v o → keeping p (v ++ z) ≡ Ok (o, z)
keeping_found L p found v o z (it_is_kept {a = a} h) = rw (found v a z h) refl

-- ---- first tokens

-- the first token is a word that passes the test
pub record StartsWith (f : Key → Bool) (u : List Token) : Type 0 where
  pub first : Key
  pub place : ℕ
  pub others : List Token
  pub is : u ≡ token.Word first place ∷ others
  pub passes : f first ≡ true

pub starts_more : {f : Key → Bool} {u : List Token} (v : List Token) → StartsWith f u → StartsWith f (u ++ v)
starts_more v s = record { first = s.first; place = s.place; others = s.others ++ v; is = ap (λ y. y ++ v) s.is; passes = s.passes }

pub not_key : (f : Key → Bool) (k : Key) (u z : List Token) → StartsWith f u → f k ≡ false → is_key k (head (u ++ z)) ≡ false
not_key f k u z s e = rw (s.is) (apart_key f s.first k s.passes e)

pub not_sign : (f : Key → Bool) (s : Sign) (u z : List Token) → StartsWith f u → is_sign s (head (u ++ z)) ≡ false
not_sign f s u z h = rw (h.is) refl

pub listed_starts : {A : Type 0} {L : Lang A} (f : Key → Bool) → ((v : List Token) (a : A) → L v a → StartsWith f v) → {u : List Token} {all : List A} → Listed L u all → StartsWith f u
listed_starts f starts (the_first {u = u} {a = a} h) = starts u a h
listed_starts f starts (the_next {v = v} h i) = starts_more (token.Mark sign.Comma ∷ v) (listed_starts f starts h)
