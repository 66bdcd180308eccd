-- A loop of turns beside `turns`, which counts down.
use Rattle.std.proofs.Common.{◌≡◌, ℕ, suc, ◌+◌, ◌-◌, ◌<◌, ◌≤◌, List, length, Ok, Err, sym, ◌∙◌, ap, arith}
use Rattle.som_parse.specs.declared.cursor.Stop.{Stop}
use Rattle.som_parse.specs.declared.cursor.Stop.TheVariants.{Syntax}
use Rattle.som_parse.specs.declared.cursor.Turn.{Turn}
use Rattle.som_parse.specs.declared.cursor.Turn.TheVariants.{More, Done}
use Rattle.som_parse.specs.declared.token.Token.{Token}
use Rattle.som_parse.specs.Readers.{Outcome, Parser, and_then, go, turns, repeat}

module _ {A B : Type 0} (turn : A → Parser (Turn A B)) (n i : ℕ) (a : A) (ts : List Token) (o : Outcome B) (so_far : o ≡ turns turn (n - i) a ts) where
  opened : i < n → o ≡ and_then (turn a ts) (go (turns turn (n - (i + 1))))
  opened lt = let e : n - i ≡ suc (n - (i + 1)) = omega arith in so_far ∙ ap (λ k. turns turn k a ts) e

  pub turn_done : (b : B) (z : List Token) → i < n → turn a ts ≡ Ok (Done b, z) → o ≡ Ok (b, z)
  turn_done b z lt e = opened lt ∙ ap (λ x. and_then x (go (turns turn (n - (i + 1))))) e

  pub turn_more : (c : A) (z : List Token) → i < n → turn a ts ≡ Ok (More c, z) → o ≡ turns turn (n - (i + 1)) c z
  turn_more c z lt e = opened lt ∙ ap (λ x. and_then x (go (turns turn (n - (i + 1))))) e

  pub turn_stops : (f : Stop) (z : List Token) → i < n → turn a ts ≡ Err (f, z) → o ≡ Err (f, z)
  turn_stops f z lt e = opened lt ∙ ap (λ x. and_then x (go (turns turn (n - (i + 1))))) e

  pub turn_none : n ≤ i → o ≡ Err (Syntax, ts)
  turn_none le = let e : n - i ≡ 0 = omega arith in so_far ∙ ap (λ k. turns turn k a ts) e

-- a loop that begins with this value
pub turn_start : {A B : Type 0} (turn : A → Parser (Turn A B)) (a y : A) (r : List Token) (n : ℕ) → y ≡ a → n ≡ length r + 1 → repeat turn a r ≡ turns turn n y r
unfolding repeat
turn_start turn a y r n same count = let m : suc (length r) ≡ n = omega arith in ap (λ k. turns turn k a r) m ∙ ap (λ z. turns turn n z r) (sym same)

-- the first turn
pub turn_first : {A B : Type 0} (turn : A → Parser (Turn A B)) (p : Outcome A) (a : A) (r : List Token) (n : ℕ) → p ≡ Ok (a, r) → n ≡ length r + 1 → and_then p (repeat turn) ≡ turns turn n a r
unfolding repeat
turn_first turn p a r n e count = let m : suc (length r) ≡ n = omega arith in ap (λ o. and_then o (repeat turn)) e ∙ ap (λ k. turns turn k a r) m

pub turn_first_from : {A B C : Type 0} (turn : A → Parser (Turn A B)) (f : C → A) (p : Outcome C) (a : C) (y : A) (r : List Token) (n : ℕ) → p ≡ Ok (a, r) → y ≡ f a → n ≡ length r + 1 → and_then p (λ x. repeat turn (f x)) ≡ turns turn n y r
unfolding repeat
turn_first_from turn f p a y r n e same count = let m : suc (length r) ≡ n = omega arith in ap (λ o. and_then o (λ x. repeat turn (f x))) e ∙ ap (λ k. turns turn k (f a) r) m ∙ ap (λ z. turns turn n z r) (sym same)
