-- Turns of several clients: the lines of one of them, and the order of all.
use Rattle.std.proofs.Common.{◌≡◌, ℕ, suc, ◌+◌, ◌==◌, Bool, true, false, cond, List, [], ◌∷◌, ◌++◌, map, refl, sym, ap, ◌∙◌, subst, append_assoc, append-nil, arith}
use Rattle.std.specs.List.{concat}
use Rattle.std.proofs.lemmas.Bool.{eq-eqb, eqb-true}
use Rattle.std.proofs.lemmas.List.{map-append}
use Rattle.std.proofs.lemmas.List.Elements.{filter-append}
use Rattle.std.proofs.lemmas.List.Folds.{concat-append}
use Rattle.std.proofs.lemmas.List.Sums.{sum_by-append}
use Rattle.som_semantics.specs.RunText.{with_prefix}
use Rattle.som_turn_laws.specs.Clients.{IsMain}
use Rattle.som_turn_laws.specs.Turns.{Clients, Tagged, alone_lines, client_prefix, from_client, line_shown, lines_after, tagged, turn_lines, turns_lines, turns_of, turns_text}
use Rattle.som_turn_laws.proofs.OneTurn.{next_lines}

-- ---- how many turns are a client's

one_counted : (n : ℕ) → n + (0 + 1) ≡ suc n
one_counted n = omega arith

none_counted : (n : ℕ) → n + (0 + 0) ≡ n
none_counted n = omega arith

counted : (i j : ℕ) (turns : List ℕ) (b : Bool) → (j == i) ≡ b → turns_of i (turns ++ j ∷ []) ≡ turns_of i turns + (0 + cond b 1 0)
counted i j turns b e = sum_by-append (λ (k : ℕ). cond (k == i) 1 0) turns (j ∷ []) ∙ ap (λ c. turns_of i turns + (0 + cond c 1 0)) e

-- ---- lines by their client

from_own : (i : ℕ) (ls : List (List ℕ)) → from_client i (tagged i ls) ≡ tagged i ls
from_own i [] = refl
from_own i (l ∷ ls) =
    ap (λ b. cond b ((i, l) ∷ from_client i (tagged i ls)) (from_client i (tagged i ls))) (eq-eqb i i refl) ∙ ap (λ z. (i, l) ∷ z) (from_own i ls)

from_other : (i j : ℕ) (ls : List (List ℕ)) → (j == i) ≡ false → from_client i (tagged j ls) ≡ []
from_other i j [] e = refl
from_other i j (l ∷ ls) e = ap (λ b. cond b ((j, l) ∷ from_client i (tagged j ls)) (from_client i (tagged j ls))) e ∙ from_other i j ls e

-- ---- lines as they are shown

pub shown_tagged : (i : ℕ) (ls : List (List ℕ)) → map line_shown (tagged i ls) ≡ with_prefix (client_prefix i) ls
shown_tagged i [] = refl
shown_tagged i (l ∷ ls) = ap (λ z. (client_prefix i ++ l) ∷ z) (shown_tagged i ls)

-- ---- turns

module _ (clients : Clients) where
  module _ (i : ℕ) (is : IsMain (clients i)) where
    -- the lines that client i prints alone with so many units, with its number
    abbrev alone : ℕ → List Tagged
    alone n = tagged i (alone_lines (clients i) n)

    -- what a turn of client j adds to the lines of client i
    abbrev adds : ℕ → List ℕ → List Tagged
    adds j before = from_client i (tagged j (turn_lines (clients j) (turns_of j before)))

    own : (before : List ℕ) → alone (turns_of i before) ++ adds i before ≡ alone (turns_of i (before ++ i ∷ []))
    own before =
        let n = turns_of i before in
        ap (λ l. alone n ++ l) (from_own i (turn_lines (clients i) n))
        ∙ sym (map-append (λ (line : List ℕ). (i, line)) (alone_lines (clients i) n) (turn_lines (clients i) n))
        ∙ ap (tagged i) (next_lines (clients i) is n)
        ∙ ap alone (sym (counted i i before true (eq-eqb i i refl) ∙ one_counted n))

    by_number : (j : ℕ) (before : List ℕ) (b : Bool) → (j == i) ≡ b → alone (turns_of i before) ++ adds j before ≡ alone (turns_of i (before ++ j ∷ []))
    by_number j before true e = subst (λ z. alone (turns_of i before) ++ adds z before ≡ alone (turns_of i (before ++ z ∷ []))) (sym (eqb-true j i e)) (own before)
    by_number j before false e =
        ap (λ l. alone (turns_of i before) ++ l) (from_other i j (turn_lines (clients j) (turns_of j before)) e)
        ∙ append-nil (alone (turns_of i before))
        ∙ ap alone (sym (counted i j before false e ∙ none_counted (turns_of i before)))

    -- what client i printed before, and what it prints in these turns, is what it prints alone
    pub among : (before turns : List ℕ) → alone (turns_of i before) ++ from_client i (lines_after clients before turns) ≡ alone (turns_of i (before ++ turns))
    among before [] = append-nil (alone (turns_of i before)) ∙ ap (λ l. alone (turns_of i l)) (sym (append-nil before))
    among before (j ∷ turns) =
        let this = tagged j (turn_lines (clients j) (turns_of j before)) in
        let rest = lines_after clients (before ++ j ∷ []) turns in
        ap (λ l. alone (turns_of i before) ++ l) (filter-append (λ (line : Tagged). line.0 == i) this rest)
        ∙ sym (append_assoc (alone (turns_of i before)) (from_client i this) (from_client i rest))
        ∙ ap (λ l. l ++ from_client i rest) (by_number j before (j == i) refl)
        ∙ among (before ++ j ∷ []) turns
        ∙ ap (λ l. alone (turns_of i l)) (append_assoc before (j ∷ []) turns)

  -- lines come in the order of the turns
  pub in_order : (before turns later : List ℕ) → lines_after clients before (turns ++ later) ≡ lines_after clients before turns ++ lines_after clients (before ++ turns) later
  in_order before [] later = ap (λ l. lines_after clients l later) (sym (append-nil before))
  in_order before (i ∷ turns) later =
      let this = tagged i (turn_lines (clients i) (turns_of i before)) in
      ap (λ l. this ++ l) (in_order (before ++ i ∷ []) turns later)
      ∙ sym (append_assoc this (lines_after clients (before ++ i ∷ []) turns) (lines_after clients ((before ++ i ∷ []) ++ turns) later))
      ∙ ap (λ l. (this ++ lines_after clients (before ++ i ∷ []) turns) ++ lines_after clients l later) (append_assoc before (i ∷ []) turns)

  pub one_later : (turns : List ℕ) (i : ℕ) → turns_lines clients (turns ++ i ∷ []) ≡ turns_lines clients turns ++ tagged i (turn_lines (clients i) (turns_of i turns))
  one_later turns i = in_order [] turns (i ∷ []) ∙ ap (λ l. turns_lines clients turns ++ l) (append-nil (tagged i (turn_lines (clients i) (turns_of i turns))))

  pub text_on : (turns later : List ℕ) → turns_text clients (turns ++ later) ≡ turns_text clients turns ++ concat (map line_shown (lines_after clients turns later))
  text_on turns later =
      ap (λ l. concat (map line_shown l)) (in_order [] turns later)
      ∙ ap concat (map-append line_shown (turns_lines clients turns) (lines_after clients turns later))
      ∙ concat-append (map line_shown (turns_lines clients turns)) (map line_shown (lines_after clients turns later))

  pub one_shown : (turns : List ℕ) (i : ℕ) → turns_text clients (turns ++ i ∷ []) ≡ turns_text clients turns ++ concat (with_prefix (client_prefix i) (turn_lines (clients i) (turns_of i turns)))
  one_shown turns i =
      let lines = turn_lines (clients i) (turns_of i turns) in
      text_on turns (i ∷ [])
      ∙ ap (λ l. turns_text clients turns ++ concat (map line_shown l)) (append-nil (tagged i lines))
      ∙ ap (λ l. turns_text clients turns ++ concat l) (shown_tagged i lines)
