-- The lines that tell the ends of clients are those of the ends that their turns bring them to.
use Rattle.std.proofs.Common.{◌≡◌, ℕ, zero, suc, ◌+◌, ◌<◌, ◌≤◌, List, [], ◌∷◌, ◌++◌, length, drop, get_or, slice_get, Option, Some, Result, Ok, Err, refl, sym, ap, subst, ◌∙◌, codes, arith}
use Rattle.std.proofs.lemmas.List.{append-nil, drop_all}
use Rattle.std.specs.Fmt.{decimal}
use Rattle.std.specs.List.{concat}
use Rattle.som_io.specs.Outside.{ShowsFront}
use Rattle.som_io.proofs.ShownLaws.{front_none}
use Rattle.som_turn_laws.specs.Clients.{ClientEnd, Going, Done, AtFault, end_after}
use Rattle.som_turn_laws.specs.Turns.{Clients, client_line, closing_lines, end_word, ends_from, turns_of}
use Rattle.som_interp_task.specs.declared.advanced.Advanced.{Advanced}
use Rattle.som_tasks.specs.Taken.{AreEnds, answer_of}
use Rattle.som_cmd_steps.specs.declared.output.Output.{Output}
use Rattle.som_cmd_steps.specs.declared.stop.CommandStop.{CommandStop}
use Rattle.som_cmd_steps.specs.Saying.{SaysFront, StopSaysFront}
use Rattle.som_cmd_steps.proofs.InTurn.{next_of}
use Rattle.som_cmd_tasks.specs.Ends.{IsOutputOf, end_told, lines_from, word_told}

-- ---- one line after the other

-- the lines of the ends before a place, and then those of the others, are all
abbrev pub ToldSoFar : List Advanced → ℕ → List (List ℕ) → Type 0
ToldSoFar ends i lines = lines ++ lines_from i (drop i ends) ≡ lines_from 0 ends

append_one : (xs : List (List ℕ)) (y : List ℕ) (zs : List (List ℕ)) → (xs ++ y ∷ []) ++ zs ≡ xs ++ y ∷ zs
append_one [] y zs = refl
append_one (x ∷ xs) y zs = ap (λ (ls : List (List ℕ)). x ∷ ls) (append_one xs y zs)

pub told_more : (ends : List Advanced) (i : ℕ) (end : Advanced) (lines : List (List ℕ)) (line : List ℕ) → i < length ends → end ≡ get_or ends i end → line ≡ end_told i end → ToldSoFar ends i lines → ToldSoFar ends (i + 1) (lines ++ line ∷ [])
told_more ends i end lines line lt is told so =
    append_one lines line (lines_from (i + 1) (drop (i + 1) ends))
    ∙ ap (λ (l : List ℕ). lines ++ l ∷ lines_from (i + 1) (drop (i + 1) ends)) told
    ∙ ap (λ (es : List Advanced). lines ++ lines_from i es) (sym (next_of ends i end lt is))
    ∙ so

pub told_all : (ends : List Advanced) (i : ℕ) (lines : List (List ℕ)) → length ends ≤ i → ToldSoFar ends i lines → lines ≡ lines_from 0 ends
told_all ends i lines over so = sym (append-nil lines) ∙ ap (λ (es : List Advanced). lines ++ lines_from i es) (sym (drop_all i ends over)) ∙ so

-- ---- they are those of the ends of clients

word_is : (end : ClientEnd) → word_told (answer_of end) ≡ end_word end
word_is Going = refl
word_is Done = refl
word_is (AtFault f at) = refl

line_is : (i : ℕ) (end : ClientEnd) → end_told i (answer_of end) ≡ client_line i end
line_is i end = ap (λ (w : List ℕ). codes "client " ++ decimal i ++ codes " " ++ w ++ 10 ∷ []) (word_is end)

some_is : (a b : Advanced) → ◌≡◌ {A = Option Advanced} (Some a) (Some b) → a ≡ b
some_is a b e = cc

module _ (clients : Clients) (turns : List ℕ) where
  abbrev end_of_client : ℕ → ClientEnd
  end_of_client i = end_after (clients i) (turns_of i turns)

  lines_are : (ends : List Advanced) (n : ℕ) → ((i : ℕ) → i < length ends → slice_get ends i ≡ Some (answer_of (end_of_client (n + i)))) → lines_from n ends ≡ ends_from clients turns n (length ends)
  lines_are [] n each = refl
  lines_are (end ∷ ends) n each =
      let first : end ≡ answer_of (end_of_client (n + 0)) = some_is end (answer_of (end_of_client (n + 0))) (each 0 (omega arith)) in
      let here : n + 0 ≡ n = omega arith in
      let next : n + 1 ≡ suc n = omega arith in
      let rest : (i : ℕ) → i < length ends → slice_get ends i ≡ Some (answer_of (end_of_client ((n + 1) + i))) =
      λ i lt. each (suc i) (omega (arith, lt)) ∙ ap (λ (k : ℕ). Some (answer_of (end_of_client k))) (let e : n + suc i ≡ (n + 1) + i = omega arith in e) in
      ap (λ (l : List ℕ). l ∷ lines_from (n + 1) ends) (ap (end_told n) (first ∙ ap (λ (k : ℕ). answer_of (end_of_client k)) here) ∙ line_is n (end_of_client n))
      ∙ ap (λ (ls : List (List ℕ)). client_line n (end_of_client n) ∷ ls) (lines_are ends (n + 1) rest ∙ ap (λ (k : ℕ). ends_from clients turns k (length ends)) next)

  pub closing_are : (count : ℕ) (ends : List Advanced) → AreEnds clients turns count ends → lines_from 0 ends ≡ closing_lines clients turns count
  closing_are count ends are =
      let each : (i : ℕ) → i < length ends → slice_get ends i ≡ Some (answer_of (end_of_client (0 + i))) =
      λ i lt. are.each i (let all = are.all in omega (arith, lt, all)) ∙ ap (λ (k : ℕ). Some (answer_of (end_of_client k))) (let e : i ≡ 0 + i = omega arith in e) in
      lines_are ends 0 each ∙ ap (λ (n : ℕ). ends_from clients turns 0 n) are.all

-- ---- a front of them

pub ends_front : (lines : List (List ℕ)) (result : Result Output CommandStop) (old new : Option (List ℕ)) → IsOutputOf lines result → SaysFront result old new → ShowsFront old new (concat lines)
ends_front lines (Ok o) old new is says = subst (λ (x : Output). ShowsFront old new (concat x.lines)) is says
ends_front lines (Err stop) old new is says =
    let same : new ≡ old = subst (λ (x : CommandStop). StopSaysFront x old new) is says in
    subst (λ (x : Option (List ℕ)). ShowsFront old x (concat lines)) (sym same) (front_none old (concat lines))
