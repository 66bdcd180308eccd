-- What a sink keeps of events, one after the other, is their lines and their calls.
use Rattle.std.proofs.Common.{◌≡◌, ℕ, ◌+◌, Bool, List, [], ◌∷◌, ◌++◌, Option, Some, None, refl, sym, ap, ◌∙◌, append_assoc, append-nil, arith}
use Rattle.std.specs.List.{concat}
use Rattle.som_semantics.specs.State.{Event, Printed, Called, Used}
use Rattle.som_semantics.specs.Runs.{Out, added}
use Rattle.som_semantics.specs.RunText.{event_lines, events_lines, with_prefix, counted, line_added, call_count, kept_lines}

concat_both : (xs ys : List (List ℕ)) → concat (xs ++ ys) ≡ concat xs ++ concat ys
concat_both [] ys = refl
concat_both (x ∷ xs) ys = ap (λ l. x ++ l) (concat_both xs ys) ∙ sym (append_assoc x (concat xs) (concat ys))

prefix_both : (prefix : List ℕ) (xs ys : List (List ℕ)) → with_prefix prefix (xs ++ ys) ≡ with_prefix prefix xs ++ with_prefix prefix ys
prefix_both prefix [] ys = refl
prefix_both prefix (x ∷ xs) ys = ap (λ l. (prefix ++ x) ∷ l) (prefix_both prefix xs ys)

counted_first : (n : ℕ) (e : Event) (es : List Event) → counted n e + call_count es ≡ n + call_count (e ∷ es)
counted_first n (Printed t) es = refl
counted_first n (Called r way k) es = omega arith
counted_first n (Used k) es = refl

module _ (shows : List ℕ → Bool) (prefix : List ℕ) where
  abbrev bytes_of : List Event → List ℕ
  bytes_of es = concat (with_prefix prefix (events_lines shows es))

  bytes_first : (b : List ℕ) (e : Event) (es : List Event) → (b ++ concat (with_prefix prefix (event_lines shows e))) ++ bytes_of es ≡ b ++ bytes_of (e ∷ es)
  bytes_first b e es =
      let here = concat (with_prefix prefix (event_lines shows e)) in
      append_assoc b here (bytes_of es)
      ∙ ap (λ l. b ++ l) (sym (concat_both (with_prefix prefix (event_lines shows e)) (with_prefix prefix (events_lines shows es))) ∙ ap concat (sym (prefix_both prefix (event_lines shows e) (events_lines shows es))))

  -- what is kept, by its parts
  abbrev out : Option (List ℕ) → ℕ → Out
  out bytes n = record { bytes = bytes; calls = n }

  none_added : (bytes : Option (List ℕ)) (n : ℕ) → out bytes n ≡ kept_lines shows prefix (out bytes n) []
  none_added None n = let e : n ≡ n + 0 = omega arith in ap (out None) e
  none_added (Some b) n = let e : n ≡ n + 0 = omega arith in ap (λ l. out (Some l) n) (sym (append-nil b)) ∙ ap (out (Some (b ++ []))) e

  one_added : (bytes : Option (List ℕ)) (n : ℕ) (e : Event) (es : List Event)
      → kept_lines shows prefix (line_added shows prefix (out bytes n) e) es ≡ kept_lines shows prefix (out bytes n) (e ∷ es)
  one_added None n e es = ap (out None) (counted_first n e es)
  one_added (Some b) n e es =
      ap (λ l. out (Some l) (counted n e + call_count es)) (bytes_first b e es) ∙ ap (out (Some (b ++ bytes_of (e ∷ es)))) (counted_first n e es)

  -- events that are kept one after the other: their lines stand after what was there, and their calls are counted
  pub added_lines : (o : Out) (es : List Event) → added (line_added shows prefix) o es ≡ kept_lines shows prefix o es
  added_lines o [] = none_added o.bytes o.calls
  added_lines o (e ∷ es) = added_lines (line_added shows prefix o e) es ∙ one_added o.bytes o.calls e es
