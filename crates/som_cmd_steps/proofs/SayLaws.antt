-- Lines that are written one after the other.
use Rattle.std.proofs.Common.{◌≡◌, ℕ, ◌+◌, ◌<◌, ◌≤◌, List, [], ◌∷◌, ◌++◌, length, take, drop, get_or, Option, sym, ap, subst, ◌∙◌}
use Rattle.std.specs.List.{concat}
use Rattle.std.proofs.lemmas.List.{append-nil, take_more, take_all, take-append-drop}
use Rattle.std.proofs.lemmas.List.Folds.{concat-append}
use Rattle.som_io.specs.Outside.{ShowsAll, ShowsFront}
use Rattle.som_io.proofs.ShownLaws.{front_both, front_longer, shows_both}

module _ (old mid new : Option (List ℕ)) (lines : List (List ℕ)) (i : ℕ) (line : List ℕ) (lt : i < length lines) (at : line ≡ get_or lines i line) (so : ShowsAll old mid (concat (take i lines))) where
  next_line : concat (take (i + 1) lines) ≡ concat (take i lines) ++ line
  next_line =
      ap concat (take_more lines i line lt ∙ ap (λ (l : List ℕ). take i lines ++ l ∷ []) (sym at))
      ∙ concat-append (take i lines) (line ∷ []) ∙ ap (λ (t : List ℕ). concat (take i lines) ++ t) (append-nil line)

  -- one line more
  pub said_more : ShowsAll mid new line → ShowsAll old new (concat (take (i + 1) lines))
  said_more f = subst (ShowsAll old new) (sym next_line) (shows_both old mid new (concat (take i lines)) line so f)

  -- a front of one line more
  pub said_front : ShowsFront mid new line → ShowsFront old new (concat lines)
  said_front f =
      subst (ShowsFront old new)
      (ap (λ (t : List ℕ). t ++ concat (drop (i + 1) lines)) (sym next_line) ∙ sym (concat-append (take (i + 1) lines) (drop (i + 1) lines)) ∙ ap concat (take-append-drop (i + 1) lines))
      (front_longer old new (concat (take i lines) ++ line) (concat (drop (i + 1) lines)) (front_both old mid new (concat (take i lines)) line so f))

-- all lines are written
pub said_all : (old new : Option (List ℕ)) (lines : List (List ℕ)) (i : ℕ) → length lines ≤ i → ShowsAll old new (concat (take i lines)) → ShowsAll old new (concat lines)
said_all old new lines i over so = subst (λ (l : List (List ℕ)). ShowsAll old new (concat l)) (take_all i lines over) so
