-- Texts that are written one after the other.
use Rattle.std.proofs.Common.{◌≡◌, ℕ, zero, suc, ◌+◌, ◌<◌, ◌≤◌, List, [], ◌∷◌, ◌++◌, length, get_or, drop, Option, Some, None, sym, ap, subst, ◌∙◌, append_assoc, drop-cons, arith, refl}
use Rattle.std.specs.List.{concat}
use Rattle.som_io.specs.Outside.{Shows, ShowsAll, ShowsFront}
use Rattle.som_io.proofs.ShownLaws.{all_left, front_longer, left_longer}
use Rattle.som_trace.specs.Told.{bytes_of}
use denote.Ref.{Bor}

-- nothing waits and all is left
pub begins : (w : Option (List ℕ)) (text waiting rest : List ℕ) → waiting ≡ [] → rest ≡ text → Shows w w text (waiting ++ rest)
begins w text waiting rest e f = subst (Shows w w text) (sym (ap (λ (x : List ℕ). x ++ rest) e ∙ f)) (all_left w text)

-- of what is left of a text a part is written
pub onward : (first old new : Option (List ℕ)) (text t u : List ℕ) → Shows first old text t → Shows old new t u → Shows first new text u
onward None old new text t u p q = tt
onward (Some b) old new text t u p q =
    let r = subst (λ (o : Option (List ℕ)). Shows o new t u) p.2 q in
    (p.0 ++ r.0, append_assoc p.0 r.0 u ∙ ap (λ (x : List ℕ). p.0 ++ x) r.1 ∙ p.1, r.2 ∙ ap (λ (x : List ℕ). Some x) (append_assoc b p.0 r.0))

-- a whole text is written, and what comes after it is left
pub whole : (old new : Option (List ℕ)) (t more : List ℕ) → ShowsAll old new t → Shows old new (t ++ more) more
whole None new t more p = tt
whole (Some b) new t more p = (t, refl, p)

-- a front of the rest that is shown makes a front of the whole text
pub front_onward : (first old new : Option (List ℕ)) (text t : List ℕ) → Shows first old text t → ShowsFront old new t → ShowsFront first new text
front_onward first old new text t p q = (q.0, onward first old new text t q.0 p q.1)

-- a piece is written after what waited, or waits with it

pub piece_goes : (first old new : Option (List ℕ)) (text waiting waits piece rest : List ℕ) → Shows first old text (waiting ++ (piece ++ rest)) → Shows old new (waiting ++ piece) waits → Shows first new text (waits ++ rest)
piece_goes first old new text waiting waits piece rest p q =
    onward first old new text (waiting ++ piece ++ rest) (waits ++ rest) (subst (Shows first old text) (sym (append_assoc waiting piece rest)) p) (left_longer old new (waiting ++ piece) waits rest q)

pub piece_fronts : (first old new : Option (List ℕ)) (text waiting piece rest : List ℕ) → Shows first old text (waiting ++ (piece ++ rest)) → ShowsFront old new (waiting ++ piece) → ShowsFront first new text
piece_fronts first old new text waiting piece rest p q =
    front_onward first old new text (waiting ++ piece ++ rest) (subst (Shows first old text) (sym (append_assoc waiting piece rest)) p) (front_longer old new (waiting ++ piece) rest q)

-- what waits is written at the end, or a front of it
pub ends_front : (first old new : Option (List ℕ)) (text waiting : List ℕ) → Shows first old text (waiting ++ []) → ShowsFront old new waiting → ShowsFront first new text
ends_front first old new text waiting p q = front_onward first old new text (waiting ++ []) p (front_longer old new waiting [] q)

-- the pieces of a list from a place on: the one there, and those after it

next_bytes : (ps : List (Bor (List ℕ))) (i : ℕ) (d : Bor (List ℕ)) → i < length ps → concat (bytes_of (drop i ps)) ≡ (get_or ps i d).now ++ concat (bytes_of (drop (i + 1) ps))
next_bytes ps i d lt =
    let e : suc i ≡ i + 1 = omega arith in
    ap (λ (l : List (Bor (List ℕ))). concat (bytes_of l)) (drop-cons ps i d lt)
    ∙ ap (λ (n : ℕ). (get_or ps i d).now ++ concat (bytes_of (drop n ps))) e

dropped : {A : Type 0} (xs : List A) (i : ℕ) → length xs ≤ i → drop i xs ≡ []
dropped [] zero le = refl
dropped [] (suc i) le = refl
dropped (x ∷ xs) zero le = absurd (omega (arith, le))
dropped (x ∷ xs) (suc i) le = dropped xs i (omega (arith, le))

module _ (first old new : Option (List ℕ)) (text waiting : List ℕ) (ps : List (Bor (List ℕ))) (i : ℕ) where
  pub place_goes : (d : Bor (List ℕ)) (waits : List ℕ) → i < length ps → Shows first old text (waiting ++ concat (bytes_of (drop i ps))) → Shows old new (waiting ++ (get_or ps i d).now) waits → Shows first new text (waits ++ concat (bytes_of (drop (i + 1) ps)))
  place_goes d waits lt p q =
      piece_goes first old new text waiting waits (get_or ps i d).now (concat (bytes_of (drop (i + 1) ps)))
      (subst (λ (t : List ℕ). Shows first old text (waiting ++ t)) (next_bytes ps i d lt) p) q

  pub place_fronts : (d : Bor (List ℕ)) → i < length ps → Shows first old text (waiting ++ concat (bytes_of (drop i ps))) → ShowsFront old new (waiting ++ (get_or ps i d).now) → ShowsFront first new text
  place_fronts d lt p q =
      piece_fronts first old new text waiting (get_or ps i d).now (concat (bytes_of (drop (i + 1) ps)))
      (subst (λ (t : List ℕ). Shows first old text (waiting ++ t)) (next_bytes ps i d lt) p) q

  pub over_fronts : length ps ≤ i → Shows first old text (waiting ++ concat (bytes_of (drop i ps))) → ShowsFront old new waiting → ShowsFront first new text
  over_fronts le p q =
      ends_front first old new text waiting
      (subst (λ (l : List (Bor (List ℕ))). Shows first old text (waiting ++ concat (bytes_of l))) (dropped ps i le) p) q
