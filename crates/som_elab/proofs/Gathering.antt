-- Steps one after the other, each of which may be refused.
use Rattle.std.proofs.Common.{◌≡◌, ℕ, ◌+◌, ◌<◌, ◌≤◌, List, [], ◌∷◌, ◌++◌, length, drop, get_or, Result, Ok, Err, refl, sym, ap, ◌∙◌, subst, append_assoc, append-nil}
use Rattle.std.proofs.lemmas.List.{at_drop_more, at_drop_all}
use Rattle.som_model.specs.Steps.{◌>>=◌}
use Rattle.som_sema_drafts.specs.declared.types.Refused.{Refused}
use Rattle.som_sema_drafts.specs.declared.types.Refused.TheVariants as refusals
use Rattle.som_elab.specs.Blocks.{Answers, Refusal}

module _ {A B : Type 0} (c : Result A Refusal) (f : A → Result B Refusal) where
  -- what is refused first is told
  pub stops : (e : Refused) → Answers {A = A} c (Err e) → Answers {A = B} (c >>= f) (Err e)
  stops (refusals.Rule b) t = ap (λ (z : Result A Refusal). z >>= f) t
  stops (refusals.Limit q n) t = ap (λ (z : Result A Refusal). z >>= f) t
  stops refusals.NoMemory t = tt

  -- and else what comes next
  pub goes : (x : A) (r : Result B Refused) → c ≡ Ok x → Answers (f x) r → Answers (c >>= f) r
  goes x r e t = subst (λ (z : Result B Refusal). Answers z r) (sym (ap (λ (z : Result A Refusal). z >>= f) e)) t

-- what was made, and then what comes of the rest
abbrev pub after : {A : Type 0} → List A → Result (List A) Refusal → Result (List A) Refusal
after done (Ok more) = Ok (done ++ more)
after done (Err e) = Err e

abbrev pub with_more : {A : Type 0} → A → Result (List A) Refusal → Result (List A) Refusal
with_more x rest = rest >>= λ more. Ok (x ∷ more)

pub after_none : {A : Type 0} (r : Result (List A) Refusal) → after [] r ≡ r
after_none (Ok more) = refl
after_none (Err e) = refl

after_one : {A : Type 0} (done : List A) (x : A) (r : Result (List A) Refusal) → after done (with_more x r) ≡ after (done ++ x ∷ []) r
after_one done x (Ok more) = ap (λ z. Ok z) (sym (append_assoc done (x ∷ []) more))
after_one done x (Err e) = refl

module _ {A B : Type 0} (rest : List A → Result (List B) Refusal) (xs : List A) (i : ℕ) (x : A) (lt : i < length xs) (is : x ≡ get_or xs i x) where
  item_first : rest (drop i xs) ≡ rest (x ∷ drop (i + 1) xs)
  item_first = at_drop_more rest xs i x lt ∙ ap (λ z. rest (z ∷ drop (i + 1) xs)) (sym is)

  -- an item of which nothing is made
  pub skips : (whole : Result (List B) Refusal) (done : List B) → ((ys : List A) → rest (x ∷ ys) ≡ rest ys) → after done (rest (drop i xs)) ≡ whole → after done (rest (drop (i + 1) xs)) ≡ whole
  skips whole done law same = ap (after done) (sym (item_first ∙ law (drop (i + 1) xs))) ∙ same

  module _ (comes : Result B Refusal) (law : (ys : List A) → rest (x ∷ ys) ≡ (comes >>= λ y. with_more y (rest ys))) where
    here_is : rest (drop i xs) ≡ (comes >>= λ y. with_more y (rest (drop (i + 1) xs)))
    here_is = item_first ∙ law (drop (i + 1) xs)

    -- one more is made
    pub gathers : (whole : Result (List B) Refusal) (done : List B) (y : B) → comes ≡ Ok y → after done (rest (drop i xs)) ≡ whole → after (done ++ y ∷ []) (rest (drop (i + 1) xs)) ≡ whole
    gathers whole done y e same =
        sym (after_one done y (rest (drop (i + 1) xs)))
        ∙ ap (after done) (sym (here_is ∙ ap (λ (z : Result B Refusal). z >>= λ y. with_more y (rest (drop (i + 1) xs))) e))
        ∙ same

    -- one is refused
    pub refuses : (whole : Result (List B) Refusal) (done : List B) (e : Refused) → Answers {A = B} comes (Err e) → after done (rest (drop i xs)) ≡ whole → Answers {A = List B} whole (Err e)
    refuses whole done (refusals.Rule b) t same = sym same ∙ ap (after done) (here_is ∙ ap (λ (z : Result B Refusal). z >>= λ y. with_more y (rest (drop (i + 1) xs))) t)
    refuses whole done (refusals.Limit q n) t same = sym same ∙ ap (after done) (here_is ∙ ap (λ (z : Result B Refusal). z >>= λ y. with_more y (rest (drop (i + 1) xs))) t)
    refuses whole done refusals.NoMemory t same = tt

-- nothing is left
pub ends : {A B : Type 0} (rest : List A → Result (List B) Refusal) (xs : List A) (i : ℕ) (whole : Result (List B) Refusal) (done : List B) → length xs ≤ i → rest [] ≡ Ok [] → after done (rest (drop i xs)) ≡ whole → whole ≡ Ok done
ends rest xs i whole done le e same = sym same ∙ ap (after done) (at_drop_all rest xs i le ∙ e) ∙ ap (λ z. Ok z) (append-nil done)
