-- Loops over a list: what is made so far, before what the rest of the list comes to.
use Rattle.std.proofs.Common.{◌≡◌, ℕ, ◌+◌, ◌<◌, ◌≤◌, List, [], ◌∷◌, ◌++◌, length, map, flat_map, drop, slice_index_or, sym, ap, ◌∙◌, append_assoc}
use Rattle.std.proofs.lemmas.List.{append-nil, drop_all, drop_more, map-append}

-- a value more that the loop's list is mapped to
pub map_next : {A B : Type 0} (f : A → B) (xs : List A) (i : ℕ) (d : A) (made after whole : List B) (y : B) → i < length xs
    → after ≡ made ++ y ∷ [] → y ≡ f (slice_index_or xs i d) → made ++ map f (drop i xs) ≡ whole → after ++ map f (drop (i + 1) xs) ≡ whole
map_next f xs i d made after whole y lt is same e =
    ap (λ z. z ++ map f (drop (i + 1) xs)) (is ∙ ap (λ z. made ++ z ∷ []) same)
    ∙ append_assoc made (f (slice_index_or xs i d) ∷ []) (map f (drop (i + 1) xs))
    ∙ ap (λ z. made ++ map f z) (sym (drop_more xs i d lt))
    ∙ e

pub map_end : {A B : Type 0} (f : A → B) (xs : List A) (i : ℕ) (made whole : List B) → length xs ≤ i → made ++ map f (drop i xs) ≡ whole → made ≡ whole
map_end f xs i made whole le e = sym (append-nil made) ∙ ap (λ z. made ++ map f z) (sym (drop_all i xs le)) ∙ e

-- the values more that one comes to
pub flat_next : {A B : Type 0} (f : A → List B) (xs : List A) (i : ℕ) (d : A) (made after whole : List B) → i < length xs
    → after ≡ made ++ f (slice_index_or xs i d) → made ++ flat_map f (drop i xs) ≡ whole → after ++ flat_map f (drop (i + 1) xs) ≡ whole
flat_next f xs i d made after whole lt is e =
    ap (λ z. z ++ flat_map f (drop (i + 1) xs)) is
    ∙ append_assoc made (f (slice_index_or xs i d)) (flat_map f (drop (i + 1) xs))
    ∙ ap (λ z. made ++ flat_map f z) (sym (drop_more xs i d lt))
    ∙ e

pub flat_end : {A B : Type 0} (f : A → List B) (xs : List A) (i : ℕ) (made whole : List B) → length xs ≤ i → made ++ flat_map f (drop i xs) ≡ whole → made ≡ whole
flat_end f xs i made whole le e = sym (append-nil made) ∙ ap (λ z. made ++ flat_map f z) (sym (drop_all i xs le)) ∙ e

-- a pushed value, as it is seen
pub pushed : {A B : Type 0} (f : A → B) (xs after : List A) (x : A) → after ≡ xs ++ x ∷ [] → map f after ≡ map f xs ++ f x ∷ []
pushed f xs after x is = ap (map f) is ∙ map-append f xs (x ∷ [])

-- the values more that an item of a loop comes to, where F is what a list comes to
pub next : {A B : Type 0} (F : List A → List B) (xs : List A) (i : ℕ) (x d : A) (made after ys whole : List B) → i < length xs → x ≡ slice_index_or xs i d
    → after ≡ made ++ ys → F (x ∷ drop (i + 1) xs) ≡ ys ++ F (drop (i + 1) xs) → made ++ F (drop i xs) ≡ whole → after ++ F (drop (i + 1) xs) ≡ whole
next F xs i x d made after ys whole lt at is one e =
    ap (λ z. z ++ F (drop (i + 1) xs)) is
    ∙ append_assoc made ys (F (drop (i + 1) xs))
    ∙ ap (λ z. made ++ z) (sym one ∙ ap (λ z. F (z ∷ drop (i + 1) xs)) at ∙ ap F (sym (drop_more xs i d lt)))
    ∙ e

-- one value more
pub next_value : {A B : Type 0} (F : List A → List B) (xs : List A) (i : ℕ) (x d : A) (made after whole : List B) (y w : B) → i < length xs → x ≡ slice_index_or xs i d
    → after ≡ made ++ y ∷ [] → y ≡ w → F (x ∷ drop (i + 1) xs) ≡ w ∷ F (drop (i + 1) xs) → made ++ F (drop i xs) ≡ whole → after ++ F (drop (i + 1) xs) ≡ whole
next_value F xs i x d made after whole y w lt at is same one e = next F xs i x d made after (w ∷ []) whole lt at (is ∙ ap (λ z. made ++ z ∷ []) same) one e

-- no value more
pub next_none : {A B : Type 0} (F : List A → List B) (xs : List A) (i : ℕ) (x d : A) (made after whole : List B) → i < length xs → x ≡ slice_index_or xs i d
    → after ≡ made → F (x ∷ drop (i + 1) xs) ≡ F (drop (i + 1) xs) → made ++ F (drop i xs) ≡ whole → after ++ F (drop (i + 1) xs) ≡ whole
next_none F xs i x d made after whole lt at is one e =
    ap (λ z. z ++ F (drop (i + 1) xs)) is
    ∙ ap (λ z. made ++ z) (sym one ∙ ap (λ z. F (z ∷ drop (i + 1) xs)) at ∙ ap F (sym (drop_more xs i d lt)))
    ∙ e

pub rest_end : {A B : Type 0} (F : List A → List B) (xs : List A) (i : ℕ) (made whole : List B) → length xs ≤ i → F [] ≡ [] → made ++ F (drop i xs) ≡ whole → made ≡ whole
rest_end F xs i made whole le none e = sym (append-nil made) ∙ ap (λ z. made ++ z) (sym (ap F (drop_all i xs le) ∙ none)) ∙ e
