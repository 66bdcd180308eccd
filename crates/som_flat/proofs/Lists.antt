-- What loops make of lists, and the first of a list.
use Rattle.std.proofs.Common.{◌≡◌, ℕ, ◌+◌, ◌<◌, ◌≤◌, List, [], ◌∷◌, ◌++◌, map, flat_map, length, drop, Option, Some, None, slice_index_or, refl, sym, ap, ◌∙◌, append_assoc, append-nil}
use Rattle.std.proofs.lemmas.List.{map-append}
use Rattle.std.specs.Option.{option_map}
use Rattle.som_model.specs.Lists.{first}
use Rattle.som_compat_levels.proofs.Lists.{drop_at, drop_end}

module _ {A B : Type 0} (f : A → B) (xs : List A) where
  -- one more is made
  pub made_more : (made : List B) (b : B) (i : ℕ) (d : A) (whole : List B) → i < length xs → b ≡ f (slice_index_or xs i d)
      → made ++ map f (drop i xs) ≡ whole → (made ++ b ∷ []) ++ map f (drop (i + 1) xs) ≡ whole
  made_more made b i d whole lt is so =
      append_assoc made (b ∷ []) (map f (drop (i + 1) xs))
      ∙ ap (λ z. made ++ (z ∷ map f (drop (i + 1) xs))) is
      ∙ ap (λ z. made ++ map f z) (sym (drop_at xs i d lt)) ∙ so

  -- all are made
  pub made_all : (made : List B) (i : ℕ) (whole : List B) → length xs ≤ i → made ++ map f (drop i xs) ≡ whole → made ≡ whole
  made_all made i whole le so = sym (append-nil made) ∙ ap (λ z. made ++ map f z) (sym (drop_end xs i le)) ∙ so

pub map_flat : {A B C : Type 0} (g : B → C) (f : A → List B) (xs : List A) → map g (flat_map f xs) ≡ flat_map (λ x. map g (f x)) xs
map_flat g f [] = refl
map_flat g f (x ∷ xs) = map-append g (f x) (flat_map f xs) ∙ ap (λ z. map g (f x) ++ z) (map_flat g f xs)

pub flat_on : {A B : Type 0} (f g : A → List B) (xs : List A) → ((a : A) → f a ≡ g a) → flat_map f xs ≡ flat_map g xs
flat_on f g [] e = refl
flat_on f g (x ∷ xs) e = ap (λ z. z ++ flat_map f xs) (e x) ∙ ap (λ z. g x ++ z) (flat_on f g xs e)

pub first_map : {A B : Type 0} (f : A → B) (xs : List A) → option_map f (first xs) ≡ first (map f xs)
first_map f [] = refl
first_map f (x ∷ xs) = refl

pub map_nothing : {A B : Type 0} (f : A → B) (o : Option A) → option_map f o ≡ None → o ≡ None
map_nothing f None e = refl
map_nothing f (Some x) e = absurd (cc)

pub map_something : {A B : Type 0} (f : A → B) (o : Option A) (b : B) → option_map f o ≡ Some b → (a : A) × (o ≡ Some a) × (f a ≡ b)
map_something f None b e = absurd (cc)
map_something f (Some x) b e = (x, refl, cc)
