-- What is said place by place.
use Rattle.std.proofs.Common.{◌≡◌, ℕ, zero, suc, List, [], ◌∷◌, length, map, slice_get, Some, refl, ap, ◌∙◌, arith}
use Rattle.som_sema_laws.specs.Faces.{PlaceByPlace}

pub get_map : {A B : Type 0} (f : A → B) (xs : List A) (n : ℕ) (a : A) → slice_get xs n ≡ Some a → slice_get (map f xs) n ≡ Some (f a)
get_map f [] n a e = absurd (cc)
get_map f (x ∷ xs) zero a e = let same : x ≡ a = cc in ap (λ z. Some (f z)) same
get_map f (x ∷ xs) (suc n) a e = get_map f xs n a e

long_map : {A B : Type 0} (f : A → B) (xs : List A) → length (map f xs) ≡ length xs
long_map f [] = refl
long_map f (x ∷ xs) = ap suc (long_map f xs)

-- the list of what each says
pub placed : {A B : Type 0} (f : A → B) (xs : List A) → PlaceByPlace f xs (map f xs)
placed f xs = record { long = long_map f xs; each = get_map f xs }

-- is the only one
pub only_placed : {A B : Type 0} (f : A → B) (xs : List A) (ys : List B) → PlaceByPlace f xs ys → ys ≡ map f xs
only_placed f [] [] p = refl
only_placed f [] (y ∷ ys) p = absurd (let e = p.long in omega (arith, e))
only_placed f (x ∷ xs) [] p = absurd (let e = p.long in omega (arith, e))
only_placed f (x ∷ xs) (y ∷ ys) p =
    let same : y ≡ f x = (let e = p.each 0 x refl in cc) in
    let e = p.long in
    ap (λ z. z ∷ ys) same ∙ ap (λ z. f x ∷ z) (only_placed f xs ys (record { long = omega (arith, e); each = λ n a h. p.each (suc n) a h }))

pub map_both : {A B C : Type 0} (f : B → C) (g : A → B) (xs : List A) → map f (map g xs) ≡ map (λ x. f (g x)) xs
map_both f g [] = refl
map_both f g (x ∷ xs) = ap (λ z. f (g x) ∷ z) (map_both f g xs)
