-- Maps of lists: what tests, first occurrences and searches answer of what was mapped.
use Rattle.std.proofs.Common.{◌≡◌, inl, inr, ℕ, suc, Bool, true, false, if◌then◌else◌, List, [], ◌∷◌, ◌++◌, map, Option, Some, None, refl, sym, ap, ◌∙◌}
use Rattle.std.specs.Option.{option_map}
use Rattle.som_model.specs.Lists.{Mem, without, firsts, joined, or_else, first_some, find, some, place_from}

pub if_map : {A B : Type 0} (g : A → B) (b : Bool) (x y : A) → (if b then g x else g y) ≡ g (if b then x else y)
if_map g true x y = refl
if_map g false x y = refl

-- two tests with one answer in all cases
pub bool_same : (a b : Bool) → (a ≡ true → b ≡ true) → (b ≡ true → a ≡ true) → a ≡ b
bool_same true b to back = sym (to refl)
bool_same false true to back = back refl
bool_same false false to back = refl

pub map_append : {A B : Type 0} (g : A → B) (xs ys : List A) → map g (xs ++ ys) ≡ map g xs ++ map g ys
map_append g [] ys = refl
map_append g (x ∷ xs) ys = ap (λ l. g x ∷ l) (map_append g xs ys)

pub map_twice : {A B C : Type 0} (g : B → C) (h : A → B) (xs : List A) → map g (map h xs) ≡ map (λ x. g (h x)) xs
map_twice g h [] = refl
map_twice g h (x ∷ xs) = ap (λ l. g (h x) ∷ l) (map_twice g h xs)

pub map_joined : {A B : Type 0} (g : A → B) (xss : List (List A)) → map g (joined xss) ≡ joined (map (map g) xss)
map_joined g [] = refl
map_joined g (xs ∷ xss) = map_append g xs (joined xss) ∙ ap (λ l. map g xs ++ l) (map_joined g xss)

pub some_map : {A B : Type 0} (p : A → Bool) (q : B → Bool) (g : A → B) (xs : List A) → ((x : A) → Mem x xs → q (g x) ≡ p x) → some q (map g xs) ≡ some p xs
some_map p q g [] e = refl
some_map p q g (x ∷ xs) e = ap (λ b. if b then true else some q (map g xs)) (e x (inl refl)) ∙ ap (λ b. if p x then true else b) (some_map p q g xs (λ a m. e a (inr m)))

pub find_map : {A B : Type 0} (p : A → Bool) (q : B → Bool) (g : A → B) (xs : List A) → ((x : A) → Mem x xs → q (g x) ≡ p x) → find q (map g xs) ≡ option_map g (find p xs)
find_map p q g [] e = refl
find_map p q g (x ∷ xs) e =
    ap (λ b. if b then Some (g x) else find q (map g xs)) (e x (inl refl))
    ∙ ap (λ o. if p x then Some (g x) else o) (find_map p q g xs (λ a m. e a (inr m)))
    ∙ if_map (option_map g) (p x) (Some x) (find p xs)

pub place_map : {A B : Type 0} (n : ℕ) (p : A → Bool) (q : B → Bool) (g : A → B) (xs : List A) → ((x : A) → Mem x xs → q (g x) ≡ p x) → place_from n q (map g xs) ≡ place_from n p xs
place_map n p q g [] e = refl
place_map n p q g (x ∷ xs) e =
    ap (λ b. if b then Some n else place_from (suc n) q (map g xs)) (e x (inl refl))
    ∙ ap (λ o. if p x then Some n else o) (place_map (suc n) p q g xs (λ a m. e a (inr m)))

pub without_map : {A B : Type 0} (p : A → Bool) (q : B → Bool) (g : A → B) (xs : List A) → ((x : A) → Mem x xs → q (g x) ≡ p x) → without q (map g xs) ≡ map g (without p xs)
without_map p q g [] e = refl
without_map p q g (x ∷ xs) e =
    ap (λ b. if b then without q (map g xs) else g x ∷ without q (map g xs)) (e x (inl refl))
    ∙ ap (λ l. if p x then l else g x ∷ l) (without_map p q g xs (λ a m. e a (inr m)))
    ∙ if_map (map g) (p x) (without p xs) (x ∷ without p xs)

kept_mem : {A : Type 0} (b : Bool) (a x : A) (ys xs : List A) → (Mem a ys → Mem a xs) → Mem a (if b then ys else x ∷ ys) → Mem a (x ∷ xs)
kept_mem true a x ys xs f m = inr (f m)
kept_mem false a x ys xs f (inl e) = inl e
kept_mem false a x ys xs f (inr m) = inr (f m)

pub without_mem : {A : Type 0} (test : A → Bool) (a : A) (xs : List A) → Mem a (without test xs) → Mem a xs
without_mem test a [] m = m
without_mem test a (x ∷ xs) m = kept_mem (test x) a x (without test xs) xs (without_mem test a xs) m

pub firsts_mem : {A : Type 0} (same : A → A → Bool) (a : A) (xs : List A) → Mem a (firsts same xs) → Mem a xs
firsts_mem same a [] m = m
firsts_mem same a (x ∷ xs) (inl e) = inl e
firsts_mem same a (x ∷ xs) (inr m) = inr (firsts_mem same a xs (without_mem (same x) a (firsts same xs) m))

pub firsts_map : {A B : Type 0} (p : A → A → Bool) (q : B → B → Bool) (g : A → B) (xs : List A) → ((x y : A) → Mem x xs → Mem y xs → q (g x) (g y) ≡ p x y) → firsts q (map g xs) ≡ map g (firsts p xs)
firsts_map p q g [] e = refl
firsts_map p q g (x ∷ xs) e =
    ap (λ l. g x ∷ without (q (g x)) l) (firsts_map p q g xs (λ a b m n. e a b (inr m) (inr n)))
    ∙ ap (λ l. g x ∷ l) (without_map (p x) (q (g x)) g (firsts p xs) (λ a m. e x a (inl refl) (inr (firsts_mem p a xs m))))

pub or_else_map : {A B : Type 0} (g : A → B) (o u : Option A) → or_else (option_map g o) (option_map g u) ≡ option_map g (or_else o u)
or_else_map g None u = refl
or_else_map g (Some x) u = refl

pub first_some_map : {A B C D : Type 0} (p : A → Option C) (q : B → Option D) (g : A → B) (h : C → D) (xs : List A) → ((x : A) → Mem x xs → q (g x) ≡ option_map h (p x)) → first_some q (map g xs) ≡ option_map h (first_some p xs)
first_some_map p q g h [] e = refl
first_some_map p q g h (x ∷ xs) e =
    ap (λ o. or_else o (first_some q (map g xs))) (e x (inl refl))
    ∙ ap (λ o. or_else (option_map h (p x)) o) (first_some_map p q g h xs (λ a m. e a (inr m)))
    ∙ or_else_map h (p x) (first_some p xs)
