-- Places in lists that are joined, and keys that differ in them.
use Rattle.std.proofs.Common.{◌≡◌, ℕ, zero, suc, ◌⊎◌, inl, inr, Bool, true, false, ◌&&◌, if◌then◌else◌, List, [], ◌∷◌, ◌++◌, map, flat_map, take, Some, IsSome, slice_get, refl, sym, ap, ◌∙◌, true≢false}
use Rattle.std.specs.Str.{bytes_eq}
use Rattle.som_model.specs.Lists.{Mem}
use Rattle.som_model.specs.declared.class.Entry.{Entry}
use Rattle.som_model.specs.Class.{entry_name, entry_of}
use Rattle.som_model.proofs.KeyLaws.{exact_bytes}
use Rattle.som_model_laws.proofs.Members.{Apart, mem_left}

pub get_left : {A : Type 0} (xs ys : List A) (i : ℕ) (x : A) → slice_get xs i ≡ Some x → slice_get (xs ++ ys) i ≡ Some x
get_left [] ys i x e = absurd (cc)
get_left (y ∷ xs) ys zero x e = e
get_left (y ∷ xs) ys (suc i) x e = get_left xs ys i x e

pub take_left : {A : Type 0} (xs ys : List A) (i : ℕ) (x : A) → slice_get xs i ≡ Some x → take i (xs ++ ys) ≡ take i xs
take_left [] ys i x e = absurd (cc)
take_left (y ∷ xs) ys zero x e = refl
take_left (y ∷ xs) ys (suc i) x e = ap (λ z. y ∷ z) (take_left xs ys i x e)

-- a place in joined lists is in the first, or past it in the second
pub get_split : {A : Type 0} (xs ys : List A) (i : ℕ) (x : A) → slice_get (xs ++ ys) i ≡ Some x
    → (slice_get xs i ≡ Some x) ⊎ ((j : ℕ) × (slice_get ys j ≡ Some x) × (take i (xs ++ ys) ≡ xs ++ take j ys))
get_split [] ys i x e = inr (i, e, refl)
get_split (y ∷ xs) ys zero x e = inl e
get_split (y ∷ xs) ys (suc i) x e = elim (get_split xs ys i x e) [
  | inl l ↦ inl l
  | inr (j, f, g) ↦ inr (j, f, ap (λ z. y ∷ z) g)
]

pub get_right : {A : Type 0} (xs ys : List A) (j : ℕ) (x : A) → slice_get ys j ≡ Some x → (i : ℕ) × (slice_get (xs ++ ys) i ≡ Some x) × (take i (xs ++ ys) ≡ xs ++ take j ys)
get_right [] ys j x e = (j, e, refl)
get_right (y ∷ xs) ys j x e = let r = get_right xs ys j x e in (suc r.0, r.1, ap (λ z. y ∷ z) r.2)

pub apart_left : {A : Type 0} (xs ys : List A) → Apart (xs ++ ys) → Apart xs
apart_left [] ys p = tt
apart_left (x ∷ xs) ys p = ((λ m. p.0 (mem_left x xs ys m)), apart_left xs ys p.1)

pub apart_right : {A : Type 0} (xs ys : List A) → Apart (xs ++ ys) → Apart ys
apart_right [] ys p = p
apart_right (x ∷ xs) ys p = apart_right xs ys p.1

-- tests

pub both_true : (a b : Bool) → a ≡ true → b ≡ true → (a && b) ≡ true
both_true a b e f = rw (e, f) refl

pub none_left : {A : Type 0} (xs ys : List A) → (xs ++ ys) ≡ [] → (xs ≡ []) × (ys ≡ [])
none_left [] ys e = (refl, e)
none_left (x ∷ xs) ys e = absurd (cc)

pub both_none : {A : Type 0} (xs ys : List A) → xs ≡ [] → ys ≡ [] → (xs ++ ys) ≡ []
both_none [] ys e f = f
both_none (x ∷ xs) ys e f = absurd (cc)

-- what breaks nothing at each by one rule breaks nothing by another that asks less
pub flat_less : {A B : Type 0} (f g : A → List B) → ((x : A) → f x ≡ [] → g x ≡ []) → (xs : List A) → flat_map f xs ≡ [] → flat_map g xs ≡ []
flat_less f g h [] e = refl
flat_less f g h (x ∷ xs) e = let r = none_left (f x) (flat_map f xs) e in both_none (g x) (flat_map g xs) (h x r.0) (flat_less f g h xs r.1)

pub flat_at : {A B : Type 0} (f : A → List B) (xs : List A) (x : A) → flat_map f xs ≡ [] → Mem x xs → f x ≡ []
flat_at f [] x e m = absurd m
flat_at f (y ∷ xs) x e (inl is) = ap f is ∙ (none_left (f y) (flat_map f xs) e).0
flat_at f (y ∷ xs) x e (inr m) = flat_at f xs x (none_left (f y) (flat_map f xs) e).1 m

pub flat_all : {A B : Type 0} (f : A → List B) (xs : List A) → ((x : A) → Mem x xs → f x ≡ []) → flat_map f xs ≡ []
flat_all f [] g = refl
flat_all f (x ∷ xs) g = both_none (f x) (flat_map f xs) (g x (inl refl)) (flat_all f xs (λ y m. g y (inr m)))

-- entries by their names

pub named_entry : (es : List Entry) (name : List ℕ) → Mem name (map entry_name es) → IsSome (entry_of es name)
named_entry [] name m = absurd m
named_entry (e ∷ es) name m = by (bytes_eq (entry_name e) name) refl (named_entry es name) m
  where
    by : (b : Bool) → bytes_eq (entry_name e) name ≡ b → (Mem name (map entry_name es) → IsSome (entry_of es name)) → Mem name (entry_name e ∷ map entry_name es) → IsSome (if b then Some e else entry_of es name)
    by true t further m = refl
    by false t further (inl is) = absurd (true≢false (sym (ap (λ z. bytes_eq z name) (sym is) ∙ exact_bytes.one name) ∙ t))
    by false t further (inr m) = further m
