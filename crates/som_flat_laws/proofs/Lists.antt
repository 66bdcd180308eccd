-- Lists in which nothing stands twice, and the first of a list.
use Rattle.std.proofs.Common.{◌≡◌, ℕ, inl, inr, Bool, true, false, List, [], ◌∷◌, map, Option, Some, None, refl, sym, ap, ◌∙◌, subst, true≢false}
use Rattle.std.specs.Str.{bytes_eq}
use Rattle.std.specs.Prelude.{is_some}
use Rattle.som_model.specs.Lists.{Mem, find, first}
use Rattle.som_model.proofs.KeyLaws.{exact_bytes}
use Rattle.som_model_laws.proofs.Lists.{mem_map}
use Rattle.som_model_laws.proofs.Members.{Apart}

pub first_mem : {A : Type 0} (xs : List A) (x : A) → first xs ≡ Some x → Mem x xs
first_mem [] x e = absurd (cc)
first_mem (y ∷ ys) x e = inl (cc)

pub none_of : {A : Type 0} (xs : List A) → xs ≡ [] → first xs ≡ None
none_of xs e = ap first e

pub has_one : {A : Type 0} (o : Option A) → is_some o ≡ true → (x : A) × (o ≡ Some x)
has_one None e = absurd (true≢false (sym e))
has_one (Some x) e = (x, refl)

-- where what stands at different places differs, one value stands at one place
pub one_of : {A B : Type 0} (f : A → B) (xs : List A) (x y : A) → Apart (map f xs) → Mem x xs → Mem y xs → f x ≡ f y → x ≡ y
one_of f [] x y p m n e = absurd m
one_of f (z ∷ zs) x y p (inl a) (inl b) e = a ∙ sym b
one_of f (z ∷ zs) x y p (inl a) (inr n) e = absurd (p.0 (subst (λ q. Mem q (map f zs)) (sym e ∙ ap f a) (mem_map f y zs n)))
one_of f (z ∷ zs) x y p (inr m) (inl b) e = absurd (p.0 (subst (λ q. Mem q (map f zs)) (e ∙ ap f b) (mem_map f x zs m)))
one_of f (z ∷ zs) x y p (inr m) (inr n) e = one_of f zs x y p.1 m n e

-- a member is found by its name, where names differ
pub found_by_name : {A : Type 0} (f : A → List ℕ) (xs : List A) (x : A) → Apart (map f xs) → Mem x xs → find (λ z. bytes_eq (f z) (f x)) xs ≡ Some x
found_by_name f [] x p m = absurd m
found_by_name f (y ∷ ys) x p (inl e) =
    let t : bytes_eq (f y) (f x) ≡ true = ap (λ z. bytes_eq (f z) (f x)) (sym e) ∙ exact_bytes.one (f x) in rw t (ap (λ z. Some z) (sym e))
found_by_name {A} f (y ∷ ys) x p (inr m) = by (bytes_eq (f y) (f x)) refl (found_by_name f ys x p.1 m)
  where
    by : (b : Bool) → bytes_eq (f y) (f x) ≡ b → find (λ z. bytes_eq (f z) (f x)) ys ≡ Some x → find (λ z. bytes_eq (f z) (f x)) (y ∷ ys) ≡ Some x
    by true e h = absurd (p.0 (subst (λ q. Mem q (map f ys)) (sym (exact_bytes.two (f y) (f x) e)) (mem_map f x ys m)))
    by false e h = rw e h
