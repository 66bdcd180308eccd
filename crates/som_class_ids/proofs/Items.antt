-- The items of lists that loops go over.
use Rattle.std.proofs.Common.{◌≡◌, ℕ, zero, suc, ◌<◌, inl, inr, List, [], ◌∷◌, length, get_or, refl, sym, ◌∙◌, subst, arith}
use Rattle.som_model.specs.Lists.{Mem}

pub get_mem : {A : Type 0} (xs : List A) (i : ℕ) (d : A) → i < length xs → Mem (get_or xs i d) xs
get_mem [] i d lt = absurd (omega arith)
get_mem (x ∷ xs) zero d lt = inl refl
get_mem (x ∷ xs) (suc i) d lt = inr (get_mem xs i d (omega arith))

-- the item at a place is one of the list
pub item_mem : {A : Type 0} (xs : List A) (i : ℕ) (x : A) → i < length xs → x ≡ get_or xs i x → Mem x xs
item_mem xs i x lt is = subst (λ z. Mem z xs) (sym is) (get_mem xs i x lt)

same_default : {A : Type 0} (xs : List A) (i : ℕ) (d e : A) → i < length xs → get_or xs i d ≡ get_or xs i e
same_default [] i d e lt = absurd (omega arith)
same_default (x ∷ xs) zero d e lt = refl
same_default (x ∷ xs) (suc i) d e lt = same_default xs i d e (omega arith)

-- whatever stands for what isn't there
pub item_at : {A : Type 0} (xs : List A) (i : ℕ) (x d : A) → i < length xs → x ≡ get_or xs i x → x ≡ get_or xs i d
item_at xs i x d lt is = is ∙ same_default xs i x d lt
