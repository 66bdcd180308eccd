-- Lists of which no member passes a test.
use Rattle.std.proofs.Common.{◌≡◌, ℕ, Bool, true, false, if◌then◌else◌, List, [], ◌∷◌, ◌++◌, Some, slice_get, refl, sym, ◌∙◌, true≢false}
use Rattle.som_model.specs.Lists.{Mem, some}
use Rattle.som_model_laws.proofs.Members.{mem_some, not_true}
use Rattle.som_model_laws.proofs.Lists.{get_mem}

module _ {A : Type 0} (test : A → Bool) where
  -- nothing passes in a list that is joined, where nothing does in either part
  pub none_joined : (xs ys : List A) → some test xs ≡ false → some test ys ≡ false → some test (xs ++ ys) ≡ false
  none_joined [] ys e f = f
  none_joined (x ∷ xs) ys e f = by (test x) e (none_joined xs ys)
    where
      by : (b : Bool) → (if b then true else some test xs) ≡ false → (some test xs ≡ false → some test ys ≡ false → some test (xs ++ ys) ≡ false) → (if b then true else some test (xs ++ ys)) ≡ false
      by true g further = g
      by false g further = further g f

  -- and nothing does in the parts
  pub none_left : (xs ys : List A) → some test (xs ++ ys) ≡ false → some test xs ≡ false
  none_left [] ys e = refl
  none_left (x ∷ xs) ys e = by (test x) e (none_left xs ys)
    where
      by : (b : Bool) → (if b then true else some test (xs ++ ys)) ≡ false → (some test (xs ++ ys) ≡ false → some test xs ≡ false) → (if b then true else some test xs) ≡ false
      by true g further = g
      by false g further = further g

  pub none_right : (xs ys : List A) → some test (xs ++ ys) ≡ false → some test ys ≡ false
  none_right [] ys e = e
  none_right (x ∷ xs) ys e = by (test x) e (none_right xs ys)
    where
      by : (b : Bool) → (if b then true else some test (xs ++ ys)) ≡ false → (some test (xs ++ ys) ≡ false → some test ys ≡ false) → some test ys ≡ false
      by true g further = absurd (true≢false g)
      by false g further = further g

  -- no member passes
  pub none_passes : (xs : List A) → some test xs ≡ false → (x : A) → Mem x xs → test x ≡ false
  none_passes xs e x m = not_true (test x) (λ t. true≢false (sym (mem_some test x xs m t) ∙ e))

  pub none_at : (xs : List A) → some test xs ≡ false → (n : ℕ) (x : A) → slice_get xs n ≡ Some x → test x ≡ false
  none_at xs e n x at = none_passes xs e x (get_mem xs n x at)

-- the first of answers that are all false
pub first_false : (b : Bool) (bs : List Bool) → some (λ (z : Bool). z) (b ∷ bs) ≡ false → b ≡ false
first_false true bs e = e
first_false false bs e = refl
