-- What a comparison of releases lists: what fails a test, and which names have another place. Where none is listed, none is.
use Rattle.std.proofs.Common.{◌≡◌, ℕ, zero, suc, ◌≤◌, ◌+◌, ◌==◌, nat_le, inl, inr, Bool, true, false, ◌&&◌, if◌then◌else◌, List, [], ◌∷◌, Some, slice_get, refl, sym, ap, ◌∙◌, arith}
use Rattle.std.specs.Str.{bytes_eq}
use Rattle.som_model.specs.Lists.{Mem}
use Rattle.som_model.specs.Same.{same_option, same_sig}
use Rattle.som_model.specs.Compatible.{failing, first_changed}
use Rattle.som_model.proofs.KeyLaws.{Exact, exact_bytes, both}
use Rattle.som_model.proofs.SameLaws.{exact_option, exact_sigs}

-- none fails the test
fails_by : {A : Type 0} (test : A → Bool) (x y : A) (n : ℕ) (ys : List A) (b : Bool) → test y ≡ b → (failing test (n + 1) ys ≡ [] → Mem x ys → test x ≡ true)
    → (if b then failing test (n + 1) ys else (y, n) ∷ failing test (n + 1) ys) ≡ [] → Mem x (y ∷ ys) → test x ≡ true
fails_by test x y n ys true t f e (inl is) = ap test is ∙ t
fails_by test x y n ys true t f e (inr k) = f e k
fails_by test x y n ys false t f e m = cc

pub none_fails : {A : Type 0} (test : A → Bool) (n : ℕ) (xs : List A) → failing test n xs ≡ [] → (x : A) → Mem x xs → test x ≡ true
none_fails test n [] e x m = absurd m
none_fails test n (y ∷ ys) e x m = fails_by test x y n ys (test y) refl (λ f k. none_fails test (n + 1) ys f x k) e m

pub fails_none : {A : Type 0} (test : A → Bool) (n : ℕ) (xs : List A) → ((x : A) → Mem x xs → test x ≡ true) → failing test n xs ≡ []
fails_none test n [] f = refl
fails_none test n (y ∷ ys) f = let here : test y ≡ true = f y (inl refl) in rw here (fails_none test (n + 1) ys (λ x m. f x (inr m)))

-- none has another place
strays_by : (n : ℕ) (x y z : List ℕ) (ys zs : List (List ℕ)) (i : ℕ) (b : Bool) → bytes_eq y z ≡ b → (first_changed (n + 1) ys zs ≡ [] → (j : ℕ) → slice_get ys j ≡ Some x → slice_get zs j ≡ Some x)
    → (if b then first_changed (n + 1) ys zs else (y, n) ∷ []) ≡ [] → slice_get (y ∷ ys) i ≡ Some x → slice_get (z ∷ zs) i ≡ Some x
strays_by n x y z ys zs zero true t f e at = ap (λ w. Some w) (sym (exact_bytes.two y z t)) ∙ at
strays_by n x y z ys zs (suc i) true t f e at = f e i at
strays_by n x y z ys zs i false t f e at = absurd (cc)

pub none_strays : (n : ℕ) (olds news : List (List ℕ)) → first_changed n olds news ≡ [] → (i : ℕ) (x : List ℕ) → slice_get olds i ≡ Some x → slice_get news i ≡ Some x
none_strays n [] news e i x at = absurd (cc)
none_strays n (y ∷ ys) [] e i x at = absurd (cc)
none_strays n (y ∷ ys) (z ∷ zs) e i x at = strays_by n x y z ys zs i (bytes_eq y z) refl (λ f j g. none_strays (n + 1) ys zs f j x g) e at

pub strays_none : (n : ℕ) (olds news : List (List ℕ)) → ((i : ℕ) (x : List ℕ) → slice_get olds i ≡ Some x → slice_get news i ≡ Some x) → first_changed n olds news ≡ []
strays_none n [] news f = refl
strays_none n (y ∷ ys) [] f = let e = f 0 y refl in absurd (cc)
strays_none n (y ∷ ys) (z ∷ zs) f =
    let e = f 0 y refl in
    let same : z ≡ y = cc in
    let here : bytes_eq y z ≡ true = ap (bytes_eq y) same ∙ exact_bytes.one y in
    rw here (strays_none (n + 1) ys zs (λ i x at. f (suc i) x at))

-- signatures, or none
pub sigs : Exact (same_option same_sig)
sigs = exact_option same_sig exact_sigs

-- one major version, and no lower minor version
pub version_ok : (a b c d : ℕ) → (a == b) && nat_le c d ≡ true → (a ≡ b) × (c ≤ d)
version_ok a b c d e = let r = both (a == b) (nat_le c d) e in let x = r.0 in let y = r.1 in (grind (arith, x), grind (arith, y))

pub ok_version : (a b c d : ℕ) → a ≡ b → c ≤ d → (a == b) && nat_le c d ≡ true
ok_version a b c d e le = let x : (a == b) ≡ true = grind (arith, e) in let y : nat_le c d ≡ true = grind (arith, le) in rw x y
