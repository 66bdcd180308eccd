-- What stands a second time.
use Rattle.std.proofs.Common.{◌≡◌, ℕ, zero, suc, ◌+◌, ◌<◌, Bool, true, false, if◌then◌else◌, List, [], ◌∷◌, ◌++◌, length, take, drop, Some, slice_index_or, Result, refl, ap, subst, arith}
use Rattle.std.specs.Borrow.{Bor}
use Rattle.std.specs.Str.{bytes_eq}
use Rattle.som_model.specs.Lists.{first, doubles, some, among}
use Rattle.som_model.specs.Class.{Class}
use Rattle.som_order.specs.Names.{texts}
use Rattle.som_verify_classes.specs.declared.types.VerifyFault.{VerifyFault}
use Rattle.som_verify_classes.specs.Along.{doubles_breach}
use Rattle.som_verify_classes.specs.Told.{Tells}

first_if : {A : Type 0} (b : Bool) (x : A) (xs ys : List A) → first (if b then x ∷ xs else ys) ≡ (if b then Some x else first ys)
first_if true x xs ys = refl
first_if false x xs ys = refl

-- one name more
pub doubled : (names : List (Bor (List ℕ))) (i : ℕ) (d : Bor (List ℕ)) (before : List (List ℕ)) → i < length names
    → first (doubles bytes_eq before (texts (drop i names))) ≡
    (let x = (slice_index_or names i d).now in if among x before then Some x else first (doubles bytes_eq (before ++ x ∷ []) (texts (drop (i + 1) names))))
doubled [] i d before lt = absurd (omega arith)
doubled (n ∷ ns) zero d before lt = first_if (among n.now before) n.now (doubles bytes_eq before (texts ns)) (doubles bytes_eq (before ++ n.now ∷ []) (texts ns))
doubled (n ∷ ns) (suc i) d before lt = let e : suc i + 1 ≡ suc (i + 1) = omega arith in rw e (doubled ns i d before (omega arith))

-- one item more
pub next_double : {A : Type 0} (same : A → A → Bool) (xs : List A) (i : ℕ) (d : A) (before : List A) → i < length xs
    → first (doubles same before (drop i xs)) ≡ (if some (same (slice_index_or xs i d)) before then Some (slice_index_or xs i d) else first (doubles same (before ++ slice_index_or xs i d ∷ []) (drop (i + 1) xs)))
next_double same [] i d before lt = absurd (omega arith)
next_double same (x ∷ xs) zero d before lt = first_if (some (same x) before) x (doubles same before xs) (doubles same (before ++ x ∷ []) xs)
next_double same (x ∷ xs) (suc i) d before lt = let e : suc i + 1 ≡ suc (i + 1) = omega arith in rw e (next_double same xs i d before (omega arith))

pub take_last : {A : Type 0} (xs : List A) (i : ℕ) (d : A) → i < length xs → take (i + 1) xs ≡ take i xs ++ slice_index_or xs i d ∷ []
take_last [] i d lt = absurd (omega arith)
take_last (x ∷ xs) zero d lt = refl
take_last (x ∷ xs) (suc i) d lt = let e : suc i + 1 ≡ suc (i + 1) = omega arith in rw e (ap (λ z. x ∷ z) (take_last xs i d (omega arith)))

-- what is told of names is told of the same names
pub doubles_tell : (rule : ℕ) (c : Class) (shown names : List (List ℕ)) (r : Result (Unit {0}) VerifyFault) → shown ≡ names
    → Tells (first (doubles_breach rule c shown)) r → Tells (first (doubles_breach rule c names)) r
doubles_tell rule c shown names r is t = subst (λ (z : List (List ℕ)). Tells (first (doubles_breach rule c z)) r) is t
