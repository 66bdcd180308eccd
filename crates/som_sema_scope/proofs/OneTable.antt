-- Tables of names, each at its first place.
use Rattle.std.proofs.Common.{◌≡◌, ℕ, zero, suc, ◌+◌, ◌<◌, ◌≤◌, Bool, true, false, not, if◌then◌else◌, List, [], ◌∷◌, ◌++◌, length, drop, slice_index_or, refl, sym, ap, ◌∙◌, arith}
use Rattle.std.proofs.lemmas.List.{drop_all}
use Rattle.std.specs.Borrow.{Bor}
use Rattle.std.specs.Str.{bytes_eq}
use Rattle.som_model.specs.Lists.{among}
use Rattle.som_order.specs.Names.{texts}
use Rattle.som_model_laws.specs.Once.{adds}

-- one name more
pub next_name : (names : List (Bor (List ℕ))) (i : ℕ) (d : Bor (List ℕ)) (before : List (List ℕ)) → i < length names
    → adds bytes_eq before (texts (drop i names)) ≡ (let x = (slice_index_or names i d).now in adds bytes_eq (if among x before then before else before ++ x ∷ []) (texts (drop (i + 1) names)))
next_name [] i d before lt = absurd (omega arith)
next_name (n ∷ ns) zero d before lt = refl
next_name (n ∷ ns) (suc i) d before lt = let e : suc i + 1 ≡ suc (i + 1) = omega arith in rw e (next_name ns i d before (omega arith))

noted_as : (b is_new : Bool) (x : List ℕ) (before : List (List ℕ)) → is_new ≡ not b → (if is_new then before ++ x ∷ [] else before) ≡ (if b then before else before ++ x ∷ [])
noted_as true true x before e = cc
noted_as true false x before e = refl
noted_as false true x before e = refl
noted_as false false x before e = cc

pub once_more : (names : List (Bor (List ℕ))) (i : ℕ) (d : Bor (List ℕ)) (is_new : Bool) (before seen whole : List (List ℕ)) → i < length names
    → is_new ≡ not (among (slice_index_or names i d).now before) → seen ≡ (if is_new then before ++ (slice_index_or names i d).now ∷ [] else before)
    → adds bytes_eq before (texts (drop i names)) ≡ whole → adds bytes_eq seen (texts (drop (i + 1) names)) ≡ whole
once_more names i d is_new before seen whole lt new is e =
    ap (λ z. adds bytes_eq z (texts (drop (i + 1) names))) (is ∙ noted_as (among (slice_index_or names i d).now before) is_new (slice_index_or names i d).now before new)
    ∙ sym (next_name names i d before lt) ∙ e

-- all names
pub once_all : (names : List (Bor (List ℕ))) (i : ℕ) (known whole : List (List ℕ)) → length names ≤ i → adds bytes_eq known (texts (drop i names)) ≡ whole → known ≡ whole
once_all names i known whole le e = ap (λ (z : List (Bor (List ℕ))). adds bytes_eq known (texts z)) (sym (drop_all i names le)) ∙ e

-- a list of those that were new goes with the table
pub kept_new : (is_new : Bool) (x : List ℕ) (known seen first more : List (List ℕ)) → is_new ≡ true → seen ≡ (if is_new then known ++ x ∷ [] else known) → more ≡ first ++ x ∷ [] → first ≡ known → more ≡ seen
kept_new true x known seen first more new s m k = m ∙ ap (λ z. z ++ x ∷ []) k ∙ sym s
kept_new false x known seen first more new s m k = cc

pub kept_old : (is_new : Bool) (x : List ℕ) (known seen first more : List (List ℕ)) → is_new ≡ false → seen ≡ (if is_new then known ++ x ∷ [] else known) → more ≡ first → first ≡ known → more ≡ seen
kept_old true x known seen first more old s m k = cc
kept_old false x known seen first more old s m k = m ∙ k ∙ sym s
