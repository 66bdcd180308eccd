-- The first difference of two lists of names.
use Rattle.std.proofs.Common.{◌≡◌, ◌↔◌, ℕ, zero, suc, ◌+◌, Bool, true, false, if◌then◌else◌, List, [], ◌∷◌, ◌++◌, take, Some, None, refl, sym, ap, ◌∙◌, subst, arith, true≢false}
use Rattle.std.specs.Str.{bytes_eq}
use Rattle.som_model.proofs.KeyLaws.{exact_bytes}
use Rattle.som_order.specs.Difference.{first_difference, IsPrefix, PartsAt}

none_by : (n : ℕ) (x y : List ℕ) (olds news : List (List ℕ)) (b : Bool) → bytes_eq x y ≡ b → (first_difference (n + 1) olds news ≡ None → IsPrefix olds news)
    → (if b then first_difference (n + 1) olds news else Some n) ≡ None → IsPrefix (x ∷ olds) (y ∷ news)
none_by n x y olds news true is f e =
    let r = f e in record { more = r.more; parts = ap (λ z. z ∷ news) (sym (exact_bytes.two x y is)) ∙ ap (λ l. x ∷ l) r.parts }
none_by n x y olds news false is f e = absurd (cc)

none_prefix : (n : ℕ) (olds news : List (List ℕ)) → first_difference n olds news ≡ None → IsPrefix olds news
none_prefix n [] news e = record { more = news; parts = refl }
none_prefix n (x ∷ olds) [] e = absurd (cc)
none_prefix n (x ∷ olds) (y ∷ news) e = none_by n x y olds news (bytes_eq x y) refl (none_prefix (n + 1) olds news) e

past : (n : ℕ) (olds more : List (List ℕ)) → first_difference n olds (olds ++ more) ≡ None
past n [] more = refl
past n (x ∷ olds) more = let same = exact_bytes.one x in rw same (past (n + 1) olds more)

pub none_is : (olds news : List (List ℕ)) → (first_difference 0 olds news ≡ None) ↔ IsPrefix olds news
none_is olds news = (none_prefix 0 olds news, λ r. ap (first_difference 0 olds) r.parts ∙ past 0 olds r.more)

-- the difference at a place after n
abbrev At : ℕ → List (List ℕ) → List (List ℕ) → ℕ → Type 0
At n olds news place = (k : ℕ) × (place ≡ k + n) × PartsAt olds news k

first_by : (n place : ℕ) (x y : List ℕ) (olds news : List (List ℕ)) (b : Bool) → bytes_eq x y ≡ b → (first_difference (n + 1) olds news ≡ Some place → At (n + 1) olds news place)
    → (if b then first_difference (n + 1) olds news else Some n) ≡ Some place → At n (x ∷ olds) (y ∷ news) place
first_by n place x y olds news true is f e =
    let r = f e in
    (suc r.0, omega (arith, r.1), record { before = ap (λ z. z ∷ take r.0 olds) (exact_bytes.two x y is) ∙ ap (λ l. y ∷ l) r.2.before; name = r.2.name; old = r.2.old; new = r.2.new })
first_by n place x y olds news false is f e =
    let here : n ≡ place = cc in
    (0, omega (arith, here), record { before = refl; name = x; old = refl; new = λ s. let same : y ≡ x = cc in true≢false (sym (exact_bytes.one x) ∙ ap (bytes_eq x) (sym same) ∙ is) })

some_parts : (n place : ℕ) (olds news : List (List ℕ)) → first_difference n olds news ≡ Some place → At n olds news place
some_parts n place [] news e = absurd (cc)
some_parts n place (x ∷ olds) [] e =
    let here : n ≡ place = cc in (0, omega (arith, here), record { before = refl; name = x; old = refl; new = λ s. cc })
some_parts n place (x ∷ olds) (y ∷ news) e = first_by n place x y olds news (bytes_eq x y) refl (some_parts (n + 1) place olds news) e

differ_by : (n : ℕ) (x y : List ℕ) (olds news : List (List ℕ)) (b : Bool) → bytes_eq x y ≡ b → (y ≡ x → ⊥) → (if b then first_difference (n + 1) olds news else Some n) ≡ Some n
differ_by n x y olds news true is f = absurd (f (sym (exact_bytes.two x y is)))
differ_by n x y olds news false is f = refl

parts_some : (n k : ℕ) (olds news : List (List ℕ)) → PartsAt olds news k → first_difference n olds news ≡ Some (k + n)
parts_some n k [] news r = absurd (let e = r.old in cc)
parts_some n zero (x ∷ olds) [] r = let e : n ≡ 0 + n = omega arith in ap (λ z. Some z) e
parts_some n (suc k) (x ∷ olds) [] r = absurd (let e = r.before in cc)
parts_some n zero (x ∷ olds) (y ∷ news) r =
    let e = r.old in
    let same : x ≡ r.name = cc in
    let start : n ≡ 0 + n = omega arith in
    differ_by n x y olds news (bytes_eq x y) refl (λ s. r.new (ap (λ z. Some z) (s ∙ same))) ∙ ap (λ z. Some z) start
parts_some n (suc k) (x ∷ olds) (y ∷ news) r =
    let e = r.before in
    let here : x ≡ y = cc in
    let later : take k olds ≡ take k news = cc in
    let same : bytes_eq x y ≡ true = ap (bytes_eq x) (sym here) ∙ exact_bytes.one x in
    let more = parts_some (n + 1) k olds news (record { before = later; name = r.name; old = r.old; new = r.new }) in
    let sum : k + (n + 1) ≡ suc k + n = omega arith in
    rw same (more ∙ ap (λ z. Some z) sum)

pub some_is : (olds news : List (List ℕ)) (place : ℕ) → (first_difference 0 olds news ≡ Some place) ↔ PartsAt olds news place
some_is olds news place = (
  (λ e. (let r = some_parts 0 place olds news e in let same : r.0 ≡ place = omega (arith, r.1) in subst (λ p. PartsAt olds news p) same r.2)),
  λ r. (let same : place + 0 ≡ place = omega arith in parts_some 0 place olds news r ∙ ap (λ z. Some z) same),
)
