-- Lists of bodies and of cells.
use Rattle.std.proofs.Common.{◌≡◌, ℕ, zero, suc, ◌+◌, ◌-◌, ◌<◌, ◌≤◌, ◌==◌, inl, inr, Bool, true, false, if◌then◌else◌, List, [], ◌∷◌, ◌++◌, length, map, take, drop, get_or, Option, Some, None, IsSome, IsNone, is_some, slice_get, refl, sym, ap, ◌∙◌, subst, arith}
use Rattle.std.proofs.lemmas.Bool.{eqb-true}
use Rattle.std.specs.Option.{option_map}
use Rattle.std.proofs.lemmas.List.{length-take-le}
use Rattle.std.proofs.lemmas.Option.{same_Some}
use Rattle.som_model.specs.Lists.{Mem}
use Rattle.som_model.proofs.KeyLaws.{both}
use Rattle.som_model_laws.proofs.Members.{Apart}
use Rattle.som_tables.specs.Rows.{AreDistinct, replaced_at, same_token}
use Rattle.som_meta.specs.Numbering.{tokens_from}
use Rattle.som_meta.proofs.Once.{step_is}
use Rattle.som_class_bodies.specs.declared.adding.Way.{Way}
use Rattle.som_class_bodies.specs.declared.body.BodyAt.{BodyAt}
use Rattle.som_class_bodies.specs.Adding.{bodies_from, body_at, cells_from, methods_of, numbers_from, source_of}

-- ---- bodies

pub methods_from : (n : ℕ) (way : Way) (i : ℕ) (ts : List (ℕ × ℕ)) → methods_of (bodies_from n way i ts) ≡ ts
methods_from n way i [] = refl
methods_from n way i (t ∷ ts) = ap (λ l. t ∷ l) (methods_from n way (suc i) ts)

-- a body of the list, with the place of its method
pub body_from : (n : ℕ) (way : Way) (i : ℕ) (ts : List (ℕ × ℕ)) (x : BodyAt) → Mem x (bodies_from n way i ts) → (j : ℕ) × (t : ℕ × ℕ) × (slice_get ts j ≡ Some t) × (x ≡ body_at n t (source_of way t (j + i)))
body_from n way i [] x m = absurd m
body_from n way i (t ∷ ts) x (inl is) = let sum : i ≡ 0 + i = omega arith in (0, t, refl, is ∙ ap (λ j. body_at n t (source_of way t j)) sum)
body_from n way i (t ∷ ts) x (inr m) =
    let r = body_from n way (suc i) ts x m in
    let sum : r.0 + suc i ≡ suc r.0 + i = omega arith in
    (suc r.0, r.1, r.2, r.3 ∙ ap (λ j. body_at n r.1 (source_of way r.1 j)) sum)

pub methods_both : (xs ys : List BodyAt) → methods_of (xs ++ ys) ≡ methods_of xs ++ methods_of ys
methods_both [] ys = refl
methods_both (x ∷ xs) ys = ap (λ l. x.method ∷ l) (methods_both xs ys)

pub method_get : (xs : List BodyAt) (i : ℕ) (t : ℕ × ℕ) → slice_get (methods_of xs) i ≡ Some t → (x : BodyAt) × (slice_get xs i ≡ Some x) × (x.method ≡ t)
method_get [] i t e = absurd (cc)
method_get (x ∷ xs) zero t e = (x, refl, cc)
method_get (x ∷ xs) (suc i) t e = method_get xs i t e

pub methods_length : (xs : List BodyAt) → length (methods_of xs) ≡ length xs
methods_length [] = refl
methods_length (x ∷ xs) = ap suc (methods_length xs)

pub token_get : (n p count i : ℕ) → i < count → slice_get (tokens_from n p count) i ≡ Some (n, p + i)
token_get n p zero i lt = absurd (omega (arith, lt))
token_get n p (suc count) zero lt = let sum : p ≡ p + 0 = omega arith in ap (λ z. Some (n, z)) sum
token_get n p (suc count) (suc i) lt = let sum : suc p + i ≡ p + suc i = omega arith in token_get n (suc p) count i (omega (arith, lt)) ∙ ap (λ z. Some (n, z)) sum

pub tokens_length : (n p count : ℕ) → length (tokens_from n p count) ≡ count
tokens_length n p zero = refl
tokens_length n p (suc count) = ap suc (tokens_length n (suc p) count)

-- ---- numbers

pub number_get : (first count i : ℕ) → i < count → slice_get (numbers_from first count) i ≡ Some (first + i)
number_get first zero i lt = absurd (omega (arith, lt))
number_get first (suc count) zero lt = let sum : first ≡ first + 0 = omega arith in ap (λ z. Some z) sum
number_get first (suc count) (suc i) lt = let sum : suc first + i ≡ first + suc i = omega arith in number_get (suc first) count i (omega (arith, lt)) ∙ ap (λ z. Some z) sum

pub numbers_length : (first count : ℕ) → length (numbers_from first count) ≡ count
numbers_length first zero = refl
numbers_length first (suc count) = ap suc (numbers_length (suc first) count)

-- one number more
pub numbers_more : (first i : ℕ) → numbers_from first (i + 1) ≡ numbers_from first i ++ (first + i) ∷ []
numbers_more first i = let sum : i + 1 ≡ suc i = omega arith in ap (numbers_from first) sum ∙ by first i
  where
    by : (first i : ℕ) → numbers_from first (suc i) ≡ numbers_from first i ++ (first + i) ∷ []
    by first zero = let sum : first ≡ first + 0 = omega arith in ap (λ z. z ∷ []) sum
    by first (suc i) = let sum : suc first + i ≡ first + suc i = omega arith in ap (λ l. first ∷ l) (by (suc first) i ∙ ap (λ z. numbers_from (suc first) i ++ z ∷ []) sum)

-- ---- cells

abbrev pub tokens_in : List ((ℕ × ℕ) × ℕ) → List (ℕ × ℕ)
tokens_in rs = map (λ (r : (ℕ × ℕ) × ℕ). r.0) rs

pub cell_tokens : (first : ℕ) (xs : List BodyAt) → tokens_in (cells_from first xs) ≡ methods_of xs
cell_tokens first [] = refl
cell_tokens first (x ∷ xs) = ap (λ l. x.method ∷ l) (cell_tokens (suc first) xs)

pub tokens_both : (rs qs : List ((ℕ × ℕ) × ℕ)) → tokens_in (rs ++ qs) ≡ tokens_in rs ++ tokens_in qs
tokens_both [] qs = refl
tokens_both (r ∷ rs) qs = ap (λ l. r.0 ∷ l) (tokens_both rs qs)

pub cell_from : (first : ℕ) (xs : List BodyAt) (r : (ℕ × ℕ) × ℕ) → Mem r (cells_from first xs) → (i : ℕ) × (x : BodyAt) × (slice_get xs i ≡ Some x) × (r.0 ≡ x.method) × (r.1 ≡ first + i)
cell_from first [] r m = absurd m
cell_from first (x ∷ xs) r (inl is) = let sum : first ≡ first + 0 = omega arith in (0, x, refl, ap (λ (z : (ℕ × ℕ) × ℕ). z.0) is, ap (λ (z : (ℕ × ℕ) × ℕ). z.1) is ∙ sum)
cell_from first (x ∷ xs) r (inr m) =
    let w = cell_from (suc first) xs r m in
    let sum : suc first + w.0 ≡ first + suc w.0 = omega arith in
    (suc w.0, w.1, w.2, w.3, w.4 ∙ sum)

-- the cell of a token is one that is listed for it
replaced_by : (u : ℕ × ℕ) (c : ℕ) (rs : List ((ℕ × ℕ) × ℕ)) (t : ℕ × ℕ) (b : ℕ) (v : Bool) → same_token u t ≡ v → (replaced_at rs t ≡ Some b → Mem (t, b) rs)
    → (if v then Some c else replaced_at rs t) ≡ Some b → Mem (t, b) ((u, c) ∷ rs)
replaced_by u c rs t b true s f e =
    let h = both (u.0 == t.0) (u.1 == t.1) s in
    let same : u ≡ t = ap (λ n. (n, u.1)) (eqb-true u.0 t.0 h.0) ∙ ap (λ n. (t.0, n)) (eqb-true u.1 t.1 h.1) in
    let cell : c ≡ b = cc in
    inl (ap (λ z. (t, z)) (sym cell) ∙ ap (λ z. (z, c)) (sym same))
replaced_by u c rs t b false s f e = inr (f e)

pub replaced_mem : (rs : List ((ℕ × ℕ) × ℕ)) (t : ℕ × ℕ) (b : ℕ) → replaced_at rs t ≡ Some b → Mem (t, b) rs
replaced_mem [] t b e = absurd (cc)
replaced_mem (r ∷ rs) t b e = replaced_by r.0 r.1 rs t b (same_token r.0 t) refl (replaced_mem rs t b) e

token_self : (t : ℕ × ℕ) → same_token t t ≡ true
token_self t = let a : (t.0 == t.0) ≡ true = grind arith in let b : (t.1 == t.1) ≡ true = grind arith in rw (a, b) refl

either : (v : Bool) (c : ℕ) (q : Option ℕ) → IsSome q → IsSome (if v then Some c else q)
either true c q s = refl
either false c q s = s

-- and each token that is listed has one
pub mem_replaced : (rs : List ((ℕ × ℕ) × ℕ)) (t : ℕ × ℕ) → Mem t (tokens_in rs) → IsSome (replaced_at rs t)
mem_replaced [] t m = absurd m
mem_replaced (r ∷ rs) t (inl is) = let s : same_token r.0 t ≡ true = ap (λ z. same_token z t) (sym is) ∙ token_self t in ap (λ (v : Bool). is_some (if v then Some r.1 else replaced_at rs t)) s
mem_replaced (r ∷ rs) t (inr m) = either (same_token r.0 t) r.1 (replaced_at rs t) (mem_replaced rs t m)

-- tokens that differ are replaced once
pub distinct : (rs : List ((ℕ × ℕ) × ℕ)) → Apart (tokens_in rs) → AreDistinct rs
distinct [] o = tt
distinct (r ∷ rs) o = (none (replaced_at rs r.0) refl, distinct rs o.1)
  where
    in_tokens : (qs : List ((ℕ × ℕ) × ℕ)) (t : ℕ × ℕ) (b : ℕ) → Mem (t, b) qs → Mem t (tokens_in qs)
    in_tokens [] t b m = m
    in_tokens (q ∷ qs) t b (inl is) = inl (ap (λ (z : (ℕ × ℕ) × ℕ). z.0) is)
    in_tokens (q ∷ qs) t b (inr m) = inr (in_tokens qs t b m)

    none : (q : Option ℕ) → replaced_at rs r.0 ≡ q → IsNone (replaced_at rs r.0)
    none None e = subst (λ z. IsNone z) (sym e) refl
    none (Some b) e = absurd (o.0 (in_tokens rs r.0 b (replaced_mem rs r.0 b e)))

-- ---- one item more

pub bodies_more : (n : ℕ) (way : Way) (i : ℕ) (ts : List (ℕ × ℕ)) (t : ℕ × ℕ) → bodies_from n way i (ts ++ t ∷ []) ≡ bodies_from n way i ts ++ body_at n t (source_of way t (length ts + i)) ∷ []
bodies_more n way i [] t = let sum : i ≡ 0 + i = omega arith in ap (λ j. body_at n t (source_of way t j) ∷ []) sum
bodies_more n way i (u ∷ ts) t =
    let sum : length ts + suc i ≡ suc (length ts) + i = omega arith in
    ap (λ l. body_at n u (source_of way u i) ∷ l) (bodies_more n way (suc i) ts t ∙ ap (λ j. bodies_from n way (suc i) ts ++ body_at n t (source_of way t j) ∷ []) sum)

-- one body more for the first items of a list, in the form of a loop's step
pub bodies_step : (n : ℕ) (way : Way) (ts : List (ℕ × ℕ)) (i : ℕ) (t : ℕ × ℕ) → i < length ts → t ≡ get_or ts i t → bodies_from n way 0 (take (i + 1) ts) ≡ bodies_from n way 0 (take i ts) ++ body_at n t (source_of way t i) ∷ []
bodies_step n way ts i t lt is =
    let le : i ≤ length ts = omega (arith, lt) in
    let long = length-take-le i ts le in
    let sum : length (take i ts) + 0 ≡ i = omega (arith, long) in
    ap (bodies_from n way 0) (step_is ts i t lt is) ∙ bodies_more n way 0 (take i ts) t ∙ ap (λ j. bodies_from n way 0 (take i ts) ++ body_at n t (source_of way t j) ∷ []) sum

cells_take : (first : ℕ) (ys : List BodyAt) (i : ℕ) (x : BodyAt) → slice_get ys i ≡ Some x → cells_from first (take (suc i) ys) ≡ cells_from first (take i ys) ++ (x.method, first + i) ∷ []
cells_take first [] i x e = absurd (cc)
cells_take first (y ∷ ys) zero x e = let is : y ≡ x = cc in let sum : first ≡ first + 0 = omega arith in ap (λ (z : BodyAt). (z.method, first) ∷ []) is ∙ ap (λ j. (x.method, j) ∷ []) sum
cells_take first (y ∷ ys) (suc i) x e =
    let sum : suc first + i ≡ first + suc i = omega arith in
    ap (λ l. (y.method, first) ∷ l) (cells_take (suc first) ys i x e ∙ ap (λ j. cells_from (suc first) (take i ys) ++ (x.method, j) ∷ []) sum)

get_drop : {A : Type 0} (n : ℕ) (xs : List A) (i : ℕ) → slice_get (drop n xs) i ≡ slice_get xs (n + i)
get_drop zero xs i = let sum : i ≡ 0 + i = omega arith in ap (slice_get xs) sum
get_drop (suc n) [] i = refl
get_drop (suc n) (x ∷ xs) i = let sum : suc (n + i) ≡ suc n + i = omega arith in get_drop n xs i ∙ ap (slice_get (x ∷ xs)) sum

pub cells_step : (from : ℕ) (xs : List BodyAt) (place : ℕ) (t : ℕ × ℕ) → from ≤ place → option_map (λ (x : BodyAt). x.method) (slice_get xs place) ≡ Some t
    → cells_from from (take (place + 1 - from) (drop from xs)) ≡ cells_from from (take (place - from) (drop from xs)) ++ (t, place) ∷ []
cells_step from xs place t le e = by (slice_get xs place) refl e
  where
    by : (o : Option BodyAt) → slice_get xs place ≡ o → option_map (λ (x : BodyAt). x.method) o ≡ Some t → cells_from from (take (place + 1 - from) (drop from xs)) ≡ cells_from from (take (place - from) (drop from xs)) ++ (t, place) ∷ []
    by None f g = absurd (cc)
    by (Some x) f g =
        let sum : from + (place - from) ≡ place = omega (arith, le) in
        let more : place + 1 - from ≡ suc (place - from) = omega (arith, le) in
        let is : x.method ≡ t = same_Some x.method t g in
        ap (λ n. cells_from from (take n (drop from xs))) more
        ∙ cells_take from (drop from xs) (place - from) x (get_drop from xs (place - from) ∙ ap (slice_get xs) sum ∙ f)
        ∙ ap (λ u. cells_from from (take (place - from) (drop from xs)) ++ (u, from + (place - from)) ∷ []) is
        ∙ ap (λ j. cells_from from (take (place - from) (drop from xs)) ++ (t, j) ∷ []) sum

pub numbers_step : (from place : ℕ) → from ≤ place → numbers_from from (place + 1 - from) ≡ numbers_from from (place - from) ++ place ∷ []
numbers_step from place le =
    let sum : from + (place - from) ≡ place = omega (arith, le) in
    let more : place + 1 - from ≡ (place - from) + 1 = omega (arith, le) in
    ap (numbers_from from) more ∙ numbers_more from (place - from) ∙ ap (λ j. numbers_from from (place - from) ++ j ∷ []) sum
