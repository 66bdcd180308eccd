-- The first that fails a test.
use Rattle.std.proofs.Common.{◌≡◌, ℕ, zero, suc, ◌+◌, ◌<◌, Bool, true, false, List, [], ◌∷◌, map, length, Option, Some, None, slice_get, slice_index_or, refl, sym, ap, ◌∙◌, arith}
use Rattle.som_model.specs.Lists.{first}
use Rattle.som_model.specs.Class.{Class}
use Rattle.som_model.specs.Compatible.{CompatBreach, failing, incompatible}
use Rattle.som_model_laws.proofs.CompareLists.{fails_none}
use Rattle.som_model_laws.proofs.Lists.{mem_get}

pub first_failing : {A : Type 0} (test : A → Bool) (m n : ℕ) (xs : List A) (x : A) → ((i : ℕ) (y : A) → i < n → slice_get xs i ≡ Some y → test y ≡ true) → slice_get xs n ≡ Some x → test x ≡ false → first (failing test m xs) ≡ Some (x, n + m)
first_failing test m n [] x f at e = absurd (cc)
first_failing test m zero (y ∷ ys) x f at e =
    let same : y ≡ x = cc in
    let fails : test y ≡ false = ap test same ∙ e in
    let sum : m ≡ 0 + m = omega arith in
    rw fails (ap (λ z. Some (z, m)) same ∙ ap (λ z. Some (x, z)) sum)
first_failing test m (suc n) (y ∷ ys) x f at e =
    let holds : test y ≡ true = f 0 y (omega arith) refl in
    let sum : n + (m + 1) ≡ suc n + m = omega arith in
    rw holds (first_failing test (m + 1) n ys x (λ i z lt g. f (suc i) z (omega (arith, lt)) g) at e ∙ ap (λ z. Some (x, z)) sum)

pub none_failing : {A : Type 0} (test : A → Bool) (xs : List A) → ((i : ℕ) (y : A) → slice_get xs i ≡ Some y → test y ≡ true) → failing test 0 xs ≡ []
none_failing test xs f = fails_none test 0 xs (λ y m. let r = mem_get xs y m in f r.0 y r.1)

pub first_mapped : {A B : Type 0} (f : A → B) (xs : List A) (x : A) → first xs ≡ Some x → first (map f xs) ≡ Some (f x)
first_mapped f [] x e = absurd (cc)
first_mapped f (y ∷ ys) x e = let same : y ≡ x = cc in ap (λ z. Some (f z)) same

pub nothing_mapped : {A B : Type 0} (f : A → B) (xs : List A) → xs ≡ [] → first (map f xs) ≡ None
nothing_mapped f xs e = ap (λ z. first (map f z)) e

pub get_map : {A B : Type 0} (f : A → B) (xs : List A) (i : ℕ) (y : B) (d : A) → slice_get (map f xs) i ≡ Some y → (i < length xs) × (y ≡ f (slice_index_or xs i d))
get_map f [] i y d e = absurd (cc)
get_map f (x ∷ xs) zero y d e = (omega arith, cc)
get_map f (x ∷ xs) (suc i) y d e = let r = get_map f xs i y d e in let l = r.0 in (omega (arith, l), r.1)

pub map_get : {A B : Type 0} (f : A → B) (xs : List A) (i : ℕ) (d : A) → i < length xs → slice_get (map f xs) i ≡ Some (f (slice_index_or xs i d))
map_get f [] i d lt = absurd (omega arith)
map_get f (x ∷ xs) zero d lt = refl
map_get f (x ∷ xs) (suc i) d lt = map_get f xs i d (omega arith)

abbrev some_breach : CompatBreach → Option CompatBreach
some_breach b = Some b

-- a breach of a class as it is told
pub told_is : (rule place : ℕ) (c : Class) (class n x : List ℕ) → class ≡ c.decl.face.name → n ≡ x → ◌≡◌ {A = Option CompatBreach} (Some (incompatible rule c (Some x) place)) (Some (record { rule = rule; class = class; name = Some n; place = place }))
told_is rule place c class n x e f =
    ap (λ (z : List ℕ). some_breach (record { rule = rule; class = z; name = Some x; place = place })) (sym e)
    ∙ ap (λ (z : List ℕ). some_breach (record { rule = rule; class = class; name = Some z; place = place })) (sym f)

pub told_nameless : (rule place : ℕ) (c : Class) (class : List ℕ) → class ≡ c.decl.face.name → ◌≡◌ {A = Option CompatBreach} (Some (incompatible rule c None place)) (Some (record { rule = rule; class = class; name = None; place = place }))
told_nameless rule place c class e = ap (λ (z : List ℕ). some_breach (record { rule = rule; class = z; name = None; place = place })) (sym e)
