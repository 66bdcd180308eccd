-- One level of each definition that goes by levels, as a program that counts them down sees it.
use Rattle.std.proofs.Common.{◌≡◌, ℕ, zero, suc, ◌-◌, ◌<◌, ◌==◌, Bool, true, if◌then◌else◌, List, ◌∷◌, map, Option, Some, ap, ◌∙◌, arith}
use Rattle.som_model.specs.Lists.{firsts, joined, some}
use Rattle.som_model.specs.Hierarchy.{Tells}
use Rattle.som_model.specs.Ancestors.{anc_within, member}
use Rattle.som_model.specs.Resolution.{impl_within, inherits}
use Rattle.som_model.proofs.KeyLaws.{exact_numbers}
use Rattle.som_test_naive.specs.Rows.{parents_of, hierarchy_of, body_at, choice_at}
use Rattle.som_model_laws.proofs.Laws.{member_step}

-- equality tells numbers apart
pub tells_numbers : (rows : List (List ℕ)) → Tells (hierarchy_of rows)
tells_numbers rows = record { one = exact_numbers.one; two = exact_numbers.two }

pub anc_level : (rows : List (List ℕ)) (n x : ℕ) → 0 < n
    → anc_within (hierarchy_of rows) n x ≡ firsts ◌==◌ (x ∷ joined (map (anc_within (hierarchy_of rows) (n - 1)) (parents_of rows x)))
anc_level rows zero x some_left = absurd (omega arith)
anc_level rows (suc n) x some_left =
    let e : n ≡ suc n - 1 = omega arith in
    ap (λ k. firsts ◌==◌ (x ∷ joined (map (anc_within (hierarchy_of rows) k) (parents_of rows x)))) e

pub member_level : (rows : List (List ℕ)) (n x a : ℕ) → 0 < n
    → member (hierarchy_of rows) a (anc_within (hierarchy_of rows) n x) ≡ (if a == x then true else some (λ p. member (hierarchy_of rows) a (anc_within (hierarchy_of rows) (n - 1) p)) (parents_of rows x))
member_level rows zero x a some_left = absurd (omega arith)
member_level rows (suc n) x a some_left =
    let e : n ≡ suc n - 1 = omega arith in
    member_step (hierarchy_of rows) (tells_numbers rows) n x a
    ∙ ap (λ k. if a == x then true else some (λ p. member (hierarchy_of rows) a (anc_within (hierarchy_of rows) k p)) (parents_of rows x)) e

pub impl_level : (rows : List (List ℕ)) (bodies : List Bool) (choices : List (Option ℕ)) (n x a : ℕ) → 0 < n
    → impl_within (hierarchy_of rows) (body_at bodies) (choice_at choices) a n x
    ≡ (if body_at bodies x then Some x else inherits (hierarchy_of rows) a (impl_within (hierarchy_of rows) (body_at bodies) (choice_at choices) a (n - 1)) (choice_at choices x) (parents_of rows x))
impl_level rows bodies choices zero x a some_left = absurd (omega arith)
impl_level rows bodies choices (suc n) x a some_left =
    let e : n ≡ suc n - 1 = omega arith in
    ap (λ k. if body_at bodies x then Some x else inherits (hierarchy_of rows) a (impl_within (hierarchy_of rows) (body_at bodies) (choice_at choices) a k) (choice_at choices x) (parents_of rows x)) e
