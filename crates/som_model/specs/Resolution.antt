-- Whose body answers a method, and which method a name means.
use Rattle.std.specs.Prelude.{◌≡◌, ℕ, zero, suc, Bool, List, if◌then◌else◌, Option, Some, None}
use Rattle.som_model.specs.Lists.{Mem, first_some, find}
use Rattle.som_model.specs.Hierarchy.{Hierarchy}
use Rattle.som_model.specs.Ancestors.{Descends, anc, descends}

-- what the chosen parent has, and where none is chosen, what the leftmost parent has that descends from A
abbrev pub inherits : {K : Type 0} → Hierarchy K → K → (K → Option K) → Option K → List K → Option K
inherits h a has None parents = first_some (λ p. if descends h p a then has p else None) parents
inherits h a has (Some p) parents = has p

-- X where it has a body, else what it inherits, up to so many levels: from the parent that it chose, where it chose one, and else from the leftmost that descends from A.
-- Such a parent always has one where A itself has a body, so that it is the leftmost that answers.
abbrev pub impl_within : {K : Type 0} → Hierarchy K → (has_body : K → Bool) → (chosen : K → Option K) → K → ℕ → K → Option K
impl_within h has_body chosen a zero x = if has_body x then Some x else None
impl_within h has_body chosen a (suc n) x = if has_body x then Some x else inherits h a (impl_within h has_body chosen a n) (chosen x) (h.parents x)

-- the class whose body X has for a method that A introduces
abbrev pub impl : {K : Type 0} → Hierarchy K → (has_body : K → Bool) → (chosen : K → Option K) → K → K → Option K
impl h has_body chosen a x = impl_within h has_body chosen a (h.height x) x

-- the class whose body X has for a method that A introduces, where X descends from A, and nothing where it doesn't
abbrev pub answer : {K : Type 0} → Hierarchy K → (has_body : K → Bool) → (chosen : K → Option K) → K → K → Option K
answer h has_body chosen a x = if descends h x a then impl h has_body chosen a x else None

-- who chooses, chooses one of its parents that descends from A
pub record Chooses {K : Type 0} (h : Hierarchy K) (chosen : K → Option K) (a : K) : Type 0 where
  pub parent : (x p : K) → chosen x ≡ Some p → Mem p (h.parents x)
  pub below : (x p : K) → chosen x ≡ Some p → Descends h p a

-- the first class of X's ancestors that introduces a name
abbrev pub byname : {K : Type 0} → Hierarchy K → (introduces : K → Bool) → K → Option K
byname h introduces x = find introduces (anc h x)
