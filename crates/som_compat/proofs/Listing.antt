-- Lists of interfaces.
use Rattle.std.proofs.Common.{◌≡◌, ℕ, ◌+◌, List, [], ◌∷◌, map, None, Result, Ok, Err, sym, ap}
use Rattle.std.specs.Prelude.{IfOk}
use Rattle.som_model.specs.declared.program.Interface.{Interface}
use Rattle.som_model.specs.Lists.{Mem, first}
use Rattle.som_model.specs.Compatible.{breaks, Compatible, list_breaks, EachNext, EachLater}
use Rattle.som_verify_classes.proofs.Before.{none_both}
use Rattle.som_compat.specs.declared.breach.Breach.{Breach}
use Rattle.som_compat.specs.Conditions.{Conforms}
use Rattle.som_compat.specs.Told.{told_by_list}
use Rattle.som_compat.proofs.Plain.{map_empty}
use Rattle.som_compat.proofs.Transitive.{each_later, compatible_along}

next : (n : ℕ) (xs : List Interface) → first (list_breaks n xs) ≡ None → EachNext Compatible xs
next n [] e = tt
next n (a ∷ []) e = tt
next n (a ∷ b ∷ rest) e =
    let r = none_both (map (λ t. (n, t)) (breaks a b)) (list_breaks (n + 1) (b ∷ rest)) e in
    (ap first (map_empty _ (breaks a b) r.0), next (n + 1) (b ∷ rest) r.1)

pub along : (xs : List Interface) → ((i : Interface) → Mem i xs → Conforms i) → (r : Result (Unit {0}) (ℕ × Breach)) → told_by_list r ≡ first (list_breaks 1 xs) → IfOk r (λ _. EachLater Compatible xs)
along xs ok (Ok x) e = each_later Compatible Conforms compatible_along xs ok (next 1 xs (sym e))
along xs ok (Err x) e = tt
