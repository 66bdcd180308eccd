-- Interfaces of releases that are compared one after the other.
use Rattle.std.proofs.Common.{◌≡◌, ℕ, ◌+◌, ◌<◌, ◌⊎◌, inl, inr, List, [], ◌∷◌, ◌++◌, map, length, Option, Some, None, Ok, Err, sym, ap, subst, ◌∙◌, arith}
use Rattle.std.proofs.lemmas.List.{length-map}
use Rattle.std.specs.Prelude.{All}
use Rattle.std.proofs.lemmas.List.Elements.{All-head, All-tail}
use Rattle.som_model.specs.declared.program.Interface.{Interface}
use Rattle.som_model.specs.declared.program.Release.{Release}
use Rattle.som_model.specs.Lists.{Mem, first}
use Rattle.som_model.specs.Class.{interface_of}
use Rattle.som_model.specs.Compatible.{CompatBreach, breaks, list_breaks}
use Rattle.som_model.specs.Conforming.{ReleaseOk}
use Rattle.som_order.specs.Names.{name_at}
use Rattle.som_libimage.specs.Limits.{IsWithinLimits}
use Rattle.som_compat.specs.Conditions.{Conforms}
use Rattle.som_cmd_steps.specs.declared.stop.Refusal.{Refusal}
use Rattle.som_cmd_steps.specs.Steps.{Follows}
use Rattle.som_cmd_steps.specs.Lines.{not_kept}
use Rattle.som_cmd_steps.specs.declared.stop.CommandStop.TheVariants as stops
use Rattle.som_cmd_check.specs.CheckAnswer.{accepted_line, first_not_kept}
use Rattle.som_cmd_check.specs.CheckSteps.{accepted_or}
use Rattle.som_cmd_steps.proofs.ReleaseLaws.{may_be}

-- ---- they may be compared

pub may_compare : (rs : List Release) → All (λ (r : Release). ReleaseOk r) rs → All (λ (r : Release). IsWithinLimits r) rs → (i : Interface) → Mem i (map interface_of rs) → Conforms i
may_compare [] ok within i m = absurd m
may_compare (r ∷ rs) ok within i m = elim m as (λ _. Conforms i) [
  | inl is ↦ subst (λ (x : Interface). Conforms x) (sym is) (may_be r (All-head (λ (r : Release). ReleaseOk r) r rs ok) (All-head (λ (r : Release). IsWithinLimits r) r rs within))
  | inr more ↦ may_compare rs (All-tail (λ (r : Release). ReleaseOk r) r rs ok) (All-tail (λ (r : Release). IsWithinLimits r) r rs within) i more
]

-- ---- the number that is told is one of a name

abbrev number_in : ℕ → Option (ℕ × CompatBreach) → ℕ
number_in n None = n
number_in n (Some p) = p.0

this_or_later : (n k : ℕ) (b : CompatBreach) (xs : List CompatBreach) (rest : List (ℕ × CompatBreach)) → first (map (λ x. (n, x)) xs ++ rest) ≡ Some (k, b) → (n ≡ k) ⊎ (first rest ≡ Some (k, b))
this_or_later n k b [] rest e = inr e
this_or_later n k b (x ∷ xs) rest e = inl (ap (number_in n) e)

below : (n k : ℕ) (b : CompatBreach) (is : List Interface) → first (list_breaks n is) ≡ Some (k, b) → k + 1 < n + length is
below n k b [] e = absurd cc
below n k b (i ∷ []) e = absurd cc
below n k b (i ∷ j ∷ is) e = elim (this_or_later n k b (breaks i j) (list_breaks (n + 1) (j ∷ is)) e) [
  | inl here ↦ omega (arith, here)
  | inr later ↦ let more : k + 1 < (n + 1) + length (j ∷ is) = below (n + 1) k b (j ∷ is) later in omega (arith, more)
]

pub number_within : (names : List (List ℕ)) (rs : List Release) (faces : List Interface) (k : ℕ) (b : CompatBreach) → faces ≡ map interface_of rs → length rs ≡ length names → Some (k, b) ≡ first (list_breaks 1 faces) → k < length names
number_within names rs faces k b same long told =
    let less : k + 1 < 1 + length faces = below 1 k b faces (sym told) in
    let faces_long : length faces ≡ length rs = ap (length {A = Interface}) same ∙ length-map rs interface_of in
    omega (arith, less, faces_long, long)

-- ---- what is answered

pub accepts_so : (names : List (List ℕ)) (rs : List Release) (faces : List Interface) (line : List ℕ) → faces ≡ map interface_of rs → None ≡ first (list_breaks 1 faces) → line ≡ accepted_line → Follows (Ok line) (accepted_or names (first_not_kept rs))
accepts_so names rs faces line same none is =
    ap (accepted_or names) (sym (none ∙ ap (λ (is : List Interface). first (list_breaks 1 is)) same)) ∙ ap (λ (l : List ℕ). Ok l) (sym is)

pub refuses_so : (names : List (List ℕ)) (rs : List Release) (faces : List Interface) (k : ℕ) (b : CompatBreach) (name : List ℕ) (r : Refusal) → faces ≡ map interface_of rs → Some (k, b) ≡ first (list_breaks 1 faces)
    → name ≡ name_at names k → r ≡ not_kept name b → Follows {A = List ℕ} (Err (stops.Refused r)) (accepted_or names (first_not_kept rs))
refuses_so names rs faces k b name r same told named is =
    ap (accepted_or names) (sym (told ∙ ap (λ (is : List Interface). first (list_breaks 1 is)) same))
    ∙ ap (λ (x : Refusal). Err x) (ap (λ (n : List ℕ). not_kept n b) (sym named) ∙ sym is)
