-- The types of the first classes, and those of the others.
use Rattle.std.proofs.Common.{◌≡◌, ℕ, ◌+◌, ◌-◌, length-drop, suc, List, ◌++◌, length, take, drop, flat_map, None, Result, Err, sym, ap, ◌∙◌, subst, arith}
use Rattle.som_model.specs.Lists.{first, or_else}
use Rattle.som_model.specs.Kernel.{kernel}
use Rattle.som_model.specs.Rules.{RuleBreach, s5}
use Rattle.som_verify_classes.specs.declared.types.Declared.{Declared}
use Rattle.som_verify_classes.specs.declared.types.VerifyFault.{VerifyFault}
use Rattle.som_verify_classes.specs.Modules.{class_of, classes_of}
use Rattle.som_verify_classes.specs.Places.{with_kernel}
use Rattle.som_verify_classes.specs.Told.{Tells}
use Rattle.som_verify_classes.proofs.DeclaredClasses.{take_map, drop_map}
use Rattle.som_verify_classes.proofs.Finding.{take_all}
use Rattle.som_verify_classes.proofs.Passes.{first_both, tells_first}
use Rattle.som_verify_classes.proofs.Rows.{take_front, take_whole}

pub rest_is : {A : Type 0} (xs : List A) (n : ℕ) → take (length xs - n) (drop n xs) ≡ drop n xs
rest_is xs n = take_whole (drop n xs) (length xs - n) (omega (arith, length-drop n xs))

-- the breaches of types by the first n classes, and then by the others
abbrev pub base_types : List Declared → ℕ → List RuleBreach
base_types ds n = flat_map (s5 (kernel ++ take n (classes_of ds))) (take n (classes_of ds))

abbrev pub own_types : List Declared → ℕ → List RuleBreach
own_types ds n = flat_map (s5 (kernel ++ classes_of ds)) (drop n (classes_of ds))

-- a pass over the first classes looks for the first
base_is : (ds asked : List Declared) (n number : ℕ) → number ≡ n + 4 → asked ≡ take n ds
    → flat_map (s5 (take number (with_kernel (classes_of ds)))) (classes_of asked) ≡ base_types ds n
base_is ds asked n number e f =
    let four : n + 4 ≡ suc (suc (suc (suc n))) = omega arith in
    ap (λ z. flat_map (s5 z) (classes_of asked)) (ap (λ k. take k (with_kernel (classes_of ds))) (e ∙ four) ∙ take_front (classes_of ds) n)
    ∙ ap (flat_map (s5 (kernel ++ take n (classes_of ds)))) (ap classes_of f ∙ sym (take_map class_of ds n))

-- and one over the others for the others
own_is : (ds asked : List Declared) (n number : ℕ) → number ≡ length (with_kernel (classes_of ds)) → asked ≡ drop n ds
    → flat_map (s5 (take number (with_kernel (classes_of ds)))) (classes_of asked) ≡ own_types ds n
own_is ds asked n number e f =
    ap (λ z. flat_map (s5 z) (classes_of asked)) (ap (λ k. take k (with_kernel (classes_of ds))) e ∙ take_all (with_kernel (classes_of ds)))
    ∙ ap (flat_map (s5 (kernel ++ classes_of ds))) (ap classes_of f ∙ sym (drop_map class_of ds n))

pub base_stops : (ds asked : List Declared) (n number : ℕ) (e : VerifyFault) → number ≡ n + 4 → asked ≡ take n ds
    → Tells {A = Unit {0}} (first (flat_map (s5 (take number (with_kernel (classes_of ds)))) (classes_of asked))) (Err e)
    → Tells {A = Unit {0}} (first (base_types ds n ++ own_types ds n)) (Err e)
base_stops ds asked n number e is of t =
    tells_first (first (base_types ds n)) (first (own_types ds n)) _ e
    (subst (λ z. Tells {A = Unit {0}} (first z) (Err e)) (base_is ds asked n number is of) t) (sym (first_both (base_types ds n) (own_types ds n)))

pub own_tells : (ds asked others : List Declared) (n number all : ℕ) (r : Result (Unit {0}) VerifyFault) → number ≡ n + 4 → asked ≡ take n ds → all ≡ length (with_kernel (classes_of ds)) → others ≡ drop n ds
    → first (flat_map (s5 (take number (with_kernel (classes_of ds)))) (classes_of asked)) ≡ None
    → Tells (first (flat_map (s5 (take all (with_kernel (classes_of ds)))) (classes_of others))) r
    → Tells (first (base_types ds n ++ own_types ds n)) r
own_tells ds asked others n number all r is of is_all of_others none t =
    let base : first (base_types ds n) ≡ None = ap first (sym (base_is ds asked n number is of)) ∙ none in
    subst (λ o. Tells o r)
    (ap first (own_is ds others n all is_all of_others) ∙ sym (ap (λ o. or_else o (first (own_types ds n))) base) ∙ sym (first_both (base_types ds n) (own_types ds n))) t
