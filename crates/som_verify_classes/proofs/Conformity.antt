-- From the rules one by one to all rules of a release.
use Rattle.std.proofs.Common.{◌≡◌, ℕ, ◌++◌, List, flat_map, Option, Some, None, Result, Err, refl, sym, ap, ◌∙◌, subst}
use Rattle.som_model.specs.Lists.{first, or_else}
use Rattle.som_model.specs.Class.{Class}
use Rattle.som_model.specs.Classes.{library_classes}
use Rattle.som_model.specs.Kernel.{kernel}
use Rattle.som_model.specs.Conforming.{each_after, first_of_names, first_of_members, declared_breach}
use Rattle.som_model.specs.Rules.{RuleBreach, s1, s2, s3, s4, s5, s14}
use Rattle.som_model.specs.declared.program.Release.{Release}
use Rattle.som_verify_classes.specs.declared.types.VerifyFault.{VerifyFault}
use Rattle.som_verify_classes.specs.Faces.{classes_breach, faces_breach, placed_breach, rules_breach, standing_breach, types_breach}
use Rattle.som_verify_classes.specs.Told.{Tells}
use Rattle.som_verify_classes.specs.declared.types.Declared.{Declared}
use Rattle.som_verify_classes.specs.Modules.{classes_of}
use Rattle.som_verify_classes.proofs.Passes.{tells_first}

pub regrouped : {A : Type 0} (a b c d : Option A) → or_else (or_else a (or_else b c)) d ≡ or_else a (or_else b (or_else c d))
regrouped (Some x) b c d = refl
regrouped None (Some x) c d = refl
regrouped None None c d = refl

pub faces_first : (r : Release) → or_else (faces_breach (library_classes r)) (first (flat_map s14 (library_classes r))) ≡ declared_breach r
faces_first r =
    let cs = library_classes r in
    regrouped (first_of_names kernel cs) (first (flat_map (s5 (kernel ++ cs)) cs)) (first_of_members kernel cs) (first (flat_map s14 cs))

-- names first, as the passes find them
grouped : (a b c d m : Option RuleBreach) → or_else a (or_else (or_else b c) (or_else d m)) ≡ or_else (or_else a (or_else b (or_else c d))) m
grouped (Some x) b c d m = refl
grouped None (Some x) c d m = refl
grouped None None (Some x) d m = refl
grouped None None None d m = refl

names_grouped : (n : ℕ) (cs : List Class) → or_else (first (each_after s1 kernel cs)) (or_else (standing_breach cs) (placed_breach n cs)) ≡ classes_breach n cs
names_grouped n cs =
    grouped (first (each_after s1 kernel cs)) (first (each_after s2 kernel cs)) (first (flat_map s3 cs)) (first (flat_map (s4 (kernel ++ cs)) cs))
    (or_else (types_breach n cs) (first_of_members kernel cs))

-- a breach of the classes is that of the faces
pub faces_tell : (cs : List Class) (ds : List Declared) (result : Result (Unit {0}) VerifyFault) → classes_of ds ≡ cs → Tells (classes_breach 0 (classes_of ds)) result → Tells (faces_breach cs) result
faces_tell cs ds result same t = subst (λ (z : List Class). Tells (faces_breach z) result) same t

-- a breach of the first rules is the first of all
pub tells_here : (o r : Option RuleBreach) (e : VerifyFault) → Tells {A = Unit {0}} o (Err e) → Tells {A = Unit {0}} (or_else o r) (Err e)
tells_here o r e t = tells_first o r (or_else o r) e t refl

-- where the first rules have none, the others' is the first
pub tells_later : (o r : Option RuleBreach) (result : Result (Unit {0}) VerifyFault) → o ≡ None → Tells r result → Tells (or_else o r) result
tells_later o r result none t = subst (λ z. Tells (or_else z r) result) (sym none) t

-- where the first rules have none, a pass that answers something tells the first of the others
pub tells_after : {A : Type 0} (o r : Option RuleBreach) (result : Result A VerifyFault) → o ≡ None → Tells r result → Tells (or_else o r) result
tells_after o r result none t = subst (λ z. Tells (or_else z r) result) (sym none) t

-- what is told of the declared classes of a release is told of the release
pub declared_tells : (r : Release) (cs : List Class) (result : Result (Unit {0}) VerifyFault) → cs ≡ library_classes r → Tells (rules_breach 0 cs) result → Tells (declared_breach r) result
declared_tells r cs result same t = subst (λ o. Tells o result) (ap (rules_breach 0) same ∙ faces_first r) t

-- a breach of names is that of the classes, and so is one after them
pub names_stop : (n : ℕ) (cs : List Class) (e : VerifyFault) → Tells {A = Unit {0}} (first (each_after s1 kernel cs)) (Err e) → Tells {A = Unit {0}} (classes_breach n cs) (Err e)
names_stop n cs e t =
    subst (λ o. Tells {A = Unit {0}} o (Err e)) (names_grouped n cs) (tells_here (first (each_after s1 kernel cs)) (or_else (standing_breach cs) (placed_breach n cs)) e t)

pub names_pass : (n : ℕ) (cs : List Class) (r : Result (Unit {0}) VerifyFault) → first (each_after s1 kernel cs) ≡ None → Tells (or_else (standing_breach cs) (placed_breach n cs)) r → Tells (classes_breach n cs) r
names_pass n cs r none t =
    subst (λ o. Tells o r) (names_grouped n cs) (tells_later (first (each_after s1 kernel cs)) (or_else (standing_breach cs) (placed_breach n cs)) r none t)

pub first_none : (o r : Option RuleBreach) → or_else o r ≡ None → o ≡ None
first_none None r e = refl
first_none (Some b) r e = absurd (cc)

pub both_none : (o r : Option RuleBreach) → o ≡ None → r ≡ None → or_else o r ≡ None
both_none o r e f = ap (λ z. or_else z r) e ∙ f

pub or_none : {A : Type 0} (a b : Option A) → or_else a b ≡ None → (a ≡ None) × (b ≡ None)
or_none None b e = (refl, e)
or_none (Some x) b e = absurd (cc)

pub none_or : {A : Type 0} (a b : Option A) → a ≡ None → b ≡ None → or_else a b ≡ None
none_or None b e f = f
none_or (Some x) b e f = absurd (cc)
