-- The classes of a client program, and its first breach.
use Rattle.std.proofs.Common.{◌≡◌, ℕ, ◌≤◌, List, [], ◌∷◌, ◌++◌, length, map, take, drop, flat_map, Option, Result, Err, refl, sym, ap, ◌∙◌, subst, arith, length-append}
use Rattle.som_model.specs.Lists.{first, or_else}
use Rattle.som_model.specs.Class.{Class, bare, class_in}
use Rattle.som_model.specs.Classes.{client_classes, interface_classes}
use Rattle.som_model.specs.Kernel.{kernel}
use Rattle.som_model.specs.Conforming.{first_of_names, first_of_members, declared_program_breach, program_breach, class_typed, main_typed}
use Rattle.som_model.specs.Rules.{RuleBreach, s5, s14}
use Rattle.som_model.specs.declared.key.Module.TheVariants as modules
use Rattle.som_model.specs.declared.class.ClassDecl.{ClassDecl}
use Rattle.som_model.specs.declared.class.ClassFace.{ClassFace}
use Rattle.som_model.specs.declared.program.ClientProgram.{ClientProgram}
use Rattle.som_verify_classes.specs.declared.types.Declared.{Declared}
use Rattle.som_verify_classes.specs.declared.types.VerifyFault.{VerifyFault}
use Rattle.som_verify_classes.specs.Faces.{classes_breach, rules_breach}
use Rattle.som_verify_classes.specs.Modules.{class_of, classes_of}
use Rattle.som_verify_classes.specs.Places.{with_kernel}
use Rattle.som_verify_classes.specs.Plainly.{program_classes}
use Rattle.som_verify_classes.specs.Told.{Tells}
use Rattle.som_verify_classes.proofs.Conformity.{regrouped, tells_here}
use Rattle.som_verify_classes.proofs.DeclaredClasses.{long_map, drop_map}

map_both : (fs : List ClassFace) → map (class_in modules.Library) (map bare fs) ≡ map (λ f. class_in modules.Library (bare f)) fs
map_both [] = refl
map_both (f ∷ fs) = ap (λ z. class_in modules.Library (bare f) ∷ z) (map_both fs)

-- the classes that were declared, step by step, are those of the program
pub declared_are : (p : ClientProgram) (bares owns : List ClassDecl) (start base all : List Declared) → bares ≡ map bare p.base.classes → owns ≡ p.classes → start ≡ []
    → classes_of base ≡ classes_of start ++ map (class_in modules.Library) bares → classes_of all ≡ classes_of base ++ map (class_in modules.Client) owns → classes_of all ≡ program_classes p
declared_are p bares owns start base all e g s f h =
    h ∙ ap (λ z. z ++ map (class_in modules.Client) owns) (f ∙ ap (λ z. classes_of z ++ map (class_in modules.Library) bares) s ∙ ap (map (class_in modules.Library)) e ∙ map_both p.base.classes)
    ∙ ap (λ z. interface_classes p.base ++ map (class_in modules.Client) z) g

take_front : {A : Type 0} (xs ys : List A) → take (length xs) (xs ++ ys) ≡ xs
take_front [] ys = refl
take_front (x ∷ xs) ys = ap (λ z. x ∷ z) (take_front xs ys)

drop_front : {A : Type 0} (xs ys : List A) → drop (length xs) (xs ++ ys) ≡ ys
drop_front [] ys = refl
drop_front (x ∷ xs) ys = drop_front xs ys

pub few : (p : ClientProgram) (ds : List Declared) (n : ℕ) → classes_of ds ≡ program_classes p → n ≡ length p.base.classes → n ≤ length ds
few p ds n same e =
    omega (arith, e, long_map (λ (f : ClassFace). class_in modules.Library (bare f)) p.base.classes, long_map class_of ds, ap length same, length-append (interface_classes p.base) (client_classes p))

module _ (p : ClientProgram) (ds : List Declared) (n : ℕ) (same : classes_of ds ≡ program_classes p) (number : n ≡ length p.base.classes) where
  count : n ≡ length (interface_classes p.base)
  count = number ∙ sym (long_map (λ (f : ClassFace). class_in modules.Library (bare f)) p.base.classes)

  front_is : take n (classes_of ds) ≡ interface_classes p.base
  front_is = ap (λ k. take k (classes_of ds)) count ∙ ap (take (length (interface_classes p.base))) same ∙ take_front (interface_classes p.base) (client_classes p)

  rest_is : drop n (classes_of ds) ≡ client_classes p
  rest_is = ap (λ k. drop k (classes_of ds)) count ∙ ap (drop (length (interface_classes p.base))) same ∙ drop_front (interface_classes p.base) (client_classes p)

  abbrev types_breach : List Class → List Class → List Class → Option RuleBreach
  types_breach cs base own = or_else (first_of_names kernel cs) (or_else (first (flat_map (s5 (kernel ++ base)) base ++ flat_map (s5 (kernel ++ cs)) own)) (first_of_members kernel cs))

  classes_part : classes_breach n (classes_of ds) ≡ types_breach (program_classes p) (interface_classes p.base) (client_classes p)
  classes_part =
      ap (λ z. types_breach (classes_of ds) z (drop n (classes_of ds))) front_is
      ∙ ap (types_breach (classes_of ds) (interface_classes p.base)) rest_is
      ∙ ap (λ z. types_breach z (interface_classes p.base) (client_classes p)) same

  parts : or_else (classes_breach n (classes_of ds)) (first (flat_map s14 (client_classes p))) ≡ declared_program_breach p
  parts =
      ap (λ o. or_else o (first (flat_map s14 (client_classes p)))) classes_part
      ∙ regrouped (first_of_names kernel (program_classes p)) _ (first_of_members kernel (program_classes p)) (first (flat_map s14 (client_classes p)))

  rules_part : rules_breach n (classes_of ds) ≡ declared_program_breach p
  rules_part = ap (λ z. or_else (classes_breach n (classes_of ds)) (first (flat_map s14 z))) rest_is ∙ parts

  -- what is told of the declared classes of a program is told of the program
  pub program_tells : (r : Result (Unit {0}) VerifyFault) → Tells (rules_breach n (classes_of ds)) r → Tells (declared_program_breach p) r
  program_tells r t = subst (λ o. Tells o r) rules_part t

  -- what all rules tell of the declared classes and of main is told of the program
  pub all_tell : (r : Result (Unit {0}) VerifyFault)
      → Tells (or_else (rules_breach n (classes_of ds)) (first (flat_map (class_typed (with_kernel (classes_of ds))) (classes_of (drop n ds)) ++ main_typed (with_kernel (classes_of ds)) p.main))) r
      → Tells (program_breach p) r
  all_tell r t =
      subst (λ o. Tells o r)
      (ap (λ o. or_else o (first (flat_map (class_typed (with_kernel (classes_of ds))) (classes_of (drop n ds)) ++ main_typed (with_kernel (classes_of ds)) p.main))) rules_part
      ∙ ap (λ z. or_else (declared_program_breach p) (first (flat_map (class_typed (with_kernel (classes_of ds))) z ++ main_typed (with_kernel (classes_of ds)) p.main))) (sym (drop_map class_of ds n) ∙ rest_is)
      ∙ ap (λ z. or_else (declared_program_breach p) (first (flat_map (class_typed (with_kernel z)) (client_classes p) ++ main_typed (with_kernel z) p.main))) same) t

  pub rules_tell : (e : VerifyFault) → Tells {A = Unit {0}} (rules_breach n (classes_of ds)) (Err e) → Tells {A = Unit {0}} (program_breach p) (Err e)
  rules_tell e t =
      all_tell (Err e) (tells_here (rules_breach n (classes_of ds)) (first (flat_map (class_typed (with_kernel (classes_of ds))) (classes_of (drop n ds)) ++ main_typed (with_kernel (classes_of ds)) p.main)) e t)
