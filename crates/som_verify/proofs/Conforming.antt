-- From all rules one by one to the conformity of a release and of a client program.
use Rattle.std.proofs.Common.{◌≡◌, ◌++◌, List, flat_map, None, Result, Ok, Err, ap, ◌∙◌, subst}
use Rattle.std.specs.Prelude.{IfOk}
use Rattle.som_model.specs.Lists.{first, or_else}
use Rattle.som_model.specs.Class.{Class}
use Rattle.som_model.specs.Classes.{client_classes, library_classes}
use Rattle.som_model.specs.Conforming.{ReleaseOk, ProgramOk, declared_breach, declared_program_breach, release_breach, program_breach, class_typed, main_typed, all_of_release, all_of_program}
use Rattle.som_model.specs.declared.program.Release.{Release}
use Rattle.som_model.specs.declared.program.ClientProgram.{ClientProgram}
use Rattle.som_verify_classes.specs.declared.types.Broken.{Broken}
use Rattle.som_verify_classes.specs.declared.types.VerifyFault.{VerifyFault}
use Rattle.som_verify_classes.specs.declared.types.VerifyFault.TheVariants as faults
use Rattle.som_verify_classes.specs.Faces.{rules_breach}
use Rattle.som_verify_classes.specs.Places.{with_kernel}
use Rattle.som_verify_classes.specs.Told.{Tells}
use Rattle.som_verify_classes.proofs.Conformity.{faces_first, tells_here, or_none, none_or}

-- releases

pub release_conforms : (r : Release) → release_breach r ≡ None → ReleaseOk r
release_conforms r e =
    let p = or_none (declared_breach r) (first (flat_map (class_typed (all_of_release r)) (library_classes r))) e in
    record { rules = p.0; blocks = p.1 }

pub conforms_release : (r : Release) → ReleaseOk r → release_breach r ≡ None
conforms_release r ok = none_or (declared_breach r) (first (flat_map (class_typed (all_of_release r)) (library_classes r))) ok.rules ok.blocks

-- what is told of the declared classes of a release is told of the release
pub release_tells : (r : Release) (cs : List Class) (result : Result (Unit {0}) VerifyFault) → cs ≡ library_classes r
    → Tells (or_else (rules_breach 0 cs) (first (flat_map (class_typed (with_kernel cs)) cs))) result → Tells (release_breach r) result
release_tells r cs result same t =
    subst (λ o. Tells o result)
    (ap (λ z. or_else (rules_breach 0 z) (first (flat_map (class_typed (with_kernel z)) z))) same
    ∙ ap (λ o. or_else o (first (flat_map (class_typed (all_of_release r)) (library_classes r)))) (faces_first r)) t

pub release_tells_rules : (r : Release) (cs : List Class) (e : VerifyFault) → cs ≡ library_classes r → Tells {A = Unit {0}} (rules_breach 0 cs) (Err e) → Tells {A = Unit {0}} (release_breach r) (Err e)
release_tells_rules r cs e same t = release_tells r cs (Err e) same (tells_here (rules_breach 0 cs) (first (flat_map (class_typed (with_kernel cs)) cs)) e t)

pub release_if_ok : (r : Release) (result : Result (Unit {0}) VerifyFault) → Tells (release_breach r) result → IfOk result (λ _. ReleaseOk r)
release_if_ok r (Ok x) t = release_conforms r t
release_if_ok r (Err e) t = tt

pub release_refuses : (r : Release) (result : Result (Unit {0}) VerifyFault) (b : Broken) → Tells (release_breach r) result → result ≡ Err (faults.Rule b) → ReleaseOk r → ⊥
release_refuses r result b t e ok = let told = subst (λ z. Tells (release_breach r) z) e t in let holds = conforms_release r ok in cc

-- client programs

pub program_conforms : (p : ClientProgram) → program_breach p ≡ None → ProgramOk p
program_conforms p e =
    let q = or_none (declared_program_breach p) (first (flat_map (class_typed (all_of_program p)) (client_classes p) ++ main_typed (all_of_program p) p.main)) e in
    record { rules = q.0; blocks = q.1 }

pub conforms_program : (p : ClientProgram) → ProgramOk p → program_breach p ≡ None
conforms_program p ok = none_or (declared_program_breach p) (first (flat_map (class_typed (all_of_program p)) (client_classes p) ++ main_typed (all_of_program p) p.main)) ok.rules ok.blocks

pub program_if_ok : (p : ClientProgram) (result : Result (Unit {0}) VerifyFault) → Tells (program_breach p) result → IfOk result (λ _. ProgramOk p)
program_if_ok p (Ok x) t = program_conforms p t
program_if_ok p (Err e) t = tt

pub program_refuses : (p : ClientProgram) (result : Result (Unit {0}) VerifyFault) (b : Broken) → Tells (program_breach p) result → result ≡ Err (faults.Rule b) → ProgramOk p → ⊥
program_refuses p result b t e ok = let told = subst (λ z. Tells (program_breach p) z) e t in let holds = conforms_program p ok in cc
