-- All rules of a release, and of a client program.
use Rattle.std.proofs.Common.{◌≡◌, ◌++◌, inl, inr, List, flat_map, None, sym, ◌∙◌}
use Rattle.som_model.specs.Lists.{first, or_else}
use Rattle.som_model.specs.Hierarchy.{Falls}
use Rattle.som_model.specs.Classes.{client_classes, hierarchy, interface_classes, library_classes}
use Rattle.som_model.specs.Kernel.{kernel}
use Rattle.som_model.specs.Conforming.{first_of_names, first_of_members, declared_breach, declared_program_breach}
use Rattle.som_model.specs.Rules.{s5, s14}
use Rattle.som_model.specs.declared.key.Module.TheVariants as modules
use Rattle.som_model.specs.declared.class.ClassDecl.{ClassDecl}
use Rattle.som_model.specs.declared.program.Release.{Release}
use Rattle.som_model.specs.declared.program.ClientProgram.{ClientProgram}
use Rattle.som_model_laws.proofs.Members.{mem_split}
use Rattle.som_verify_classes.specs.Faces.{faces_breach}
use Rattle.som_verify_classes.specs.Modules.{AreDeclared}
use Rattle.som_verify_classes.specs.Places.{all_classes, with_kernel}
use Rattle.som_verify_classes.specs.Told.{of_release}
use Rattle.som_verify_classes.specs.Plainly.{NamesDiffer, ParentsStand, FacesHold, RulesHold, ProgramHolds, program_classes}
use Rattle.som_verify_classes.proofs.Before.{none_both, both_none}
use Rattle.som_verify_classes.proofs.Conformity.{faces_first, or_none, none_or}
use Rattle.som_verify_classes.proofs.DeclaredClasses.{map_declared, faces_declared}
use Rattle.som_verify_classes.proofs.PlainMembers.{types_say, say_types}
use Rattle.som_verify_classes.proofs.PlainMoves.{lower}
use Rattle.som_verify_classes.proofs.PlainFaces.{classes_say, say_names_rules, say_member_rules}
use Rattle.som_verify_classes.proofs.PlainBodies.{bodies_say, say_bodies}

-- releases

release_declared : (ds : List ClassDecl) → AreDeclared (of_release ds)
release_declared ds = map_declared modules.Library ds

pub faces_say : (ds : List ClassDecl) → faces_breach (of_release ds) ≡ None → FacesHold ds
faces_say ds e =
    let cs = of_release ds in
    let a = or_none (first_of_names kernel cs) (or_else (first (flat_map (s5 (all_classes ds)) cs)) (first_of_members kernel cs)) e in
    let b = or_none (first (flat_map (s5 (all_classes ds)) cs)) (first_of_members kernel cs) a.1 in
    record { classes = classes_say cs (release_declared ds) a.0 b.1; types = types_say (all_classes ds) cs b.0 }

pub say_faces : (ds : List ClassDecl) → FacesHold ds → faces_breach (of_release ds) ≡ None
say_faces ds h =
    let cs = of_release ds in
    none_or _ _ (say_names_rules cs (release_declared ds) h.classes)
    (none_or _ _ (say_types (all_classes ds) cs h.types) (say_member_rules cs (release_declared ds) h.classes))

pub rules_say : (r : Release) → declared_breach r ≡ None → RulesHold r
rules_say r e =
    let p = or_none (faces_breach (library_classes r)) (first (flat_map s14 (library_classes r))) (faces_first r ∙ e) in
    record { faces = faces_say r.classes p.0; bodies = bodies_say (library_classes r) p.1 }

pub say_rules : (r : Release) → RulesHold r → declared_breach r ≡ None
say_rules r h = sym (faces_first r) ∙ none_or (faces_breach (library_classes r)) (first (flat_map s14 (library_classes r))) (say_faces r.classes h.faces) (say_bodies (library_classes r) h.bodies)

pub release_falls : (ds : List ClassDecl) → NamesDiffer ds → ParentsStand ds → Falls (hierarchy (all_classes ds))
release_falls ds names stand = lower (of_release ds) (release_declared ds) names stand

-- client programs

pub program_declared : (p : ClientProgram) → AreDeclared (program_classes p)
program_declared p = record {
  by = λ c m. elim (mem_split c (interface_classes p.base) (client_classes p) m) [
    | inl k ↦ (faces_declared modules.Library p.base.classes).by c k
    | inr k ↦ (map_declared modules.Client p.classes).by c k
  ];
}

pub program_says : (p : ClientProgram) → declared_program_breach p ≡ None → ProgramHolds p
program_says p e =
    let base = interface_classes p.base in
    let own = client_classes p in
    let cs = program_classes p in
    let first_types = flat_map (s5 (with_kernel base)) base in
    let later_types = flat_map (s5 (with_kernel cs)) own in
    let a = or_none (first_of_names kernel cs) (or_else (first (first_types ++ later_types)) (or_else (first_of_members kernel cs) (first (flat_map s14 own)))) e in
    let b = or_none (first (first_types ++ later_types)) (or_else (first_of_members kernel cs) (first (flat_map s14 own))) a.1 in
    let d = or_none (first_of_members kernel cs) (first (flat_map s14 own)) b.1 in
    let t = none_both first_types later_types b.0 in
    record {
      classes = classes_say cs (program_declared p) a.0 d.0;
      base_types = types_say (with_kernel base) base t.0;
      own_types = types_say (with_kernel cs) own t.1;
      bodies = bodies_say own d.1;
    }

pub say_program : (p : ClientProgram) → ProgramHolds p → declared_program_breach p ≡ None
say_program p h =
    let base = interface_classes p.base in
    let own = client_classes p in
    let cs = program_classes p in
    none_or _ _ (say_names_rules cs (program_declared p) h.classes)
    (none_or _ _ (both_none (flat_map (s5 (with_kernel base)) base) (flat_map (s5 (with_kernel cs)) own) (say_types (with_kernel base) base h.base_types) (say_types (with_kernel cs) own h.own_types))
    (none_or _ _ (say_member_rules cs (program_declared p) h.classes) (say_bodies own h.bodies)))
