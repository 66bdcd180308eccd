-- An image has room for the release and for the program that texts stand for.
use Rattle.std.proofs.Common.{◌≡◌, ℕ, ◌<◌, ◌≤◌, ◌^◌, List, [], length, Ok, All, sym, subst, arith}
use Rattle.std.specs.List.{AllByRecursion}
use Rattle.std.proofs.lemmas.List.Elements.{recursion_from_All, All-from_recursion}
use Rattle.som_model.specs.declared.limits.TheConstants.{MAX_CLIENT_CLASSES, MAX_LIBRARY_CLASSES, MAX_NESTING}
use Rattle.som_model.specs.declared.key.Module.{Module}
use Rattle.som_model.specs.declared.key.Module.TheVariants as modules
use Rattle.som_model.specs.declared.class.ClassDecl.{ClassDecl}
use Rattle.som_model.specs.declared.program.Interface.{Interface}
use Rattle.som_model.specs.declared.program.Release.{Release}
use Rattle.som_model.specs.declared.program.ClientProgram.{ClientProgram}
use Rattle.som_model.specs.Typing.{in_main}
use Rattle.som_ast.specs.declared.interface.IdlInterface.{IdlInterface}
use Rattle.som_idl.specs.Within.{InterfaceWithin}
use Rattle.som_ast.specs.declared.body.BlockText.{BlockText}
use Rattle.som_ast.specs.declared.body.BodyText.{BodyText}
use Rattle.som_body.specs.Within.{BlockTextWithin}
use Rattle.som_image_classes.specs.ClassLimits.{ClassWithin, EntryWithin, FaceWithin}
use Rattle.som_libimage.specs.Limits.{IsWithinLimits}
use Rattle.som_cliimage.specs.Limits.{IsWithinLimits as ProgramWithin}
use Rattle.som_elab_methods.specs.PlainLimits.{LimitsKept}
use Rattle.som_elab_methods.proofs.LimitLaws.{limits_law}
use Rattle.som_elab.specs.Elaboration.{classes_over, drafts_over, among_over, elaborated_program, elaborated_release, nothing_before}
use Rattle.som_elab.proofs.Apart.{ClassesApart, program_apart, release_apart}
use Rattle.som_compile.proofs.BlocksWithin.{SigsFit, sigs_fit, whole_block_within}
use Rattle.som_compile.proofs.InterfacesWithin.{member_of_all}
use Rattle.som_compile.proofs.BodiesWithin.{IsShort}
use Rattle.som_compile.proofs.EntriesWithin.{EntriesFit}
use Rattle.som_compile.proofs.ClassesWithin.{classes_within, entries_fit}

sigs : (m : Module) (base : Interface) (is : List IdlInterface) → AllByRecursion FaceWithin base.classes → AllByRecursion InterfaceWithin is → LimitsKept (drafts_over m base is) → SigsFit (classes_over m base is)
sigs m base is faces within kept =
    sigs_fit (classes_over m base is) (λ c there. All-from_recursion EntryWithin c.decl.face.entries (member_of_all EntriesFit (classes_over m base is) c (entries_fit m base is within kept faces) there))

-- the classes of a module, over a base whose faces are within the limits
each : (m : Module) (base : Interface) (is : List IdlInterface) (bs : List BodyText) (cs : List ClassDecl) → AllByRecursion FaceWithin base.classes → AllByRecursion InterfaceWithin is → AllByRecursion IsShort bs
    → ClassesApart m base is bs cs → AllByRecursion ClassWithin cs × (length cs ≡ length is)
each m base is bs cs faces within short apart =
    let kept = (limits_law (drafts_over m base is)).0 apart.limits in
    classes_within m base is within kept (among_over m base is) (sigs m base is faces within kept) bs short cs apart.each

pub release_within : (is : List IdlInterface) (bs : List BodyText) (r : Release) → AllByRecursion InterfaceWithin is → AllByRecursion IsShort bs → elaborated_release is bs ≡ Ok r → IsWithinLimits r
release_within is bs r within short e =
    let apart = release_apart is bs r e in
    let few : length is ≤ MAX_LIBRARY_CLASSES = apart.few in
    let all = each modules.Library nothing_before is bs r.classes tt within short apart in
    let long : length r.classes ≡ length is = all.1 in
    record { classes = omega (arith, few, long); each_class = All-from_recursion ClassWithin r.classes all.0 }

pub program_within : (base : Interface) (is : List IdlInterface) (bs : List BodyText) (main : BlockText) (p : ClientProgram) (most : ℕ) → most < 2 ^ 32 → length base.classes ≤ MAX_LIBRARY_CLASSES → All FaceWithin base.classes
    → AllByRecursion InterfaceWithin is → AllByRecursion IsShort bs → BlockTextWithin most MAX_NESTING main → elaborated_program base is bs main ≡ Ok p → ProgramWithin p
program_within base is bs main p most counted room faces within short small e =
    let apart = program_apart base is bs main p e in
    let base_faces = recursion_from_All FaceWithin base.classes faces in
    let few : length is ≤ MAX_CLIENT_CLASSES = apart.classes.few in
    let all = each modules.Client base is bs p.classes base_faces within short apart.classes in
    let long : length p.classes ≡ length is = all.1 in
    let kept = (limits_law (drafts_over modules.Client base is)).0 apart.classes.limits in
    record {
      faces = subst (λ (b : Interface). length b.classes ≤ MAX_LIBRARY_CLASSES) (sym apart.over) room;
      each_face = subst (λ (b : Interface). All FaceWithin b.classes) (sym apart.over) faces;
      classes = omega (arith, few, long);
      each_class = All-from_recursion ClassWithin p.classes all.0;
      main = whole_block_within (among_over modules.Client base is) in_main (record { sigs = sigs modules.Client base is base_faces within kept; place = tt }) most counted main [] p.main (omega arith) small apart.block;
    }
