-- What texts stand for conforms and has room in its image.
use Rattle.std.proofs.Common.{◌≡◌, ◌≤◌, List, [], ◌∷◌, subst}
use Rattle.std.specs.List.{AllByRecursion}
use Rattle.som_model.specs.declared.limits.TheConstants.{MAX_BYTES}
use Rattle.som_model.specs.declared.program.ClientProgram.{ClientProgram}
use Rattle.som_model.specs.declared.program.Interface.{Interface}
use Rattle.som_model.specs.declared.program.Release.{Release}
use Rattle.som_model.specs.Conforming.{ProgramOk, ReleaseOk}
use Rattle.som_ast.specs.declared.body.MainFile.{MainFile}
use Rattle.som_sema_scope.specs.Words.{interfaces_of}
use Rattle.som_elab_methods.specs.Bodies.{bodies_of}
use Rattle.som_elab.proofs.Conforms.{release_conforms as release_ok, program_conforms as program_ok}
use Rattle.som_libimage.specs.Limits.{IsWithinLimits}
use Rattle.som_cliimage.specs.Limits.{IsWithinLimits as IsProgramWithin}
use Rattle.som_sources.specs.declared.source.Source.{Source}
use Rattle.som_sources.specs.Sources.{bytes_in}
use Rattle.som_sources.proofs.TextsWithin.{IsShortMain, texts_within}
use Rattle.som_compile.proofs.FilesWithin.{bodies_within, interfaces_within}
use Rattle.som_compile.specs.Compiling.{IsBase, StandFor, StandForClient}
use Rattle.som_compile.proofs.ReleaseWithin.{program_within, release_within}

pub release_conforms : (ss : List Source) (r : Release) → StandFor ss r → ReleaseOk r
release_conforms ss r s = release_ok (interfaces_of s.trees.interfaces) (bodies_of s.trees.bodies) r s.built

pub release_fits : (ss : List Source) (r : Release) → bytes_in ss ≤ MAX_BYTES → StandFor ss r → IsWithinLimits r
release_fits ss r few s =
    let w = texts_within ss s.trees few s.read in
    release_within (interfaces_of s.trees.interfaces) (bodies_of s.trees.bodies) r (interfaces_within s.trees.interfaces w.interfaces) (bodies_within s.trees.bodies w.bodies) s.built

pub program_conforms : (base : Interface) (ss : List Source) (p : ClientProgram) → IsBase base → StandForClient base ss p → ProgramOk p
program_conforms base ss p b s = program_ok base (interfaces_of s.trees.interfaces) (bodies_of s.trees.bodies) s.main.block p b.conforms s.built

only_short : (fs : List MainFile) (f : MainFile) → fs ≡ f ∷ [] → AllByRecursion IsShortMain fs → IsShortMain f
only_short fs f e all = (subst (λ (gs : List MainFile). AllByRecursion IsShortMain gs) e all).0

pub program_fits : (base : Interface) (ss : List Source) (p : ClientProgram) → IsBase base → bytes_in ss ≤ MAX_BYTES → StandForClient base ss p → IsProgramWithin p
program_fits base ss p b few s =
    let w = texts_within ss s.trees few s.read in
    let main = only_short s.trees.mains s.main s.one_main w.mains in
    program_within base (interfaces_of s.trees.interfaces) (bodies_of s.trees.bodies) s.main.block p main.most main.few b.few b.each_face
    (interfaces_within s.trees.interfaces w.interfaces) (bodies_within s.trees.bodies w.bodies) main.within.block s.built
