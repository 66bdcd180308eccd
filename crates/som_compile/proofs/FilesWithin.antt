-- What is within its limits in each file is so in all.
use Rattle.std.proofs.Common.{ℕ, ◌<◌, ◌^◌, List, [], ◌∷◌}
use Rattle.std.specs.List.{AllByRecursion}
use Rattle.std.proofs.lemmas.List.Elements.{recursion_from_All}
use Rattle.som_ast.specs.declared.interface.IdlFile.{IdlFile}
use Rattle.som_idl.specs.Within.{FileWithin, InterfaceWithin}
use Rattle.som_ast.specs.declared.body.BodyFile.{BodyFile}
use Rattle.som_ast.specs.declared.body.BodyText.{BodyText}
use Rattle.som_body.specs.Within.{BodyTextWithin}
use Rattle.som_sema_scope.specs.Words.{interfaces_of}
use Rattle.som_elab_methods.specs.Bodies.{bodies_of}
use Rattle.som_sources.proofs.TextsWithin.{IsShortFile}
use Rattle.som_compile.proofs.InterfacesWithin.{all_flat}
use Rattle.som_compile.proofs.BodiesWithin.{IsShort}

-- what is said of each file is said of each interface, and of each body
pub interfaces_within : (files : List IdlFile) → AllByRecursion FileWithin files → AllByRecursion InterfaceWithin (interfaces_of files)
interfaces_within files p = all_flat FileWithin InterfaceWithin (λ (f : IdlFile). f.interfaces) (λ f w. recursion_from_All InterfaceWithin f.interfaces w.interfaces) files p

short_bodies : (most : ℕ) → most < 2 ^ 32 → (bs : List BodyText) → AllByRecursion (BodyTextWithin most) bs → AllByRecursion IsShort bs
short_bodies most few [] p = tt
short_bodies most few (b ∷ bs) p = (record { most = most; few = few; within = p.0 }, short_bodies most few bs p.1)

pub bodies_within : (files : List BodyFile) → AllByRecursion IsShortFile files → AllByRecursion IsShort (bodies_of files)
bodies_within files p =
    all_flat IsShortFile IsShort (λ (f : BodyFile). f.bodies) (λ f w. short_bodies w.most w.few f.bodies (recursion_from_All (BodyTextWithin w.most) f.bodies w.within.bodies)) files p
