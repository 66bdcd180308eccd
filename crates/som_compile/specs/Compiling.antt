-- What compiling texts comes to: the image of the release or of the client program that they stand for, or what is first wrong with them.
use Rattle.std.specs.Prelude.{◌≡◌, ◌≤◌, ℕ, List, [], ◌∷◌, length, All, Option, Some, None, Result, Ok, Err}
use Rattle.som_model.specs.declared.limits.TheConstants.{MAX_LIBRARY_CLASSES}
use Rattle.som_model.specs.declared.program.ClientProgram.{ClientProgram}
use Rattle.som_model.specs.declared.program.Interface.{Interface}
use Rattle.som_model.specs.declared.program.Release.{Release}
use Rattle.som_model.specs.Classes.{interface_classes}
use Rattle.som_model.specs.Images.{client_image, library_image}
use Rattle.som_ast.specs.declared.body.MainFile.{MainFile}
use Rattle.som_verify_classes.specs.Faces.{faces_breach}
use Rattle.som_sema_drafts.specs.declared.types.Refused.{Refused}
use Rattle.som_sema_drafts.specs.declared.types.Refused.TheVariants as refusals
use Rattle.som_sema_scope.specs.Words.{interfaces_of}
use Rattle.som_elab_methods.specs.Bodies.{bodies_of}
use Rattle.som_elab.specs.Blocks.{Limit, Refusal, Rule}
use Rattle.som_elab.specs.Elaboration.{elaborated_program, elaborated_release}
use Rattle.som_image_classes.specs.ClassLimits.{FaceWithin}
use Rattle.som_sources.specs.declared.fault.TextFault.{TextFault}
use Rattle.som_sources.specs.declared.fault.TextFault.TheVariants as texts
use Rattle.som_sources.specs.declared.source.Source.{Source}
use Rattle.som_sources.specs.declared.trees.Trees.{Trees}
use Rattle.som_sources.specs.Reading.{ReadsAll}

-- what is told of the first rule that texts break, or of the first limit that they pass
abbrev pub refusal_told : Refusal → TextFault
refusal_told (Rule b) = texts.Rule (record { rule = b.rule; class = b.class; member = b.member })
refusal_told (Limit p) = texts.Limit p.quantity p.number

-- what is told of a refusal that the code answers; want of memory is no fault of the texts
abbrev pub building_told : Refused → Option TextFault
building_told (refusals.Rule b) = Some (texts.Rule b)
building_told (refusals.Limit quantity number) = Some (texts.Limit quantity number)
building_told refusals.NoMemory = None

-- ---- libraries

-- the release that the trees of a library's texts stand for
abbrev pub release_of : Trees → Result Release Refusal
release_of ts = elaborated_release (interfaces_of ts.interfaces) (bodies_of ts.bodies)

-- the texts stand for this release
pub record StandFor (ss : List Source) (r : Release) : Type 0 where
  pub trees : Trees
  pub read : ReadsAll ss (Ok trees)
  pub built : release_of trees ≡ Ok r

-- All texts are read before it is asked what they stand for.
pub data Compiles (ss : List Source) : Result (List ℕ) TextFault → Type 0 where
  unread : (w : TextFault) → ReadsAll ss (Err w) → Compiles ss (Err w)
  unbuilt : (ts : Trees) (f : Refusal) → ReadsAll ss (Ok ts) → release_of ts ≡ Err f → Compiles ss (Err (refusal_told f))
  an_image : (r : Release) (image : List ℕ) → StandFor ss r → library_image r ≡ Some image → Compiles ss (Ok image)

-- ---- clients

-- what a client may be compiled against: faces that break no rule and have room in an image
pub record IsBase (base : Interface) : Type 0 where
  pub conforms : faces_breach (interface_classes base) ≡ None
  pub few : length base.classes ≤ MAX_LIBRARY_CLASSES
  pub each_face : All FaceWithin base.classes

-- the client program that the trees of a client's texts stand for, with this main
abbrev pub program_of : Interface → Trees → MainFile → Result ClientProgram Refusal
program_of base ts main = elaborated_program base (interfaces_of ts.interfaces) (bodies_of ts.bodies) main.block

-- the texts stand for this client program
pub record StandForClient (base : Interface) (ss : List Source) (p : ClientProgram) : Type 0 where
  pub trees : Trees
  pub main : MainFile
  pub read : ReadsAll ss (Ok trees)
  pub one_main : trees.mains ≡ main ∷ []
  pub built : program_of base trees main ≡ Ok p

-- All texts, one of which is a main, are read before it is asked what they stand for.
pub data CompilesClient (base : Interface) (ss : List Source) : Result (List ℕ) TextFault → Type 0 where
  client_unread : (w : TextFault) → ReadsAll ss (Err w) → CompilesClient base ss (Err w)
  client_unbuilt : (ts : Trees) (main : MainFile) (f : Refusal) → ReadsAll ss (Ok ts) → ts.mains ≡ main ∷ [] → program_of base ts main ≡ Err f → CompilesClient base ss (Err (refusal_told f))
  a_client_image : (p : ClientProgram) (image : List ℕ) → StandForClient base ss p → client_image p ≡ Some image → CompilesClient base ss (Ok image)
