-- What writing a client image answers.
use Rattle.std.proofs.Common.{◌≡◌, ℕ, List, [], ◌∷◌, map, Some, Result, Ok, refl, ap, subst, ◌∙◌}
use Rattle.som_model.specs.declared.key.Module.TheVariants as modules
use Rattle.som_model.specs.declared.class.ClassFace.{ClassFace}
use Rattle.som_model.specs.declared.program.ClientProgram.{ClientProgram}
use Rattle.som_model.specs.Steps.{◌>>=◌}
use Rattle.som_model.specs.Class.{Class}
use Rattle.som_model.specs.Kernel.{kernel}
use Rattle.som_model.specs.Conforming.{ProgramOk}
use Rattle.som_model.specs.Images.{client_image}
use Rattle.som_image_fields.specs.declared.fault.ImageFault.{ImageFault}
use Rattle.som_image_classes.specs.Interfaces.{NamesDiffer}
use Rattle.som_image_classes.proofs.Conforming.{faces_names, declared_faces}
use Rattle.som_image_classes.proofs.NamedInterfaces.{a_class}
use Rattle.som_cliimage.specs.declared.wire.WireProgram.{WireProgram}
use Rattle.som_cliimage.specs.Naming.{program_named}
use Rattle.som_cliimage.specs.Spelling.{FitsProgram, client}
use Rattle.som_cliimage.specs.Programs.{ProgramNamesDiffer, client_at}
use Rattle.som_cliimage.specs.Limits.{IsWithinLimits}
use Rattle.som_cliimage.specs.Numbering.{program_numbered}
use Rattle.som_cliimage.proofs.ProgramFields.{wire_again}
use Rattle.som_cliimage.proofs.NamedPrograms.{program_forth}
use Rattle.som_cliimage.proofs.Holds.{base, own, before, holds}
use Rattle.som_cliimage.proofs.Ready.{ready}

base_faces : (fs : List ClassFace) → map (λ (c : Class). c.decl.face) (map a_class fs) ≡ fs
base_faces [] = refl
base_faces (f ∷ fs) = ap (λ (l : List ClassFace). f ∷ l) (base_faces fs)

-- in a program that conforms names differ
pub conforming_names : (p : ClientProgram) → ProgramOk p → ProgramNamesDiffer p
conforming_names p ok =
    let h = holds p ok in
    record {
      base = subst NamesDiffer (base_faces p.base.classes) (faces_names kernel (base p) h.base_names h.base_entries);
      own = subst NamesDiffer (declared_faces modules.Client p.classes) (faces_names (before p) (own p) h.own_names h.own_entries);
    }

abbrev read : ClientProgram → Result ClientProgram ImageFault
read p = Ok p

-- the spelling of what a program that conforms is named from is its image
pub image_of : (p : ClientProgram) → ProgramOk p → (w : WireProgram) → FitsProgram w → program_named w ≡ p → client_image p ≡ Some (client w)
image_of p ok w fits names =
    subst (λ (x : ClientProgram). ProgramNamesDiffer x → client_image x ≡ Some (client w)) names (program_forth w fits) (conforming_names p ok)

pub read_back : (p : ClientProgram) (w : WireProgram) → FitsProgram w → program_named w ≡ p → client_at (client w) ≡ Ok p
read_back p w fits names =
    ap (λ (x : Result WireProgram ImageFault). x >>= λ v. read (program_named v)) (wire_again w fits) ∙ ap read names

abbrev Image : ClientProgram → Type 0
Image p = (bytes : List ℕ) × (client_image p ≡ Some bytes) × (client_at bytes ≡ Ok p)

pub image_there : (p : ClientProgram) → ProgramOk p → IsWithinLimits p → Image p
image_there p ok within =
    let t = (ready p ok within).turns in
    (client (program_numbered p), image_of p ok (program_numbered p) t.fits t.names, read_back p (program_numbered p) t.fits t.names)
