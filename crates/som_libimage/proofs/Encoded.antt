-- What writing a library image answers.
use Rattle.std.proofs.Common.{◌≡◌, ℕ, List, Some, Result, Ok, ap, subst, ◌∙◌}
use Rattle.som_model.specs.declared.program.Release.{Release}
use Rattle.som_model.specs.Steps.{◌>>=◌}
use Rattle.som_model.specs.Class.{interface_of}
use Rattle.som_model.specs.Conforming.{ReleaseOk}
use Rattle.som_model.specs.Images.{library_image}
use Rattle.som_image_fields.specs.declared.fault.ImageFault.{ImageFault}
use Rattle.som_libimage.specs.declared.wire.WireRelease.{WireRelease}
use Rattle.som_libimage.specs.Naming.{release_named}
use Rattle.som_libimage.specs.Spelling as spelling
use Rattle.som_libimage.specs.Spelling.{FitsRelease}
use Rattle.som_image_classes.specs.Interfaces.{NamesDiffer}
use Rattle.som_libimage.specs.Libraries.{library_at}
use Rattle.som_libimage.specs.Limits.{IsWithinLimits}
use Rattle.som_libimage.specs.Numbering.{release_numbered}
use Rattle.som_libimage.proofs.LibraryFields.{wire_again}
use Rattle.som_libimage.proofs.NamedReleases.{release_forth}
use Rattle.som_image_classes.proofs.Conforming.{conforming_names}
use Rattle.som_libimage.proofs.Ready.{ready}

abbrev read : Release → Result Release ImageFault
read r = Ok r

-- the spelling of what a release that conforms is named from is its image
pub image_of : (r : Release) → ReleaseOk r → (w : WireRelease) → FitsRelease w → release_named w ≡ r → library_image r ≡ Some (spelling.library w)
image_of r ok w fits names =
    subst (λ (x : Release). NamesDiffer (interface_of x).classes → library_image x ≡ Some (spelling.library w)) names (release_forth w fits) (conforming_names r ok)

pub read_back : (r : Release) (w : WireRelease) → FitsRelease w → release_named w ≡ r → library_at (spelling.library w) ≡ Ok r
read_back r w fits names =
    ap (λ (x : Result WireRelease ImageFault). x >>= λ v. read (release_named v)) (wire_again w fits) ∙ ap read names

abbrev Image : Release → Type 0
Image r = (bytes : List ℕ) × (library_image r ≡ Some bytes) × (library_at bytes ≡ Ok r)

pub image_there : (r : Release) → ReleaseOk r → IsWithinLimits r → Image r
image_there r ok within =
    let t = (ready r ok within).turns in
    (spelling.library (release_numbered r), image_of r ok (release_numbered r) t.fits t.names, read_back r (release_numbered r) t.fits t.names)
