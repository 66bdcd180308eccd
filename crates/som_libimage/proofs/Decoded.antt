-- What reading a library image answers.
use Rattle.std.proofs.Common.{◌≡◌, ℕ, List, Some, Result, Ok, Err, sym, ap, subst, ◌∙◌}
use Rattle.std.specs.Prelude.{IfOk}
use Rattle.som_model.specs.declared.program.Release.{Release}
use Rattle.som_model.specs.Bytes.{AreBytes}
use Rattle.som_model.specs.Steps.{◌>>=◌}
use Rattle.som_model.specs.Class.{interface_of}
use Rattle.som_model.specs.Images.{library_image}
use Rattle.som_image_fields.specs.declared.fault.ImageFault.{ImageFault}
use Rattle.som_image_fields.specs.Fields.{Gives}
use Rattle.som_image_fields.proofs.Parts.{bind_ok}
use Rattle.som_image_classes.specs.Interfaces.{NamesDiffer}
use Rattle.som_libimage.specs.declared.wire.WireRelease.{WireRelease}
use Rattle.som_libimage.specs.Reading.{wire_at}
use Rattle.som_libimage.specs.Naming.{release_named}
use Rattle.som_libimage.specs.Libraries.{SpellsLibrary, library_at}
use Rattle.som_libimage.specs.Limits.{IsWithinLimits}
use Rattle.som_libimage.proofs.LibraryFields.{wire_takes, wire_again}
use Rattle.som_libimage.proofs.NamedReleases.{release_forth, release_back}
use Rattle.som_libimage.proofs.Turned.{release_within}

abbrev read : Release → Result Release ImageFault
read r = Ok r

same_release : (x y : Release) → read x ≡ read y → x ≡ y
same_release x y e = cc

-- what the bytes spell is their image where names differ
pub spelled_image : (r : Release) (bytes : List ℕ) → NamesDiffer (interface_of r).classes → SpellsLibrary r bytes → library_image r ≡ Some bytes
spelled_image r bytes differ s =
    subst (λ (x : Release). NamesDiffer (interface_of x).classes → library_image x ≡ Some bytes) s.names
    (λ h. release_forth s.wire s.fits h ∙ ap (λ (b : List ℕ). Some b) s.spelled) differ

-- and it is within the limits
spelled_within : (r : Release) (bytes : List ℕ) → SpellsLibrary r bytes → IsWithinLimits r
spelled_within r bytes s = subst IsWithinLimits s.names (release_within s.wire s.fits)

pub image_within : (r : Release) (bytes : List ℕ) → library_image r ≡ Some bytes → IsWithinLimits r
image_within r bytes e = spelled_within r bytes (release_back r bytes e)

read_one : (bytes : List ℕ) → AreBytes bytes → (r : Release) → library_at bytes ≡ Ok r → SpellsLibrary r bytes
read_one bytes all r e =
    let w = bind_ok (wire_at bytes) (λ (w : WireRelease). read (release_named w)) r e in
    let t = wire_takes bytes all w.0 w.1 in
    record { wire = w.0; spelled = sym t.0; fits = t.1; names = same_release (release_named w.0) r w.2 }

pub spelled : (bytes : List ℕ) → AreBytes bytes → (result : Result Release ImageFault) → Gives result (library_at bytes) → IfOk result (λ r. SpellsLibrary r bytes)
spelled bytes all (Ok r) given = read_one bytes all r given
spelled bytes all (Err fault) given = tt

pub found : (bytes : List ℕ) → AreBytes bytes → (result : Result Release ImageFault) → Gives result (library_at bytes) → IfOk result (λ r. NamesDiffer (interface_of r).classes → library_image r ≡ Some bytes)
found bytes all (Ok r) given = λ differ. spelled_image r bytes differ (read_one bytes all r given)
found bytes all (Err fault) given = tt

pub within : (bytes : List ℕ) → AreBytes bytes → (result : Result Release ImageFault) → Gives result (library_at bytes) → IfOk result IsWithinLimits
within bytes all (Ok r) given = spelled_within r bytes (read_one bytes all r given)
within bytes all (Err fault) given = tt

-- a release that bytes spell is read from them
pub spelled_again : (bytes : List ℕ) (r : Release) → SpellsLibrary r bytes → library_at bytes ≡ Ok r
spelled_again bytes r s =
    ap library_at (sym s.spelled)
    ∙ ap (λ (x : Result WireRelease ImageFault). x >>= λ w. read (release_named w)) (wire_again s.wire s.fits)
    ∙ ap read s.names

pub only_spelled : (bytes : List ℕ) (result : Result Release ImageFault) → Gives result (library_at bytes) → (r : Release) → SpellsLibrary r bytes → Gives result (Ok r)
only_spelled bytes result given r s = subst (λ (x : Result Release ImageFault). Gives result x) (spelled_again bytes r s) given

pub only : (bytes : List ℕ) (result : Result Release ImageFault) → Gives result (library_at bytes) → (r : Release) → library_image r ≡ Some bytes → Gives result (Ok r)
only bytes result given r e = only_spelled bytes result given r (release_back r bytes e)

-- a release is read from its image
pub library_again : (bytes : List ℕ) (r : Release) → library_image r ≡ Some bytes → library_at bytes ≡ Ok r
library_again bytes r e = spelled_again bytes r (release_back r bytes e)

-- bytes spell one release at most
pub one_release : (r s : Release) (bytes : List ℕ) → SpellsLibrary r bytes → SpellsLibrary s bytes → r ≡ s
one_release r s bytes a b = same_release r s (sym (spelled_again bytes r a) ∙ spelled_again bytes s b)
