-- What was numbered can be written, whatever the ranges; and what is read is within the limits.
use Rattle.std.proofs.Common.{◌≡◌, ℕ, ◌+◌, ◌≤◌, ◌<◌, ◌^◌, [], ◌∷◌, length, Result, Ok, Err, sym, ap, subst, ◌∙◌, arith}
use Rattle.std.specs.Prelude.{All, IfOk}
use Rattle.std.proofs.lemmas.List.Elements.{All-from_recursion, recursion_from_All}
use Rattle.som_model.specs.declared.memory.NoMemory.{NoMemory}
use Rattle.som_model.specs.declared.limits.TheConstants.{MAX_LIBRARY_CLASSES}
use Rattle.som_model.specs.declared.program.Release.{Release}
use Rattle.som_image_fields.specs.declared.method.Ranges.{Ranges}
use Rattle.som_image_fields.specs.Spelling.{FitsFace, FitsMethod}
use Rattle.som_image_fields.specs.Fitting.{FitsSomePart}
use Rattle.som_image_decode.specs.declared.directory.Directory.{Directory}
use Rattle.som_image_decode.specs.Naming.{library_directory, ranges_in}
use Rattle.som_libimage.specs.declared.wire.WireRelease.{WireRelease}
use Rattle.som_image_classes.specs.ReadClasses.{ranges_of}
use Rattle.som_image_classes.specs.SpelledClasses.{FitsParts, FitsSomeSection}
use Rattle.som_libimage.specs.Spelling.{FitsRelease}
use Rattle.som_image_classes.specs.NamedClasses.{classes_named, with_selects}
use Rattle.som_libimage.specs.Naming.{release_named}
use Rattle.som_image_classes.specs.ClassLimits.{ClassWithin}
use Rattle.som_libimage.specs.Limits.{IsWithinLimits}
use Rattle.som_libimage.specs.Numbering.{release_numbered}
use Rattle.som_image_classes.proofs.ClassPlaces.{ranges_known}
use Rattle.som_image_classes.proofs.ClassFields.{faces_few, ranges_short, section_written}
use Rattle.som_image_classes.proofs.NamedClasses.{many_selecting}
use Rattle.som_image_classes.proofs.NamedSelects.{section_ascends}
use Rattle.som_libimage.proofs.NumberedReleases.{ReleaseTurns}
use Rattle.som_image_classes.proofs.ClassesTurned.{parts_written, classes_within, few_classes, selecting_within}

-- ---- what was numbered

pub turned_names : (r : Release) → ReleaseTurns r → (result : Result WireRelease NoMemory) → IfOk result (λ w. w ≡ release_numbered r) → IfOk result (λ w. release_named w ≡ r)
turned_names r t (Ok w) e = ap release_named e ∙ t.names
turned_names r t (Err x) e = tt

pub turned_fits : (r : Release) → ReleaseTurns r → (result : Result WireRelease NoMemory) → IfOk result (λ w. w ≡ release_numbered r) → IfOk result FitsRelease
turned_fits r t (Ok w) e = subst FitsRelease (sym e) t.fits
turned_fits r t (Err x) e = tt

pub parts_fit_some : (w : WireRelease) → FitsRelease w → All FitsSomePart w.parts
parts_fit_some w fits = parts_written (ranges_of w.faces) (ranges_short w.faces fits.faces) w.faces w.parts (faces_few 4 MAX_LIBRARY_CLASSES w.faces fits.faces) fits.parts

pub section_fits_some : (w : WireRelease) → FitsRelease w → FitsSomeSection w.selects
section_fits_some w fits = section_written (ranges_of w.faces) (ranges_short w.faces fits.faces) 4 w.selects fits.selects

pub release_within : (w : WireRelease) → FitsRelease w → IsWithinLimits (release_named w)
release_within w fits =
    let d : Directory = library_directory w.faces in
    let gs = w.selects in
    let ds = classes_named d w.faces w.parts in
    let parts : FitsParts (ranges_in d) w.faces w.parts = subst (λ (x : Ranges). FitsParts x w.faces w.parts) (sym (ranges_known w.faces)) fits.parts in
    let each = classes_within d (length w.faces + 4) w.faces w.parts (recursion_from_All (FitsFace (length w.faces + 4)) w.faces fits.faces.2) parts in
    record {
      classes = omega (arith, fits.faces.1, few_classes d w.faces w.parts, many_selecting d 4 gs ds);
      each_class = All-from_recursion ClassWithin (with_selects d 4 gs ds) (selecting_within d (ranges_of w.faces).classes (FitsMethod (ranges_of w.faces)) 4 4 gs (section_ascends (ranges_of w.faces) 4 gs fits.selects) ds each);
    }
