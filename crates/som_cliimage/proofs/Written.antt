-- What was numbered can be written; and what is read is within the limits.
use Rattle.std.proofs.Common.{◌≡◌, ℕ, ◌+◌, ◌≤◌, ◌++◌, length, map, refl, ◌∙◌, arith}
use Rattle.std.specs.Prelude.{All}
use Rattle.std.proofs.lemmas.List.{length-map}
use Rattle.std.proofs.lemmas.List.Elements.{All-from_recursion, recursion_from_All}
use Rattle.som_model.specs.declared.limits.TheConstants.{MAX_CLIENT_CLASSES}
use Rattle.som_image_fields.specs.Spelling.{FitsFace, FitsMethod}
use Rattle.som_image_fields.specs.Fitting.{levels_left, FitsSomePart, FitsSomeBlock}
use Rattle.som_wire.proofs.SomeFits.{block_some}
use Rattle.som_image_decode.specs.declared.directory.Directory.{Directory}
use Rattle.som_image_decode.specs.Naming.{library_directory, ranges_in}
use Rattle.som_image_decode.proofs.Places.{all_map, all_mapped}
use Rattle.som_image_classes.specs.NamedClasses.{face_named, classes_named, with_selects}
use Rattle.som_image_classes.specs.ClassLimits.{FaceWithin, ClassWithin}
use Rattle.som_image_classes.proofs.ClassFields.{faces_few, section_written}
use Rattle.som_image_classes.proofs.NamedClasses.{many_selecting}
use Rattle.som_image_classes.proofs.NamedSelects.{section_ascends}
use Rattle.som_image_classes.specs.SpelledClasses.{FitsSomeSection}
use Rattle.som_image_decode.proofs.NamedLimits.{named_is_within}
use Rattle.som_image_classes.proofs.ClassesTurned.{parts_written, face_within, classes_within, few_classes, selecting_within}
use Rattle.som_cliimage.specs.declared.wire.WireProgram.{WireProgram}
use Rattle.som_cliimage.specs.Reading.{client_ranges}
use Rattle.som_cliimage.specs.Spelling.{FitsProgram}
use Rattle.som_cliimage.specs.Naming.{client_directory, program_named}
use Rattle.som_cliimage.specs.Limits.{IsWithinLimits}
use Rattle.som_cliimage.proofs.ProgramFields.{ranges_short}
use Rattle.som_cliimage.proofs.Naming.{parts_fit, main_fits}

module _ (w : WireProgram) (fits : FitsProgram w) where
  pub parts_written_of : All FitsSomePart w.parts
  parts_written_of =
      parts_written (client_ranges w.base w.faces) (ranges_short w.base w.faces fits.base fits.faces) w.faces w.parts (faces_few (length w.base + 4) MAX_CLIENT_CLASSES w.faces fits.faces) fits.parts

  pub main_written : FitsSomeBlock w.main
  main_written = block_some (client_ranges w.base w.faces) (ranges_short w.base w.faces fits.base fits.faces) (levels_left 1) (omega arith) w.main fits.main

  pub section_fits_some : FitsSomeSection w.selects
  section_fits_some = section_written (client_ranges w.base w.faces) (ranges_short w.base w.faces fits.base fits.faces) (length w.base + 4) w.selects fits.selects

  pub program_within : IsWithinLimits (program_named w)
  program_within =
      let d : Directory = client_directory w.base w.faces in
      let parts = parts_fit w fits d refl in
      let main = main_fits w fits d refl in
      let first = length w.base + 4 in
      let gs = w.selects in
      let ds = classes_named d w.faces w.parts in
      let each = classes_within d (length w.faces + (length w.base + 4)) w.faces w.parts (recursion_from_All (FitsFace (length w.faces + (length w.base + 4))) w.faces fits.faces.2) parts in
      let ranges = client_ranges w.base w.faces in
      record {
        faces = omega (arith, fits.base.1, length-map w.base (face_named (library_directory w.base).keys));
        each_face = All-from_recursion FaceWithin (map (face_named (library_directory w.base).keys) w.base)
            (all_mapped FaceWithin (face_named (library_directory w.base).keys) w.base (all_map (FitsFace (length w.base + 4)) (λ f. FaceWithin (face_named (library_directory w.base).keys f)) (face_within (library_directory w.base).keys (length w.base + 4)) w.base (recursion_from_All (FitsFace (length w.base + 4)) w.base fits.base.2)));
        classes = omega (arith, fits.faces.1, few_classes d w.faces w.parts, many_selecting d first gs ds);
        each_class = All-from_recursion ClassWithin (with_selects d first gs ds) (selecting_within d ranges.classes (FitsMethod ranges) first first gs (section_ascends ranges first gs fits.selects) ds each);
        main = named_is_within d (length d.keys) (FitsMethod (ranges_in d)) w.main main;
      }
