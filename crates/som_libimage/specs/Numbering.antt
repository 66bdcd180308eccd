-- The image with numbers that comes of numbering a release.
use Rattle.std.specs.Prelude.{map}
use Rattle.som_model.specs.declared.program.Release.{Release}
use Rattle.som_image_decode.specs.Naming.{release_directory}
use Rattle.som_image_encode.specs.NumberedClasses.{face_numbered, part_numbered, selects_numbered}
use Rattle.som_libimage.specs.declared.wire.WireRelease.{WireRelease}

abbrev pub release_numbered : Release → WireRelease
release_numbered r = let d = release_directory r in record {
  faces = map (λ c. face_numbered d.keys c.face) r.classes;
  parts = map (part_numbered d) r.classes;
  selects = selects_numbered d 4 r.classes;
}
