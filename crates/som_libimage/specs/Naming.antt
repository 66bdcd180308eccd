-- The release that comes of naming the numbers and slots of an image.
use Rattle.som_model.specs.declared.program.Release.{Release}
use Rattle.som_image_decode.specs.Naming.{library_directory}
use Rattle.som_image_classes.specs.NamedClasses.{classes_named, with_selects}
use Rattle.som_libimage.specs.declared.wire.WireRelease.{WireRelease}

-- the first class of a library has the number 4
abbrev pub release_named : WireRelease → Release
release_named w = let d = library_directory w.faces in record { classes = with_selects d 4 w.selects (classes_named d w.faces w.parts) }
