-- The client program that comes of naming what its image holds.
use Rattle.std.specs.Prelude.{◌+◌, List, length}
use Rattle.som_model.specs.declared.key.Module.TheVariants as modules
use Rattle.som_model.specs.declared.program.ClientProgram.{ClientProgram}
use Rattle.som_image_fields.specs.declared.face.WireFace.{WireFace}
use Rattle.som_image_decode.specs.declared.directory.Directory.{Directory}
use Rattle.som_image_decode.specs.Naming.{library_directory, with_classes}
use Rattle.som_image_decode.specs.NamedBlocks.{block_named}
use Rattle.som_image_classes.specs.NamedClasses.{classes_named, interface_by, with_selects}
use Rattle.som_cliimage.specs.declared.wire.WireProgram.{WireProgram}

-- the kernel's classes, those of the base, and the client's own
abbrev pub client_directory : List WireFace → List WireFace → Directory
client_directory base own = with_classes (library_directory base) modules.Client own

-- the program that faces and classes with numbers stand for, by the classes of its base and those of all
abbrev pub program_by : Directory → Directory → WireProgram → ClientProgram
program_by base d w = record {
  base = interface_by base.keys w.base;
  classes = with_selects d (length w.base + 4) w.selects (classes_named d w.faces w.parts);
  main = block_named d w.main;
}

-- slots stand for the names at those slots of the faces in the image
abbrev pub program_named : WireProgram → ClientProgram
program_named w = program_by (library_directory w.base) (client_directory w.base w.faces) w
