-- The image with numbers that comes of numbering a client program.
use Rattle.std.specs.Prelude.{◌+◌, ◌++◌, length, map}
use Rattle.som_model.specs.declared.key.Module.TheVariants as modules
use Rattle.som_model.specs.declared.key.ClassKey.TheVariants as keys
use Rattle.som_model.specs.declared.program.Interface.{Interface}
use Rattle.som_model.specs.declared.program.ClientProgram.{ClientProgram}
use Rattle.som_model.specs.Class.{entry_name}
use Rattle.som_image_decode.specs.declared.directory.Directory.{Directory}
use Rattle.som_image_decode.specs.Naming.{kernel_directory}
use Rattle.som_image_encode.specs.NumberedBlocks.{block_numbered}
use Rattle.som_image_encode.specs.NumberedClasses.{face_numbered, part_numbered, selects_numbered}
use Rattle.som_cliimage.specs.declared.wire.WireProgram.{WireProgram}

-- the kernel's classes and those of an interface, and the names of their entries
abbrev pub interface_directory : Interface → Directory
interface_directory i = record {
  keys = kernel_directory.keys ++ map (λ f. keys.Named modules.Library f.name) i.classes;
  slots = kernel_directory.slots ++ map (λ f. map entry_name f.entries) i.classes;
}

-- those that a client was compiled against, and the client's own
abbrev pub program_directory : ClientProgram → Directory
program_directory p = let base = interface_directory p.base in record {
  keys = base.keys ++ map (λ c. keys.Named modules.Client c.face.name) p.classes;
  slots = base.slots ++ map (λ c. map entry_name c.face.entries) p.classes;
}

-- the faces of the base have the numbers that they have without the client
abbrev pub program_numbered : ClientProgram → WireProgram
program_numbered p = let base = interface_directory p.base in let d = program_directory p in record {
  base = map (face_numbered base.keys) p.base.classes;
  faces = map (λ c. face_numbered d.keys c.face) p.classes;
  parts = map (part_numbered d) p.classes;
  selects = selects_numbered d (length p.base.classes + 4) p.classes;
  main = block_numbered d p.main;
}
