use Rattle.std.proofs.Common.{◌≡◌, ◌++◌, map, take}
use Rattle.som_model.specs.declared.key.Module.TheVariants as modules
use Rattle.som_model.specs.declared.key.ClassKey.TheVariants as keys
use Rattle.som_model.specs.Class.{entry_name}
use Rattle.som_image_decode.specs.Naming.{kernel_directory}
use Rattle.som_image_decode.proofs.directory.Directory.of_release.Given as goal

-- the kernel's keys and names, and those so far
abbrev pub invariant-loop-class : goal.invariant-loop-class
invariant-loop-class l = record {
  keys : l.directory.keys ≡ kernel_directory.keys ++ map (λ c. keys.Named modules.Library c.face.name) (take l.class-index l.release.classes);
  slots : l.directory.slots ≡ kernel_directory.slots ++ map (λ c. map entry_name c.face.entries) (take l.class-index l.release.classes);
}
