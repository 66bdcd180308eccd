use Rattle.std.proofs.Common.{◌≡◌, ◌++◌, map, take}
use Rattle.som_model.specs.declared.key.Module.TheVariants as modules
use Rattle.som_model.specs.declared.key.ClassKey.TheVariants as keys
use Rattle.som_model.specs.Class.{entry_name}
use Rattle.som_image_decode.specs.Naming.{kernel_directory}
use Rattle.som_cliimage.proofs.directory.interface_directory.Given as goal

-- the kernel's keys and names, and those so far
abbrev pub invariant-loop-face : goal.invariant-loop-face
invariant-loop-face l = record {
  keys : l.directory.keys ≡ kernel_directory.keys ++ map (λ f. keys.Named modules.Library f.name) (take l.face-index l.interface.classes);
  slots : l.directory.slots ≡ kernel_directory.slots ++ map (λ f. map entry_name f.entries) (take l.face-index l.interface.classes);
}
