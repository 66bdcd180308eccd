use Rattle.std.proofs.Common.{◌≡◌, map, take}
use Rattle.som_model.specs.Kernel.{kernel_key}
use Rattle.som_model.specs.Class.{entry_name}
use Rattle.som_image_decode.proofs.directory.Directory.of_kernel.Given as goal

-- the keys and the names so far
abbrev pub invariant-loop-face : goal.invariant-loop-face
invariant-loop-face l = record {
  keys : l.directory.keys ≡ map (λ f. kernel_key f.name) (take l.face-index l.face-items);
  slots : l.directory.slots ≡ map (λ f. map entry_name f.entries) (take l.face-index l.face-items);
}
