use Rattle.std.proofs.Common.{◌≡◌, ◌++◌, map, take}
use Rattle.som_model.specs.declared.key.ClassKey.TheVariants as keys
use Rattle.som_image_decode.specs.Naming.{names_in}
use Rattle.som_image_decode.proofs.directory.Directory.with_classes.Given as goal

-- the keys and the names that were there, and those so far
abbrev pub invariant-loop-face : goal.invariant-loop-face
invariant-loop-face l = record {
  keys : l.directory.keys ≡ l.fn.self.keys ++ map (λ f. keys.Named l.home f.name) (take l.face-index l.faces);
  slots : l.directory.slots ≡ l.fn.self.slots ++ map names_in (take l.face-index l.faces);
}
