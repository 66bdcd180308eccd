-- How much of each thing a client image has room for. The rules say nothing of it, but for a program that was read it holds.
use Rattle.std.specs.Prelude.{◌≤◌, length, All}
use Rattle.som_model.specs.declared.limits.TheConstants.{MAX_LIBRARY_CLASSES, MAX_CLIENT_CLASSES}
use Rattle.som_model.specs.declared.program.ClientProgram.{ClientProgram}
use Rattle.som_image_decode.specs.BlockLimits.{BlockWithin}
use Rattle.som_image_classes.specs.ClassLimits.{FaceWithin, ClassWithin}

-- a client program that an image has room for
pub record IsWithinLimits (p : ClientProgram) : Type 0 where
  pub faces : length p.base.classes ≤ MAX_LIBRARY_CLASSES
  pub each_face : All FaceWithin p.base.classes
  pub classes : length p.classes ≤ MAX_CLIENT_CLASSES
  pub each_class : All ClassWithin p.classes
  pub main : BlockWithin p.main
