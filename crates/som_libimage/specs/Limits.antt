-- How much of each thing an image has room for. The rules say nothing of it, but for a release that was read it holds.
use Rattle.std.specs.Prelude.{◌≤◌, length, All}
use Rattle.som_model.specs.declared.limits.TheConstants.{MAX_LIBRARY_CLASSES}
use Rattle.som_model.specs.declared.program.Release.{Release}
use Rattle.som_image_classes.specs.ClassLimits.{ClassWithin}

-- a release that an image has room for
pub record IsWithinLimits (r : Release) : Type 0 where
  pub classes : length r.classes ≤ MAX_LIBRARY_CLASSES
  pub each_class : All ClassWithin r.classes
