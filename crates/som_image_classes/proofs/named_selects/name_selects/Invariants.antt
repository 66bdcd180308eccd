use Rattle.std.proofs.Common.{◌≡◌, map, take}
use Rattle.som_image_classes.specs.NamedClasses.{select_named}
use Rattle.som_image_classes.proofs.named_selects.name_selects.Given as goal

abbrev pub invariant-loop-select : goal.invariant-loop-select
invariant-loop-select l = l.named ≡ map (select_named l.directory) (take l.select-index l.selects)
