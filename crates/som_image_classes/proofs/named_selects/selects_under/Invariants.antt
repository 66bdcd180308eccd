use Rattle.std.proofs.Common.{◌≡◌, drop}
use Rattle.som_image_classes.specs.NamedClasses.{selects_under}
use Rattle.som_image_classes.proofs.named_selects.selects_under.Given as goal

-- no class before has the number
abbrev pub invariant-loop-class : goal.invariant-loop-class
invariant-loop-class l = selects_under l.number (drop l.class-index l.selects) ≡ selects_under l.number l.selects
