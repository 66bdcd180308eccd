use Rattle.std.proofs.Common.{◌≡◌, ◌++◌, take}
use Rattle.std.specs.List.{flat_map}
use Rattle.som_image_fields.specs.Spelling.{kind}
use Rattle.som_image_fields.proofs.sig.append_params.Given as goal

abbrev pub invariant-loop-param : goal.invariant-loop-param
invariant-loop-param l = l.out ≡ l.fn.out ++ flat_map kind (take l.param-index l.params)
