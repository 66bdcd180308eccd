use Rattle.std.proofs.Common.{map}
use Rattle.som_order.specs.Names.{texts}
use Rattle.som_image_encode.specs.Numbering.{key_name}
use Rattle.som_image_encode.proofs.Numbering.{NamesSoFar}
use Rattle.som_image_encode.proofs.lookup.class_names.Given as goal

abbrev pub invariant-loop-key : goal.invariant-loop-key
invariant-loop-key l = NamesSoFar (map key_name l.directory.keys) l.key-index (texts l.names.keys)
