use Rattle.som_model.specs.Lists.{Mem}
use Rattle.som_image_decode.proofs.Places.{item_all}
use Rattle.som_image_encode.proofs.numbered_face.number_parents.Goals as goal

pub number_of-requires-clause-known : goal.number_of-requires-clause-known
number_of-requires-clause-known c =
    item_all (λ k. Mem k c.args.directory.now.keys) c.args.parents.now c.as_slice-parent-items.result.now c.loop-parent.parent-index c.parent-item.result
    c.as_slice-parent-items.ensures c.loop-parent-test.true c.parent-item.is c.requires.known
