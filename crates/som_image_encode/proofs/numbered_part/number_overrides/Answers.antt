use Rattle.som_image_encode.specs.NumberedClasses.{OverrideReady}
use Rattle.som_image_decode.proofs.Places.{item_all}
use Rattle.som_image_encode.proofs.numbered_part.number_overrides.Goals as goal

pub number_override-requires-clause-ready : goal.number_override-requires-clause-ready
number_override-requires-clause-ready c =
    item_all (OverrideReady c.args.directory.now) c.args.overrides.now c.as_slice-replaced-items.result.now c.loop-replaced.replaced-index c.replaced-item.result
    c.as_slice-replaced-items.ensures c.loop-replaced-test.true c.replaced-item.is c.requires.ready
