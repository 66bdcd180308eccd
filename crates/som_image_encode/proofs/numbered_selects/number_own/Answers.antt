use Rattle.som_model.specs.declared.class.Select.{Select}
use Rattle.som_image_decode.proofs.Places.{item_all}
use Rattle.som_image_encode.specs.Numbering.{MethodKnown}
use Rattle.som_image_encode.proofs.numbered_selects.number_own.Goals as goal

pub number_method-requires-clause-known : goal.number_method-requires-clause-known
number_method-requires-clause-known c =
    item_all (λ (s : Select). MethodKnown c.args.directory.now s.method) c.args.selects.now c.as_slice-select-items.result.now c.loop-select.select-index c.select-item.result
    c.as_slice-select-items.ensures c.loop-select-test.true c.select-item.is c.requires.known
