use Rattle.som_model.specs.Typing.{class_facts}
use Rattle.som_image_encode.proofs.TypedBlocks.{typed_is_ready}
use Rattle.som_image_encode.proofs.KnownMethods.{covers}
use Rattle.som_image_encode.proofs.numbered_laws.typed_blocks_are_ready.Goals as goal

pub returns : goal.returns
returns c = λ cs d at scope after b tells within typed. typed_is_ready (class_facts cs) d (covers cs d tells) at scope after b within typed
