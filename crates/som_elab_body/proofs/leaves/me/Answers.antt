use Rattle.som_model.specs.Typing.{self_type}
use Rattle.som_elab_body.specs.Code.{classes_at, place_at}
use Rattle.som_elab_body.proofs.leaves.me.Goals as goal

pub returns : goal.returns
returns c = c.formed.ensures (classes_at c.args.context.now) (self_type (place_at c.args.context.now)) c.self_kind.ensures
