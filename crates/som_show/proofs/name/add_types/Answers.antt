use Rattle.som_show.specs.Shown.{type_name}
use Rattle.som_show.proofs.Joined.{names_done}
use Rattle.som_show.proofs.name.add_types.Goals as goal

pub returns-after-loop-kind : goal.returns-after-loop-kind
returns-after-loop-kind c =
    names_done type_name c.args.kinds.now c.first-item.result c.loop-kind.kind-index c.args.line.now.items c.add_type.new.line.items c.loop-kind.line.items
    c.in-len1-up.len_at_least c.first-item.is c.in_ok-add_type.ensures c.loop-kind-test.false c.loop-kind.invariant
