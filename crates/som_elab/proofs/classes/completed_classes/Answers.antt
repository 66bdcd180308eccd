use Rattle.std.proofs.Common.{map, ap, ◌∙◌, arith}
use Rattle.std.proofs.lemmas.Iterator.{YieldsList-from_zip}
use Rattle.std.proofs.lemmas.Iterator.Consumers.{YieldsList-at, YieldsList-end}
use Rattle.std.proofs.lemmas.Iterator.Adapters.{YieldsList-from_vec}
use Rattle.som_sema_drafts.specs.Drafts.{plain_drafts}
use Rattle.som_elab.specs.Contexts.{completed}
use Rattle.som_elab.proofs.Completing.{filled, filled_completed}
use Rattle.som_elab.proofs.classes.completed_classes.Goals as goal

pub returns : goal.returns
returns c =
    let classes = YieldsList-at c.zip-draft-items.ensures.first (YieldsList-from_vec c.args.drafts.items c.into_iter.ensures.rest (omega (arith, c.into_iter.ensures.len, c.args.drafts.ok.0))) in
    let own = YieldsList-from_vec c.into_vec.result.items c.zip-draft-items.ensures.second.0 (c.zip-draft-items.ensures.second.1 ∙ c.into_vec.result.ok.0) in
    let all = YieldsList-at c.into_iter-draft-iterator.ensures.into_iter_gives (YieldsList-from_zip classes own) in
    c.loop-draft.invariant
    ∙ ap (map filled) (YieldsList-end all c.loop-draft.yielded _ c.loop-draft.yielded_by _ c.next.new.self c.in-None.is c.next.ensures.steps).0
    ∙ filled_completed c.args.drafts.items c.into_vec.result.items
    ∙ ap (completed (plain_drafts c.args.drafts.items)) c.into_vec.ensures
