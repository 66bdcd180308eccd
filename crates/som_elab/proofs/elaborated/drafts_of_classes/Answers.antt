use Rattle.std.proofs.Common.{map, ap, ◌∙◌}
use Rattle.std.proofs.lemmas.Iterator.{YieldsList-from_slice, YieldsList-from_zip}
use Rattle.std.proofs.lemmas.Iterator.Consumers.{YieldsList-at, YieldsList-end}
use Rattle.std.proofs.lemmas.Iterator.Adapters.{YieldsList-from_vec}
use Rattle.std.specs.Slice.Iter.{iter_rest}
use Rattle.som_elab.specs.Elaboration.{drafts_of_classes}
use Rattle.som_sema_scope.specs.Words.{lent}
use Rattle.som_elab.proofs.Pairing.{paired, paired_drafts}
use Rattle.som_elab.proofs.elaborated.drafts_of_classes.Goals as goal

pub returns : goal.returns
returns c =
    let texts = YieldsList-from_slice c.args.interfaces.now (ap iter_rest c.zip-text-items.ensures.first ∙ c.iter.ensures.rest) in
    let decls = YieldsList-from_vec c.into_vec.result.items c.zip-text-items.ensures.second.0 (c.zip-text-items.ensures.second.1 ∙ c.into_vec.result.ok.0) in
    let all = YieldsList-at c.into_iter-text-iterator.ensures.into_iter_gives (YieldsList-from_zip texts decls) in
    c.loop-text.invariant
    ∙ ap (map paired) (YieldsList-end all c.loop-text.yielded _ c.loop-text.yielded_by _ c.next.new.self c.in-None.is c.next.ensures.steps).0
    ∙ paired_drafts c.args.interfaces.now c.into_vec.result.items
    ∙ ap (drafts_of_classes (lent c.args.interfaces.now)) c.into_vec.ensures
