use Rattle.std.proofs.Common.{◌==◌, sym, ap, ◌∙◌, arith}
use Rattle.som_model.specs.Lists.{some}
use Rattle.som_verify_classes.proofs.Descending.{is_a_place}
use Rattle.som_verify_classes.proofs.descent.descends_by.Goals as goal

pub returns : goal.returns
returns c = λ cs lists known.
    c.has_place.ensures
    ∙ ap (some (λ a. c.args.ancestor == a)) c.item.ensures
    ∙ sym (is_a_place cs c.args.lists.now lists c.args.class c.args.ancestor (omega (arith, c.requires, lists.long)) known)
