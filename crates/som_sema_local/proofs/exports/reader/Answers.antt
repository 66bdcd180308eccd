use Rattle.std.proofs.Common.{ap, ◌∙◌}
use Rattle.som_order.specs.Names.{texts}
use Rattle.som_sema_drafts.specs.Drafts.{getter, method}
use Rattle.som_sema_local.proofs.exports.reader.Goals as goal

pub returns : goal.returns
returns c =
    c.introduce.ensures
    ∙ ap (λ n. method (texts c.args.by_name.now.keys) n c.in_ok-copy.field-0 c.new.result) c.in_ok-name.ensures
    ∙ ap (λ k. method (texts c.args.by_name.now.keys) (getter c.args.name.now) k c.new.result) c.in_ok-copy.ensures
    ∙ ap (λ p. method (texts c.args.by_name.now.keys) (getter c.args.name.now) c.args.kind.now p) c.new.ensures
