use Rattle.std.proofs.Common.{[], ◌++◌, ◌∷◌, ap, ◌∙◌}
use Rattle.som_model.specs.declared.key.ValueType.TheVariants as types
use Rattle.som_order.specs.Names.{texts}
use Rattle.som_sema_drafts.specs.Drafts.{method, setter}
use Rattle.som_sema_local.proofs.exports.writer.Goals as goal

pub returns : goal.returns
returns c =
    c.introduce.ensures
    ∙ ap (λ n. method (texts c.args.by_name.now.keys) n types.Void c.push.new.self) c.in_ok-name.ensures
    ∙ ap (λ p. method (texts c.args.by_name.now.keys) (setter c.args.name.now) types.Void p) (c.in_ok-push.ensures.ok ∙ ap (λ z. c.new-params.result ++ z ∷ []) c.in_ok-copy.ensures ∙ ap (λ z. z ++ c.args.kind.now ∷ []) c.new-params.ensures)
