use Rattle.std.proofs.Common.{ap, ◌∙◌, refl}
use Rattle.som_model.specs.Typing.{is_nothing}
use Rattle.som_model.specs.TypedBlocks.{plain_return}
use Rattle.som_verify_forms.specs.Kinds.{code_at}
use Rattle.som_verify_forms.specs.Scopes.{scope_at}
use Rattle.som_verify_forms.proofs.Keeping.{demanded, type_kind}
use Rattle.som_verify_types.proofs.plain_statements.return_stands.Goals as goal

pub returns : goal.returns
returns c = λ cs scope stands.
    demanded cs (plain_return (code_at cs c.args.at.now) (scope_at cs scope)) scope 19 c.is_nothing.result _ c.demand.result refl
    (c.is_nothing.ensures cs ∙ ap is_nothing (type_kind cs c.args.at.now.result stands.result)) c.demand.ensures
