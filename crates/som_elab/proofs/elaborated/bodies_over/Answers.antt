use Rattle.std.proofs.Common.{List, option_copied, subst}
use Rattle.som_ast.specs.declared.body.BodyText.{BodyText}
use Rattle.som_sema_drafts.specs.Drafts.{plain_drafts}
use Rattle.som_sema_scope.specs.Words.{lent}
use Rattle.som_elab.specs.Contexts.{checked_steps}
use Rattle.som_elab.specs.Blocks.{Answers}
use Rattle.som_elab.specs.Elaboration.{among_over}
use Rattle.som_elab.proofs.elaborated.bodies_over.Goals as goal

pub returns : goal.returns
returns c = subst (λ (z : List BodyText). Answers (checked_steps (among_over c.args.own_module c.args.base.now (lent c.args.interfaces.now)) c.args.own_module z (plain_drafts c.args.drafts.now) (option_copied c.args.main)) c.grouped_over.result)
    c.in_ok-texts.ensures c.grouped_over.ensures
