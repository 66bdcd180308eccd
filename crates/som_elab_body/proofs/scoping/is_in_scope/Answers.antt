use Rattle.std.proofs.Common.{is_some, Option, ℕ, sym, ap, ◌∙◌}
use Rattle.som_elab_body.specs.Code.{names_at}
use Rattle.som_elab_body.proofs.NameLaws.{place_said}
use Rattle.som_elab_body.proofs.NamesInScope.{scope_by}
use Rattle.som_elab_body.proofs.scoping.is_in_scope.Goals as goal

pub returns : goal.returns
returns c = λ cs. c.is_some.ensures ∙ ap (λ (o : Option ℕ). is_some o) (c.local_of.ensures.is ∙ sym (place_said cs c.args.locals.now c.args.name.now 0)) ∙ scope_by (names_at cs c.args.locals.now) c.args.name.now
