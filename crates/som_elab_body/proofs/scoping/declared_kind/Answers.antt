use Rattle.std.proofs.Common.{length, sym, ap, ◌∙◌}
use Rattle.std.proofs.lemmas.Bool.{ltb-true}
use Rattle.som_model.specs.declared.limits.TheConstants.{MAX_LOCALS}
use Rattle.som_model.specs.Typing.{fits}
use Rattle.som_verify_forms.specs.Kinds.{kind_at}
use Rattle.som_verify_forms.specs.Knowing.{facts_of}
use Rattle.som_elab_body.specs.Code.{among_at, classes_at}
use Rattle.som_elab_body.proofs.NamesInScope.{var_many, var_misfits, var_opens, var_seen, var_unknown}
use Rattle.som_elab_body.proofs.scoping.declared_kind.Goals as goal

pub returns-then-is_in_scope : goal.returns-then-is_in_scope
returns-then-is_in_scope c = λ e. var_seen (classes_at c.args.context.now) (among_at c.args.context.now) c.args.locals.now c.args.name.now c.args.kind.now (record { expr = e; type = kind_at (classes_at c.args.context.now) c.args.given }) (sym (c.is_in_scope.ensures (classes_at c.args.context.now)) ∙ c.if-is_in_scope.true)

pub returns-in-None : goal.returns-in-None
returns-in-None c = λ e. var_unknown (classes_at c.args.context.now) (among_at c.args.context.now) c.args.locals.now c.args.name.now c.args.kind.now (record { expr = e; type = kind_at (classes_at c.args.context.now) c.args.given }) (sym (c.is_in_scope.ensures (classes_at c.args.context.now)) ∙ c.if-is_in_scope.false) (sym c.in-None.ensures.known)

pub returns-then-not-kind_fits : goal.returns-then-not-kind_fits
returns-then-not-kind_fits c = λ e. var_misfits (classes_at c.args.context.now) (among_at c.args.context.now) c.args.locals.now c.args.name.now c.args.kind.now (record { expr = e; type = kind_at (classes_at c.args.context.now) c.args.given }) (sym (c.is_in_scope.ensures (classes_at c.args.context.now)) ∙ c.if-is_in_scope.false) (sym c.in-Some.ensures.known) (ap (λ z. fits (facts_of c.args.context.now.known) z (kind_at (classes_at c.args.context.now) c.args.given)) (sym c.in-Some.ensures.is) ∙ sym c.kind_fits.ensures ∙ c.if-not-kind_fits.true)

pub returns-then-has_room : goal.returns-then-has_room
returns-then-has_room c = λ e. (
  var_opens (classes_at c.args.context.now) (among_at c.args.context.now) c.args.locals.now c.args.name.now c.args.kind.now (record { expr = e; type = kind_at (classes_at c.args.context.now) c.args.given }) (sym (c.is_in_scope.ensures (classes_at c.args.context.now)) ∙ c.if-is_in_scope.false) (sym c.in-Some.ensures.known) (ap (λ z. fits (facts_of c.args.context.now.known) z (kind_at (classes_at c.args.context.now) c.args.given)) (sym c.in-Some.ensures.is) ∙ sym c.kind_fits.ensures ∙ c.if-not-kind_fits.false) (sym c.has_room.ensures ∙ c.if-has_room.true),
  c.in-Some.ensures.is,
  c.in-Some.ensures.stands,
  ltb-true (length c.args.locals.now) MAX_LOCALS (sym c.has_room.ensures ∙ c.if-has_room.true),
)

pub returns-else-has_room : goal.returns-else-has_room
returns-else-has_room c = λ e. var_many (classes_at c.args.context.now) (among_at c.args.context.now) c.args.locals.now c.args.name.now c.args.kind.now (record { expr = e; type = kind_at (classes_at c.args.context.now) c.args.given }) (sym (c.is_in_scope.ensures (classes_at c.args.context.now)) ∙ c.if-is_in_scope.false) (sym c.in-Some.ensures.known) (ap (λ z. fits (facts_of c.args.context.now.known) z (kind_at (classes_at c.args.context.now) c.args.given)) (sym c.in-Some.ensures.is) ∙ sym c.kind_fits.ensures ∙ c.if-not-kind_fits.false) (sym c.has_room.ensures ∙ c.if-has_room.false)
