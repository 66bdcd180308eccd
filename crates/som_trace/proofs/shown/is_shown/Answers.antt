use Rattle.std.proofs.Common.{refl, sym, ap, ◌∙◌}
use Rattle.som_model.specs.ClassNames.{class_name}
use Rattle.som_meta.specs.Numbering.{key_at}
use Rattle.som_trace.specs.Choices.{shown_by}
use Rattle.som_trace.specs.declared.filter.TraceChoice.{TraceChoice}
use Rattle.som_trace.proofs.Names.{named_is}
use Rattle.som_trace.proofs.shown.is_shown.Goals as goal

pub returns-in-Named : goal.returns-in-Named
returns-in-Named g c =
    c.answer.ensures ∙ ap (shown_by c.args.filter.now.choice) (sym (ap class_name c.in-Named.ensures ∙ named_is c.in-Named.module c.in-Named.name.now))

pub returns-then-shows_nothing : goal.returns-then-shows_nothing
returns-then-shows_nothing g c =
    sym (ap (λ (z : TraceChoice). shown_by z (class_name (key_at (g.N.ClassKeys.known c.args.classes.now) c.args.class))) (c.if-shows_nothing.ensures refl))
