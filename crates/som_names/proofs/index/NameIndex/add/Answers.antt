use Rattle.std.proofs.Common.{sym}
use Rattle.std.proofs.lemmas.Bool.{ne_eqb}
use Rattle.som_names.proofs.index.NameIndex.add.Goals as goal

pub returns-in-Ok-clause-others : goal.returns-in-Ok-clause-others
returns-in-Ok-clause-others c = λ d ne. rw (← c.self.view_is) (c.in-Ok.ensures.updates.2 d (ne_eqb c.args.class d (λ e. ne (sym e))))
