use Rattle.som_values.proofs.operators.join.Goals as goal

pub returns-in-Str-Str-clause-seen : goal.returns-in-Str-Str-clause-seen
returns-in-Str-Str-clause-seen c = λ s p. c.join_texts.ensures.seen s

pub returns-in-Str-Str-clause-kept : goal.returns-in-Str-Str-clause-kept
returns-in-Str-Str-clause-kept c = λ os p. c.join_texts.ensures.kept os

pub returns-in-Str-EmptyStr-clause-seen : goal.returns-in-Str-EmptyStr-clause-seen
returns-in-Str-EmptyStr-clause-seen c = λ s p. c.join_texts-in-Str-EmptyStr.ensures.seen s

pub returns-in-Str-EmptyStr-clause-kept : goal.returns-in-Str-EmptyStr-clause-kept
returns-in-Str-EmptyStr-clause-kept c = λ os p. c.join_texts-in-Str-EmptyStr.ensures.kept os

pub returns-in-EmptyStr-Str-clause-seen : goal.returns-in-EmptyStr-Str-clause-seen
returns-in-EmptyStr-Str-clause-seen c = λ s p. c.join_texts-in-EmptyStr-Str.ensures.seen s

pub returns-in-EmptyStr-Str-clause-kept : goal.returns-in-EmptyStr-Str-clause-kept
returns-in-EmptyStr-Str-clause-kept c = λ os p. c.join_texts-in-EmptyStr-Str.ensures.kept os
