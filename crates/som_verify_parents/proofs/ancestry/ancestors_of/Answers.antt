use Rattle.std.proofs.Common.{inl, inr, refl}
use Rattle.som_verify_parents.proofs.ancestry.ancestors_of.Goals as goal

pub ancestors_under-requires-clause-first : goal.ancestors_under-requires-clause-first
ancestors_under-requires-clause-first c = c.requires.row c.in-Some.first.now (rw c.in-Some.ensures.cases.0 (inl refl))

pub ancestors_under-requires-clause-others : goal.ancestors_under-requires-clause-others
ancestors_under-requires-clause-others c = λ p m. c.requires.row p (rw c.in-Some.ensures.cases.0 (inr m))
