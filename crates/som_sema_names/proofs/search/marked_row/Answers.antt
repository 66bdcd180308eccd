use Rattle.std.proofs.Common.{arith}
use Rattle.som_sema_names.proofs.search.marked_row.Goals as goal

pub mark_all-requires-clause-low : goal.mark_all-requires-clause-low
mark_all-requires-clause-low c = λ p m. let h = c.past.ensures p m in omega (arith, h, c.in_ok-resize.ensures.len, c.deref_mut.ensures.len)
