use Rattle.std.proofs.Common.{◌≡◌, ◌-◌}
use Rattle.som_parse.specs.Readers.{one_more, keeping, turns}
use Rattle.som_parse.specs.Seen.{text_at}
use Rattle.som_idl.specs.Reading as spec
use Rattle.som_idl.proofs.export.exports.Given as goal

abbrev pub invariant-loop-turn : goal.invariant-loop-turn
invariant-loop-turn l = record { same : spec.exports_at (text_at l.tokens) l.fn.left.rest.now ≡ turns (one_more spec.ends_exports (keeping (spec.export (text_at l.tokens)))) (l._turn-end - l._turn) l.so_far l.left.rest.now }
