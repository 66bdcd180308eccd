use Rattle.std.proofs.Common.{◌≡◌, ◌-◌}
use Rattle.som_parse.specs.Readers.{repeated, one_more, turns}
use Rattle.som_parse.specs.Seen.{text_at}
use Rattle.som_idl.specs.Reading as spec
use Rattle.som_idl.proofs.file.entries.Given as goal

abbrev pub invariant-loop-turn : goal.invariant-loop-turn
invariant-loop-turn l = record { same : repeated spec.ends_file (spec.entry (text_at l.tokens)) l.fn.left.rest.now ≡ turns (one_more spec.ends_file (spec.entry (text_at l.tokens))) (l._turn-end - l._turn) l.so_far l.left.rest.now }
