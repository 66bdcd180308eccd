use Rattle.std.proofs.Common.{◌≡◌, ◌-◌}
use Rattle.som_parse.specs.Readers.{listed, another, turns}
use Rattle.som_parse.specs.Seen.{text_at}
use Rattle.som_body.specs.Reading as spec
use Rattle.som_body.proofs.file.some_params.Given as goal

abbrev pub invariant-loop-turn : goal.invariant-loop-turn
invariant-loop-turn l = record { same : listed (spec.name (text_at l.tokens)) l.fn.left.rest.now ≡ turns (another (spec.name (text_at l.tokens))) (l._turn-end - l._turn) l.so_far l.left.rest.now }
