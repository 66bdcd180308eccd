use Rattle.std.proofs.Common.{◌≡◌, ◌-◌}
use Rattle.som_parse.specs.Readers.{listed, another, turns}
use Rattle.som_parse.specs.Seen.{text_at}
use Rattle.som_idl.specs.Reading as spec
use Rattle.som_idl.proofs.item.modifiers.Given as goal

abbrev pub invariant-loop-turn : goal.invariant-loop-turn
invariant-loop-turn l = record { same : listed (spec.modifier (text_at l.tokens)) l.fn.left.rest.now ≡ turns (another (spec.modifier (text_at l.tokens))) (l._turn-end - l._turn) l.so_far l.left.rest.now }
