use Rattle.std.proofs.Common.{◌≡◌, ◌≤◌, ◌+◌, ◌-◌}
use Rattle.som_parse.specs.Readers.{turns}
use Rattle.som_parse.specs.Seen.{text_at}
use Rattle.som_body.specs.Reading as spec
use Rattle.som_body.proofs.rules.Rules.some_arguments.Given as goal

abbrev pub invariant-loop-turn : goal.invariant-loop-turn
invariant-loop-turn g l = record {
  same : spec.arguments_listed (text_at l.self.tokens.now) (spec.at (text_at l.self.tokens.now) l.self.depth) l.fn.left.rest.now
      ≡ turns (spec.argument (text_at l.self.tokens.now) (spec.at (text_at l.self.tokens.now) l.self.depth)) (l._turn-end - l._turn) l.so_far l.left.rest.now;
  low : l.so_far.height ≤ l.self.depth;
}
