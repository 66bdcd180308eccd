use Rattle.std.proofs.Common.{◌≡◌, ◌≤◌, ◌+◌, ◌-◌}
use Rattle.som_parse.specs.Readers.{repeat, turns}
use Rattle.som_parse.specs.Seen.{text_at}
use Rattle.som_body.specs.Reading as spec
use Rattle.som_body.proofs.rules.Rules.steps.Given as goal

abbrev pub invariant-loop-turn : goal.invariant-loop-turn
invariant-loop-turn g l = record {
  same : repeat (spec.step (text_at l.self.tokens.now) (spec.at (text_at l.self.tokens.now) l.self.depth) (l.self.depth + 1)) l.fn.first l.fn.left.rest.now
      ≡ turns (spec.step (text_at l.self.tokens.now) (spec.at (text_at l.self.tokens.now) l.self.depth) (l.self.depth + 1)) (l._turn-end - l._turn) l.so_far l.left.rest.now;
  low : l.so_far.height ≤ l.self.depth + 1;
}
