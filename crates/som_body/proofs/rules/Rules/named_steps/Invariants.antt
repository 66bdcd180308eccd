use Rattle.std.proofs.Common.{◌≡◌, ◌≤◌, ◌+◌, ◌-◌}
use Rattle.som_parse.specs.Readers.{repeat, turns}
use Rattle.som_parse.specs.Seen.{text_at}
use Rattle.som_body.specs.Reading as spec
use Rattle.som_body.proofs.rules.Rules.named_steps.Given as goal

abbrev pub invariant-loop-turn : goal.invariant-loop-turn
invariant-loop-turn g l = record {
  same : repeat (spec.named_step (text_at l.self.tokens.now) (spec.at (text_at l.self.tokens.now) l.self.depth) (l.self.depth + 1)) l.fn.first l.fn.left.rest.now
      ≡ turns (spec.named_step (text_at l.self.tokens.now) (spec.at (text_at l.self.tokens.now) l.self.depth) (l.self.depth + 1)) (l._turn-end - l._turn) l.so_far l.left.rest.now;
  low : spec.named_height l.so_far ≤ l.self.depth + 1;
}
