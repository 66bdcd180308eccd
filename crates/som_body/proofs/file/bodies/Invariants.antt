use Rattle.std.proofs.Common.{◌≡◌, ◌-◌}
use Rattle.som_model.specs.declared.limits.TheConstants.{MAX_NESTING}
use Rattle.som_parse.specs.Readers.{keeping, repeated, one_more, turns}
use Rattle.som_parse.specs.Seen.{text_at}
use Rattle.som_body.specs.StatementReading as spec
use Rattle.som_body.proofs.file.bodies.Given as goal

abbrev pub invariant-loop-turn : goal.invariant-loop-turn
invariant-loop-turn l = record { same : repeated spec.ends_file (keeping (spec.body (text_at l.tokens) MAX_NESTING)) l.fn.left.rest.now ≡ turns (one_more spec.ends_file (keeping (spec.body (text_at l.tokens) MAX_NESTING))) (l._turn-end - l._turn) l.so_far l.left.rest.now }
