use Rattle.std.proofs.Common.{◌≡◌, ◌-◌}
use Rattle.som_parse.specs.Readers.{one_more, turns}
use Rattle.som_parse.specs.Seen.{text_at}
use Rattle.som_parse.specs.Tokens.{is_sign}
use Rattle.som_parse.specs.declared.token.Sign.TheVariants as sign
use Rattle.som_idl.specs.Reading as spec
use Rattle.som_idl.proofs.item.items.Given as goal

abbrev pub invariant-loop-turn : goal.invariant-loop-turn
invariant-loop-turn l = record { same : spec.items_at (text_at l.tokens) l.fn.left.rest.now ≡ turns (one_more (is_sign sign.CloseBrace) (spec.item (text_at l.tokens))) (l._turn-end - l._turn) l.so_far l.left.rest.now }
