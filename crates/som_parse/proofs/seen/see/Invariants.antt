use Rattle.std.proofs.Common.{◌≡◌, ◌++◌, drop}
use Rattle.som_parse.specs.Seen.{places_from, seen_from}
use Rattle.som_parse.proofs.seen.see.Given as goal

abbrev pub invariant-loop-place : goal.invariant-loop-place
invariant-loop-place l = record {
  tokens : l.seen.tokens.items ++ seen_from l.source l.place (drop l.place l.token-items) ≡ seen_from l.tokens.source 0 l.tokens.list;
  places : l.seen.places.items ++ places_from l.source l.place (drop l.place l.token-items) ≡ places_from l.tokens.source 0 l.tokens.list;
}
