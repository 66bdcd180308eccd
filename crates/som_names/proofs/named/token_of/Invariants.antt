use Rattle.std.proofs.Common.{◌≡◌, drop}
use Rattle.som_names.specs.Index.{token_in}
use Rattle.som_names.proofs.named.token_of.Given as goal

abbrev pub invariant-loop-place : goal.invariant-loop-place
invariant-loop-place l = token_in (drop l.place l.names) (drop l.place l.tokens) l.name ≡ token_in l.names l.tokens l.name
