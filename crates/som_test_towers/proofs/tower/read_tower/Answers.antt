use Rattle.std.proofs.Common.{◌+◌, subst, sym, true}
use Rattle.som_test_towers.specs.Reading.{IsRead}
use Rattle.som_test_towers.proofs.tower.read_tower.Goals as goal

pub returns-clause-read : goal.returns-clause-read
returns-clause-read c = record {
  base = c.in_ok-base.ensures;
  uppers = c.in_ok-uppers.ensures.read;
  client = subst (λ n. IsRead (n + 1) true c.in_ok-client.client) (sym c.in_ok-uppers.ensures.many) c.in_ok-client.ensures;
}
