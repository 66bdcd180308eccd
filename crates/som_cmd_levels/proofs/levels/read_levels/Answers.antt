use Rattle.std.proofs.Common.{arith}
use Rattle.som_cmd_levels.proofs.levels.read_levels.Goals as goal

pub returns-clause-levels : goal.returns-clause-levels
returns-clause-levels c = record {
  base = c.in_ok-base.ensures.within;
  uppers = c.in_ok-uppers.ensures.uppers;
  many = (let a = c.in_ok-uppers.ensures.many in let b = c.upper_names.ensures.many in omega (arith, a, b));
}
