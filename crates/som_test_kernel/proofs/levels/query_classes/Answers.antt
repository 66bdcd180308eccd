use Rattle.std.proofs.Common.{arith}
use Rattle.som_test_kernel.proofs.Loading.{loads_empty}
use Rattle.som_test_kernel.proofs.levels.query_classes.Goals as goal

pub lay-requires : goal.lay-requires
lay-requires c = loads_empty _ _ c.requires (omega (arith, c.if-len.false, c.len.ensures)) c.new.ensures
