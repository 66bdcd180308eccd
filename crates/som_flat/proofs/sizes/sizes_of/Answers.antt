use Rattle.std.proofs.Common.{List, subst}
use Rattle.som_model.specs.declared.program.Interface.{Interface}
use Rattle.som_model.specs.Lists.{Mem}
use Rattle.som_compat.proofs.Placed.{mem_at as there}
use Rattle.som_flat.proofs.sizes.sizes_of.Goals as goal

pub size_of-requires : goal.size_of-requires
size_of-requires c =
    let items = c.as_slice-level-items.result.now in
    (c.requires c.level-item.result (subst (λ (z : List Interface). Mem c.level-item.result z) c.as_slice-level-items.ensures
    (there items c.loop-level.level-index c.level-item.result c.loop-level-test.true c.level-item.is))).classes
