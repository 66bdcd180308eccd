use Rattle.std.proofs.Common.{List, length, subst, sym}
use Rattle.som_compat_levels.specs.Conditions.{AreComparable}
use Rattle.som_flat_laws.specs.AcceptedTower.{with_own}
use Rattle.som_model.specs.declared.program.Interface.{Interface}
use Rattle.som_tower.specs.Towers.{plain}
use Rattle.som_test_towers.proofs.Owning.{comparable}
use Rattle.som_test_towers.proofs.comparing.compare.Goals as goal

pub compatible_levels-requires : goal.compatible_levels-requires
compatible_levels-requires c =
    let old = c.args.old.now in
    let new = c.args.new.now in
    subst (λ (z : List Interface). AreComparable z c.in_ok-news.news) (sym c.in_ok-olds.ensures)
    (subst (λ (z : List Interface). AreComparable (with_own (plain old)) z) (sym c.in_ok-news.ensures) (comparable (length old.sizes) old new c.requires.old c.requires.new))
