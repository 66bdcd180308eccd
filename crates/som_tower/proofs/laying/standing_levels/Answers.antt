use Rattle.std.proofs.Common.{◌∷◌, [], ◌∙◌, None, Err, ap, map, sym}
use Rattle.std.proofs.lemmas.Result.{err_from_is_err_and}
use Rattle.som_model.specs.Class.{interface_of}
use Rattle.som_tower.specs.Towers.{plain, tower_break}
use Rattle.som_tower.specs.declared.building.Built.{Built}
use Rattle.som_tower.proofs.Breaking.{or_none, told_result}
use Rattle.som_tower.proofs.Climbing.{levels_load}
use Rattle.som_tower.proofs.laying.standing_levels.Goals as goal

pub returns-in_err-built-clause-tells : goal.returns-in_err-built-clause-tells
returns-in_err-built-clause-tells c =
    let breach = tower_break (interface_of c.args.base.now ∷ []) (map plain c.args.uppers.now) in
    let p = err_from_is_err_and c.from_residual.result c.from_residual.ensures.1 in
    told_result Built breach breach None c.from_residual.result c.in_err-built.field-0.0 (p.1 ∙ ap (λ z. Err z) p.2) (sym (or_none breach)) c.in_err-built.ensures.tells

pub returns-clause-loadable : goal.returns-clause-loadable
returns-clause-loadable c =
    levels_load c.args.base.now c.args.uppers.now c.requires c.args.uppers.now (λ x m. m) c.requires.few c.in_ok-built.built.interfaces c.in_ok-built.built.classes c.in_ok-built.ensures.built
