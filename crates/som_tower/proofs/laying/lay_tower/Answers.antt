use Rattle.std.proofs.Common.{◌++◌, ◌∷◌, [], ◌∙◌, Err, ap, map, subst, sym}
use Rattle.std.proofs.lemmas.Result.{err_from_is_err_and}
use Rattle.som_model.specs.Class.{interface_of}
use Rattle.som_tower.specs.Towers.{TellsTower, plain, tower_break}
use Rattle.som_tower.specs.declared.building.Built.{Built}
use Rattle.som_tower.proofs.Breaking.{break_append, break_last, told_result}
use Rattle.som_level_programs.specs.Towers.{own_interface}
use Rattle.som_tower.proofs.laying.lay_tower.Goals as goal

pub returns-in_err-built-clause-tells : goal.returns-in_err-built-clause-tells
returns-in_err-built-clause-tells c =
    let base = interface_of c.args.base.now ∷ [] in
    let levels = map plain c.args.uppers.now in
    let last = plain c.args.client.now ∷ [] in
    let p = err_from_is_err_and c.from_residual.result c.from_residual.ensures.1 in
    told_result Built (tower_break base levels) (tower_break base (levels ++ last)) (tower_break (base ++ map own_interface levels) last) c.from_residual.result c.in_err-built.field-0.0
    (p.1 ∙ ap (λ z. Err z) p.2) (break_append base levels last) c.in_err-built.ensures.tells

pub returns-clause-tells : goal.returns-clause-tells
returns-clause-tells c =
    subst (λ z. TellsTower z c.lay_client.result)
    (sym (break_last (interface_of c.args.base.now ∷ []) (map plain c.args.uppers.now) c.args.client.now c.in_ok-built.ensures.tells)) c.lay_client.ensures.tells
