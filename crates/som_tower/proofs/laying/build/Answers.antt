use Rattle.std.proofs.Common.{◌∷◌, [], ◌∙◌, Err, refl, ap, arith, map, subst, sym, take}
use Rattle.std.proofs.lemmas.Result.{err_from_is_err_and}
use Rattle.som_model.specs.Class.{interface_of}
use Rattle.som_tower.specs.Towers.{TellsTower, plain, tower_break}
use Rattle.som_tower.specs.declared.building.Built.{Built}
use Rattle.som_tower.proofs.Climbing.{comparable, is_flat}
use Rattle.som_tower.proofs.Reached.{item, level_sound, none_more, part_few, part_mem, reached, told_here}
use Rattle.som_tower.proofs.laying.build.Goals as goal

pub stand-requires-clause-flat : goal.stand-requires-clause-flat
stand-requires-clause-flat c =
    let it = item c.args.uppers.now c.as_slice-level-items.result.now c.loop-level.level-index c.level-item.result c.as_slice-level-items.ensures c.loop-level-test.true c.level-item.is in
    is_flat c.level-item.result (level_sound c.args.base.now c.args.uppers.now c.requires c.loop-level.level-index c.level-item.result it.0 it.1).sound

pub stand-requires-clause-comparable : goal.stand-requires-clause-comparable
stand-requires-clause-comparable c =
    let i = c.loop-level.level-index in
    let it = item c.args.uppers.now c.as_slice-level-items.result.now i c.level-item.result c.as_slice-level-items.ensures c.loop-level-test.true c.level-item.is in
    let u = level_sound c.args.base.now c.args.uppers.now c.requires i c.level-item.result it.0 it.1 in
    let few = part_few c.args.uppers.now i it.0 in
    comparable c.args.base.now c.args.uppers.now c.requires (take i c.args.uppers.now) (λ x m. part_mem i c.args.uppers.now x m) (let most = c.requires.few in omega (arith, few.0, few.1, most)) c.loop-level.built.interfaces c.loop-level.built.classes c.loop-level.invariant.built
    c.level-item.result u.sound (let at = u.levels in omega (arith, at, few.0))

pub loop-level-init : goal.loop-level-init
loop-level-init c = record { built = c.in_ok-built.ensures; none = refl }

pub loop-level-preserved : goal.loop-level-preserved
loop-level-preserved c =
    let it = item c.args.uppers.now c.as_slice-level-items.result.now c.loop-level.level-index c.level-item.result c.as_slice-level-items.ensures c.loop-level-test.true c.level-item.is in
    let e = c.in_ok-stand.ensures in
    record {
      built = reached c.args.base.now c.args.uppers.now c.requires c.loop-level.level-index c.level-item.result it.0 it.1 c.loop-level.built.interfaces c.loop-level.built.classes c.loop-level.invariant.built e.kept c.stand.new.built.interfaces e.interfaces c.stand.new.built.classes e.classes;
      none = none_more c.args.base.now c.args.uppers.now c.loop-level.level-index c.level-item.result it.0 it.1 c.loop-level.built.interfaces c.loop-level.built.classes c.loop-level.invariant.built c.loop-level.invariant.none e.tells;
    }

pub returns-in_err-stand-clause-tells : goal.returns-in_err-stand-clause-tells
returns-in_err-stand-clause-tells c =
    let i = c.loop-level.level-index in
    let l = c.level-item.result in
    let it = item c.args.uppers.now c.as_slice-level-items.result.now i l c.as_slice-level-items.ensures c.loop-level-test.true c.level-item.is in
    let p = err_from_is_err_and c.from_residual-in_err-stand.result c.from_residual-in_err-stand.ensures.1 in
    subst (TellsTower (tower_break (interface_of c.args.base.now ∷ []) (map plain c.args.uppers.now))) (sym (p.1 ∙ ap (λ z. Err z) p.2))
    (told_here Built c.args.base.now c.args.uppers.now i l it.0 it.1 c.loop-level.built.interfaces c.loop-level.built.classes c.loop-level.invariant.built c.loop-level.invariant.none c.in_err-stand.field-0.0 c.in_err-stand.ensures.tells)
