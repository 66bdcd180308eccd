use Rattle.std.proofs.Common.{◌<◌, arith, length, subst, sym}
use Rattle.som_model.specs.Conforming.{ProgramOk}
use Rattle.som_towerimage.specs.declared.level.Level.{Level}
use Rattle.som_test_towers.proofs.Standing.{conform_all, conform_more}
use Rattle.som_test_towers.proofs.tower.all_conform.Goals as goal

pub loop-place-preserved : goal.loop-place-preserved
loop-place-preserved c =
    let i = c.loop-place.place in
    let level = c.index-levels-place.result in
    let within : i < length c.args.levels.now = omega (arith, c.requires) in
    conform_more c.args.levels.now i level within c.index-levels-place.is c.loop-place.invariant
    (subst (λ (l : Level). ProgramOk l.program) (sym c.index-levels-place.is) c.in_ok-program_conforms.ensures)

pub returns : goal.returns
returns c = conform_all c.args.levels.now c.loop-place.place (omega (arith, c.requires)) c.loop-place.invariant
