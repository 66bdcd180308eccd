use Rattle.std.proofs.Common.{◌<◌, ◌≡◌, ◌++◌, ◌∷◌, [], length, length-append, arith}
use Rattle.som_model.specs.declared.program.ClientProgram.{ClientProgram}
use Rattle.som_cliimage.specs.Limits.{IsWithinLimits}
use Rattle.som_cmd_steps.specs.ImageSteps.{program_in}
use Rattle.som_cmd_steps.proofs.InTurn.{read_more, one_more_has}
use Rattle.som_cmd_tasks.proofs.checking.read_programs.Goals as goal

pub loop-place-preserved : goal.loop-place-preserved
loop-place-preserved c =
    let within : c.loop-place.place < length c.args.images.now = omega (arith, c.requires) in
    let pushed : c.push.new.self ≡ c.loop-place.programs ++ c.in_ok-read_program.field-0 ∷ [] = c.in_ok-push.ensures.ok in
    rw pushed (record {
      read = read_more program_in c.args.names.now c.args.images.now c.loop-place.place c.index-names-place.result c.index-images-place.result c.loop-place-test.true c.index-names-place.is within c.index-images-place.is
          c.loop-place.programs c.in_ok-read_program.field-0 c.loop-place.invariant.read c.in_ok-read_program.ensures.follows;
      long = let l = length-append c.loop-place.programs (c.in_ok-read_program.field-0 ∷ []) in omega (arith, l, c.loop-place.invariant.long);
      within = one_more_has (λ (r : ClientProgram). IsWithinLimits r) c.loop-place.programs c.in_ok-read_program.field-0 c.loop-place.invariant.within c.in_ok-read_program.ensures.within;
    })
