use Rattle.std.proofs.Common.{sym, ◌∙◌, arith}
use Rattle.som_verify_forms.specs.Knowing.{all_of}
use Rattle.som_model_laws.proofs.Listed.{mem_at}
use Rattle.som_elab_body.specs.Forms.{method_at}
use Rattle.som_elab_body.proofs.MethodLaws.{first_here, first_skips}
use Rattle.som_elab_body.proofs.methods.first_introducing.Goals as goal

pub introduced-requires-clause-place : goal.introduced-requires-clause-place
introduced-requires-clause-place c = c.requires.list _ (mem_at c.args.list.now c.loop-place.place-index 0 c.loop-place-test.true)

pub loop-place-preserved : goal.loop-place-preserved
loop-place-preserved c =
    let known = c.args.known.now in
    let list = c.args.list.now in
    let i = c.loop-place.place-index in
    let within = c.requires.list _ (mem_at list i 0 c.loop-place-test.true) in
    first_skips (all_of known) known.lists.now c.requires.known.lists c.args.name.now list i _ (omega arith) c.loop-place-test.true within c.in-None.ensures ∙ c.loop-place.invariant

pub returns-in-Some : goal.returns-in-Some
returns-in-Some c =
    let known = c.args.known.now in
    let list = c.args.list.now in
    let i = c.loop-place.place-index in
    let within = c.requires.list _ (mem_at list i 0 c.loop-place-test.true) in (
      sym c.loop-place.invariant ∙ first_here (all_of known) known.lists.now c.requires.known.lists c.args.name.now list i (method_at (all_of known) c.args.name.now c.in-Some.found) c.loop-place-test.true within c.in-Some.ensures.0,
      c.in-Some.ensures.1,
    )
