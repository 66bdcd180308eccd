use Rattle.std.proofs.Common.{List, ◌++◌, ap, sym, subst, ◌∙◌}
use Rattle.som_model.specs.Class.{Class}
use Rattle.som_model.specs.Conforming.{faces_breach}
use Rattle.som_model.specs.Kernel.{kernel}
use Rattle.som_witness_programs.specs.Conditions.{AreFew}
use Rattle.som_witness_programs.proofs.Concluding.{declared_are}
use Rattle.som_witness_programs.proofs.Counted.{few}
use Rattle.som_witness_programs.proofs.answering.client_among.Goals as goal

pub client_declared-requires-clause-old : goal.client_declared-requires-clause-old
client_declared-requires-clause-old c =
    let r = c.requires.old in
    ap faces_breach (declared_are r.0 c.args.olds.now c.new.result.items c.in_ok-old_declared.old_declared.items c.as_slice.result.now r.2 c.new.ensures.items c.in_ok-old_declared.ensures c.as_slice.ensures.value) ∙ r.1.rules

pub client_declared-requires-clause-new : goal.client_declared-requires-clause-new
client_declared-requires-clause-new c =
    let r = c.requires.new in
    ap faces_breach (declared_are r.0 c.args.news.now c.new-2.result.items c.in_ok-new_declared.new_declared.items c.as_slice-2.result.now r.2 c.new-2.ensures.items c.in_ok-new_declared.ensures c.as_slice-2.ensures.value) ∙ r.1.rules

pub client_declared-requires-clause-few : goal.client_declared-requires-clause-few
client_declared-requires-clause-few c =
    let r = c.requires.old in
    subst (λ (cs : List Class). AreFew (kernel ++ cs)) (sym (declared_are r.0 c.args.olds.now c.new.result.items c.in_ok-old_declared.old_declared.items c.as_slice.result.now r.2 c.new.ensures.items c.in_ok-old_declared.ensures c.as_slice.ensures.value)) (few r.0 r.1)

pub returns : goal.returns
returns c = λ old new m e f.
    c.client_declared.ensures old new m
    (declared_are old c.args.olds.now c.new.result.items c.in_ok-old_declared.old_declared.items c.as_slice.result.now e c.new.ensures.items c.in_ok-old_declared.ensures c.as_slice.ensures.value)
    (declared_are new c.args.news.now c.new-2.result.items c.in_ok-new_declared.new_declared.items c.as_slice-2.result.now f c.new-2.ensures.items c.in_ok-new_declared.ensures c.as_slice-2.ensures.value)
