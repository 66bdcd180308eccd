use Rattle.std.proofs.Common.{◌≡◌, ◌∙◌, arith, map}
use Rattle.std.proofs.lemmas.Result.{IfOk-weaker}
use Rattle.som_meta.specs.Numbering.{AreNumbered, key_at}
use Rattle.som_meta.specs.Planning.{chosen_key, constraints, plan_key, plan_of, planned}
use Rattle.som_model.specs.Classes.{parents_of}
use Rattle.som_model.specs.Metaclass.{meta}
use Rattle.som_class_load_order.specs.Metas.{plan_numbers}
use Rattle.som_class_load_order.proofs.Choosing.{constraints_numbered, high_is, metas_numbered, parents_metas, plan_numbered}
use Rattle.som_class_load_order.proofs.choice.plan.Goals as goal

pub metas_of-requires : goal.metas_of-requires
metas_of-requires c = λ n m. let lt = c.parents.ensures.lower n (rw c.as_slice.ensures at m) in omega (arith, lt, c.requires.lower)

pub metaclass_of-requires : goal.metaclass_of-requires
metaclass_of-requires c =
    let k = c.args.classes.now in
    rw (c.in_ok-parents.ensures, c.as_slice.ensures)
    (constraints_numbered k c.declared_metaclass-declared.result _ c.declared_metaclass-declared.ensures.numbered
    (metas_numbered k c.args.metas.now c.requires.metas c.parents.result.now (λ n m. let lt = c.parents.ensures.lower n m in omega (arith, lt, c.requires.lower))))

pub returns-clause-numbered : goal.returns-clause-numbered
returns-clause-numbered c =
    let k = c.args.classes.now in
    let d = c.declared_metaclass-declared in
    let ms = c.in_ok-parents.parents in
    let all : AreNumbered k (constraints d.result ms) = rw (c.in_ok-parents.ensures, c.as_slice.ensures)
    (constraints_numbered k d.result _ d.ensures.numbered
    (metas_numbered k c.args.metas.now c.requires.metas c.parents.result.now (λ n m. let lt = c.parents.ensures.lower n m in omega (arith, lt, c.requires.lower)))) in
    IfOk-weaker c.metaclass_of.result (λ plan. plan ≡ plan_of (planned k d.result ms)) (λ plan. AreNumbered k (plan_numbers plan)) (λ plan e. plan_numbered k d.result ms plan all e) c.metaclass_of.ensures.plan

pub returns-clause-meta : goal.returns-clause-meta
returns-clause-meta c =
    let k = c.args.classes.now in
    let x = key_at k c.args.class in
    let d = c.declared_metaclass-declared in
    let ms = c.in_ok-parents.parents in
    let parents : map (key_at k) ms ≡ map (meta k.classes) (parents_of k.classes x) = rw (c.in_ok-parents.ensures, c.as_slice.ensures)
    (parents_metas k c.args.metas.now c.requires.metas x c.parents.result.now (λ n m. let lt = c.parents.ensures.lower n m in omega (arith, lt, c.requires.lower)) c.parents.ensures.keys) in
    IfOk-weaker c.metaclass_of.result (λ plan. plan_key k plan ≡ chosen_key k d.result ms) (λ plan. plan_key k plan ≡ meta k.classes x)
    (λ plan e. e ∙ high_is k c.requires.loaded x d.result ms c.requires.high d.ensures.key parents) c.metaclass_of.ensures.meta
