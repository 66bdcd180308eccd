use Rattle.std.proofs.Common.{◌≡◌, ◌<◌, ◌∙◌, ap, arith, length, subst}
use Rattle.som_meta.specs.Numbering.{key_at}
use Rattle.som_model.specs.Metaclass.{meta}
use Rattle.som_class_ids.specs.Numbers.{with_key}
use Rattle.som_class_load_order.specs.Metas.{HasParents}
use Rattle.som_class_load_order.proofs.Closing.{closed_keys, closed_metas, closing_next, closing_start}
use Rattle.som_class_load_order.proofs.pass.number_metaclasses.Goals as goal

pub loop-alloc-init : goal.loop-alloc-init
loop-alloc-init c = rw c.new-metas.ensures (closing_start c.args.classes.now)

pub loop-alloc-preserved : goal.loop-alloc-preserved
loop-alloc-preserved c =
    let k = c.loop-alloc.classes in
    let ms = c.loop-alloc.metas in
    let m = c.in_ok-meta in
    let at : c.new-class.result ≡ length ms = omega (arith, c.new-class.ensures, c.len-in-loop-alloc.ensures) in
    let here : length ms < length k.keys = omega (arith, c.len.ensures, c.count.ensures.count, c.loop-alloc-test.true) in
    rw c.in_ok-push.ensures.ok
    (closing_next c.args.classes.now k ms c.loop-alloc.invariant m.meta here
    (subst (λ z. HasParents k (key_at k z)) at c.know_parents.ensures)
    c.number_metaclass.new.classes
    (subst (λ z. c.number_metaclass.new.classes ≡ with_key k (meta k.classes (key_at k z))) at m.ensures.keys)
    m.ensures.class.0
    (m.ensures.class.1 ∙ ap (λ z. meta k.classes (key_at k z)) at))

pub returns-clause-keys : goal.returns-clause-keys
returns-clause-keys c = closed_keys c.args.classes.now c.loop-alloc.classes c.loop-alloc.metas c.loop-alloc.invariant (omega (arith, c.count.ensures.count, c.len.ensures, c.loop-alloc-test.false))

pub returns-clause-metas : goal.returns-clause-metas
returns-clause-metas c = closed_metas c.args.classes.now c.loop-alloc.classes c.loop-alloc.metas c.loop-alloc.invariant (omega (arith, c.count.ensures.count, c.len.ensures, c.loop-alloc-test.false))
