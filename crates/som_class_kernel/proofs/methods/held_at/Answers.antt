use Rattle.std.proofs.Common.{◌∙◌, ap, Some, sym}
use Rattle.som_model.specs.declared.class.Body.{Body}
use Rattle.som_class_ids.specs.Classes.{class_of}
use Rattle.som_meta.specs.Numbering.{method_at}
use Rattle.som_class_bodies.specs.Bodies.{held_body}
use Rattle.som_class_kernel.proofs.Holding.{intro_held, over_class, over_held}
use Rattle.som_class_kernel.proofs.methods.held_at.Goals as goal

pub bounds-as_slice-from : goal.bounds-as_slice-from
bounds-as_slice-from c =
    (intro_held c.args.classes.now c.count-count.ensures.loaded c.args.body.now c.requires (class_of c.declared.result.now) c.declared.ensures.class c.in-Introduced.place c.from.result c.in-Introduced.is c.from.ensures
    c.as_slice.result.now c.as_slice.ensures).0

pub returns-in-Introduced : goal.returns-in-Introduced
returns-in-Introduced c =
    (intro_held c.args.classes.now c.count-count.ensures.loaded c.args.body.now c.requires (class_of c.declared.result.now) c.declared.ensures.class c.in-Introduced.place c.from.result c.in-Introduced.is c.from.ensures
    c.as_slice.result.now c.as_slice.ensures).1 c.index-as_slice-from.result
    ∙ ap (λ (z : Body). Some (held_body z)) (sym c.index-as_slice-from.is)
    ∙ ap (λ z. Some z) (sym (c.held_body.ensures (method_at c.args.classes.now c.args.body.now.method).name))

pub declared-requires-in-Overriding : goal.declared-requires-in-Overriding
declared-requires-in-Overriding c = over_class c.args.classes.now c.count-count.ensures.loaded c.args.body.now c.requires c.in-Overriding.place c.in-Overriding.is

pub bounds-overrides-from : goal.bounds-overrides-from
bounds-overrides-from c =
    (over_held c.args.classes.now c.count-count.ensures.loaded c.args.body.now c.requires (class_of c.declared-in-Overriding.result.now) c.declared-in-Overriding.ensures.class c.in-Overriding.place c.from-in-Overriding.result c.in-Overriding.is
    c.from-in-Overriding.ensures c.as_slice-overrides.result.now c.as_slice-overrides.ensures).0

pub returns-in-Overriding : goal.returns-in-Overriding
returns-in-Overriding c =
    (over_held c.args.classes.now c.count-count.ensures.loaded c.args.body.now c.requires (class_of c.declared-in-Overriding.result.now) c.declared-in-Overriding.ensures.class c.in-Overriding.place c.from-in-Overriding.result c.in-Overriding.is
    c.from-in-Overriding.ensures c.as_slice-overrides.result.now c.as_slice-overrides.ensures).1 c.index-overrides-from.result
