use Rattle.std.proofs.Common.{subst, sym}
use Rattle.som_model.specs.Ancestors.{Descends}
use Rattle.som_model.specs.Classes.{hierarchy}
use Rattle.som_model.specs.declared.key.ClassKey.{ClassKey}
use Rattle.som_meta.specs.Numbering.{key_at}
use Rattle.som_class_kernel.specs.Shown.{IsAnswer}
use Rattle.som_classmgr.proofs.Reached.{number}
use Rattle.som_classmgr.proofs.Reading.{parent_shown}
use Rattle.som_classmgr.proofs.methods.Kernel+Linked.parent_resolve.Goals as goal

pub parents-requires : goal.parents-requires
parents-requires g c = number c.args.self.now c.classes-classes.ensures.linked c.args.class c.requires.made

pub bounds-as_slice-from : goal.bounds-as_slice-from
bounds-as_slice-from g c =
    (parent_shown c.args.self.now.classes c.args.class c.args.parent c.parents.result.now c.parents.ensures.keys c.requires.parent.parent c.requires.parent.there c.as_slice.result.now c.as_slice.ensures c.from.result c.from.ensures).0

pub resolve-requires-clause-made : goal.resolve-requires-clause-made
resolve-requires-clause-made g c =
    let p = c.index-as_slice-from.result in
    let r = parent_shown c.args.self.now.classes c.args.class c.args.parent c.parents.result.now c.parents.ensures.keys c.requires.parent.parent c.requires.parent.there c.as_slice.result.now c.as_slice.ensures c.from.result c.from.ensures in
    c.parents.ensures.made c.requires.made p (r.1 p c.index-as_slice-from.is).0

pub resolve-requires-clause-below : goal.resolve-requires-clause-below
resolve-requires-clause-below g c =
    let k = c.args.self.now.classes in
    let p = c.index-as_slice-from.result in
    let r = parent_shown k c.args.class c.args.parent c.parents.result.now c.parents.ensures.keys c.requires.parent.parent c.requires.parent.there c.as_slice.result.now c.as_slice.ensures c.from.result c.from.ensures in
    subst (λ (z : ClassKey). Descends (hierarchy k.classes) z (key_at k c.args.method.0)) (sym (r.1 p c.index-as_slice-from.is).1) c.requires.parent.below

pub returns-clause-body : goal.returns-clause-body
returns-clause-body g c = λ q e.
    let k = c.args.self.now.classes in
    let p = c.index-as_slice-from.result in
    let r = parent_shown k c.args.class c.args.parent c.parents.result.now c.parents.ensures.keys q e c.as_slice.result.now c.as_slice.ensures c.from.result c.from.ensures in
    subst (λ (z : ClassKey). IsAnswer c.args.self.now z c.args.method c.resolve.result) (r.1 p c.index-as_slice-from.is).1 c.resolve.ensures.body
