use Rattle.std.proofs.Common.{◌≡◌, ◌∙◌, length, map, ap, arith, subst}
use Rattle.som_model.specs.Classes.{hierarchy}
use Rattle.som_meta.specs.Numbering.{Numbering, key_at}
use Rattle.som_class_table.specs.Loaded.{AreLoaded}
use Rattle.som_class_kernel.specs.Linked.{IsLinked, Linkage}
use Rattle.som_class_kernel.proofs.Above.{parents_made}
use Rattle.som_classmgr.proofs.Reading.{low_numbered}
use Rattle.som_classmgr.proofs.queries.Kernel+Linked.parents.Goals as goal

pub returns-clause-numbered : goal.returns-clause-numbered
returns-clause-numbered c = λ i d lt. low_numbered c.parents.result.now c.args.class (length c.args.self.now.classes.keys) c.parents.ensures.lower c.requires i d lt

pub returns-clause-made : goal.returns-clause-made
returns-clause-made c = λ made p m.
    let s = c.self.view_is in
    let linked = subst IsLinked s c.classes.ensures.linked in
    let loaded = subst (λ (z : Linkage). AreLoaded z.classes) s c.classes.ensures.loaded in
    let value = c.classes.ensures.value ∙ ap (λ (z : Linkage). z.classes) s in
    let keys = subst (λ (k : Numbering). map (key_at k) c.parents.result.now ≡ (hierarchy k.classes).parents (key_at k c.args.class)) value c.parents.ensures.keys in
    let lower = c.parents.ensures.lower p m in
    let num = c.requires in
    parents_made c.args.self.now linked loaded c.args.class c.parents.result.now keys p m (omega (arith, lower, num)) made
