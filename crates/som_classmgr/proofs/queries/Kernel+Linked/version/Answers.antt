use Rattle.std.proofs.Common.{◌≡◌, ◌∙◌, Some, length, ap, arith, slice_get, subst}
use Rattle.som_meta.specs.Numbering.{Numbering}
use Rattle.som_class_ids.specs.Classes.{class_of}
use Rattle.som_class_table.specs.Loaded.{AreLoaded}
use Rattle.som_class_kernel.specs.Linked.{Linkage}
use Rattle.som_classmgr.proofs.Reading.{version_at, version_made}
use Rattle.som_classmgr.proofs.queries.Kernel+Linked.version.Goals as goal

pub returns-then-number-declared_count : goal.returns-then-number-declared_count
returns-then-number-declared_count c =
    let s = c.self.view_is in
    let loaded = subst (λ (z : Linkage). AreLoaded z.classes) s c.classes-classes.ensures.loaded in
    let value = c.classes-classes.ensures.value ∙ ap (λ (z : Linkage). z.classes) s in
    version_at c.args.self.now.classes loaded c.args.class (class_of c.declared.result.now)
    (subst (λ (k : Numbering). slice_get k.classes c.args.class ≡ Some (class_of c.declared.result.now)) value c.declared.ensures.class)

pub returns-else-number-declared_count : goal.returns-else-number-declared_count
returns-else-number-declared_count c =
    let s = c.self.view_is in
    let loaded = subst (λ (z : Linkage). AreLoaded z.classes) s c.classes-classes.ensures.loaded in
    let value = c.classes-classes.ensures.value ∙ ap (λ (z : Linkage). z.classes) s in
    let long = ap (λ (k : Numbering). length k.classes) value in
    let count = c.declared_count.ensures.count in
    let number = c.number.ensures in
    let le = c.if-number-declared_count.false in
    version_made c.args.self.now.classes loaded c.args.class c.requires (omega (arith, long, count, number, le))
