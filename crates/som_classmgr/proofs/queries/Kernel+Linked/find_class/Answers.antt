use Rattle.std.proofs.Common.{◌≡◌, ◌<◌, ◌∙◌, if◌then◌else◌, None, Some, ap, length, subst, sym}
use Rattle.std.specs.Option.{option_map}
use Rattle.std.specs.Int.{w32}
use Rattle.std.proofs.lemmas.Int.{to_z-of_z}
use Rattle.som_semantics.specs.Invoked.{version_fits}
use Rattle.som_semantics.specs.World.{named_class}
use Rattle.som_meta.specs.Numbering.{Numbering, key_at}
use Rattle.som_class_table.specs.Loaded.{AreLoaded}
use Rattle.som_class_kernel.specs.Linked.{Linkage}
use Rattle.som_classmgr.proofs.Reading.{declared_numbered, found_none, found_some}
use Rattle.som_classmgr.proofs.queries.Kernel+Linked.find_class.Goals as goal

pub returns-in_err-class-clause-key : goal.returns-in_err-class-clause-key
returns-in_err-class-clause-key c =
    let value = c.classes-classes.ensures.value ∙ ap (λ (z : Linkage). z.classes) c.self.view_is in
    let none : named_class c.args.self.now.classes.classes c.args.name.now ≡ None = sym (c.in_err-class.ensures.key ∙ ap (λ (k : Numbering). named_class k.classes c.args.name.now) value) in
    ap (option_map (key_at c.args.self.now.classes)) c.from_residual.ensures ∙ found_none c.args.self.now.classes.classes c.args.name.now c.args.major c.args.minor none

pub version-requires : goal.version-requires
version-requires c =
    let value = c.classes-classes.ensures.value ∙ ap (λ (z : Linkage). z.classes) c.self.view_is in
    declared_numbered c.args.self.now.classes (subst (λ (z : Linkage). AreLoaded z.classes) c.self.view_is c.classes-classes.ensures.loaded) c.in_ok-class.class
    (subst (λ (k : Numbering). c.in_ok-class.class < length k.classes) value c.in_ok-class.ensures.declared)

pub returns-then-version_fits-clause-numbered : goal.returns-then-version_fits-clause-numbered
returns-then-version_fits-clause-numbered c =
    let value = c.classes-classes.ensures.value ∙ ap (λ (z : Linkage). z.classes) c.self.view_is in
    declared_numbered c.args.self.now.classes (subst (λ (z : Linkage). AreLoaded z.classes) c.self.view_is c.classes-classes.ensures.loaded) c.in_ok-class.class
    (subst (λ (k : Numbering). c.in_ok-class.class < length k.classes) value c.in_ok-class.ensures.declared)

pub returns-then-version_fits-clause-key : goal.returns-then-version_fits-clause-key
returns-then-version_fits-clause-key c =
    let cs = c.args.self.now.classes.classes in
    let key = key_at c.args.self.now.classes c.in_ok-class.class in
    let value = c.classes-classes.ensures.value ∙ ap (λ (z : Linkage). z.classes) c.self.view_is in
    let some : named_class cs c.args.name.now ≡ Some key = sym (subst (λ (k : Numbering). Some (key_at k c.in_ok-class.class) ≡ named_class k.classes c.args.name.now) value c.in_ok-class.ensures.key) in
    ap (λ b. if b then Some key else None) ((rw (to_z-of_z w32 c.args.major c.ranges.major, to_z-of_z w32 c.args.minor c.ranges.minor) at c.if-version_fits.ensures) ∙ ap (λ v. version_fits v c.args.major c.args.minor) c.version.ensures) ∙ found_some cs c.args.name.now c.args.major c.args.minor key some

pub returns-else-version_fits-clause-key : goal.returns-else-version_fits-clause-key
returns-else-version_fits-clause-key c =
    let cs = c.args.self.now.classes.classes in
    let key = key_at c.args.self.now.classes c.in_ok-class.class in
    let value = c.classes-classes.ensures.value ∙ ap (λ (z : Linkage). z.classes) c.self.view_is in
    let some : named_class cs c.args.name.now ≡ Some key = sym (subst (λ (k : Numbering). Some (key_at k c.in_ok-class.class) ≡ named_class k.classes c.args.name.now) value c.in_ok-class.ensures.key) in
    ap (λ b. if b then Some key else None) ((rw (to_z-of_z w32 c.args.major c.ranges.major, to_z-of_z w32 c.args.minor c.ranges.minor) at c.if-version_fits.ensures) ∙ ap (λ v. version_fits v c.args.major c.args.minor) c.version.ensures) ∙ found_some cs c.args.name.now c.args.major c.args.minor key some
