use Rattle.std.proofs.Common.{◌∙◌, ◌<◌, ◌≤◌, List, length, slice_get, ap, sym, subst}
use Rattle.som_model.specs.declared.class.Entry.{Entry}
use Rattle.som_verify_classes.specs.Places.{class_of_place, face_at}
use Rattle.som_compat_levels.specs.Tables.{classes_in}
use Rattle.som_model.specs.Class.{entry_name}
use Rattle.som_compat_levels.proofs.Failing.{told_is}
use Rattle.som_compat_levels.proofs.Lists.{item_get}
use Rattle.som_compat_levels.proofs.KeptMethods.{entry_exists, k5_kept, k5_lost, next_kept}
use Rattle.som_compat_levels.proofs.methods.keeps_methods.Goals as goal

pub loop-number-preserved : goal.loop-number-preserved
loop-number-preserved c =
    let O = classes_in c.args.old.now in
    let N = classes_in c.args.new.now in
    let own = entry_exists (face_at O c.args.place).entries c.loop-number.number (subst (λ (z : List Entry). c.loop-number.number < length z) c.entries_at-entries.ensures c.loop-number-test.true) in
    next_kept O N (class_of_place O c.args.place) c.loop-number.number own.0 c.loop-number.invariant own.1 (sym (c.keeps_method.ensures own.0 own.1) ∙ c.if-not-keeps_method.false)

pub returns-then-not-keeps_method : goal.returns-then-not-keeps_method
returns-then-not-keeps_method c =
    let O = classes_in c.args.old.now in
    let N = classes_in c.args.new.now in
    let own = c.index-entries-number.result in
    let at = ap (λ (z : List Entry). slice_get z c.loop-number.number) (sym c.entries_at-entries.ensures)
    ∙ item_get c.entries_at-entries.result.now c.loop-number.number own c.loop-number-test.true c.index-entries-number.is in
    sym (k5_lost O N (class_of_place O c.args.place) c.loop-number.number own c.loop-number.invariant at (sym (c.keeps_method.ensures own at) ∙ c.if-not-keeps_method.true)
    ∙ told_is 5 c.loop-number.number (class_of_place O c.args.place) c.class_name.result.now c.name_of.result.now (entry_name own) c.class_name.ensures c.name_of.ensures)

pub returns : goal.returns
returns c =
    let O = classes_in c.args.old.now in
    let N = classes_in c.args.new.now in
    sym (k5_kept O N (class_of_place O c.args.place) c.loop-number.number (subst (λ (z : List Entry). length z ≤ c.loop-number.number) c.entries_at-entries.ensures c.loop-number-test.false) c.loop-number.invariant)
