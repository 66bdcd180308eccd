use Rattle.std.proofs.Common.{◌∙◌, ◌↔◌, ◌<◌, List, [], ℕ, Option, None, false, length, slice_index_or, ap, sym, subst, refl, arith}
use Rattle.som_model.specs.Ancestors.{Descends}
use Rattle.som_model.specs.Lists.{some}
use Rattle.som_model_laws.specs.Rows.{rows_of}
use Rattle.som_compat.specs.Marks.{Marked}
use Rattle.som_compat.specs.Told.{metaclass_marked}
use Rattle.som_compat_levels.specs.Tables.{classes_in}
use Rattle.som_compat_levels.proofs.KeptMetaclasses.{meta_is, or_first, or_rest}
use Rattle.som_compat_levels.proofs.metaclasses.metaclass_descends.Goals as goal

pub mark_below-requires-clause-low : goal.mark_below-requires-clause-low
mark_below-requires-clause-low c = λ i p m. c.requires.levels.tables.rows.low i p (rw c.deref.ensures.value at m)

pub mark_below-requires-clause-long : goal.mark_below-requires-clause-long
mark_below-requires-clause-long c = let long = ap length c.deref.ensures.value in omega (arith, long, c.requires.long, c.requires.levels.tables.rows.long)

pub returns-then-is_marked-clause-is : goal.returns-then-is_marked-clause-is
returns-then-is_marked-clause-is c =
    let cs = classes_in c.args.levels.now in
    let t = c.requires.levels.tables in
    let rows = c.args.levels.now.tables.now.parents.items in
    let lists = c.args.levels.now.tables.now.ancestors.items in
    let ms = c.args.levels.now.tables.now.metaclasses.items in
    let marks = c.mark_below.new.below in
    let long = ap length c.deref.ensures.value in
    let so = λ (q : ℕ) (l : q < length cs). subst (λ (z : List (List ℕ)). Marked marks q ↔ Descends (rows_of z) q c.args.top) c.deref.ensures.value (c.mark_below.ensures.below q (omega (arith, l, long, t.rows.long))) in
    let list = slice_index_or lists c.args.place [] in
    let others = some (λ (a : ℕ). metaclass_marked (slice_index_or ms a None) marks) list in
    c.if-is_marked.true ∙ sym (or_first (slice_index_or marks 1 false) others (sym c.is_marked.ensures ∙ c.if-is_marked.true))
    ∙ meta_is cs c.requires.levels.stand rows lists ms t.rows t.lists t.metaclasses c.args.place c.args.top marks list c.requires.place c.requires.top refl so

pub returns-else-is_marked-clause-is : goal.returns-else-is_marked-clause-is
returns-else-is_marked-clause-is c =
    let cs = classes_in c.args.levels.now in
    let t = c.requires.levels.tables in
    let rows = c.args.levels.now.tables.now.parents.items in
    let lists = c.args.levels.now.tables.now.ancestors.items in
    let ms = c.args.levels.now.tables.now.metaclasses.items in
    let marks = c.mark_below.new.below in
    let long = ap length c.deref.ensures.value in
    let so = λ (q : ℕ) (l : q < length cs). subst (λ (z : List (List ℕ)). Marked marks q ↔ Descends (rows_of z) q c.args.top) c.deref.ensures.value (c.mark_below.ensures.below q (omega (arith, l, long, t.rows.long))) in
    let list = c.item.result.now in
    let is = c.item.ensures ∙ ap (λ (z : List (List ℕ)). slice_index_or z c.args.place []) c.deref-else-is_marked.ensures.value in
    let others = some (λ (a : ℕ). metaclass_marked (slice_index_or ms a None) marks) list in
    c.some_declares.ensures
    ∙ ap (λ (z : List (Option ℕ)). some (λ (a : ℕ). metaclass_marked (slice_index_or z a None) marks) list) c.deref-else-is_marked-2.ensures.value
    ∙ sym (or_rest (slice_index_or marks 1 false) others (sym c.is_marked.ensures ∙ c.if-is_marked.false))
    ∙ meta_is cs c.requires.levels.stand rows lists ms t.rows t.lists t.metaclasses c.args.place c.args.top marks list c.requires.place c.requires.top is so
