use Rattle.std.proofs.Common.{◌∙◌, List, [], ℕ, slice_index_or, ap, subst, arith}
use Rattle.som_model.specs.Lists.{Mem}
use Rattle.som_compat_levels.specs.Tables.{classes_in}
use Rattle.som_compat_levels.proofs.Descent.{are_above}
use Rattle.som_compat_levels.proofs.Known.{known}
use Rattle.som_compat_levels.proofs.ancestors.mark_ancestors.Goals as goal

pub mark_all-requires-clause-within : goal.mark_all-requires-clause-within
mark_all-requires-clause-within c = λ a m.
    let cs = classes_in c.args.levels.now in
    let lists = c.requires.levels.tables.lists in
    let is = c.item.ensures ∙ ap (λ (z : List (List ℕ)). slice_index_or z c.args.place []) c.deref.ensures.value in
    let low = lists.low c.args.place a (subst (λ (z : List ℕ). Mem a z) is m) in
    omega (arith, low, c.requires.long)

pub returns-clause-above : goal.returns-clause-above
returns-clause-above c =
    let cs = classes_in c.args.levels.now in
    let is = c.item.ensures ∙ ap (λ (z : List (List ℕ)). slice_index_or z c.args.place []) c.deref.ensures.value in
    are_above cs (known cs c.requires.levels.stand) c.args.levels.now.tables.now.ancestors.items c.requires.levels.tables.lists c.args.place c.args.mark c.mark_all.new.marks c.item.result.now c.requires.place is (c.mark_all.ensures.long ∙ c.requires.long) c.mark_all.ensures.marked
