use Rattle.std.proofs.Common.{◌∙◌, List, [], ℕ, Some, slice_index_or, ap, sym, arith}
use Rattle.som_verify_classes.specs.Places.{class_of_place, face_at, key_at}
use Rattle.som_compat_levels.specs.Tables.{classes_in}
use Rattle.som_compat_levels.proofs.Descent.{eq_false, eq_true, k3_kept, k3_lost, listed, listed_end, mark_here, name_declared, next_kept}
use Rattle.som_compat_levels.proofs.Failing.{told_is}
use Rattle.som_compat_levels.proofs.Keyed.{key_here}
use Rattle.som_compat_levels.proofs.Known.{known}
use Rattle.som_compat_levels.proofs.ancestors.keeps_ancestors.Goals as goal

pub number_at-requires : goal.number_at-requires
number_at-requires c =
    let O = classes_in c.args.old.now in
    let N = classes_in c.args.new.now in
    let ko = known O c.requires.old.stand in
    let all = c.args.old.now.tables.now.ancestors.items in
    let lists = c.requires.old.tables.lists in
    let is = c.item-list.ensures ∙ ap (λ (z : List (List ℕ)). slice_index_or z c.args.place []) c.deref.ensures.value in
    let at = listed O ko all lists c.args.place c.loop-number.number c.item-list.result.now c.requires.place is c.loop-number-test.true in
    let a_is = c.number_at-ancestor.ensures in
    let l = at.low in
    omega (arith, a_is, l, c.requires.pairs.long, c.requires.place)

pub number_at-requires-in-loop-number : goal.number_at-requires-in-loop-number
number_at-requires-in-loop-number c =
    let O = classes_in c.args.old.now in
    let N = classes_in c.args.new.now in
    let ko = known O c.requires.old.stand in
    let all = c.args.old.now.tables.now.ancestors.items in
    let lists = c.requires.old.tables.lists in
    let is = c.item-list.ensures ∙ ap (λ (z : List (List ℕ)). slice_index_or z c.args.place []) c.deref.ensures.value in
    let at = listed O ko all lists c.args.place c.loop-number.number c.item-list.result.now c.requires.place is c.loop-number-test.true in
    let a = slice_index_or c.item-list.result.now c.loop-number.number 0 in
    let pair = c.requires.pairs.by a (let l = at.low in omega (arith, l)) in
    let r_is = c.number_at.ensures ∙ ap (λ (z : ℕ). slice_index_or c.args.pairs.now z 0) c.number_at-ancestor.ensures in
    let w = pair.within in
    omega (arith, r_is, w, c.requires.marks.long)

pub class_name-requires-then-number_at-mark : goal.class_name-requires-then-number_at-mark
class_name-requires-then-number_at-mark c =
    let O = classes_in c.args.old.now in
    let N = classes_in c.args.new.now in
    let ko = known O c.requires.old.stand in
    let all = c.args.old.now.tables.now.ancestors.items in
    let lists = c.requires.old.tables.lists in
    let is = c.item-list.ensures ∙ ap (λ (z : List (List ℕ)). slice_index_or z c.args.place []) c.deref.ensures.value in
    let at = listed O ko all lists c.args.place c.loop-number.number c.item-list.result.now c.requires.place is c.loop-number-test.true in
    let a_is = c.number_at-ancestor.ensures in
    let l = at.within in
    omega (arith, a_is, l)

pub overflow_cast-result : goal.overflow_cast-result
overflow_cast-result c =
    let O = classes_in c.args.old.now in
    let N = classes_in c.args.new.now in
    let ko = known O c.requires.old.stand in
    let all = c.args.old.now.tables.now.ancestors.items in
    let lists = c.requires.old.tables.lists in
    let is = c.item-list.ensures ∙ ap (λ (z : List (List ℕ)). slice_index_or z c.args.place []) c.deref.ensures.value in
    let at = listed O ko all lists c.args.place c.loop-number.number c.item-list.result.now c.requires.place is c.loop-number-test.true in
    let l = at.few in
    omega (arith, l, c.loop-number-test.true, c.requires.old.stand.few)

pub returns-then-number_at-mark : goal.returns-then-number_at-mark
returns-then-number_at-mark c =
    let O = classes_in c.args.old.now in
    let N = classes_in c.args.new.now in
    let ko = known O c.requires.old.stand in
    let all = c.args.old.now.tables.now.ancestors.items in
    let lists = c.requires.old.tables.lists in
    let is = c.item-list.ensures ∙ ap (λ (z : List (List ℕ)). slice_index_or z c.args.place []) c.deref.ensures.value in
    let at = listed O ko all lists c.args.place c.loop-number.number c.item-list.result.now c.requires.place is c.loop-number-test.true in
    let a = slice_index_or c.item-list.result.now c.loop-number.number 0 in
    let pair = c.requires.pairs.by a (let l = at.low in omega (arith, l)) in
    let r_is = c.number_at.ensures ∙ ap (λ (z : ℕ). slice_index_or c.args.pairs.now z 0) c.number_at-ancestor.ensures in
    let test = mark_here O N (key_at O c.args.place) c.args.marks.now c.args.mark a (slice_index_or c.args.pairs.now a 0) c.number_at-in-loop-number.result c.requires.marks pair
    (c.number_at-in-loop-number.ensures ∙ ap (λ (z : ℕ). slice_index_or c.args.marks.now z 0) r_is) in
    let named = key_here c.args.old.now.classes.now a at.within in
    sym (k3_lost O N (class_of_place O c.args.place) c.loop-number.number (key_at O a) (Some (face_at O a).name) c.loop-number.invariant at.at (sym test ∙ eq_false _ _ c.if-number_at-mark.true) (name_declared (key_at O a) named.0 (face_at O a).name named.1)
    ∙ told_is 3 c.loop-number.number (class_of_place O c.args.place) c.class_name.result.now c.class_name-then-number_at-mark.result.now (face_at O a).name c.class_name.ensures
    (c.class_name-then-number_at-mark.ensures ∙ ap (λ (z : ℕ). (face_at O z).name) c.number_at-ancestor.ensures))

pub loop-number-preserved : goal.loop-number-preserved
loop-number-preserved c =
    let O = classes_in c.args.old.now in
    let N = classes_in c.args.new.now in
    let ko = known O c.requires.old.stand in
    let all = c.args.old.now.tables.now.ancestors.items in
    let lists = c.requires.old.tables.lists in
    let is = c.item-list.ensures ∙ ap (λ (z : List (List ℕ)). slice_index_or z c.args.place []) c.deref.ensures.value in
    let at = listed O ko all lists c.args.place c.loop-number.number c.item-list.result.now c.requires.place is c.loop-number-test.true in
    let a = slice_index_or c.item-list.result.now c.loop-number.number 0 in
    let pair = c.requires.pairs.by a (let l = at.low in omega (arith, l)) in
    let r_is = c.number_at.ensures ∙ ap (λ (z : ℕ). slice_index_or c.args.pairs.now z 0) c.number_at-ancestor.ensures in
    let test = mark_here O N (key_at O c.args.place) c.args.marks.now c.args.mark a (slice_index_or c.args.pairs.now a 0) c.number_at-in-loop-number.result c.requires.marks pair
    (c.number_at-in-loop-number.ensures ∙ ap (λ (z : ℕ). slice_index_or c.args.marks.now z 0) r_is) in
    next_kept O N (key_at O c.args.place) c.loop-number.number (key_at O a) c.loop-number.invariant at.at (sym test ∙ eq_true _ _ c.if-number_at-mark.false)

pub returns : goal.returns
returns c =
    let O = classes_in c.args.old.now in
    let N = classes_in c.args.new.now in
    let all = c.args.old.now.tables.now.ancestors.items in
    let lists = c.requires.old.tables.lists in
    let is = c.item-list.ensures ∙ ap (λ (z : List (List ℕ)). slice_index_or z c.args.place []) c.deref.ensures.value in
    sym (k3_kept O N (class_of_place O c.args.place) (λ i y at. c.loop-number.invariant i y (listed_end O all lists c.args.place c.loop-number.number i c.item-list.result.now y c.requires.place is c.loop-number-test.false at) at))
