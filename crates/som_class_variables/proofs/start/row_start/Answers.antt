use Rattle.std.proofs.Common.{◌∙◌, ◌+◌, ap, arith, slice_index_or}
use Rattle.som_class_variables.proofs.Starting.{first_numbered, first_start}
use Rattle.som_class_variables.proofs.start.row_start.Goals as goal

pub bounds-counts-number : goal.bounds-counts-number
bounds-counts-number c =
    let num = first_numbered c.args.classes.now c.args.class c.requires.class c.as_slice.result.now (rw c.as_slice.ensures c.parents.ensures.lower) c.first-item.result c.in-len1-up.len_at_least c.first-item.is in
    omega (arith, num, c.number-number.ensures, c.requires.counts)

pub bounds-shifts-number : goal.bounds-shifts-number
bounds-shifts-number c =
    let num = first_numbered c.args.classes.now c.args.class c.requires.class c.as_slice.result.now (rw c.as_slice.ensures c.parents.ensures.lower) c.first-item.result c.in-len1-up.len_at_least c.first-item.is in
    omega (arith, num, c.number-number.ensures, c.requires.shifts)

pub ancestors-requires : goal.ancestors-requires
ancestors-requires c = first_numbered c.args.classes.now c.args.class c.requires.class c.as_slice.result.now (rw c.as_slice.ensures c.parents.ensures.lower) c.first-item.result c.in-len1-up.len_at_least c.first-item.is

pub returns : goal.returns
returns c =
    let items = c.as_slice.ensures in
    first_start c.args.classes.now c.args.counts.now c.args.shifts.now c.args.class c.args.own c.first-item.result c.as_slice.result.now (rw items c.parents.ensures.keys) c.in-len1-up.len_at_least c.first-item.is
    (first_numbered c.args.classes.now c.args.class c.requires.class c.as_slice.result.now (rw items c.parents.ensures.lower) c.first-item.result c.in-len1-up.len_at_least c.first-item.is)
    c.ancestors.result.now c.ancestors.ensures.keys (record { served = c.len.result; place = c.in_ok-place.place; shift = c.in_ok-shift.shift })
    c.len.ensures
    (c.in_ok-place.ensures ∙ ap (λ i. c.from-own.result + slice_index_or c.args.counts.now i 0) c.number-number.ensures ∙ ap (λ z. z + slice_index_or c.args.counts.now c.first-item.result 0) c.from-own.ensures)
    (c.in_ok-shift.ensures ∙ ap (λ i. c.from-own.result + slice_index_or c.args.shifts.now i 0) c.number-number.ensures ∙ ap (λ z. z + slice_index_or c.args.shifts.now c.first-item.result 0) c.from-own.ensures)
