use Rattle.som_class_variables.proofs.Placing.{row_facts}
use Rattle.som_class_variables.proofs.places.fill_row.Goals as goal

pub fill-requires-clause-parents : goal.fill-requires-clause-parents
fill-requires-clause-parents c = rw c.as_slice-parents.ensures (row_facts c.args.classes.now c.know_loaded.ensures c.args.table.now c.args.counts.now c.args.shifts.now c.requires.shifted c.requires.counts c.requires.placed c.args.class c.requires.numbered c.requires.class
    c.parents.result.now c.parents.ensures.keys c.parents.ensures.lower c.requires.parents c.above.result.now c.above.ensures.numbered c.above.ensures.keys c.in_ok-start.start (rw c.own_count-count.ensures at c.in_ok-start.ensures)
    c.in_ok-own.own (λ i lt. c.in_ok-own.ensures.each i (rw c.own_count-count.ensures lt))).parents

pub fill-requires-clause-inherited : goal.fill-requires-clause-inherited
fill-requires-clause-inherited c = rw (c.as_slice-parents.ensures, c.as_slice-2.ensures, c.in_ok-others.ensures.bases, c.left_after-left.ensures) (row_facts c.args.classes.now c.know_loaded.ensures c.args.table.now c.args.counts.now c.args.shifts.now c.requires.shifted c.requires.counts c.requires.placed c.args.class c.requires.numbered c.requires.class
    c.parents.result.now c.parents.ensures.keys c.parents.ensures.lower c.requires.parents c.above.result.now c.above.ensures.numbered c.above.ensures.keys c.in_ok-start.start (rw c.own_count-count.ensures at c.in_ok-start.ensures)
    c.in_ok-own.own (λ i lt. c.in_ok-own.ensures.each i (rw c.own_count-count.ensures lt))).inherited

pub fill-requires-clause-distinct : goal.fill-requires-clause-distinct
fill-requires-clause-distinct c = rw (c.as_slice-2.ensures, c.in_ok-others.ensures.bases, c.left_after-left.ensures) (row_facts c.args.classes.now c.know_loaded.ensures c.args.table.now c.args.counts.now c.args.shifts.now c.requires.shifted c.requires.counts c.requires.placed c.args.class c.requires.numbered c.requires.class
    c.parents.result.now c.parents.ensures.keys c.parents.ensures.lower c.requires.parents c.above.result.now c.above.ensures.numbered c.above.ensures.keys c.in_ok-start.start (rw c.own_count-count.ensures at c.in_ok-start.ensures)
    c.in_ok-own.own (λ i lt. c.in_ok-own.ensures.each i (rw c.own_count-count.ensures lt))).distinct

pub returns-clause-placed : goal.returns-clause-placed
returns-clause-placed c = (row_facts c.args.classes.now c.know_loaded.ensures c.args.table.now c.args.counts.now c.args.shifts.now c.requires.shifted c.requires.counts c.requires.placed c.args.class c.requires.numbered c.requires.class
    c.parents.result.now c.parents.ensures.keys c.parents.ensures.lower c.requires.parents c.above.result.now c.above.ensures.numbered c.above.ensures.keys c.in_ok-start.start (rw c.own_count-count.ensures at c.in_ok-start.ensures)
    c.in_ok-own.own (λ i lt. c.in_ok-own.ensures.each i (rw c.own_count-count.ensures lt))).placed c.fill.new.self (rw (c.as_slice-parents.ensures, c.as_slice.ensures, c.as_slice-2.ensures, c.in_ok-others.ensures.bases, c.left_after-left.ensures) at c.in_ok-fill.ensures.filled)

pub returns-clause-filled : goal.returns-clause-filled
returns-clause-filled c = (row_facts c.args.classes.now c.know_loaded.ensures c.args.table.now c.args.counts.now c.args.shifts.now c.requires.shifted c.requires.counts c.requires.placed c.args.class c.requires.numbered c.requires.class
    c.parents.result.now c.parents.ensures.keys c.parents.ensures.lower c.requires.parents c.above.result.now c.above.ensures.numbered c.above.ensures.keys c.in_ok-start.start (rw c.own_count-count.ensures at c.in_ok-start.ensures)
    c.in_ok-own.own (λ i lt. c.in_ok-own.ensures.each i (rw c.own_count-count.ensures lt))).filled c.fill.new.self (rw (c.as_slice-parents.ensures, c.as_slice.ensures, c.as_slice-2.ensures, c.in_ok-others.ensures.bases, c.left_after-left.ensures) at c.in_ok-fill.ensures.filled)

pub returns-clause-others : goal.returns-clause-others
returns-clause-others c = (row_facts c.args.classes.now c.know_loaded.ensures c.args.table.now c.args.counts.now c.args.shifts.now c.requires.shifted c.requires.counts c.requires.placed c.args.class c.requires.numbered c.requires.class
    c.parents.result.now c.parents.ensures.keys c.parents.ensures.lower c.requires.parents c.above.result.now c.above.ensures.numbered c.above.ensures.keys c.in_ok-start.start (rw c.own_count-count.ensures at c.in_ok-start.ensures)
    c.in_ok-own.own (λ i lt. c.in_ok-own.ensures.each i (rw c.own_count-count.ensures lt))).others c.fill.new.self (rw (c.as_slice-parents.ensures, c.as_slice.ensures, c.as_slice-2.ensures, c.in_ok-others.ensures.bases, c.left_after-left.ensures) at c.in_ok-fill.ensures.filled)

pub returns-clause-count : goal.returns-clause-count
returns-clause-count c = (row_facts c.args.classes.now c.know_loaded.ensures c.args.table.now c.args.counts.now c.args.shifts.now c.requires.shifted c.requires.counts c.requires.placed c.args.class c.requires.numbered c.requires.class
    c.parents.result.now c.parents.ensures.keys c.parents.ensures.lower c.requires.parents c.above.result.now c.above.ensures.numbered c.above.ensures.keys c.in_ok-start.start (rw c.own_count-count.ensures at c.in_ok-start.ensures)
    c.in_ok-own.own (λ i lt. c.in_ok-own.ensures.each i (rw c.own_count-count.ensures lt))).counted c.in_ok-others.end (rw c.left_after-left.ensures at c.in_ok-others.ensures.end)
