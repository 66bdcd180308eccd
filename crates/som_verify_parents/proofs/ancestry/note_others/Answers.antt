use Rattle.std.proofs.Common.{◌≡◌, arith, length, sym, subst}
use Rattle.std.specs.Prelude.{OnOk}
use Rattle.som_model.specs.Lists.{Mem}
use Rattle.som_verify_parents.proofs.Covered.{noted_alone}
use Rattle.som_verify_parents.proofs.ancestry.note_others.Goals as goal

pub stand_below-requires : goal.stand_below-requires
stand_below-requires c = λ p m. let h = c.requires.others p m in omega (arith, h, c.requires.within)

pub returns-then-stand_below : goal.returns-then-stand_below
returns-then-stand_below c =
    let known = c.args.known.now in
    let alone = noted_alone c.args.rows.now (length known) known c.requires.rows c.requires.known c.args.list.now c.args.others.now c.requires.others
    (λ p q m k. subst (λ z. Mem q z) c.as_slice.ensures (c.stand_below.ensures c.if-stand_below.true p q m k)) c.requires.closed in
    subst (λ z. OnOk c.note_each.result (c.note_each.new.list ≡ z)) (sym alone) c.note_each.ensures

pub mark_all-requires-clause-list : goal.mark_all-requires-clause-list
mark_all-requires-clause-list c = λ a m. let h = c.requires.list a (rw c.as_slice-2.ensures at m) in omega (arith, h, c.deref_mut.ensures.len, c.in_ok-resize.ensures.len)
