use Rattle.std.proofs.Common.{ℕ, List, [], ◌∷◌, length, slice_index_or, arith, sym, subst, ap, ◌∙◌, length-append}
use Rattle.som_model.specs.Lists.{Mem}
use Rattle.som_sema_names.specs.Searching.{IsRow}
use Rattle.som_sema_names.proofs.Marks.{rows_next}
use Rattle.som_sema_names.proofs.search.marked_rows.Goals as goal

pub marked_row-requires : goal.marked_row-requires
marked_row-requires c = λ p m. c.requires c.loop-place.place p (subst (Mem p) c.item.ensures m)

pub loop-place-preserved : goal.loop-place-preserved
loop-place-preserved c = record {
  long = omega (arith, c.loop-place.invariant.long, ap length c.in_ok-push.ensures.items, length-append c.loop-place.rows.items (c.in_ok-row.row ∷ []));
  by = rows_next c.args.lists.now c.loop-place.rows.items _ _ c.loop-place.place c.loop-place.invariant.long c.in_ok-push.ensures.items (subst (λ (z : List ℕ). IsRow z c.in_ok-row.row) c.item.ensures c.in_ok-row.ensures) c.loop-place.invariant.by;
}
