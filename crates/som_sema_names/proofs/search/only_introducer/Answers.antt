use Rattle.std.proofs.Common.{ap, subst, sym, arith, length, ◌∙◌, slice_index_or, [], List, ℕ, Bool}
use Rattle.som_order.specs.Names.{texts}
use Rattle.som_sema_names.specs.Searching.{IsRow}
use Rattle.som_sema_names.proofs.Marks.{only_there}
use Rattle.som_sema_names.proofs.search.only_introducer.Goals as goal

pub row_at-requires : goal.row_at-requires
row_at-requires c = let h = c.requires.1.1 in omega (arith, h.0.rows.long, h.1)

pub places_at-places-requires : goal.places_at-places-requires
places_at-places-requires c =
    let h = c.requires.1.1.0 in
    omega (arith, h.introducers.long, c.in-Some.ensures.some.0, ap length c.as_slice.ensures.value)

pub returns-in-Some : goal.returns-in-Some
returns-in-Some c = λ cs lists h lt.
    only_there cs (texts c.args.search.now.introducers.now.names.keys) c.args.search.now.introducers.now.places.items h.introducers (slice_index_or lists c.args.class []) c.row_at.result.now
    (subst (IsRow (slice_index_or lists c.args.class [])) (sym c.row_at.ensures) (h.rows.by c.args.class lt)) (h.low c.args.class)
    c.in-Some.index c.in-Some.ensures.some.0 c.args.name.now c.in-Some.ensures.some.1 c.places_at-places.result.now
    (c.places_at-places.ensures ∙ ap (λ (z : List (List ℕ)). slice_index_or z c.in-Some.index []) c.as_slice.ensures.value)
    c.only_marked.result c.only_marked.ensures.marked c.only_marked.ensures.only
