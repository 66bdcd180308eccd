use Rattle.std.proofs.Common.{ap, subst, sym, arith, length, ◌∙◌, slice_index_or, [], List, ℕ}
use Rattle.som_model.specs.Lists.{Mem}
use Rattle.som_order.specs.Names.{texts}
use Rattle.som_sema_names.proofs.Ranked.{none_first, some_first}
use Rattle.som_sema_names.proofs.ranking.first_introducer.Goals as goal

pub least_rank-rank-requires-clause-low : goal.least_rank-rank-requires-clause-low
least_rank-rank-requires-clause-low c = λ p m.
    let h = c.requires.1.1 in
    let there = c.places_at-places.ensures ∙ ap (λ (z : List (List ℕ)). slice_index_or z c.in-Some.index []) c.as_slice.ensures.value in
    let low = h.introducers.low c.in-Some.index p c.in-Some.ensures.some.0 (subst (Mem p) there m) in
    omega (arith, low, h.ranks.long, ap length c.as_slice-in-Some.ensures.value)

pub returns-in-None : goal.returns-in-None
returns-in-None c = λ cs list h. none_first cs (texts c.args.ranking.now.introducers.now.names.keys) c.args.ranking.now.introducers.now.places.items list c.args.name.now h.introducers h.low (sym c.in-None.ensures.among)

pub returns-in-Some : goal.returns-in-Some
returns-in-Some c = λ cs list h. c.place_at.ensures
    ∙ some_first cs (texts c.args.ranking.now.introducers.now.names.keys) c.args.ranking.now.introducers.now.places.items list c.args.ranking.now.list.now c.args.name.now c.places_at-places.result.now c.in-Some.index c.least_rank-rank.result
    h.introducers h.low h.on c.in-Some.ensures.some.0 c.in-Some.ensures.some.1
    (c.places_at-places.ensures ∙ ap (λ (z : List (List ℕ)). slice_index_or z c.in-Some.index []) c.as_slice.ensures.value) c.least_rank-rank.ensures
