use Rattle.std.proofs.Common.{◌≡◌, ℕ, ◌+◌, ◌<◌, inl, inr, List, [], ◌∷◌, ◌++◌, length, length-append, Some, slice_get, sym, ◌∙◌, subst, arith}
use Rattle.std.proofs.lemmas.Bool.{cases_lt}
use Rattle.som_tables.proofs.Options.{Extends-append, Extends-trans, slice_get-append_left, slice_get-Extends, slice_get-push}
use Rattle.som_tables.proofs.blocks.copy_cells.Goals as goal

-- one more cell of the block
one_more : {C : Type 0} (from place : ℕ) (old cells : List C) (cell : C) → length cells ≡ length old + place → Some cell ≡ slice_get old (from + place)
    → ((p : ℕ) → p < place → slice_get cells (length old + p) ≡ slice_get old (from + p))
    → (p : ℕ) → p < place + 1 → slice_get (cells ++ cell ∷ []) (length old + p) ≡ slice_get old (from + p)
one_more {C} from place old cells cell long is before p lt = elim (cases_lt p place) [
  | inl le ↦ (let within : length old + p < length cells = omega arith in slice_get-append_left cells (cell ∷ []) (length old + p) within ∙ before p le)
  | inr ge ↦ (let e : place ≡ p = omega arith in
      subst (λ q. slice_get (cells ++ cell ∷ []) (length old + q) ≡ slice_get old (from + q)) e (slice_get-push cells cell (length old + place) long ∙ is))
]

pub cell_at-cell-requires : goal.cell_at-cell-requires
cell_at-cell-requires g c = let lt = c.requires c.loop-place.place (omega arith) in rw c.as_slice.ensures.value (omega (arith, c.loop-place.invariant.long))

pub loop-place-preserved : goal.loop-place-preserved
loop-place-preserved g c =
    let i = c.loop-place.invariant in
    let xs = c.loop-place.cells.items in
    let old = c.args.cells.now.items in
    let at = c.args.from + c.loop-place.place in
    let new = c.cell_at-cell.result in
    let kept = slice_get-Extends old xs i.grown at (c.requires c.loop-place.place (omega arith)) in
    let here : Some new ≡ slice_get xs at = sym (rw c.as_slice.ensures.value at c.cell_at-cell.ensures) in
    let cell : Some new ≡ slice_get old at = here ∙ kept in
    rw c.in_ok-push.ensures.items (record {
      grown = Extends-trans _ _ _ i.grown (Extends-append xs (new ∷ []));
      long = omega (arith, i.long, length-append xs (new ∷ []));
      copied = one_more c.args.from c.loop-place.place old xs new i.long cell i.copied;
    })
