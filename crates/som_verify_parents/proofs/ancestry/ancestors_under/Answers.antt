use Rattle.std.proofs.Common.{◌∷◌, [], ◌∙◌, ap, inl, inr, map, slice_index_or, ℕ, arith, length, sym, subst}
use Rattle.som_model.specs.Lists.{Mem, joined}
use Rattle.som_verify_parents.proofs.Covered.{above_through}
use Rattle.som_verify_parents.proofs.FirstParent.{under_first}
use Rattle.som_verify_parents.proofs.ancestry.ancestors_under.Goals as goal

pub note_others-requires-clause-list : goal.note_others-requires-clause-list
note_others-requires-clause-list c = λ a m. elim (rw c.in_ok-list.ensures at m) [
  | inl e ↦ omega (arith, e, c.requires.place)
  | inr k ↦ (let h = c.requires.low c.args.first a (rw c.item.ensures at k) in omega (arith, h, c.requires.first))
]

pub note_others-requires-clause-closed : goal.note_others-requires-clause-closed
note_others-requires-clause-closed c = λ p a lt m k.
    let known = c.args.known.now in
    let is = c.in_ok-list.ensures ∙ ap (λ z. c.args.place ∷ z) c.item.ensures in
    elim (rw is at m) [
      | inl e ↦ absurd (omega (arith, e, lt, c.requires.place))
      | inr h ↦ subst (λ z. Mem a z) (sym is) (inr (above_through c.args.rows.now (length known) known c.requires.rows c.requires.known c.args.first p a c.requires.first lt h k))
    ]

pub returns : goal.returns
returns c =
    c.in_ok-note_others.ensures
    ∙ under_first c.args.place (slice_index_or c.args.known.now c.args.first []) (joined (map (λ (p : ℕ). slice_index_or c.args.known.now p []) c.args.others.now)) c.in_ok-list.list
    (c.requires.once c.args.first)
    (λ a m. let h = c.requires.low c.args.first a m in omega (arith, h, c.requires.first, c.requires.place))
    (c.in_ok-list.ensures ∙ ap (λ z. c.args.place ∷ z) c.item.ensures)
