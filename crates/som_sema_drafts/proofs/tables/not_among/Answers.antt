use Rattle.std.proofs.Common.{◌≡◌, ℕ, List, map, ap, refl, sym, ◌∙◌}
use Rattle.std.specs.Borrow.{Bor}
use Rattle.som_model.specs.Lists.{among, without}
use Rattle.som_order.specs.Names.{texts}
use Rattle.som_sema_scope.proofs.Going.{next, next_none, rest_end}
use Rattle.som_sema_drafts.proofs.Unsaid.{without_kept, without_left}
use Rattle.som_sema_drafts.proofs.tables.not_among.Goals as goal
use Rattle.som_sema_drafts.proofs.tables.not_among.Goals.{then-is_none+in_ok-add, else-is_none}

pub loop-name-preserved : goal.loop-name-preserved
loop-name-preserved c =
    let known = texts c.args.known.now.keys in
    elim c.if-is_none.branch [
      | then-is_none+in_ok-add w ↦ next (λ (z : List (Bor (List ℕ))). without (λ name. among name known) (texts z)) c.args.names.now c.loop-name.name-index _ _ (texts c.loop-name.kept.items) _ _ _
          c.loop-name-test.true refl (ap (λ v. texts v.items) w.kept-is ∙ w.in_ok-add.ensures.ok)
          (without_kept known _ _ (sym c.find_name.ensures.among ∙ w.if-is_none.ensures)) c.loop-name.invariant
      | else-is_none w ↦ next_none (λ (z : List (Bor (List ℕ))). without (λ name. among name known) (texts z)) c.args.names.now c.loop-name.name-index _ _ (texts c.loop-name.kept.items) _ _
          c.loop-name-test.true refl (ap (λ v. texts v.items) w.kept-is)
          (without_left known _ _ (sym c.find_name.ensures.among ∙ w.if-is_none.ensures)) c.loop-name.invariant
    ]

pub returns : goal.returns
returns c = rest_end (λ (z : List (Bor (List ℕ))). without (λ name. among name (texts c.args.known.now.keys)) (texts z)) c.args.names.now c.loop-name.name-index (texts c.loop-name.kept.items) _ c.loop-name-test.false refl c.loop-name.invariant
