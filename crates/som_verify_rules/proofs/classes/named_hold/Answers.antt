use Rattle.std.proofs.Common.{subst, sym, List, ℕ, Err}
use Rattle.std.proofs.lemmas.Result.{err_from_is_err_and}
use Rattle.som_verify_classes.specs.Modules.{classes_of}
use Rattle.som_verify_classes.specs.Places.{with_kernel}
use Rattle.som_verify_classes.specs.Walk.{AreLists}
use Rattle.som_verify_classes.proofs.Conformity.{both_none, first_none, tells_after, tells_here}
use Rattle.som_verify_rules.proofs.classes.named_hold.Goals as goal

pub returns-in_err-lists-clause-tells : goal.returns-in_err-lists-clause-tells
returns-in_err-lists-clause-tells c =
    let p = err_from_is_err_and c.from_residual.result c.from_residual.ensures.1 in
    rw (p.1, p.2) (tells_here _ _ c.in_err-lists.field-0.0 c.in_err-lists.ensures.tells)

pub placed_hold-requires-clause-lists : goal.placed_hold-requires-clause-lists
placed_hold-requires-clause-lists c =
    subst (λ (z : List (List ℕ)). AreLists (with_kernel (classes_of c.args.classes.now)) z) (sym c.as_slice.ensures.value) c.in_ok-lists.ensures.lists

pub placed_hold-requires-clause-stand : goal.placed_hold-requires-clause-stand
placed_hold-requires-clause-stand c = first_none _ _ c.in_ok-lists.ensures.tells

pub returns-in_err-placed_hold-clause-tells : goal.returns-in_err-placed_hold-clause-tells
returns-in_err-placed_hold-clause-tells c =
    let p = err_from_is_err_and c.from_residual-in_err-placed_hold.result c.from_residual-in_err-placed_hold.ensures.1 in
    rw (p.1, p.2) (tells_after {A = Unit {0}} _ _ (Err c.in_err-placed_hold.field-0.0) c.in_ok-lists.ensures.tells c.in_err-placed_hold.ensures)

pub returns-clause-tells : goal.returns-clause-tells
returns-clause-tells c = both_none _ _ c.in_ok-lists.ensures.tells c.in_ok-placed_hold.ensures
