use Rattle.std.proofs.Common.{arith, sym, subst}
use Rattle.som_sema_drafts.specs.Drafts.{plain_drafts}
use Rattle.som_sema_names.specs.Searching.{AreRows}
use Rattle.som_verify_classes.proofs.DeclaredClasses.{known_number}
use Rattle.som_elab.proofs.ContextLaws.{basis_of}
use Rattle.som_elab.proofs.elaborated.bodies_known.Goals as goal

pub marked_rows-requires : goal.marked_rows-requires
marked_rows-requires c = λ i p m. let low = c.requires.known.lists.low i p m in omega (arith, low, known_number c.args.known.now.classes.now)

pub checked_bodies-requires : goal.checked_bodies-requires
checked_bodies-requires c = basis_of _ c.requires.rules.0 (plain_drafts c.args.drafts.now) c.requires.known c.requires.rules.1 c.requires.stand (record {
  introducers = c.requires.introducers;
  rows = subst (AreRows c.args.known.now.lists.now) (sym c.as_slice.ensures.value) c.in_ok-rows.ensures;
  low = c.requires.known.lists.low;
})
