use Rattle.std.proofs.Common.{arith, subst, List, ℕ}
use Rattle.std.specs.Prelude.{IfOk}
use Rattle.som_verify_classes.specs.Modules.{classes_of}
use Rattle.som_verify_classes.specs.Places.{with_kernel}
use Rattle.som_verify_classes.proofs.DeclaredClasses.{known_number}
use Rattle.som_sema_names.specs.Ranking.{IsRanking}
use Rattle.som_sema_decls.proofs.faces.ranking_above.Goals as goal

pub ranking_of-requires : goal.ranking_of-requires
ranking_of-requires c = λ p m.
    let low = c.requires.lists.low c.args.place p (rw c.list_at-list.ensures at m) in
    omega (arith, low, known_number c.args.classes.now)

pub returns : goal.returns
returns c = subst (λ (z : List ℕ). IfOk c.ranking_of.result (IsRanking (with_kernel (classes_of c.args.classes.now)) z)) c.list_at-list.ensures
    (c.ranking_of.ensures (with_kernel (classes_of c.args.classes.now)) c.requires.introducers (known_number c.args.classes.now))
