use Rattle.std.proofs.Common.{ℕ, subst, sym}
use Rattle.som_model.specs.Ancestors.{Descends}
use Rattle.som_model.specs.Classes.{hierarchy}
use Rattle.som_meta.specs.Numbering.{key_at}
use Rattle.som_classmgr.proofs.Asking.{below_told}
use Rattle.som_test_queries.proofs.bodies.counted_body.Goals as goal

pub resolve-body-requires-clause-below : goal.resolve-body-requires-clause-below
resolve-body-requires-clause-below g c =
    let k = c.args.kernel.now.classes in
    subst (λ (n : ℕ). Descends (hierarchy k.classes) (key_at k c.args.class) (key_at k n)) c.class.ensures
    (below_told k c.know.ensures.loaded _ _ (sym c.if-is_a.ensures))
