use Rattle.std.proofs.Common.{ℕ, ◌<◌, length, subst, sym, arith}
use Rattle.som_model.specs.Ancestors.{Descends}
use Rattle.som_model.specs.Classes.{hierarchy}
use Rattle.som_meta.specs.Numbering.{key_at}
use Rattle.som_classmgr.proofs.Asking.{below_told}
use Rattle.som_test_queries.proofs.variables.place.Goals as goal

pub data_token-requires-clause-variable : goal.data_token-requires-clause-variable
data_token-requires-clause-variable c = (let count = c.variable_count.ensures in let lt = c.if-from-variable_count.true in let from = c.from.ensures in omega (arith, count, lt, from))

pub data_place-requires-clause-below : goal.data_place-requires-clause-below
data_place-requires-clause-below c =
    let k = c.args.kernel.now.classes in
    subst (λ (t : ℕ × ℕ). Descends (hierarchy k.classes) (key_at k c.args.object) (key_at k t.0)) (sym c.data_token.ensures.token)
    (below_told k c.know.ensures.loaded (key_at k c.args.object) (key_at k c.args.class) (sym c.if-is_a.ensures))
