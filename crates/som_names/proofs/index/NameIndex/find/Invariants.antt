use Rattle.std.proofs.Common.{◌≡◌, ◌+◌, drop}
use Rattle.som_model.specs.Lists.{first_some}
use Rattle.som_names.specs.Index.{own_token, asked}
use Rattle.som_names.proofs.index.NameIndex.find.Given as goal

abbrev pub invariant-loop-ancestor : goal.invariant-loop-ancestor
invariant-loop-ancestor g l = record {
  token : first_some (own_token l.self l.name) (drop l.ancestor-index l.ancestors) ≡ first_some (own_token l.self l.name) l.ancestors;
  cost : l.steps + asked l.self l.name (drop l.ancestor-index l.ancestors) ≡ l.fn.steps + asked l.self l.name l.ancestors;
}
