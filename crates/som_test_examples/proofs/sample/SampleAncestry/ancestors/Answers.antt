use Rattle.std.proofs.Common.{◌∙◌, ap, map, sym, []}
use Rattle.std.proofs.lemmas.Option.{get_or_from_slice_get}
use Rattle.som_meta.specs.Numbering.{key_at}
use Rattle.som_test_examples.specs.Sample.{sample, ancestor_rows}
use Rattle.som_test_examples.proofs.Classes.{above}
use Rattle.som_test_examples.proofs.sample.SampleAncestry.ancestors.Goals as goal

pub returns-clause-keys : goal.returns-clause-keys
returns-clause-keys c = ap (map (key_at sample)) (sym (get_or_from_slice_get ancestor_rows c.args.class c.at.result.now [] (rw c.self.invariant.ancestors_are at c.at.ensures))) ∙ above c.args.class c.requires
