use Rattle.std.proofs.Common.{◌∙◌, sym, []}
use Rattle.std.proofs.lemmas.Option.{get_or_from_slice_get}
use Rattle.som_test_examples.specs.Sample.{token_rows}
use Rattle.som_test_examples.proofs.Classes.{tokens_are}
use Rattle.som_test_examples.proofs.sample.SampleAncestry.introduced.Goals as goal

pub returns : goal.returns
returns c = sym (get_or_from_slice_get token_rows c.args.class c.at.result.now [] (rw c.self.invariant.introduced_are at c.at.ensures)) ∙ tokens_are c.args.class c.requires
