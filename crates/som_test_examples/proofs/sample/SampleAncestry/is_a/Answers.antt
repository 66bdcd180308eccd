use Rattle.std.proofs.Common.{◌∙◌, ap, nat_eq, sym, []}
use Rattle.std.proofs.lemmas.Option.{get_or_from_slice_get}
use Rattle.som_model.specs.Lists.{some}
use Rattle.som_test_examples.specs.Sample.{ancestor_rows}
use Rattle.som_test_examples.proofs.Classes.{descent}
use Rattle.som_test_examples.proofs.sample.SampleAncestry.is_a.Goals as goal

pub returns : goal.returns
returns c = c.is_among.ensures ∙ ap (some (nat_eq c.args.ancestor)) (c.as_slice.ensures ∙ sym (get_or_from_slice_get ancestor_rows c.args.class c.at.result.now [] (rw c.self.invariant.ancestors_are at c.at.ensures))) ∙ descent c.args.class c.args.ancestor c.requires.class c.requires.ancestor
