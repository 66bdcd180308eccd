use Rattle.std.proofs.Common.{◌∙◌, ap, sym, []}
use Rattle.std.proofs.lemmas.Option.{get_or_from_slice_get}
use Rattle.som_model.specs.Lists.{some}
use Rattle.som_tables.specs.Rows.{same_token}
use Rattle.som_test_examples.specs.Sample.{body_rows}
use Rattle.som_test_examples.proofs.Classes.{body_is}
use Rattle.som_test_examples.proofs.sample.SampleAncestry.has_body.Goals as goal

pub returns : goal.returns
returns c = c.has_token.ensures ∙ ap (some (same_token c.args.token)) (c.as_slice.ensures ∙ sym (get_or_from_slice_get body_rows c.args.class c.at.result.now [] (rw c.self.invariant.bodies_are at c.at.ensures))) ∙ body_is c.args.class c.args.token c.requires.class c.requires.token
