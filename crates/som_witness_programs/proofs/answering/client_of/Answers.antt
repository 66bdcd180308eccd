use Rattle.std.proofs.Common.{map, ap, ◌∙◌}
use Rattle.som_model.specs.Class.{bare}
use Rattle.som_witness_programs.proofs.answering.client_of.Goals as goal

pub client_among-requires-clause-old : goal.client_among-requires-clause-old
client_among-requires-clause-old c = (c.args.old.now, c.requires.old, c.as_slice-3.ensures ∙ c.in_ok-olds.ensures ∙ ap (map bare) c.as_slice.ensures)

pub client_among-requires-clause-new : goal.client_among-requires-clause-new
client_among-requires-clause-new c = (c.args.new.now, c.requires.new, c.as_slice-4.ensures ∙ c.in_ok-news.ensures ∙ ap (map bare) c.as_slice-2.ensures)

pub returns : goal.returns
returns c =
    c.client_among.ensures c.args.old.now c.args.new.now c.requires.old (c.as_slice-3.ensures ∙ c.in_ok-olds.ensures ∙ ap (map bare) c.as_slice.ensures)
    (c.as_slice-4.ensures ∙ c.in_ok-news.ensures ∙ ap (map bare) c.as_slice-2.ensures)
