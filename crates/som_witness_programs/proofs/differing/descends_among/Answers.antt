use Rattle.std.proofs.Common.{◌∙◌}
use Rattle.som_witness_programs.proofs.Entries.{fits_there, none_fits}
use Rattle.som_witness_programs.proofs.differing.descends_among.Goals as goal

pub returns-in-Some : goal.returns-in-Some
returns-in-Some c = c.descends_to.ensures ∙ fits_there c.args.known.now c.requires c.args.ancestor.now c.args.class.now c.in-Some.place c.in-Some.ensures.finds.2 c.in-Some.ensures.known

pub returns-in-None : goal.returns-in-None
returns-in-None c = none_fits c.args.known.now c.requires c.args.ancestor.now c.args.class.now c.in-None.ensures.known
