use Rattle.std.proofs.Common.{◌∙◌}
use Rattle.som_verify_forms.specs.Knowing.{all_of}
use Rattle.som_witness_programs.proofs.Entries.{below_there, none_below}
use Rattle.som_witness_programs.proofs.differing.descends_to.Goals as goal

pub returns-in-Some : goal.returns-in-Some
returns-in-Some c =
    c.descends_by.ensures (all_of c.args.known.now) c.requires.known.lists c.requires.ancestor
    ∙ below_there c.args.known.now c.requires.known c.args.class.now c.in-Some.place c.args.ancestor c.in-Some.ensures.finds.2 c.in-Some.ensures.known

pub returns-in-None : goal.returns-in-None
returns-in-None c = none_below c.args.known.now c.requires.known c.args.class.now c.args.ancestor c.in-None.ensures.known
