use Rattle.som_verify_forms.specs.Knowing.{all_of}
use Rattle.som_verify_forms.proofs.KnownLaws.{descends_from_none}
use Rattle.som_verify_forms.proofs.knowledge.descends_from.Goals as goal

pub returns-in-None : goal.returns-in-None
returns-in-None c =
    descends_from_none (all_of c.args.known.now) c.args.known.now.lists.now c.args.class c.args.ancestor.now c.requires.known.lists c.requires.class c.in-None.ensures.finds
