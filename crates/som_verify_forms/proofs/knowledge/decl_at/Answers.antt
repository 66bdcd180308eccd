use Rattle.som_verify_forms.proofs.KnownLaws.{decl_there}
use Rattle.som_verify_forms.proofs.knowledge.decl_at.Goals as goal

pub returns : goal.returns
returns c = decl_there c.args.known.now.classes.now c.args.place c.index-known-place.result c.requires.place.0 c.requires.place.1
