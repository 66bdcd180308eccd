use Rattle.std.proofs.Common.{◌∙◌, sym}
use Rattle.som_compat.proofs.Changing.{k5_is}
use Rattle.som_compat.proofs.signatures.keeps_signatures.Goals as goal

pub returns : goal.returns
returns c = c.same_signatures.ensures ∙ sym (k5_is c.args.old.now.faces.now c.args.new.now.faces.now c.args.class.now c.args.other.now c.requires.old c.requires.new c.requires.pair c.requires.order)
