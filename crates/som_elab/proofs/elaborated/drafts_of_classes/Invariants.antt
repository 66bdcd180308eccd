use Rattle.std.proofs.Common.{◌≡◌, map}
use Rattle.som_sema_drafts.specs.Drafts.{plain_drafts}
use Rattle.som_elab.proofs.Pairing.{one_less, paired}
use Rattle.som_elab.proofs.elaborated.drafts_of_classes.Given as goal

abbrev pub invariant-loop-text : goal.invariant-loop-text
invariant-loop-text l = plain_drafts l.all.items ≡ map paired (map one_less l.yielded)
