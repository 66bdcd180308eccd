-- Why texts stand for no classes, as the code tells it.
use Rattle.som_verify_classes.specs.declared.types.VerifyFault.{VerifyFault}
use Rattle.som_verify_classes.specs.declared.types.VerifyFault.TheVariants as verify
use Rattle.som_sema_drafts.specs.declared.types.Refused.{Refused}
use Rattle.som_sema_drafts.specs.declared.types.Refused.TheVariants as faults

-- a breach or want of memory, as it is answered
abbrev pub refused_by : VerifyFault → Refused
refused_by (verify.Rule b) = faults.Rule b
refused_by verify.NoMemory = faults.NoMemory
