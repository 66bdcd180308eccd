use Rattle.som_machine_laws.proofs.Steps.{next_fine}
use Rattle.som_machine_laws.proofs.frame_laws.step_law.Goals as goal

pub returns-clause-lower : goal.returns-clause-lower
returns-clause-lower c w tests fs gs s t sound e = (next_fine w tests fs.now fs.waiting sound).lowers s gs t e

pub returns-clause-spent : goal.returns-clause-spent
returns-clause-spent c w tests fs s t sound e = (next_fine w tests fs.now fs.waiting sound).spent s t e

pub returns-clause-counts : goal.returns-clause-counts
returns-clause-counts c w tests fs s sound = (next_fine w tests fs.now fs.waiting sound).counts s

pub returns-clause-makes : goal.returns-clause-makes
returns-clause-makes c w tests fs s sound = (next_fine w tests fs.now fs.waiting sound).within s
