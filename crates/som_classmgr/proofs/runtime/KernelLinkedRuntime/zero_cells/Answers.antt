use Rattle.som_classmgr.proofs.NewCells.{are_new_cells}
use Rattle.som_classmgr.proofs.runtime.KernelLinkedRuntime.zero_cells.Goals as goal

pub returns : goal.returns
returns c = are_new_cells c.args.self.now.classes c.classes-classes.ensures.loaded c.args.class c.requires.numbered c.zeros_of.result (rw c.classes-classes.ensures.value at c.zeros_of.ensures)
