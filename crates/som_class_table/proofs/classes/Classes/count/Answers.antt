use Rattle.som_class_table.proofs.classes.Classes.count.Goals as goal

pub returns-clause-loaded : goal.returns-clause-loaded
returns-clause-loaded c = rw (← c.self.view_is) c.self.invariant.loaded
