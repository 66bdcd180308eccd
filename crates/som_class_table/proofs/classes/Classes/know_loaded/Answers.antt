use Rattle.som_class_table.proofs.classes.Classes.know_loaded.Goals as goal

pub returns : goal.returns
returns c = rw (← c.self.view_is) c.self.invariant.loaded
