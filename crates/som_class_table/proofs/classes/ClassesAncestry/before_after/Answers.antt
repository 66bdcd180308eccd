use Rattle.som_class_table.proofs.Bodies.{after_is, after_token, before_is, before_token, key_3, numbered_3}
use Rattle.som_class_table.proofs.classes.ClassesAncestry.before_after.Goals as goal

pub returns-clause-apart : goal.returns-clause-apart
returns-clause-apart c = c.know_loaded.ensures.apart

pub returns-clause-numbered : goal.returns-clause-numbered
returns-clause-numbered c = rw c.new.ensures (numbered_3 c.args.self.now c.know_loaded.ensures)

pub returns-clause-key : goal.returns-clause-key
returns-clause-key c = rw c.new.ensures (key_3 c.args.self.now c.know_loaded.ensures)

pub returns-clause-before : goal.returns-clause-before
returns-clause-before c = rw c.new.ensures (before_token c.args.self.now c.know_loaded.ensures)

pub returns-clause-before_is : goal.returns-clause-before_is
returns-clause-before_is c = rw c.new.ensures (before_is c.args.self.now c.know_loaded.ensures)

pub returns-clause-after : goal.returns-clause-after
returns-clause-after c = rw c.new.ensures (after_token c.args.self.now c.know_loaded.ensures)

pub returns-clause-after_is : goal.returns-clause-after_is
returns-clause-after_is c = rw c.new.ensures (after_is c.args.self.now c.know_loaded.ensures)
