use Rattle.std.proofs.Common.{◌∙◌}
use Rattle.som_values.proofs.Places.{same_objects, same_classes}
use Rattle.som_values.proofs.equality.same.Goals as goal

pub returns-in-Object-Object : goal.returns-in-Object-Object
returns-in-Object-Object c = λ s a p q. same_objects s c.args.a.now c.args.b.now c.in-Object-Object.x c.in-Object-Object.y c.in-Object-Object.is-0 c.in-Object-Object.is-1 p q

pub returns-in-Class-Class : goal.returns-in-Class-Class
returns-in-Class-Class c = λ s a p q. c.eq-in-Class-Class.ensures ∙ same_classes s c.args.a.now c.args.b.now c.in-Class-Class.x c.in-Class-Class.y c.in-Class-Class.is-0 c.in-Class-Class.is-1 a p q
