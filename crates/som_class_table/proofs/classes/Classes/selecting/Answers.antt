use Rattle.std.proofs.Common.{arith}
use Rattle.som_class_table.proofs.classes.Classes.selecting.Goals as goal

pub selecting-requires : goal.selecting-requires
selecting-requires c = (let lt = rw (← c.self.view_is) at c.requires in omega (arith, lt, c.self.invariant.members_are.each))

pub returns : goal.returns
returns c = rw (← c.self.view_is) (λ d at. c.selecting.ensures c.self.inside.numbers d c.self.invariant.members_are at)
