use Rattle.std.proofs.Common.{◌<◌, arith, length}
use Rattle.som_class_ids.proofs.Declaring.{class_get, classes_length}
use Rattle.som_class_ids.proofs.Numbered.{class_key, declared_numbered}
use Rattle.som_class_ids.proofs.numbers.Numbers.declared.Goals as goal

pub class_at-requires : goal.class_at-requires
class_at-requires c = rw c.as_slice.ensures (let w = rw (← c.self.view_is) at c.requires in omega (arith, w, classes_length c.self.inside.classes))

pub returns-clause-class : goal.returns-clause-class
returns-clause-class c = rw (← c.self.view_is) (class_get c.self.inside.classes c.args.class c.class_at.result.now (rw c.as_slice.ensures at c.class_at.ensures))

pub returns-clause-numbered : goal.returns-clause-numbered
returns-clause-numbered c = rw (← c.self.view_is)
    (let w = rw (← c.self.view_is) at c.requires in
    let lt : c.args.class < length c.self.inside.classes = omega (arith, w, classes_length c.self.inside.classes) in
    declared_numbered c.self.inside.classes c.self.inside.positions c.self.invariant.numbers c.args.class lt)

pub returns-clause-key : goal.returns-clause-key
returns-clause-key c = rw (← c.self.view_is)
    (let w = rw (← c.self.view_is) at c.requires in
    let lt : c.args.class < length c.self.inside.classes = omega (arith, w, classes_length c.self.inside.classes) in
    class_key c.self.inside.classes c.self.inside.positions c.self.invariant.numbers c.args.class c.class_at.result.now lt (rw c.as_slice.ensures at c.class_at.ensures))
