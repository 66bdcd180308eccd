use Rattle.std.proofs.Common.{map}
use Rattle.som_meta.specs.Numbering.{key_at}
use Rattle.som_class_ids.specs.Numbers.{made_key}
use Rattle.som_class_ids.proofs.Asking.{with_new, with_same}
use Rattle.som_class_ids.proofs.numbers.Numbers.number_made.Goals as goal

pub made-requires-clause-numbered : goal.made-requires-clause-numbered
made-requires-clause-numbered c = λ n m. c.requires.numbered n (rw c.as_slice.ensures at m)

pub returns-in-Some-clause-keys : goal.returns-in-Some-clause-keys
returns-in-Some-clause-keys c =
    let r = rw c.as_slice.ensures at c.in-Some.ensures.some in
    with_same c.args.self.now (made_key c.args.kind (map (key_at c.args.self.now) c.args.parents)) c.in-Some.class r.0 r.1

pub returns-in-None-clause-keys : goal.returns-in-None-clause-keys
returns-in-None-clause-keys c =
    rw (with_new c.args.self.now (made_key c.args.kind (map (key_at c.args.self.now) c.args.parents)) (rw c.as_slice.ensures at c.in-None.ensures.none)) c.add.ensures.added
