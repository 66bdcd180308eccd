use Rattle.std.proofs.Common.{arith, subst, ℕ}
use Rattle.som_class_methods.specs.Owners.{IsBefore}
use Rattle.som_class_methods.proofs.Facts.{facts}
use Rattle.som_class_methods.proofs.Owning.{moved_entry, moved_known, own_entry, own_fits}
use Rattle.som_class_methods.proofs.owners.entry_token.Goals as goal

pub overflow_cast-own : goal.overflow_cast-own
overflow_cast-own c =
    let few = own_fits c.args.numbers.now c.requires.faces c.args.class c.requires.entry.class c.requires.entry.there c.requires.entry.place in
    omega (arith, few, c.requires.entry.own_is)

pub owner_in-requires-clause-before : goal.owner_in-requires-clause-before
owner_in-requires-clause-before c =
    let k = c.args.numbers.now in
    subst (λ (n : ℕ). IsBefore k n c.in-Moved.to) c.requires.next
    (moved_known k (facts k.classes c.requires.faces) c.requires.first c.args.class c.args.entry.now c.args.own c.requires.entry c.in-Moved.name c.in-Moved.to c.in-Moved.is).0

pub owner_in-requires-clause-entry : goal.owner_in-requires-clause-entry
owner_in-requires-clause-entry c =
    let k = c.args.numbers.now in
    (moved_known k (facts k.classes c.requires.faces) c.requires.first c.args.class c.args.entry.now c.args.own c.requires.entry c.in-Moved.name c.in-Moved.to c.in-Moved.is).1

pub returns-in-Introduced : goal.returns-in-Introduced
returns-in-Introduced c =
    let k = c.args.numbers.now in
    own_entry k (facts k.classes c.requires.faces) c.requires.first c.args.class c.args.entry.now c.args.own c.requires.entry c.in-Introduced.name c.in-Introduced.sig c.in-Introduced.way c.in-Introduced.is c.new.result c.new.ensures

pub returns-in-Moved : goal.returns-in-Moved
returns-in-Moved c =
    let k = c.args.numbers.now in
    moved_entry k (facts k.classes c.requires.faces) c.requires.first c.args.class c.args.entry.now c.args.own c.requires.entry c.in-Moved.name c.in-Moved.to c.in-Moved.is c.owner_in.result c.owner_in.ensures
