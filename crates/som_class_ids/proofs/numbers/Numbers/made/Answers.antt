use Rattle.std.proofs.Common.{length, sym}
use Rattle.som_class_ids.specs.Classes.{classes_of}
use Rattle.som_class_ids.proofs.Declaring.{classes_length}
use Rattle.som_class_ids.proofs.Asking.{made_none, made_some}
use Rattle.som_class_ids.proofs.Listing.{listed_none, listed_some}
use Rattle.som_class_ids.proofs.numbers.Numbers.made.Goals as goal

pub returns-clause-some : goal.returns-clause-some
returns-clause-some c =
    let kl = c.self.inside.classes in
    let ps = c.self.inside.positions in
    rw (← c.self.view_is)
    (made_some (classes_of kl) ps c.self.invariant.numbers c.args.kind c.args.parents.now (length kl) (sym (classes_length kl)) c.find.result
    (listed_some (length kl) ps c.self.inside.table c.args.kind c.args.parents.now c.self.invariant.listed c.find.result c.find.ensures))

pub returns-clause-none : goal.returns-clause-none
returns-clause-none c =
    let kl = c.self.inside.classes in
    let ps = c.self.inside.positions in
    rw (← c.self.view_is)
    (made_none (classes_of kl) ps c.self.invariant.numbers c.args.kind c.args.parents.now c.requires.made c.requires.one (rw (← c.self.view_is) at c.requires.numbered) (length kl) (sym (classes_length kl)) c.find.result
    (listed_none (length kl) ps c.self.inside.table c.args.kind c.args.parents.now c.self.invariant.listed c.find.result c.find.ensures))
