use Rattle.som_objects.specs.Slots.{as_live}
use Rattle.som_objects.proofs.Found.{in_slot}
use Rattle.som_objects.proofs.Putting.{all_known, gone_where_not, written_where_live}
use Rattle.som_objects.proofs.store.ObjectStore.write.Goals as goal

pub put-requires : goal.put-requires
put-requires c = λ o e.
    let w = in_slot c.self.inside.slots.slots c.self.inside.made c.self.invariant c.args.object.now (rw c.self.view_is c.requires.known) o e in
    c.requires.place (as_live c.args.object.now.key o) (rw (← c.self.view_is) w.live)

pub returns-clause-written : goal.returns-clause-written
returns-clause-written c =
    written_where_live c.self.inside.slots c.put.new.slots c.self.inside.made c.args.self.now c.args.object.now c.args.place c.args.cell c.put.result c.self.view_is c.self.invariant c.requires.known c.put.ensures.put

pub returns-clause-gone : goal.returns-clause-gone
returns-clause-gone c =
    gone_where_not c.self.inside.slots c.put.new.slots c.self.inside.made c.args.self.now c.args.object.now c.args.place c.args.cell c.put.result c.self.view_is c.self.invariant c.requires.known c.put.ensures.gone

pub returns-clause-keeps : goal.returns-clause-keeps
returns-clause-keeps c =
    all_known c.self.inside.slots c.put.new.slots c.self.inside.made c.args.self.now c.args.object.now c.args.place c.args.cell c.put.result c.self.view_is c.self.invariant c.requires.known c.put.ensures.put c.put.ensures.err
