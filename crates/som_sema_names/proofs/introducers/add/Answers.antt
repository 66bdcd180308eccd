use Rattle.std.proofs.Common.{sym}
use Rattle.som_order.specs.Names.{texts}
use Rattle.som_sema_names.proofs.Seen.{new_name, on_ok, placed}
use Rattle.som_sema_names.proofs.introducers.add.Goals as goal

pub returns-in-Some-clause-seen : goal.returns-in-Some-clause-seen
returns-in-Some-clause-seen c = λ seen g. on_ok c.add_place.result c.add_place.ensures
    (placed seen c.args.name.now c.args.place (texts c.args.names.now.keys) c.args.places.now.items c.add_place.new.places.items c.in-Some.index g c.in-Some.ensures.some.0 c.in-Some.ensures.some.1)

pub returns-in_ok-_is_new-in-None-clause-seen : goal.returns-in_ok-_is_new-in-None-clause-seen
returns-in_ok-_is_new-in-None-clause-seen c = λ seen g. on_ok c.add_list.result c.add_list.ensures
    (new_name seen c.args.name.now c.args.place (texts c.args.names.now.keys) (texts c.note_name.new.seen.keys) c.args.places.now.items c.add_list.new.places.items c.in_ok-_is_new-in-None._is_new g
    (sym c.in-None.ensures.among) c.in_ok-_is_new-in-None.ensures.is_new c.in_ok-_is_new-in-None.ensures.keys)
