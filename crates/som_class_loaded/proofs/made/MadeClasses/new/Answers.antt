use Rattle.som_class_loaded.proofs.Parts.{none_there, none_yet}
use Rattle.som_class_loaded.proofs.made.MadeClasses.new.Goals as goal

pub returns-clause-parts : goal.returns-clause-parts
returns-clause-parts c =
    none_yet c.args.classes.now (record { bodies = c.in_ok-bodies.bodies; places = c.in_ok-places.places; names = c.new-3.result; made = c.in_ok-made.made.items; hooks = c.in_ok-hooks.hooks.items }) c.count-count.result
    c.in_ok-bodies.ensures.bodies c.in_ok-places.ensures.places c.in_ok-made.ensures c.in_ok-hooks.ensures c.count-count.ensures.count c.new-3.ensures

pub returns-clause-none : goal.returns-clause-none
returns-clause-none c = none_there c.in_ok-made.made.items c.count-count.result c.in_ok-made.ensures
