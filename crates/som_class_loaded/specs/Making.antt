-- What contracts see of the classes that are made.
use Rattle.som_class_loaded.specs.declared.made.MadeClasses.{MadeClasses}
use Rattle.som_class_loaded.specs.Made.{Parts}

abbrev pub parts_of : MadeClasses → Parts
parts_of m = record { bodies = m.bodies; places = m.places; names = m.names; made = m.made.items; hooks = m.hooks.items }
