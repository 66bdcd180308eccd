use Rattle.som_class_loaded.specs.Making.{parts_of}
use Rattle.som_class_loaded.proofs.Parts.{class_are, parent_made, rows_are, with_rows}
use Rattle.som_class_loaded.proofs.made.MadeClasses.make.Goals as goal

pub fill_methods-requires-clause-parents : goal.fill_methods-requires-clause-parents
fill_methods-requires-clause-parents c = λ p num m.
    (c.requires.parts.whole p (parent_made c.args.classes.now (parts_of c.args.self.now).made c.args.class c.requires.parents c.know_class.ensures.lower p num m)).methods

pub fill_variables-requires-clause-parents : goal.fill_variables-requires-clause-parents
fill_variables-requires-clause-parents c = λ p num m.
    (c.requires.parts.whole p (parent_made c.args.classes.now (parts_of c.args.self.now).made c.args.class c.requires.parents c.know_class.ensures.lower p num m)).variables

pub add_names-requires-clause-new : goal.add_names-requires-clause-new
add_names-requires-clause-new c = c.requires.parts.unnamed c.args.class c.requires.new

pub returns-clause-parts : goal.returns-clause-parts
returns-clause-parts c =
    let k = c.args.classes.now in
    let v = parts_of c.args.self.now in
    let bodies = c.fill_methods.new.bodies in
    let places = c.fill_variables.new.places in
    let are = rows_are k v c.requires.parts bodies places c.fill_methods.ensures.bodies c.fill_methods.ensures.earlier c.fill_methods.ensures.keeps c.fill_variables.ensures.places c.fill_variables.ensures.keeps in
    rw (c.put.ensures.made, c.put.ensures.hooks, c.number.ensures)
    (class_are k (with_rows v bodies places) are c.args.class c.requires.class c.requires.new c.add_names.new.names c.add_names.ensures.others c.in_ok-hooks.hooks
    c.in_ok-fill_methods.ensures.filled c.in_ok-fill_variables.ensures.filled c.in_ok-add_names.ensures.added c.in_ok-add_names.ensures.above
    (record { numbered = c.in_ok-hooks.ensures.numbered; keys = c.in_ok-hooks.ensures.keys }))
