use Rattle.std.proofs.Common.{◌∙◌, sym}
use Rattle.som_compat.specs.Views.{classes_of, shown}
use Rattle.som_compat.proofs.Declaring.{k6_none, k6_kept, k6_lost}
use Rattle.som_compat.proofs.metaclasses.keeps_metaclass.Goals as goal

pub metaclass_descends-requires-clause-declared : goal.metaclass_descends-requires-clause-declared
metaclass_descends-requires-clause-declared c = c.requires.declared c.in-Some.key c.in-Some.is

pub returns-in-None : goal.returns-in-None
returns-in-None c = sym (k6_none (classes_of c.args.new.now.lookup.faces.now) (shown c.args.class.now) c.in-None.is)

pub returns-then-metaclass_descends : goal.returns-then-metaclass_descends
returns-then-metaclass_descends c =
    sym (k6_kept (classes_of c.args.new.now.lookup.faces.now) (shown c.args.class.now) c.in-Some.key c.in-Some.is
    (sym (c.metaclass_descends.ensures (shown c.args.class.now).key c.requires.known c.requires.marks) ∙ c.if-metaclass_descends.true))

pub returns-else-metaclass_descends : goal.returns-else-metaclass_descends
returns-else-metaclass_descends c =
    sym (k6_lost (classes_of c.args.new.now.lookup.faces.now) (shown c.args.class.now) c.in-Some.key _ c.in-Some.is
    (sym (c.metaclass_descends.ensures (shown c.args.class.now).key c.requires.known c.requires.marks) ∙ c.if-metaclass_descends.false) c.declared_text.ensures)
