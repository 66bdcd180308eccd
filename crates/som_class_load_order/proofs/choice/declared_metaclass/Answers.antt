use Rattle.std.proofs.Common.{◌∙◌, Some, ap, arith, sym}
use Rattle.som_model.specs.declared.key.ClassKey.{ClassKey}
use Rattle.som_class_ids.specs.Classes.{class_of}
use Rattle.som_class_load_order.proofs.Choosing.{metaclass_found, metaclass_known_there, none_declared}
use Rattle.som_class_load_order.proofs.choice.declared_metaclass.Goals as goal

pub returns-then-number-declared_count-clause-key : goal.returns-then-number-declared_count-clause-key
returns-then-number-declared_count-clause-key c =
    none_declared c.args.classes.now c.requires.loaded c.args.class c.requires.class (omega (arith, c.number.ensures, c.declared_count.ensures.count, c.if-number-declared_count.true))

pub number_of-requires : goal.number_of-requires
number_of-requires c =
    metaclass_known_there c.args.classes.now c.requires.loaded c.args.class (class_of c.declared.result.now) c.in-Some.key c.declared.ensures.class c.in-Some.is

pub returns-in-Some-clause-key : goal.returns-in-Some-clause-key
returns-in-Some-clause-key c =
    ap (λ (z : ClassKey). Some z) c.number_of.ensures.key
    ∙ sym c.in-Some.is
    ∙ metaclass_found c.args.classes.now c.requires.loaded c.args.class (class_of c.declared.result.now) c.declared.ensures.class

pub returns-in-None-clause-key : goal.returns-in-None-clause-key
returns-in-None-clause-key c =
    sym c.in-None.is ∙ metaclass_found c.args.classes.now c.requires.loaded c.args.class (class_of c.declared.result.now) c.declared.ensures.class
