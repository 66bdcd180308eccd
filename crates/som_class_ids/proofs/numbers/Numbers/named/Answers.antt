use Rattle.std.proofs.Common.{◌≡◌, ◌∙◌, List, subst}
use Rattle.std.specs.Option.{option_map}
use Rattle.som_meta.specs.Numbering.{Numbering, key_at}
use Rattle.som_model.specs.Loads.{keys_of}
use Rattle.som_semantics.specs.World.{named_class}
use Rattle.som_class_ids.specs.declared.keyed.Keyed.{Keyed}
use Rattle.som_class_ids.specs.Classes.{classes_of}
use Rattle.som_class_ids.specs.Numbers.{at}
use Rattle.som_class_ids.proofs.Naming.{keys_kept, within_kept}
use Rattle.som_class_ids.proofs.numbers.Numbers.named.Goals as goal

pub class_named-requires-clause-noted : goal.class_named-requires-clause-noted
class_named-requires-clause-noted c = rw c.as_slice.ensures c.self.invariant.noted

pub class_named-requires-clause-declared : goal.class_named-requires-clause-declared
class_named-requires-clause-declared c = rw c.as_slice.ensures c.self.invariant.numbers.declared

pub class_named-requires-clause-highest : goal.class_named-requires-clause-highest
class_named-requires-clause-highest c = rw c.as_slice.ensures c.self.invariant.highest_is

pub returns-clause-declared : goal.returns-clause-declared
returns-clause-declared c = rw (← c.self.view_is) (within_kept c.self.inside.classes c.self.inside.positions c.self.invariant.numbers c.class_named.result (rw c.as_slice.ensures at c.class_named.ensures.within))

pub returns-clause-key : goal.returns-clause-key
returns-clause-key c =
    let P : Numbering → Type 0 = λ z. option_map (key_at z) c.class_named.result ≡ named_class z.classes c.args.name.now in
    let Q : List Keyed → Type 0 = λ l. option_map (at (keys_of (classes_of l))) c.class_named.result ≡ named_class (classes_of l) c.args.name.now in
    subst P c.self.view_is
    (keys_kept c.self.inside.classes c.self.inside.positions c.self.invariant.numbers c.class_named.result (rw c.as_slice.ensures at c.class_named.ensures.within) ∙ subst Q c.as_slice.ensures c.class_named.ensures.key)
