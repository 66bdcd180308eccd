use Rattle.std.proofs.Common.{map}
use Rattle.som_meta.specs.Numbering.{key_at}
use Rattle.som_class_table.proofs.LoadedClasses.{kept_derived}
use Rattle.som_class_table.proofs.classes.Classes.derived.Goals as goal

pub invariant_of-self : goal.invariant_of-self
invariant_of-self c =
    kept_derived c.derived-class.result c.self.inside.numbers c.derived-class.new.self (map (key_at c.self.inside.numbers) c.args.parents) c.self.inside.owners c.self.inside.members c.self.inside.introduced c.self.inside.none
    c.self.invariant c.derived-class.ensures.keys c.derived-class.ensures.err c.know_numbers.ensures.first c.know_numbers.ensures.apart

pub derived-class-requires : goal.derived-class-requires
derived-class-requires c = rw (← c.self.view_is) at c.requires
