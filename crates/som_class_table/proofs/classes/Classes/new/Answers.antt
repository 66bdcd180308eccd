use Rattle.som_class_table.proofs.LoadedClasses.{faces, named}
use Rattle.som_class_table.proofs.classes.Classes.new.Goals as goal

pub new-requires : goal.new-requires
new-requires c = faces c.in_ok-numbers.numbers c.in_ok-numbers.ensures.loaded

pub new-requires-2-clause-faces : goal.new-requires-2-clause-faces
new-requires-2-clause-faces c = faces c.in_ok-numbers.numbers c.in_ok-numbers.ensures.loaded

pub new-requires-2-clause-named : goal.new-requires-2-clause-named
new-requires-2-clause-named c = named c.in_ok-numbers.numbers c.in_ok-numbers.ensures.loaded

pub introduced_tokens-requires : goal.introduced_tokens-requires
introduced_tokens-requires c = faces c.in_ok-numbers.numbers c.in_ok-numbers.ensures.loaded

pub invariant_of-result : goal.invariant_of-result
invariant_of-result c = record {
  loaded = c.in_ok-numbers.ensures.loaded;
  owners_are = c.in_ok-owners.ensures;
  members_are = c.in_ok-members.ensures;
  introduced_are = c.in_ok-introduced.ensures;
  nothing = c.new-3.ensures;
}
