use Rattle.std.proofs.Common.{◌≡◌, length, take}
use Rattle.som_model.specs.Class.{introduced}
use Rattle.som_meta.specs.Numbering.{key_at}
use Rattle.som_class_methods.specs.Owners.{HaveOwners}
use Rattle.som_class_methods.proofs.owners.class_tokens.Given as goal

abbrev pub invariant-loop-entry : goal.invariant-loop-entry
invariant-loop-entry l = record {
  own : l.own ≡ length (introduced (take l.entry-index l.entries));
  tokens : HaveOwners l.numbers (key_at l.numbers l.class) (take l.entry-index l.entries) l.tokens;
}
