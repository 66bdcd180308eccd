use Rattle.std.proofs.Common.{map, take}
use Rattle.som_class_methods.specs.Members.{HaveTokens, override_method}
use Rattle.som_class_methods.proofs.tokens.override_tokens.Given as goal

abbrev pub invariant-loop-one : goal.invariant-loop-one
invariant-loop-one l = HaveTokens l.numbers (map override_method (take l.one-index l.overrides)) l.tokens
