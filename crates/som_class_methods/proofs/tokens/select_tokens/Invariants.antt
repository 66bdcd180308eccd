use Rattle.std.proofs.Common.{map, take}
use Rattle.som_class_methods.specs.Members.{HaveTokens, select_method}
use Rattle.som_class_methods.proofs.tokens.select_tokens.Given as goal

abbrev pub invariant-loop-one : goal.invariant-loop-one
invariant-loop-one l = HaveTokens l.numbers (map select_method (take l.one-index l.selects)) l.tokens
