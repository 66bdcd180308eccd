use Rattle.std.proofs.Common.{◌≡◌, ◌++◌, drop}
use Rattle.som_sema_scope.specs.Words.{interfaces_of, lent}
use Rattle.som_sema.proofs.build.all_interfaces.Given as goal

abbrev pub invariant-loop-file : goal.invariant-loop-file
invariant-loop-file l = lent l.all.items ++ interfaces_of (drop l.file-index l.files) ≡ interfaces_of l.files
