use Rattle.std.proofs.Common.{◌≡◌, ◌++◌, drop, map}
use Rattle.som_sema_scope.specs.ClassNames.{module_in_scope}
use Rattle.som_sema_drafts.specs.Drafts.{plain_drafts, draft_of}
use Rattle.som_sema_scope.specs.Words.{lent}
use Rattle.som_sema_local.proofs.making.drafts_of.Given as goal

abbrev pub invariant-loop-interface : goal.invariant-loop-interface
invariant-loop-interface l = plain_drafts l.all.items ++ map (draft_of (module_in_scope l.scope)) (lent (drop l.interface-index l.interfaces)) ≡ map (draft_of (module_in_scope l.scope)) (lent l.interfaces)
