use Rattle.som_sema_decls.proofs.Declaring.{same_override}
use Rattle.som_sema_decls.proofs.declared.empty_override.Goals as goal

pub returns : goal.returns
returns c = same_override _ _ _ _ _ _ c.in_ok-class.ensures c.in_ok-text.ensures c.new.ensures
