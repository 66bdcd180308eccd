-- What a kernel knows of its classes, as the laws ask for it.
use Rattle.std.proofs.Common.{Bool, List}
use Rattle.som_model.specs.declared.key.ClassKey.{ClassKey}
use Rattle.som_model.specs.declared.syntax.Block.{Block}
use Rattle.som_model.specs.Lists.{Mem}
use Rattle.som_model.specs.Loads.{keys_of}
use Rattle.som_model.specs.Made.{root}
use Rattle.som_semantics.specs.World.{World, world}
use Rattle.som_meta.specs.Numbering.{Numbering}
use Rattle.som_machine_laws.proofs.Proxies.{class_root}
use Rattle.som_values.specs.Shown.{IsKey}
use Rattle.som_interp_state.specs.Settings.{Linked}
use Rattle.som_interp_ops.specs.Doing.{HasClasses}
use Rattle.som_interp_state.specs.Asked.{Agree, HaveNumbers}

module _ (ks : List ClassKey) (w : World) (k : Numbering) (l : Linked) (agree : Agree ks w k l) where
  pub has_classes : HasClasses ks w l
  has_classes = record { keys = agree.linked_numbers; world = agree.linked_answers }

  -- a class that is declared has a number
  pub numbered : (main : Block) (made : ClassKey → Bool) (key : ClassKey) → HaveNumbers ks k.classes main made → Mem key (keys_of k.classes) → IsKey ks key
  numbered main made key have m = have.all key (root key (class_root k.classes main key m))
