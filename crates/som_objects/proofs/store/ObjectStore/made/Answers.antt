use Rattle.std.proofs.Common.{◌∙◌, length, sym, ap}
use Rattle.som_objects.proofs.Found.{many}
use Rattle.som_objects.proofs.store.ObjectStore.made.Goals as goal

pub returns : goal.returns
returns c = sym (many c.self.inside.slots.slots c.self.inside.made) ∙ ap length c.self.view_is
