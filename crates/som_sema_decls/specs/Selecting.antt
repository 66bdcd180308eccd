-- What is selected, as the code lends it.
use Rattle.som_sema_drafts.specs.Items.{Chosen}
use Rattle.som_sema_decls.specs.declared.selected.Choice.{Choice}

abbrev pub choice_of : Choice → Chosen
choice_of c = record { method = c.method.now; parent = c.parent.now }
