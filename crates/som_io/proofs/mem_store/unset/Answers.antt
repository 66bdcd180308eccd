use Rattle.som_io.proofs.Files.{files_among-without}
use Rattle.som_io.proofs.mem_store.unset.Goals as goal

pub returns : goal.returns
returns c = files_among-without c.args.files.now.entries c.remove-old.new.self.entries c.args.name.now c.remove-old.ensures.updates.0
