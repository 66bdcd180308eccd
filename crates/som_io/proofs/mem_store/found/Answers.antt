use Rattle.std.proofs.Common.{sym, ◌∙◌}
use Rattle.som_io.proofs.Files.{get-files_among}
use Rattle.som_io.proofs.mem_store.found.Goals as goal

pub returns : goal.returns
returns c = c.get.ensures.value ∙ sym (get-files_among c.args.files.now.entries c.args.name.now)
