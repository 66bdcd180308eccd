use Rattle.std.proofs.Common.{ap, ◌∙◌}
use Rattle.std.specs.FinMap as finmap
use Rattle.som_io.specs.MemStore.{files_among}
use Rattle.som_io.proofs.Files.{files_among-one}
use Rattle.som_io.proofs.mem_store.set.Goals as goal

pub returns-clause-ok : goal.returns-clause-ok
returns-clause-ok c =
    let old = files_among c.args.files.now.entries in
    let name = c.in_ok-copy.field-0 in
    let bytes = c.in_ok-copy-2.field-0 in
    files_among-one c.args.files.now.entries c.insert.new.self.entries name bytes c.in_ok-insert.ensures.updates.0
    ∙ ap (λ k. finmap.insert old k bytes) c.in_ok-copy.ensures
    ∙ ap (finmap.insert old c.args.name.now) c.in_ok-copy-2.ensures
