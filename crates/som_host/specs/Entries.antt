-- Entries of the host's procedures.
use Rattle.som_model.specs.declared.syntax.HostCode.{HostCode}
use Rattle.som_host.specs.declared.entry.HostEntry.{HostEntry}

-- the code of an entry, whatever its closure is
abbrev pub code_of : {g : _} {F : _} {m : _} → HostEntry g F m → HostCode
code_of e = e.code
