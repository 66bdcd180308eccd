use Rattle.std.proofs.Common.{◌∙◌, Some, sym, ap}
use Rattle.som_compat.proofs.Ending.{get_name, get_none}
use Rattle.som_compat_levels.proofs.versions.entry_name_at.Goals as goal

pub returns-in-Some : goal.returns-in-Some
returns-in-Some c = ap (λ z. Some z) c.name_of.ensures ∙ sym (get_name c.args.face.now.entries c.args.place c.in-Some.entry.now (sym c.in-Some.ensures))

pub returns-in-None : goal.returns-in-None
returns-in-None c = sym (get_none c.args.face.now.entries c.args.place (sym c.in-None.ensures))
