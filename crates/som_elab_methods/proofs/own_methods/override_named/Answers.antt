use Rattle.std.proofs.Common.{sym, ◌∙◌}
use Rattle.som_elab_methods.specs.Tables.{replaced}
use Rattle.som_elab_methods.proofs.Tabled.{replaced_none, replaced_there}
use Rattle.som_elab_methods.proofs.own_methods.override_named.Goals as goal

pub returns-in-None : goal.returns-in-None
returns-in-None c = sym (replaced_none 0 c.args.overrides.now c.args.name.now (sym (c.in-None.ensures (replaced 0 c.args.overrides.now) c.requires)))

pub returns-in-Some : goal.returns-in-Some
returns-in-Some c = c.override_in.ensures ∙ replaced_there c.args.overrides.now c.args.name.now c.in-Some.place (c.in-Some.ensures (replaced 0 c.args.overrides.now) c.requires)
