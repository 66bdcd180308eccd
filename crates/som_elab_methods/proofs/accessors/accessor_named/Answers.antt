use Rattle.std.proofs.Common.{map, option_map, sym, ap, ◌∙◌}
use Rattle.som_elab_methods.specs.Accessors.{access}
use Rattle.som_elab_methods.specs.Tables.{accessed}
use Rattle.som_elab_methods.proofs.Accessing.{accessed_none, accessed_there}
use Rattle.som_elab_methods.proofs.accessors.accessor_named.Goals as goal

pub returns-in-None : goal.returns-in-None
returns-in-None c =
    let all = map access c.args.accessors.now in
    sym (accessed_none 0 all c.args.name.now (sym (c.in-None.ensures (accessed 0 all) c.requires)))

pub returns-in-Some : goal.returns-in-Some
returns-in-Some c =
    ap (option_map access) c.accessor_in.ensures
    ∙ accessed_there c.args.accessors.now c.args.name.now c.in-Some.place (c.in-Some.ensures (accessed 0 (map access c.args.accessors.now)) c.requires)
