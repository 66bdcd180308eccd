use Rattle.std.proofs.Common.{◌≡◌, ◌++◌, drop, map, flat_map}
use Rattle.som_elab_methods.specs.Accessors.{access, export_accessors}
use Rattle.som_elab_methods.proofs.accessors.add_exports.Given as goal

abbrev pub invariant-loop-export : goal.invariant-loop-export
invariant-loop-export l = map access l.all.items ++ flat_map export_accessors (drop l.export-index l.exports) ≡ map access l.fn.all.items ++ flat_map export_accessors l.exports
