use Rattle.som_model.specs.Conforming.{first_of_members, first_of_names}
use Rattle.std.proofs.Common.{flat_map, ◌++◌}
use Rattle.som_model.specs.Kernel.{kernel}
use Rattle.som_model.specs.Lists.{first, or_else}
use Rattle.som_model.specs.Rules.{s5}
use Rattle.som_verify_classes.specs.Modules.{classes_of}
use Rattle.som_breach_laws.proofs.Lists.{or_none}
use Rattle.som_witness_programs.proofs.answering.parts.Goals as goal

pub parts_of-requires : goal.parts_of-requires
parts_of-requires c =
    let cs = classes_of c.args.classes.now in
    (or_none (first_of_names kernel cs) (or_else (first (flat_map (s5 (kernel ++ cs)) cs)) (first_of_members kernel cs)) c.requires).0
