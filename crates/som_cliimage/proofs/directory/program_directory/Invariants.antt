use Rattle.std.proofs.Common.{◌≡◌, ◌++◌, map, take}
use Rattle.som_model.specs.declared.key.Module.TheVariants as modules
use Rattle.som_model.specs.declared.key.ClassKey.TheVariants as keys
use Rattle.som_model.specs.Class.{entry_name}
use Rattle.som_cliimage.specs.Numbering.{interface_directory}
use Rattle.som_cliimage.proofs.directory.program_directory.Given as goal

-- the keys and names of the base, and those so far
abbrev pub invariant-loop-class : goal.invariant-loop-class
invariant-loop-class l = record {
  keys : l.directory.keys ≡ (interface_directory l.program.base).keys ++ map (λ c. keys.Named modules.Client c.face.name) (take l.class-index l.program.classes);
  slots : l.directory.slots ≡ (interface_directory l.program.base).slots ++ map (λ c. map entry_name c.face.entries) (take l.class-index l.program.classes);
}
