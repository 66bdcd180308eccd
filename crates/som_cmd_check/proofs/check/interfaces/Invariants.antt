use Rattle.std.proofs.Common.{◌≡◌, take, map}
use Rattle.som_model.specs.Class.{interface_of}
use Rattle.som_cmd_check.proofs.check.interfaces.Given as goal

abbrev pub invariant-loop-release : goal.invariant-loop-release
invariant-loop-release l = l.all ≡ map interface_of (take l.release-index l.releases)
