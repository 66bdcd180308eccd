use Rattle.std.proofs.Common.{List, sym, subst, ◌∙◌}
use Rattle.std.specs.Prelude.{All}
use Rattle.som_model.specs.declared.program.ClientProgram.{ClientProgram}
use Rattle.som_model.specs.Class.{interface_of}
use Rattle.som_model.specs.Conforming.{ProgramOk}
use Rattle.som_cmd_tasks.specs.Groups.{AllKept}
use Rattle.som_cmd_tasks.proofs.Reading.{all_load}
use Rattle.som_cmd_tasks.proofs.checking.checked_group.Goals as goal

pub look_at_bases-requires-clause-programs : goal.look_at_bases-requires-clause-programs
look_at_bases-requires-clause-programs c = subst (λ (ps : List ClientProgram). All ProgramOk ps) (c.as_slice.ensures ∙ sym c.as_slice-2.ensures) c.in_ok-look_at_programs.ensures.conform

pub returns-clause-loads : goal.returns-clause-loads
returns-clause-loads c =
    all_load c.in_ok-release.release c.in_ok-programs.programs c.in_ok-release.ensures.within c.in_ok-programs.ensures.within c.in_ok-look_at_rules.ensures.conforms
    (subst (λ (ps : List ClientProgram). All ProgramOk ps) c.as_slice.ensures c.in_ok-look_at_programs.ensures.conform)
    (subst (λ (ps : List ClientProgram). AllKept (interface_of c.in_ok-release.release) ps) c.as_slice-2.ensures c.in_ok-look_at_bases.ensures.kept)
