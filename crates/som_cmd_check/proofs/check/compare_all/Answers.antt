use Rattle.std.proofs.Common.{List, subst}
use Rattle.som_model.specs.declared.program.Interface.{Interface}
use Rattle.som_model.specs.Lists.{Mem}
use Rattle.som_compat.specs.Told.{told}
use Rattle.som_cmd_check.proofs.Comparing.{may_compare, number_within, refuses_so}
use Rattle.som_cmd_check.proofs.check.compare_all.Goals as goal

pub check_list-requires : goal.check_list-requires
check_list-requires c = λ i m.
    may_compare c.args.releases.now c.requires.conform c.requires.within i (subst (λ (is : List Interface). Mem i is) c.in_ok-faces.ensures m)

pub name_at-requires : goal.name_at-requires
name_at-requires c = number_within c.args.names.now c.args.releases.now c.in_ok-faces.faces c.in-Err.number (told c.in-Err.breach) c.in_ok-faces.ensures c.requires.long c.in-Err.ensures.first

pub returns-clause-follows : goal.returns-clause-follows
returns-clause-follows c =
    refuses_so c.args.names.now c.args.releases.now c.in_ok-faces.faces c.in-Err.number (told c.in-Err.breach) c.name_at.result.now c.in_ok-refuse_breach-in-Err.field-0 c.in_ok-faces.ensures c.in-Err.ensures.first
    c.name_at.ensures c.in_ok-refuse_breach-in-Err.ensures
