use Rattle.std.proofs.Common.{Some, sym, ap, ◌∙◌}
use Rattle.som_model.specs.Class.{interface_of}
use Rattle.som_model.specs.Compatible.{CompatBreach}
use Rattle.som_compat.specs.Told.{told}
use Rattle.som_generator.proofs.Compared.{all_kept, first_lost, may_compare}
use Rattle.som_generator.proofs.comparing.compare.Goals as goal

pub check_list-requires : goal.check_list-requires
check_list-requires c = λ i m. may_compare c.in_ok-all.all (interface_of c.args.first.now) (interface_of c.args.second.now) c.in_ok-all.ensures c.requires.first c.requires.second i m

pub returns-in-Ok : goal.returns-in-Ok
returns-in-Ok c = all_kept c.in_ok-all.all (interface_of c.args.first.now) (interface_of c.args.second.now) c.in_ok-all.ensures c.in-Ok.ensures.first

pub returns : goal.returns
returns c =
    first_lost c.in_ok-all.all (interface_of c.args.first.now) (interface_of c.args.second.now) _ (told c.in-Err.breach) c.in_ok-all.ensures c.in-Err.ensures.first
    ∙ ap (λ (b : CompatBreach). Some b) (sym c.in_ok-not_kept-in-Err.ensures)
