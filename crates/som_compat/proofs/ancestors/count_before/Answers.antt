use Rattle.std.proofs.Common.{◌∙◌, sym}
use Rattle.som_compat.specs.Views.{classes_of}
use Rattle.som_compat.proofs.Marking.{none_marked}
use Rattle.som_compat.proofs.Viewing.{known_of}
use Rattle.som_compat.proofs.Fronts.{front_counted}
use Rattle.som_compat.proofs.ancestors.count_before.Goals as goal

pub mark_before-requires-clause-clear : goal.mark_before-requires-clause-clear
mark_before-requires-clause-clear c = λ k m. none_marked 4100 k m

pub returns-clause-is : goal.returns-clause-is
returns-clause-is c =
    let fs = c.args.view.now.lookup.faces.now in
    c.count_marks.ensures.is ∙ sym (front_counted (classes_of fs) (known_of fs c.requires.view.conforms) c.args.own c.args.front.now c.mark_before.new.marks c.requires.own c.requires.front c.mark_before.ensures)
