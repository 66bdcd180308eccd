use Rattle.std.proofs.Common.{arith}
use Rattle.som_compat.specs.Views.{classes_of}
use Rattle.som_compat.proofs.Marking.{none_marked}
use Rattle.som_compat.proofs.Placed.{long_classes}
use Rattle.som_compat.proofs.Viewing.{known_of, low}
use Rattle.som_compat.proofs.metaclasses.classes_below.Goals as goal

pub mark_below-requires-clause-low : goal.mark_below-requires-clause-low
mark_below-requires-clause-low c =
    let fs = c.args.view.now.lookup.faces.now in low (classes_of fs) (known_of fs c.requires.view.conforms) c.args.view.now.rows.now c.requires.view.rows

pub mark_below-requires-clause-long : goal.mark_below-requires-clause-long
mark_below-requires-clause-long c =
    let e = long_classes c.args.view.now.lookup.faces.now in let f = c.requires.view.conforms.classes in let g = c.requires.view.rows.long in omega (arith, e, f, g)

pub mark_below-requires-clause-top : goal.mark_below-requires-clause-top
mark_below-requires-clause-top c = let g = c.requires.view.rows.long in omega (arith, g, c.requires.top)

pub mark_below-requires-clause-clear : goal.mark_below-requires-clause-clear
mark_below-requires-clause-clear c = λ k m. none_marked 4100 k m
