use Rattle.std.proofs.Common.{sym, arith}
use Rattle.som_values.specs.Shown.{showing}
use Rattle.som_values.proofs.Fitting.{fewer_fit}
use Rattle.som_values.proofs.tests.all_fit.Goals as goal

pub returns-then-kinds-cells : goal.returns-then-kinds-cells
returns-then-kinds-cells g c = λ serials h holds seen.
    sym (fewer_fit (g.C.Classes.world c.args.classes.now) h (showing (g.C.Classes.keys c.args.classes.now) serials) c.args.kinds.now c.args.cells.now (λ e. grind (arith, e, c.if-kinds-cells.true)))
