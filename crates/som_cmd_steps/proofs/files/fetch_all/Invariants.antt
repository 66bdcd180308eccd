use Rattle.std.proofs.Common.{◌≡◌, ◌≤◌, length}
use Rattle.som_cmd_steps.proofs.InTurn.{GotTold, AreThere}
use Rattle.som_cmd_steps.proofs.files.fetch_all.Given as goal

abbrev pub invariant-loop-name : goal.invariant-loop-name
invariant-loop-name g l = record {
  files : g.S.Store.files l.store ≡ g.S.Store.files l.fn.store;
  later : g.S.Store.faults l.fn.store ≤ g.S.Store.faults l.store;
  calm : g.S.Store.calm l.fn.store → g.S.Store.calm l.store;
  got : GotTold (g.S.Store.files l.fn.store) l.names l.name-index l.images;
  there : AreThere (g.S.Store.files l.fn.store) l.names l.name-index;
  long : length l.images ≡ l.name-index;
}
