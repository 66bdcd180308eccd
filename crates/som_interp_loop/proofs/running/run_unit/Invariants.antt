use Rattle.std.proofs.Common.{◌≡◌, Ok, true}
use Rattle.som_interp_loop.specs.Ran.{RanOn}
use Rattle.som_interp_loop.specs.Standing.{IsSomewhere}
use Rattle.som_interp_loop.specs.Stepped.{Counts, StaysCalm}
use Rattle.som_interp_loop.specs.Burst.{weight_of}
use Rattle.som_interp_loop.proofs.running.run_unit.Given as goal

abbrev pub invariant-loop-moves : goal.invariant-loop-moves
invariant-loop-moves g l = record {
  somewhere : IsSomewhere (g.M.Moves.scene l.moves);
  ran : RanOn (g.M.Moves.shows l.fn.moves) (g.M.Moves.prefix l.fn.moves) (g.M.Moves.written l.fn.moves) (g.M.Moves.written l.moves) (g.M.Moves.counted l.fn.moves) (g.M.Moves.counted l.moves) (g.M.Moves.scene l.fn.moves) (g.M.Moves.scene l.moves) (Ok true);
  shows : g.M.Moves.shows l.moves ≡ g.M.Moves.shows l.fn.moves;
  prefix : g.M.Moves.prefix l.moves ≡ g.M.Moves.prefix l.fn.moves;
  lent : g.M.Moves.lent l.moves ≡ g.M.Moves.lent l.fn.moves;
  counts : Counts (g.M.Moves.faults l.fn.moves) (g.M.Moves.faults l.moves) (Ok true);
  calms : StaysCalm (g.M.Moves.calm l.fn.moves) (g.M.Moves.calm l.moves) (g.M.Moves.faults l.fn.moves) (g.M.Moves.faults l.moves) (Ok true);
  units : (g.M.Moves.scene l.moves).fuel ≡ l.fuel;
  all : l.fuel ≡ (g.M.Moves.scene l.fn.moves).fuel;
}

abbrev pub decreases-loop-moves : goal.decreases-loop-moves
decreases-loop-moves g l = weight_of (g.M.Moves.scene l.moves)
