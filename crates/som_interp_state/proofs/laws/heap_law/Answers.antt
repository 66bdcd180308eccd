use Rattle.som_interp_state.proofs.Objects.{heap_made, heap_written, heap_freed, heap_spared, read_of, read_zero}
use Rattle.som_interp_state.proofs.laws.heap_law.Goals as goal

pub returns-clause-made : goal.returns-clause-made
returns-clause-made c k xs os new h r class cs t i m added live of numbered serials one heap = heap_made k xs os new h i r class cs t m added live of numbered serials one heap

pub returns-clause-written : goal.returns-clause-written
returns-clause-written c k xs os new h r d n p cell w linked at made own heap = heap_written k linked xs os new h r d n p cell w at made own heap

pub returns-clause-freed : goal.returns-clause-freed
returns-clause-freed c k xs os new h r f made heap = heap_freed k xs os new h r f made heap

pub returns-clause-spared : goal.returns-clause-spared
returns-clause-spared c k xs os new h spared heap = heap_spared k xs os new h spared heap

pub returns-clause-read : goal.returns-clause-read
returns-clause-read c k xs os h r o d n p cell is at there made heap = read_of k xs os h r o d n p cell is at there made heap

pub returns-clause-zero : goal.returns-clause-zero
returns-clause-zero c k xs os h r o d n is at made heap = read_zero k xs os h r o d n is at made heap
