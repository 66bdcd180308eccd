use Rattle.std.proofs.Common.{◌≤◌, length}
use Rattle.som_wire.proofs.Ascending.{ReadsOn}
use Rattle.som_wire.proofs.selects.read_ascending.Given as goal

-- the classes that were read, and those that are left
abbrev pub invariant-loop : goal.invariant-loop
invariant-loop l = record {
  reads : ReadsOn l.ranges l.bytes l.count l.fn.first l.fn.place l.value l.least l.counter l.next;
  within : l.next ≤ length l.bytes;
}
