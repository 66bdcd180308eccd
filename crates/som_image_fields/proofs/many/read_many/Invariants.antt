use Rattle.std.proofs.Common.{ℕ, ◌≤◌, length, Result}
use Rattle.som_image_fields.specs.declared.fault.ImageFault.{ImageFault}
use Rattle.som_image_fields.specs.declared.read.Read.{Read}
use Rattle.som_image_fields.specs.Fields.{Gives}
use Rattle.som_image_fields.proofs.Loop.{Reads}
use Rattle.som_image_fields.proofs.many.read_many.Given as goal

-- the fields that were read, and those that are left
abbrev pub invariant-loop : goal.invariant-loop
invariant-loop g l = record {
  reads : (one : ℕ → Result (Read g.row.T.Denot) ImageFault) → ((p : ℕ) (r : Result (Read g.row.T.Denot) ImageFault) → p ≤ length l.bytes → g.F.Fn.post l.read (p, tt) r → Gives r (one p)) → Reads one l.count l.fn.place l.value l.counter l.next;
  within : l.next ≤ length l.bytes;
}
