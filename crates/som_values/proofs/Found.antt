-- The receiver that a cell refers to.
use Rattle.std.proofs.Common.{◌≡◌, Option, Some, None, Result, refl, sym, ap, subst, ◌∙◌}
use Rattle.som_model.specs.declared.program.Fault.{Fault}
use Rattle.som_semantics.specs.State.{Heap, Ref, Tried, live, receiver}
use Rattle.som_objects.specs.declared.cell.Cell.{Cell}
use Rattle.som_objects.specs.declared.cell.Cell.TheVariants as cells
use Rattle.som_values.specs.declared.reference.Reference.{Reference}
use Rattle.som_values.specs.declared.reference.Reference.TheVariants as references
use Rattle.som_values.specs.Answers.{shown_found}
use Rattle.som_values.proofs.Keeping.{same_some}
use Rattle.som_values.specs.Shown.{Showing, shown, shown_ref, reference_in, IsSeen, IsSeenRef}

through : (s : Showing) (h : Heap) (answer : Result Reference Fault) (q r : Reference) → q ≡ r → (IsSeenRef s r → shown_found s answer ≡ live h (shown_ref s r)) → IsSeenRef s q → shown_found s answer ≡ live h (shown_ref s q)
through s h answer q r e means seen = subst (λ x. IsSeenRef s x → shown_found s answer ≡ live h (shown_ref s x)) (sym e) means seen

-- where a cell refers to something, the tests of its reference are those of its value
pub receiver_seen : (s : Showing) (h : Heap) (c : Cell) (r : Reference) (answer : Result Reference Fault) → Some r ≡ reference_in c
    → (IsSeenRef s r → shown_found s answer ≡ live h (shown_ref s r)) → IsSeen s c → shown_found s answer ≡ receiver h (shown s c)
receiver_seen s h (cells.Object x) r answer e means seen = through s h answer (references.Object x) r (same_some (sym e)) means seen
receiver_seen s h (cells.Class n) r answer e means seen = through s h answer (references.Class n) r (same_some (sym e)) means seen
receiver_seen s h cells.Manager r answer e means seen = through s h answer references.Manager r (same_some (sym e)) means seen
receiver_seen s h (cells.Long z) r answer e means seen = absurd (let f : ⊥ = cc in f)
receiver_seen s h (cells.Boolean b) r answer e means seen = absurd (let f : ⊥ = cc in f)
receiver_seen s h (cells.Str t) r answer e means seen = absurd (let f : ⊥ = cc in f)
receiver_seen s h cells.EmptyStr r answer e means seen = absurd (let f : ⊥ = cc in f)
receiver_seen s h cells.Nil r answer e means seen = absurd (let f : ⊥ = cc in f)
