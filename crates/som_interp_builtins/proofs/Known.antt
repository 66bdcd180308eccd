-- What is known where a task may ask.
use Rattle.std.proofs.Common.{◌≡◌, ℕ, zero, suc, Bool, true, List, [], ◌∷◌, Option, Some, None, Result, Ok, Err, IfOk, slice_get, sym, subst, arith}
use Rattle.std.specs.List.{All}
use Rattle.som_model.specs.declared.key.ClassKey.{ClassKey}
use Rattle.som_model.specs.declared.program.Fault.{Fault}
use Rattle.som_model.specs.Kernel.{som_object}
use Rattle.som_semantics.specs.World.{World}
use Rattle.som_semantics.specs.State.{Ref, Object, ClassObject, Manager, Instance, Heap, class_of}
use Rattle.som_meta.specs.Numbering.{Numbering}
use Rattle.som_objects.specs.declared.cell.Cell.{Cell}
use Rattle.som_objects.specs.declared.cell.Cell.TheVariants as cells
use Rattle.som_objects.specs.Objects.{Live, Objects}
use Rattle.som_machine_laws.specs.Needs.{RefIn, ObjectsIn, HeapIn}
use Rattle.som_values.specs.declared.reference.Reference.{Reference}
use Rattle.som_values.specs.declared.reference.Reference.TheVariants as references
use Rattle.som_values.specs.Shown.{key_of, place_of, showing, shown_ref, IsNumbered, IsSeen, IsSeenRef}
use Rattle.som_values.specs.Stored.{IsOne, Holds, IsKept, IsKeptRef, IsClassOf, IsClassedRef}
use Rattle.som_interp_state.specs.Settings.{Linked}
use Rattle.som_interp_state.proofs.Lists.{all_more}
use Rattle.som_interp_state.specs.Asked.{Agree, IsClosed}
use Rattle.som_interp_state.specs.Holding.{IsUsable}
use Rattle.som_interp_builtins.specs.Answered.{MayAsk}
use Rattle.som_interp_builtins.specs.Arguments.{first_cell}
use Rattle.som_interp_builtins.proofs.Firsts.{first_holds}

one_numbered : (keys : List ClassKey) (o : Live) (t : Option Instance) → IsOne keys (Some o) t → IsNumbered keys o.class
one_numbered keys o (Some t) p = p.2
one_numbered keys o None p = absurd p

-- ---- classes that are made

module _ (w : World) (made : ClassKey → Bool) (closed : IsClosed w made) where
  object_made : (ts : List Instance) (i : ℕ) → ObjectsIn made ts → made (elim (slice_get ts i) [ None ↦ som_object | Some t ↦ t.class ]) ≡ true
  object_made [] zero p = closed.object
  object_made [] (suc i) p = closed.object
  object_made (t ∷ ts) zero p = p.0.class
  object_made (t ∷ ts) (suc i) p = object_made ts i p.1

  -- the class of what a reference refers to is made
  pub class_made : (h : Heap) (r : Ref) → HeapIn made h → RefIn made r → made (class_of w h r) ≡ true
  class_made h (Object i) heap p = object_made h.objects i heap.objects
  class_made h (ClassObject k) heap p = closed.meta k p
  class_made h Manager heap p = closed.manager

  pub found_made : (keys : List ClassKey) (h : Heap) (r : Ref) (answer : Result ℕ Fault) → HeapIn made h → RefIn made r → IsClassOf keys w h r answer → IfOk answer (λ n. made (key_of keys n) ≡ true)
  found_made keys h r (Ok n) heap p is = subst (λ k. made k ≡ true) is.1 (class_made h r heap p)
  found_made keys h r (Err f) heap p is = tt

-- ---- self and the arguments

module _ (keys : List ClassKey) (w : World) (k : Numbering) (l : Linked) (made : ClassKey → Bool) (agree : Agree keys w k l) where
  module _ (xs : List ℕ) (os : Objects) (statics : List (Option (List Cell))) (h : Heap) (me : Reference) (args : List Cell) (may : MayAsk l made xs os statics h me args) where
    pub holds_in : Holds (showing keys xs) os h
    holds_in = subst (λ (z : List ClassKey). Holds (showing z xs) os h) agree.linked_numbers may.holding.heap.holds

    pub self_seen : IsSeenRef (showing keys xs) me
    self_seen = subst (λ (z : List ClassKey). IsSeenRef (showing z xs) me) agree.linked_numbers may.self.own.0

    pub self_kept : IsKeptRef os me
    self_kept = may.self.own.1

    pub self_made : RefIn made (shown_ref (showing keys xs) me)
    self_made = subst (λ (z : List ClassKey). RefIn made (shown_ref (showing z xs) me)) agree.linked_numbers may.self.made_of

    pub args_kept : All (IsKept os) args
    args_kept = all_more (IsUsable l made xs os) (IsKept os) args (λ c u. u.own.1) may.arguments

    pub args_seen : All (IsSeen (showing keys xs)) args
    args_seen = all_more (IsUsable l made xs os) (IsSeen (showing keys xs)) args (λ c u. subst (λ (z : List ClassKey). IsSeen (showing z xs) c) agree.linked_numbers u.own.0) may.arguments

    pub first_usable : IsUsable l made xs os (first_cell args)
    first_usable = first_holds (IsUsable l made xs os) args (record { own = (tt, tt); made_of = tt }) may.arguments

    -- a class that the first argument is has a number
    pub first_class : (n : ℕ) → first_cell args ≡ cells.Class n → IsNumbered keys n
    first_class n e =
        let u : IsUsable l made xs os (cells.Class n) = subst (IsUsable l made xs os) e first_usable in
        subst (λ (z : List ClassKey). IsNumbered z n) agree.linked_numbers u.own.0

    -- a class that self is has a number, and is made
    pub self_class : (n : ℕ) → me ≡ references.Class n → IsNumbered keys n × (made (key_of keys n) ≡ true)
    self_class n e = (subst (IsSeenRef (showing keys xs)) e self_seen, subst (λ r. RefIn made (shown_ref (showing keys xs) r)) e self_made)

    -- what is asked of self alone needs no arguments
    pub alone : MayAsk l made xs os statics h me []
    alone = record { holding = may.holding; self = may.self; arguments = λ i d lt. absurd (let f : ⊥ = omega (arith, lt) in f) }

  -- the classes can be asked for the class of self
  classed_in : (xs : List ℕ) (os : Objects) (h : Heap) (me : Reference) → Holds (showing keys xs) os h → IsSeenRef (showing keys xs) me → RefIn made (shown_ref (showing keys xs) me) → IsClassedRef keys made os me
  classed_in xs os h (references.Object r) holds seen p = λ o live. one_numbered keys o (slice_get h.objects (place_of xs r.serial)) (subst (λ x. IsOne keys x (slice_get h.objects (place_of xs r.serial))) live (holds.by r.serial seen))
  classed_in xs os h (references.Class n) holds seen p = (seen, p)
  classed_in xs os h references.Manager holds seen p = tt

  pub self_classed : (xs : List ℕ) (os : Objects) (statics : List (Option (List Cell))) (h : Heap) (me : Reference) (args : List Cell) → MayAsk l made xs os statics h me args → IsClassedRef keys made os me
  self_classed xs os statics h me args may = classed_in xs os h me (holds_in xs os statics h me args may) (self_seen xs os statics h me args may) (self_made xs os statics h me args may)

  -- a class object of a class that is made can be gone on with
  pub class_usable : (xs : List ℕ) (os : Objects) (n : ℕ) → IsNumbered keys n → made (key_of keys n) ≡ true → IsUsable l made xs os (cells.Class n)
  class_usable xs os n p q = record {
    own = (subst (λ (z : List ClassKey). IsNumbered z n) (sym agree.linked_numbers) p, tt);
    made_of = subst (λ (z : List ClassKey). made (key_of z n) ≡ true) (sym agree.linked_numbers) q;
  }
