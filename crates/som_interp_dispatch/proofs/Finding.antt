-- The hooks of a call by their numbers, and the body of its own that a class has.
use Rattle.std.proofs.Common.{◌≡◌, ℕ, zero, suc, ◌<◌, ◌≤◌, ◌==◌, inl, inr, Bool, true, false, if◌then◌else◌, List, [], ◌∷◌, length, map, get_or, Option, Some, None, refl, sym, ap, ◌∙◌, subst, arith, true≢false}
use Rattle.std.specs.List.{All}
use Rattle.std.specs.Prelude.{is_some}
use Rattle.som_model.specs.declared.key.ClassKey.{ClassKey}
use Rattle.som_model.specs.declared.syntax.Block.{Block}
use Rattle.som_model.specs.Lists.{Mem}
use Rattle.som_model.specs.Implementation.{Held, is_kernel}
use Rattle.som_semantics.specs.World.{World}
use Rattle.som_code.specs.declared.instruction.Instruction.{Instruction}
use Rattle.som_meta.specs.Numbering.{Numbering}
use Rattle.som_model_laws.proofs.Lists.{mem_map}
use Rattle.som_values.specs.Shown.{IsNumbered, key_of}
use Rattle.som_interp_state.specs.declared.call.Left.{Left}
use Rattle.som_interp_state.specs.Settings.{Linked}
use Rattle.som_interp_state.specs.Standing.{parent_shown}
use Rattle.som_interp_state.specs.declared.held_body.BodyView.{BodyView}
use Rattle.som_interp_state.specs.Asked.{Agree, CanLoad, IsAnswer, IsClosed}
use Rattle.som_interp_state.specs.Named.{IsMadeClass, setting}
use Rattle.som_interp_dispatch.specs.Entered.{IsReady, asked_class}
use Rattle.som_interp_dispatch.specs.Chosen.{HasHooks, IsHook}
use Rattle.som_interp_dispatch.proofs.Known.{answers_itself, kernel_owns, key_linked, one_hook}

item_there : (ns : List ℕ) (k d : ℕ) → k < length ns → Mem (get_or ns k d) ns
item_there [] k d lt = absurd (omega (arith, lt))
item_there (n ∷ ns) zero d lt = inl refl
item_there (n ∷ ns) (suc k) d lt = inr (item_there ns k d (omega (arith, lt)))

-- the hooks of a call by its parent and whether the kernel owns the method
abbrev hooks_by : World → ClassKey → Option ClassKey → Bool → List ClassKey
hooks_by w x p b = elim p [ None ↦ if b then [] else w.hooks (w.meta x) | Some p ↦ [] ]

parent_hooks : (w : World) (x : ClassKey) (p : Option ClassKey) (b : Bool) → is_some p ≡ true → hooks_by w x p b ≡ []
parent_hooks w x None b e = absurd (true≢false (sym e))
parent_hooks w x (Some p) b e = refl

kernel_hooks : (w : World) (x : ClassKey) (p : Option ClassKey) (b : Bool) → b ≡ true → hooks_by w x p b ≡ []
kernel_hooks w x None b e = rw e refl
kernel_hooks w x (Some p) b e = refl

other_hooks : (w : World) (x : ClassKey) (p : Option ClassKey) (b : Bool) → is_some p ≡ false → b ≡ false → hooks_by w x p b ≡ w.hooks (w.meta x)
other_hooks w x None b e f = rw f refl
other_hooks w x (Some p) b e f = absurd (true≢false e)

no_items : (P : ℕ → Type 0) → All P []
no_items P = λ k d lt. absurd (omega (arith, lt))

module _ (ks : List ClassKey) (w : World) (k : Numbering) (l : Linked) (main : Block) (agree : Agree ks w k l) (can : CanLoad k.classes main) where
  -- a class that isn't the one that answers has no body of its own
  pub not_own : (n : ℕ) (t : ℕ × ℕ) (body : BodyView) → IsNumbered l.keys n → IsAnswer w l n t body → false ≡ (body.class == n) → l.world.held (key_of l.keys n) (l.method t) ≡ None
  not_own n t body is answer differ = by (l.world.held (key_of l.keys n) (l.method t)) refl
    where
      same_number : (i j : ℕ) → i ≡ j → false ≡ (i == j) → ⊥
      same_number i j e f = true≢false (sym (f ∙ ap (λ z. z == j) e ∙ grind arith))

      same : (x y : ClassKey) → Some x ≡ Some y → x ≡ y
      same x y e = cc

      by : (q : Option Held) → l.world.held (key_of l.keys n) (l.method t) ≡ q → l.world.held (key_of l.keys n) (l.method t) ≡ None
      by None e = e
      by (Some b) e =
          let itself = answers_itself ks w k l main agree can (key_of l.keys n) (l.method t) b e in
          let other : l.world.impl (key_of l.keys n) (l.method t) ≡ Some (key_of l.keys body.class) = ap (λ (z : World). z.impl (key_of l.keys n) (l.method t)) agree.linked_answers ∙ answer.class in
          absurd (same_number body.class n (agree.linked.apart body.class n answer.numbered is (same _ _ (sym other ∙ itself))) differ)

  module _ (made : ClassKey → Bool) (up : IsClosed w made) where
    parent_none : (s : List ℕ) (cs : List (List Instruction)) (p : Option ℕ) → is_some (parent_shown (setting l s cs) p) ≡ is_some p
    parent_none s cs None = refl
    parent_none s cs (Some n) = refl

    -- a parent call has no hooks
    pub hooks_none : (x : Left) → is_some x.call.parent ≡ true → HasHooks l made x []
    hooks_none x e = record {
      are = λ s cs. sym (parent_hooks l.world (key_of l.keys x.class) (parent_shown (setting l s cs) x.call.parent) (is_kernel (l.method x.call.method).class) (parent_none s cs x.call.parent ∙ e));
      each = no_items (IsHook l made);
    }

    -- neither has one of a method that the kernel owns
    pub hooks_kernel : (x : Left) → l.is_token x.call.method ≡ true → x.call.method.0 < 4 → HasHooks l made x []
    hooks_kernel x token lt = record {
      are = λ s cs. sym (kernel_hooks l.world (key_of l.keys x.class) (parent_shown (setting l s cs) x.call.parent) (is_kernel (l.method x.call.method).class) (kernel_owns ks w k l main agree can x.call.method token ∙ grind (arith, lt)));
      each = no_items (IsHook l made);
    }

    -- any other has those of its object's class
    pub hooks_all : (x : Left) (ns : List ℕ) → false ≡ is_some x.call.parent → 4 ≤ x.call.method.0 → IsReady l made x → All (IsNumbered ks) ns → map (key_of ks) ns ≡ w.hooks (w.meta (key_of ks x.class)) → HasHooks l made x ns
    hooks_all x ns e le ready numbered keys = record {
      are = λ s cs.
          ap (λ (z : List ClassKey). map (key_of z) ns) agree.linked_numbers ∙ keys ∙ ap (λ z. w.hooks (w.meta z)) (sym (key_linked ks w k l main agree can x.class)) ∙ ap (λ (z : World). z.hooks (z.meta (key_of l.keys x.class))) (sym agree.linked_answers)
          ∙ sym (other_hooks l.world (key_of l.keys x.class) (parent_shown (setting l s cs) x.call.parent) (is_kernel (l.method x.call.method).class) (parent_none s cs x.call.parent ∙ sym e) (kernel_owns ks w k l main agree can x.call.method ready.method ∙ grind (arith, le)));
      each = λ i d lt. one_hook ks w k l main agree can made up (key_of ks x.class) (get_or ns i d) (by x.call.parent e ready.class) (numbered i d lt) (subst (λ z. Mem (key_of ks (get_or ns i d)) z) keys (mem_map (key_of ks) (get_or ns i d) ns (item_there ns i d lt)));
    }
      where
        by : (p : Option ℕ) → false ≡ is_some p → IsMadeClass l made (asked_class x.class p) → made (key_of ks x.class) ≡ true
        by None e m = ap made (sym (key_linked ks w k l main agree can x.class)) ∙ m.1
        by (Some p) e m = absurd (true≢false (sym e))
