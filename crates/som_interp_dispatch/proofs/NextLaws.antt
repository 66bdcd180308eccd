-- The method's body among those of a call, and the body that is next.
use Rattle.std.proofs.Common.{◌≡◌, ℕ, ◌+◌, Bool, true, List, ◌∷◌, length, Option, Some, None, refl, sym, ap, ◌∙◌}
use Rattle.std.specs.Prelude.{unwrap_or}
use Rattle.som_model.specs.declared.key.ClassKey.{ClassKey}
use Rattle.som_model.specs.declared.key.MethodRef.{MethodRef}
use Rattle.som_semantics.specs.World.{World}
use Rattle.som_semantics.specs.Calls.{Request}
use Rattle.som_semantics.specs.Means.{body_class, hooks_of}
use Rattle.som_code.specs.declared.instruction.Instruction.{Instruction}
use Rattle.som_machine_laws.specs.Frames.{Invocation}
use Rattle.som_machine_laws.specs.CallBodies.{with_held, with_method}
use Rattle.som_meta.specs.Numbering.{Numbering}
use Rattle.som_values.specs.Shown.{key_of}
use Rattle.som_interp_state.specs.declared.call.Left.{Left}
use Rattle.som_interp_state.specs.declared.call.Stage.{Stage}
use Rattle.som_interp_state.specs.declared.call.Stage.TheVariants as stages
use Rattle.som_interp_state.specs.Settings.{Linked}
use Rattle.som_interp_state.specs.Standing.{bodies_left, call_shown, parent_shown}
use Rattle.som_interp_state.proofs.Stages.{method_next}
use Rattle.som_interp_state.specs.declared.held_body.BodyView.{BodyView}
use Rattle.som_interp_state.specs.Asked.{Agree, IsAnswer, held_shown}
use Rattle.som_interp_dispatch.specs.declared.chosen.Chosen.{Chosen}
use Rattle.som_interp_dispatch.specs.declared.chosen.Role.TheVariants as roles
use Rattle.som_interp_state.specs.Named.{setting}
use Rattle.som_interp_dispatch.specs.Entered.{asked_class}
use Rattle.som_interp_dispatch.specs.Chosen.{AreHooks, HasHooks, IsFirst, IsNext, IsRest, invoked, view_invoked}

pub asked_is : (n : ℕ) (p : Option ℕ) → unwrap_or p n ≡ asked_class n p
asked_is n None = refl
asked_is n (Some m) = refl

module _ (l : Linked) (made : ClassKey → Bool) (s : List ℕ) (cs : List (List Instruction)) (x : Left) (ns : List ℕ) (hooks : HasHooks l made x ns) (from : ℕ) where
  -- a hook's body for before comes first
  pub before_found : (place : ℕ) (v : BodyView) → ((y : ClassKey) (r : Request) → AreHooks l y r ns → IsFirst l y r from (place, v))
      → IsNext l (key_of l.keys x.class) (call_shown (setting l s cs) x.call) (stages.Before from) (record { body = v; role = roles.Before; rest = stages.Before (place + 1) })
  before_found place v first = record { first = (first (key_of l.keys x.class) (call_shown (setting l s cs) x.call) (hooks.are s cs)).first; settled = tt }

  -- where no hook has one, the method's does
  pub method_after : (c : Chosen) → ((y : ClassKey) (r : Request) → AreHooks l y r ns → bodies_left l.world y r (stages.Before from) ≡ bodies_left l.world y r stages.Method)
      → IsNext l (key_of l.keys x.class) (call_shown (setting l s cs) x.call) stages.Method c → IsNext l (key_of l.keys x.class) (call_shown (setting l s cs) x.call) (stages.Before from) c
  method_after c none is = record { first = none (key_of l.keys x.class) (call_shown (setting l s cs) x.call) (hooks.are s cs) ∙ is.first; settled = is.settled }

module _ (ks : List ClassKey) (w : World) (k : Numbering) (l : Linked) (agree : Agree ks w k l) (s : List ℕ) (cs : List (List Instruction)) (x : Left) (body : BodyView) where
  abbrev key : ClassKey
  key = key_of l.keys x.class

  abbrev q : Request
  q = call_shown (setting l s cs) x.call

  class_by : (r : MethodRef) (p : Option ℕ) → elim (parent_shown (setting l s cs) p) [ None ↦ l.world.impl key r | Some z ↦ l.world.impl z r ] ≡ l.world.impl (key_of l.keys (asked_class x.class p)) r
  class_by r None = refl
  class_by r (Some n) = refl

  -- the body that answers for the method in the class that is asked comes next, and then the rest
  pub method_found : (n : ℕ) (rest : Stage) → n ≡ asked_class x.class x.call.parent → IsAnswer w l n x.call.method body → IsRest l key q rest
      → IsNext l key q stages.Method (record { body = body; role = roles.Method; rest = rest })
  method_found n rest e answer is =
      let r = l.method x.call.method in
      let class : body_class l.world key q ≡ Some (key_of l.keys body.class) =
      class_by r x.call.parent ∙ ap (λ z. l.world.impl (key_of l.keys z) r) (sym e) ∙ ap (λ (z : World). z.impl (key_of l.keys n) r) agree.linked_answers ∙ answer.class in
      let held : l.world.held (key_of l.keys body.class) r ≡ Some (held_shown r.name body.held) = ap (λ (z : World). z.held (key_of l.keys body.class) r) agree.linked_answers ∙ answer.held in
      let after : List Invocation = bodies_left l.world key q (stages.After (length (hooks_of l.world key q))) in
      record {
        first =
            method_next l.world key q
            ∙ ap (λ o. with_method l.world q o after) class
            ∙ ap (λ o. with_held q.way q.method q.self q.args true (key_of l.keys body.class) o after) held
            ∙ ap (λ i. i ∷ after) (ap (λ (m : MethodRef). invoked key q roles.Method m (key_of l.keys body.class) (held_shown m.name body.held)) (ap l.method (sym answer.method)))
            ∙ ap (λ is. view_invoked l key q roles.Method body ∷ is) is.same;
        settled = is.settled;
      }
