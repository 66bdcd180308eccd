-- A call by name that passes its test has a body.
use Rattle.std.proofs.Common.{◌≡◌, ◌&&◌, ◌||◌, not, ℕ, Bool, true, false, List, Option, Some, None, IsSome, slice_get, refl, sym, ap, subst, ◌∙◌, true≢false}
use Rattle.std.specs.Prelude.{is_some}
use Rattle.som_model.specs.declared.key.ClassKey.{ClassKey}
use Rattle.som_model.specs.declared.class.Sig.{Sig}
use Rattle.som_model.proofs.KeyLaws.{both}
use Rattle.som_semantics.specs.World.{World}
use Rattle.som_semantics.specs.State.{Heap, Instance, State, class_of, is_live}
use Rattle.som_semantics.specs.Calls.{Request}
use Rattle.som_machine_laws.specs.Frames as frames
use Rattle.som_machine_laws.specs.Frames.{Frames}
use Rattle.som_machine_laws.specs.CallBodies.{call_bodies}
use Rattle.som_objects.specs.Objects.{Live, Objects, live_at}
use Rattle.som_values.specs.declared.reference.Reference.{Reference}
use Rattle.som_values.specs.declared.reference.Reference.TheVariants as references
use Rattle.som_values.specs.Shown.{IsSeenRef, Showing, place_of, shown_ref}
use Rattle.som_values.specs.Stored.{Holds, IsOne}
use Rattle.som_interp_state.specs.declared.call.Call.{Call}
use Rattle.som_interp_state.specs.declared.frames.Now.{Now}
use Rattle.som_interp_state.specs.declared.frames.Now.TheVariants as nows
use Rattle.som_interp_state.specs.Named.{IsLive, IsOnLive}
use Rattle.som_interp_state.specs.Settings.{shows}
use Rattle.som_interp_state.specs.Standing.{call_shown, parent_shown}
use Rattle.som_interp_state.specs.Tests.{call_stands, runner_tests}
use Rattle.som_interp_loop.specs.Counted.{HasBody, HaveBodies, by_name, first_pends}
use Rattle.som_interp_loop.specs.Scene.{IsNext, Scene, setting_of}
use Rattle.som_interp_loop.specs.Standing.{StandsAt}
use Rattle.som_interp_loop.proofs.Looking.{bodies_pend}

-- ---- what isn't freed in the store isn't in the heap

one_live : (keys : List ClassKey) (o : Option Live) (q : Option Instance) → IsOne keys o q → IsSome o → elim q as (λ _. Bool) [ None ↦ false | Some u ↦ u.live ] ≡ true
one_live keys (Some o) (Some u) one e = one.0
one_live keys (Some o) None one e = absurd one
one_live keys None (Some u) one e = absurd (true≢false (sym e))
one_live keys None None one e = absurd one

shown_live : (s : Showing) (os : Objects) (h : Heap) (r : Reference) → Holds s os h → IsSeenRef s r → IsLive os r → is_live h (shown_ref s r) ≡ true
shown_live s os h (references.Object r) holds seen e = one_live s.keys (live_at os r.serial) (slice_get h.objects (place_of s.serials r.serial)) (holds.by r.serial seen) e
shown_live s os h (references.Class n) holds seen e = refl
shown_live s os h references.Manager holds seen e = refl

some_of : (o : Option Sig) → is_some o ≡ true → (x : Sig) × (o ≡ Some x)
some_of None e = absurd (true≢false (sym e))
some_of (Some x) e = (x, refl)

-- the class in which a call's method is looked for
abbrev asked_class : Option ClassKey → ClassKey → ClassKey
asked_class None x = x
asked_class (Some p) x = p

module _ (c : Scene) (fs : Frames) (s : State) (at : StandsAt c fs s) where
  abbrev w : World
  w = c.linked.world

  -- the receiver of a call that wants no parent's body isn't freed
  lives : (p : Option ℕ) (call : Call) → call.parent ≡ p → parent_shown (setting_of c) p ≡ None → IsOnLive c.objects call.me p → IsSeenRef (shows (setting_of c)) call.me → is_live s.heap (shown_ref (shows (setting_of c)) call.me) ≡ true
  lives None call e none live seen = shown_live (shows (setting_of c)) c.objects s.heap call.me at.around.holding.heap.holds seen live
  lives (Some n) call e none live seen = absurd cc

  alive : (now : Now) (l : ℕ) (q : Request) → IsNext c s.heap now fs.now → fs.now ≡ frames.Calling l q → q.parent ≡ None → is_live s.heap q.self ≡ true
  alive (nows.Calling levels call) l q n e none =
      let same : call_shown (setting_of c) call ≡ q = (let z = n.shown ∙ e in cc) in
      subst (λ (r : Request). is_live s.heap r.self ≡ true) same
      (lives call.parent call refl (ap (λ (r : Request). r.parent) same ∙ none) n.fine n.own.me.0)
  alive (nows.Running b) l q n e none = absurd (let z = n.shown ∙ e in cc)
  alive (nows.Invoking left cell) l q n e none = absurd (let z = n.shown ∙ e in cc)
  alive (nows.Answering cell) l q n e none = absurd (let z = n.shown ∙ e in cc)

  module _ (bodies : HaveBodies c.linked.world) (n l : ℕ) (q : Request) (is : fs.now ≡ frames.Calling l q) where
    -- so the class that is asked descends from the method's
    below : (p : Option ClassKey) → q.parent ≡ p → call_stands w q p s.heap ≡ true → w.is_a (asked_class p (class_of w s.heap q.self)) q.method.class ≡ true
    below None e passed = ap (λ b. not b || w.is_a (class_of w s.heap q.self) q.method.class) (sym (alive c.task.frames.now l q at.next is e)) ∙ passed
    below (Some p) e passed = passed

    found : (p : Option ClassKey) → q.parent ≡ p → call_stands w q p s.heap ≡ true → (by_name q.way && is_some (w.sig q.method)) ≡ true → first_pends n (call_bodies w (class_of w s.heap q.self) q) ≡ n
    found None e passed named =
        let b = both (by_name q.way) (is_some (w.sig q.method)) named in
        let sig = some_of (w.sig q.method) b.1 in
        let has = bodies (class_of w s.heap q.self) q.method sig.0 sig.1 (below None e passed) in
        bodies_pend w n (class_of w s.heap q.self) q b.0 has.class has.body (ap (λ (o : Option ClassKey). elim o [ None ↦ w.impl (class_of w s.heap q.self) q.method | Some k ↦ w.impl k q.method ]) e ∙ has.found) has.held
    found (Some p) e passed named =
        let b = both (by_name q.way) (is_some (w.sig q.method)) named in
        let sig = some_of (w.sig q.method) b.1 in
        let has = bodies p q.method sig.0 sig.1 (below (Some p) e passed) in
        bodies_pend w n (class_of w s.heap q.self) q b.0 has.class has.body (ap (λ (o : Option ClassKey). elim o [ None ↦ w.impl (class_of w s.heap q.self) q.method | Some k ↦ w.impl k q.method ]) e ∙ has.found) has.held

    pub called_pends : (runner_tests w).call q s.heap ≡ true → (by_name q.way && is_some (w.sig q.method)) ≡ true → first_pends n (call_bodies w (class_of w s.heap q.self) q) ≡ n
    called_pends passed named = found q.parent refl passed named
