-- A task stands where others change the store, and where more classes are made.
use Rattle.std.proofs.Common.{◌≡◌, ℕ, Bool, true, List, Option, Some, None, refl, sym, subst, arith}
use Rattle.std.specs.Prelude.{IsSome}
use Rattle.som_model.specs.declared.key.ClassKey.{ClassKey}
use Rattle.som_semantics.specs.State.{Heap, State}
use Rattle.som_code_cache.specs.Coded.{codes_of}
use Rattle.som_machine_laws.specs.Frames as frames
use Rattle.som_machine_laws.specs.Needs.{FramesIn}
use Rattle.som_machine_laws.proofs.More.{frames_more, heap_more}
use Rattle.som_objects.specs.Objects.{Objects}
use Rattle.som_values.specs.declared.reference.Reference.{Reference}
use Rattle.som_values.specs.declared.reference.Reference.TheVariants as references
use Rattle.som_interp_state.specs.declared.body.Body.{Body}
use Rattle.som_interp_state.specs.declared.call.Left.{Left}
use Rattle.som_interp_state.specs.declared.frames.Now.{Now}
use Rattle.som_interp_state.specs.declared.frames.Now.TheVariants as nows
use Rattle.som_interp_state.specs.declared.frames.Waiting.{Waiting}
use Rattle.som_interp_state.specs.declared.frames.Waiting.TheVariants as waits
use Rattle.som_interp_state.specs.Own.{IsOwnFrames, IsOwnNow, IsOwnRef}
use Rattle.som_interp_state.specs.Settings.{shows}
use Rattle.som_interp_state.specs.Stored.{Spares}
use Rattle.som_interp_state.proofs.Lists.{all_more}
use Rattle.som_interp_state.proofs.Later.{own_frames_still}
use Rattle.som_interp_state.proofs.Objects.{heap_spared, serials_spared}
use Rattle.som_interp_state.proofs.Classes.{statics_still}
use Rattle.som_interp_state.specs.Named.{IsOnLive}
use Rattle.som_interp_loop.specs.Scene.{Around, IsFineBody, IsFineLeft, IsFineNow, IsFineWaiting, IsInPlace, IsNext, Scene, setting_of}
use Rattle.som_interp_loop.specs.Standing.{StandsAt}
use Rattle.som_interp_task.specs.Stands.{Stands}

module _ (c : Scene) (new : Objects) (made : ClassKey → Bool) (spares : Spares c.task.serials c.objects new) (grows : (k : ClassKey) → c.made k ≡ true → made k ≡ true) where
  abbrev now : Scene
  now = record c { objects = new; made = made }

  module _ (h : Heap) where
    place_still : (me : Option Reference) (k : ClassKey) → IsInPlace c h me k → IsInPlace now h me k
    place_still None k p = p
    place_still (Some r) k p = p

    body_still : (b : Body) → IsFineBody c h b → IsFineBody now h b
    body_still b f = record { writes = f.writes; stands = place_still b.me _ f.stands }

    left_still : (l : Left) → IsFineLeft c h l → IsFineLeft now h l
    left_still l f = record { made_of = grows _ f.made_of; parent = grows _ f.parent; able = f.able }

    live_still : (me : Reference) (parent : Option ℕ) → IsOwnRef (shows (setting_of c)) c.objects me → IsOnLive c.objects me parent → IsOnLive new me parent
    live_still me (Some p) own live = tt
    live_still (references.Object r) None own live = subst (λ o. IsSome o) (sym (spares.same r.serial own.0)) live
    live_still (references.Class n) None own live = tt
    live_still references.Manager None own live = tt

    now_still : (n : Now) → IsOwnNow (setting_of c) c.objects n → IsFineNow c h n → IsFineNow now h n
    now_still (nows.Running b) own f = body_still b f
    now_still (nows.Calling levels call) own f = live_still call.me call.parent own.me f
    now_still (nows.Invoking l cell) own f = left_still l f
    now_still (nows.Answering cell) own f = tt

    waiting_still : (w : Waiting) → IsFineWaiting c h w → IsFineWaiting now h w
    waiting_still (waits.Call b) f = body_still b f
    waiting_still (waits.Hook l cell) f = left_still l f
    waiting_still (waits.Method l) f = left_still l f
    waiting_still (waits.Object from code at) f = tt
    waiting_still (waits.Init r) f = tt
    waiting_still (waits.Uninit from r) f = tt
    waiting_still (waits.Name levels from code at on args) f = tt
    waiting_still (waits.Parent levels me from parent code at args) f = tt

    module _ (fs : frames.Frames) (a : Around c h fs.waiting) (n : IsNext c h c.task.frames.now fs.now) where
      own : IsOwnFrames (setting_of now) new c.task.frames
      own = own_frames_still c.linked c.task.serials (codes_of c.task.codes) c.objects new spares.known c.task.frames (record { now = n.own; waiting = a.own })

      made_still : FramesIn made fs
      made_still = frames_more c.made made grows fs (record { now = n.made_of; waiting = a.made_of })

      around_still : Around now h fs.waiting
      around_still = record {
        holding = record {
          serials = serials_spared c.task.serials c.objects new spares a.holding.serials;
          heap = heap_spared c.linked c.task.serials c.objects new h spares a.holding.heap;
          class_objects = statics_still c.linked c.task.serials c.objects new c.task.statics.items h h spares.known (λ k. refl) a.holding.class_objects;
          made_of = heap_more c.made made grows h a.holding.made_of;
        };
        shown = a.shown;
        own = own.waiting;
        made_of = made_still.waiting;
        fine = all_more (IsFineWaiting c h) (IsFineWaiting now h) c.task.frames.waiting.items waiting_still a.fine;
        codes = a.codes;
      }

      next_still : IsNext now h c.task.frames.now fs.now
      next_still = record { shown = n.shown; own = own.now; made_of = made_still.now; fine = now_still c.task.frames.now n.own n.fine }

  pub at_still : (fs : frames.Frames) (s : State) → StandsAt c fs s → StandsAt now fs s
  at_still fs s x = record {
    around = around_still s.heap fs x.around x.next;
    next = next_still s.heap fs x.around x.next;
    fuel = x.fuel;
  }

  -- a task stands as it stood
  pub stands_still : Stands c → Stands now
  stands_still x = record {
    frames = x.frames;
    state = x.state;
    stands = record { at = at_still x.frames x.state x.stands.at; stands = x.stands.stands; direct = x.stands.direct };
    nothing_left = x.nothing_left;
    events = x.events;
    objects = x.objects;
  }

-- a store spares all where it stays
pub spares_same : (xs : List ℕ) (os : Objects) → Spares xs os os
spares_same xs os = record { same = λ n made. refl; known = λ r k. k; more = omega arith }
