-- A task that was started stands where main begins.
use Rattle.std.proofs.Common.{◌≡◌, ◌≤◌, ◌<◌, ◌+◌, ℕ, Bool, List, [], ◌∷◌, length, Option, Some, None, slice_get, if◌then◌else◌, refl, sym, ap, subst, ◌∙◌, arith}
use Rattle.std.specs.List.{All}
use Rattle.som_model.specs.declared.key.ClassKey.{ClassKey}
use Rattle.som_model.specs.declared.limits.TheConstants.{MAX_DEPTH}
use Rattle.som_model.specs.declared.syntax.Block.{Block}
use Rattle.som_semantics.specs.Means.{beginning, means_in, nothing_yet}
use Rattle.som_semantics.specs.Runs.{end_of}
use Rattle.som_semantics.specs.World.{World}
use Rattle.som_semantics.specs.Calls.{class_here}
use Rattle.som_semantics.specs.State.{Nil, InMain}
use Rattle.som_semantics.proofs.MadeLaws.{main_within}
use Rattle.som_code.specs.Laid.{lay_body}
use Rattle.som_code.specs.Effect.{beginning as first_conf, conf}
use Rattle.som_code.specs.declared.instruction.Instruction.{Instruction}
use Rattle.som_code_cache.specs.Coded.{AreCodes, Coded, codes_of}
use Rattle.som_code_cache.proofs.Entries.{code_is}
use Rattle.som_machine_laws.specs.Frames as frames
use Rattle.som_machine_laws.specs.Step.{main_frames}
use Rattle.som_meta.specs.Numbering.{Numbering}
use Rattle.som_objects.specs.declared.cell.Cell.{Cell}
use Rattle.som_objects.specs.Objects.{Objects}
use Rattle.som_trace.specs.declared.running.Place.{Place}
use Rattle.som_trace.specs.declared.running.Place.TheVariants as places
use Rattle.som_values.specs.declared.reference.Reference.{Reference}
use Rattle.som_values.specs.Shown.{all_shown}
use Rattle.som_machine_laws.proofs.Within.{zero_in}
use Rattle.som_interp_state.specs.declared.body.Body.{Body}
use Rattle.som_interp_state.specs.declared.body.Zero.{Zero}
use Rattle.som_interp_state.specs.declared.body.Zero.TheVariants as zero_values
use Rattle.som_interp_state.specs.declared.task.Task.{Task}
use Rattle.som_interp_state.specs.Own.{AreOwn, IsOwn, IsOwnBody, IsOwnMe, IsOwnPlace, IsOwnWaiting}
use Rattle.som_interp_state.specs.Settings.{Linked, code_at, shows}
use Rattle.som_interp_state.specs.Standing.{all_waiting_shown, body_shown, here_shown, operands_shown, zero_shown}
use Rattle.som_interp_state.specs.Stored.{AreSerials, HoldsHeap, HoldsStatics}
use Rattle.som_interp_state.specs.Asked.{Agree, CanLoad}
use Rattle.som_interp_loop.specs.Scene.{Around, IsFineBody, IsFineWaiting, IsInPlace, IsNext, Scene, WritesOwn, scene, setting_of}
use Rattle.som_interp_loop.proofs.Fine.{main_writes}
use Rattle.som_interp_task.specs.Beginning.{IsFirst, IsMain}
use Rattle.som_interp_loop.specs.Standing.{StandsAt, StandsFor}
use Rattle.som_interp_task.specs.Stands.{Stands}

-- so it is of each of none
all_none : {X : Type 0} (P : X → Type 0) → All P []
all_none P k d lt = absurd (let f : ⊥ = omega (arith, lt) in f)

module _ (l : Linked) (known : Numbering) (main : Block) (made : ClassKey → Bool) (os : Objects) (t : Task) (cs : List Coded) (first : IsFirst cs t) where
  abbrev c : Scene
  c = scene l known main made os t 0

  abbrev b : Body
  b = first.body

  abbrev is : IsMain b
  is = first.is_main

  abbrev main_body : frames.Body
  main_body = record { levels = MAX_DEPTH; here = record { me = Nil; place = InMain }; zero_value = Nil; code = lay_body main 0; conf = first_conf [] }

  module _ (codes : AreCodes known main cs) where
    code_there : code_at (codes_of t.codes) b.code ≡ lay_body main 0
    code_there = ap (λ n. code_at (codes_of t.codes) n) is.code ∙ ap (λ (ds : List Coded). code_at (codes_of ds) 0) first.codes ∙ code_is cs 0 _ codes.first

    abbrev made_body : ℕ → Option Reference → Place → Zero → List Instruction → ℕ → List Cell → List Cell → frames.Body
    made_body levels me place zero_value code at operands locals = record {
      levels = levels;
      here = here_shown (setting_of c) me place;
      zero_value = zero_shown zero_value;
      code = code;
      conf = conf at (operands_shown (setting_of c) operands) (all_shown (shows (setting_of c)) locals);
    }

    main_shown : body_shown (setting_of c) b ≡ main_body
    main_shown =
        ap (λ x. made_body x b.me b.place b.zero (code_at (codes_of t.codes) b.code) b.at b.operands.items b.locals.items) is.levels
        ∙ ap (λ x. made_body MAX_DEPTH x b.place b.zero (code_at (codes_of t.codes) b.code) b.at b.operands.items b.locals.items) is.me
        ∙ ap (λ x. made_body MAX_DEPTH None x b.zero (code_at (codes_of t.codes) b.code) b.at b.operands.items b.locals.items) is.place
        ∙ ap (λ x. made_body MAX_DEPTH None places.Main x (code_at (codes_of t.codes) b.code) b.at b.operands.items b.locals.items) is.zero_value
        ∙ ap (λ x. made_body MAX_DEPTH None places.Main zero_values.Nil x b.at b.operands.items b.locals.items) code_there
        ∙ ap (λ x. made_body MAX_DEPTH None places.Main zero_values.Nil (lay_body main 0) x b.operands.items b.locals.items) is.at
        ∙ ap (λ x. made_body MAX_DEPTH None places.Main zero_values.Nil (lay_body main 0) 0 x b.locals.items) is.operands
        ∙ ap (λ x. made_body MAX_DEPTH None places.Main zero_values.Nil (lay_body main 0) 0 [] x) is.locals

    codes_same : (ds : List Coded) → ds ≡ cs → AreCodes known main ds
    codes_same ds e = subst (λ z. AreCodes known main z) (sym e) codes

    some_code : (ds : List Coded) (x : Coded) → slice_get ds 0 ≡ Some x → 0 < length (codes_of ds)
    some_code [] x e = absurd (let z = e in cc)
    some_code (d ∷ ds) x e = omega arith

    own_main : IsOwnBody (setting_of c) os b
    own_main = record {
      me = subst (λ x. IsOwnMe (shows (setting_of c)) os x) (sym is.me) tt;
      place = subst (λ x. IsOwnPlace (setting_of c) os x) (sym is.place) tt;
      code = subst (λ n. n < length (codes_of t.codes)) (sym is.code) (some_code t.codes _ (codes_same t.codes first.codes).first);
      operands = subst (λ x. AreOwn (shows (setting_of c)) os x) (sym is.operands) (all_none (IsOwn (shows (setting_of c)) os));
      locals = subst (λ x. AreOwn (shows (setting_of c)) os x) (sym is.locals) (all_none (IsOwn (shows (setting_of c)) os));
    }

    module _ (agree : Agree l.keys l.world known l) (can : CanLoad known.classes main) where
      fine_main : IsFineBody c (nothing_yet l.world) b
      fine_main = record {
        writes = subst (λ n. WritesOwn l.world (class_here (here_shown (setting_of c) b.me b.place)) (code_at (codes_of t.codes) n)) (sym is.code)
            (main_writes l.keys l.world known l main agree can t.codes (codes_same t.codes first.codes) (class_here (here_shown (setting_of c) b.me b.place)));
        stands = subst (λ x. IsInPlace c (nothing_yet l.world) x (class_here (here_shown (setting_of c) b.me b.place))) (sym is.me) tt;
      }

      next_main : IsNext c (nothing_yet l.world) t.frames.now (frames.Running main_body)
      next_main = subst (λ n. IsNext c (nothing_yet l.world) n (frames.Running main_body)) (sym first.now) (record {
        shown = ap (λ x. frames.Running x) main_shown;
        own = own_main;
        made_of = record { here = record { me = tt; place = tt }; zero_value = tt; stack = tt; locals = tt };
        fine = fine_main;
      })

      no_objects : (xs : List ℕ) → xs ≡ [] → HoldsHeap l xs os (nothing_yet l.world) × AreSerials xs os
      no_objects xs e = subst (λ xs. HoldsHeap l xs os (nothing_yet l.world) × AreSerials xs os) (sym e) (
        record {
          holds = record { many = refl; by = λ n m. absurd (none m) };
          objects = λ n o i m. absurd (none m);
        },
        record {
          positive = λ n m. absurd (none m);
          given = λ n m. absurd (none m);
          apart = λ i n at. absurd (let z = at in cc);
        },
      )
        where
          none : 0 < 0 → ⊥
          none lt = omega (arith, lt)

      no_statics : (ss : List (Option (List Cell))) → ss ≡ [] → HoldsStatics l t.serials os ss (nothing_yet l.world)
      no_statics ss e = subst (λ ss. HoldsStatics l t.serials os ss (nothing_yet l.world)) (sym e) (record { by = λ n numbered c v. refl })

      around_main : Around c (nothing_yet l.world) []
      around_main = record {
        holding = record {
          serials = (no_objects t.serials first.serials).1;
          heap = (no_objects t.serials first.serials).0;
          class_objects = no_statics t.statics.items first.statics;
          made_of = record { objects = tt; statics = λ x k n. zero_in made (l.world.variable k n) };
        };
        shown = ap (λ ws. all_waiting_shown (setting_of c) ws) first.waiting;
        own = subst (λ ws. All (IsOwnWaiting (setting_of c) os) ws) (sym first.waiting) (all_none (IsOwnWaiting (setting_of c) os));
        made_of = tt;
        fine = subst (λ ws. All (IsFineWaiting c (nothing_yet l.world)) ws) (sym first.waiting) (all_none (IsFineWaiting c (nothing_yet l.world)));
        codes = codes_same t.codes first.codes;
      }

      -- it stands where main begins
      pub at_main : StandsAt c (main_frames MAX_DEPTH main) (beginning l.world 0)
      at_main = record { around = around_main; next = next_main; fuel = refl }

      objects_none : (n : ℕ) → n + (end_of (means_in l.world main 0)).fuel ≤ 0 → n ≡ 0
      objects_none n le = omega (arith, le)

      -- so it stands for what main means
      pub stands_main : StandsFor c (means_in l.world main) 0 (main_frames MAX_DEPTH main) (beginning l.world 0) → Stands c
      stands_main stands = record {
        frames = main_frames MAX_DEPTH main;
        state = beginning l.world 0;
        stands = subst (λ n. StandsFor c (means_in l.world main) n (main_frames MAX_DEPTH main) (beginning l.world 0)) (sym first.granted) stands;
        nothing_left = refl;
        events = ap (λ (b : Bool). if b then (end_of (means_in l.world main t.granted)).events else []) (sym first.begun);
        objects = ap length first.serials ∙ sym (ap (λ n. length (end_of (means_in l.world main n)).heap.objects) first.granted ∙ objects_none _ (main_within l.world main 0));
      }

-- what a kernel says of its keys and its world is said of those that it is linked with
pub own_agree : (ks : List ClassKey) (w : World) (l : Linked) (known : Numbering) → Agree ks w known l → Agree l.keys l.world known l
own_agree ks w l known agree = subst (λ z. Agree l.keys z known l) (sym agree.linked_answers) (subst (λ z. Agree z w known l) (sym agree.linked_numbers) agree)
