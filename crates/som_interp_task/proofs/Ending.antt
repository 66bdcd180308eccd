-- What a run of a task comes to, after units were granted, is what an advance comes to.
use Rattle.std.proofs.Common.{◌≡◌, ◌+◌, ℕ, Bool, true, false, List, [], ◌++◌, length, drop, Option, Result, Ok, Err, if◌then◌else◌, refl, sym, ap, subst, ◌∙◌, append_assoc, append-nil}
use Rattle.std.proofs.Math.Seq.{drop-append_seam}
use Rattle.std.specs.List.{concat}
use Rattle.std.proofs.lemmas.List.{map-append}
use Rattle.std.proofs.lemmas.Grind.{flat_map-append}
use Rattle.std.proofs.lemmas.List.Folds.{concat-append}
use Rattle.som_model.specs.declared.program.Fault.{Fault}
use Rattle.som_model.specs.declared.syntax.Block.{Block}
use Rattle.som_semantics.specs.Means.{means_in}
use Rattle.som_semantics.specs.State as state
use Rattle.som_semantics.specs.State.{Event, Heap, State}
use Rattle.som_semantics.specs.Runs.{Ran, Goes, Ends, Faulted, Spent, end_of, with_more}
use Rattle.som_semantics.specs.RunText.{event_lines, events_lines, with_prefix}
use Rattle.som_io.specs.Outside.{ShowsAll, ShowsFront}
use Rattle.som_io.proofs.ShownLaws.{front_all, front_both, front_longer, shows_both}
use Rattle.som_trace.specs.declared.running.Place.{Place}
use Rattle.som_trace.specs.Told.{end_text}
use Rattle.som_interp_state.specs.Holding.{Holding}
use Rattle.som_interp_state.specs.Own.{IsOwnPlace}
use Rattle.som_interp_state.specs.Settings.{Linked}
use Rattle.som_interp_state.specs.Standing.{place_shown}
use Rattle.som_interp_loop.specs.declared.stop.Stop.{Stop}
use Rattle.som_interp_loop.specs.declared.stop.Stop.TheVariants as stops
use Rattle.som_interp_loop.specs.Moving.{Makes}
use Rattle.som_interp_loop.specs.Scene.{Scene, setting_of}
use Rattle.som_interp_loop.specs.Standing.{StandsFor}
use Rattle.som_interp_loop.specs.Stepped.{Failed}
use Rattle.som_interp_loop.specs.Ran.{RanOn, Waits}
use Rattle.som_interp_loop.proofs.Granting.{units_granted}
use Rattle.som_interp_task.specs.declared.advanced.Advanced.{Advanced}
use Rattle.som_interp_task.specs.declared.advanced.Advanced.TheVariants as answers
use Rattle.som_interp_task.specs.Advance.{Comes, EndsBy, LeavesFuel, added_text, events_now, goal, last_lines, with_granted}
use Rattle.som_interp_task.specs.Stands.{Stands, meaning, told_so_far}

-- ---- texts

-- the text of lines, each after the prefix
abbrev pub text_of : List ℕ → List (List ℕ) → List ℕ
text_of prefix lines = concat (with_prefix prefix lines)

pub text_both : (prefix : List ℕ) (xs ys : List (List ℕ)) → text_of prefix (xs ++ ys) ≡ text_of prefix xs ++ text_of prefix ys
text_both prefix xs ys = ap concat (map-append (λ line. prefix ++ line) xs ys) ∙ concat-append (with_prefix prefix xs) (with_prefix prefix ys)

-- ---- what it was before

-- what a run came to, by a stop that is equal
pub ran_same : (shows : List ℕ → Bool) (prefix : List ℕ) (before after : Option (List ℕ)) (a b : ℕ) (old new : Scene) (x y : Stop) → x ≡ y → RanOn shows prefix before after a b old new (Err x) → RanOn shows prefix before after a b old new (Err y)
ran_same shows prefix before after a b old new x y e ran = subst (λ (z : Stop). RanOn shows prefix before after a b old new (Err z)) e ran

module _ (old : Scene) (units : ℕ) (st : Stands old) where
  abbrev mid : Scene
  mid = with_granted old units

  abbrev s : State
  s = with_more units st.state

  abbrev n : ℕ
  n = old.task.granted + units

  -- with the units that are granted it stands for the meaning that it stood for
  pub stands_mid : StandsFor mid (meaning old) n st.frames s
  stands_mid = units_granted old (meaning old) old.task.granted units n true st.frames st.state st.stands st.nothing_left

  module _ (shows : List ℕ → Bool) (prefix : List ℕ) (before after : Option (List ℕ)) (new : Scene) where
    -- the meaning's events are those that were told before and then these
    abbrev Adds : List Event → Type 0
    Adds es = events_now old units ≡ es

    pub adds : (es : List Event) → (end_of (goal old units)).events ≡ st.state.events ++ es → Adds es
    adds es e = ap (λ z. drop (length (told_so_far old)) z) (e ∙ ap (λ z. z ++ es) st.events) ∙ drop-append_seam (told_so_far old) es

    -- so the text is that of these, and the last line
    text_is : (es : List Event) → Adds es → (r : Ran (Unit {0})) → goal old units ≡ r → added_text old units shows prefix ≡ text_of prefix (events_lines shows es) ++ text_of prefix (last_lines r)
    text_is es a r e =
        ap (λ z. text_of prefix (events_lines shows z ++ last_lines (goal old units))) a
        ∙ ap (λ z. text_of prefix (events_lines shows es ++ last_lines z)) e
        ∙ text_both prefix (events_lines shows es) (last_lines r)

    -- where main is over, or nothing is left, there is no last line
    whole : (es : List Event) → Adds es → (r : Ran (Unit {0})) → goal old units ≡ r → last_lines r ≡ [] → ShowsAll before after (text_of prefix (events_lines shows es)) → ShowsAll before after (added_text old units shows prefix)
    whole es a r e none p =
        subst (ShowsAll before after) (sym (text_is es a r e ∙ ap (λ z. text_of prefix (events_lines shows es) ++ text_of prefix z) none ∙ append-nil (text_of prefix (events_lines shows es)))) p

    pub end_same : (r : Ran (Unit {0})) → goal old units ≡ r → (end_of (goal old units)).events ≡ (end_of r).events
    end_same r e = ap (λ (z : Ran (Unit {0})). (end_of z).events) e

    many_same : (r : Ran (Unit {0})) → goal old units ≡ r → length (end_of r).heap.objects ≡ length new.task.serials → length new.task.serials ≡ length (end_of (goal old units)).heap.objects
    many_same r e m = sym m ∙ ap (λ (z : Ran (Unit {0})). length (end_of z).heap.objects) (sym e)

    -- the task holds the objects of a heap
    abbrev Holds : Heap → Type 0
    Holds h = Holding new.linked new.made new.task.serials new.objects new.task.statics.items h

    holds_same : (r : Ran (Unit {0})) → goal old units ≡ r → Holds (end_of r).heap → Holds (end_of (goal old units)).heap
    holds_same r e p = subst (λ (z : Ran (Unit {0})). Holds (end_of z).heap) (sym e) p

    made_same : (es : List Event) → Adds es → Makes old.known.classes old.made new.made es → Makes old.known.classes old.made new.made (events_now old units)
    made_same es a m = subst (λ z. Makes old.known.classes old.made new.made z) (sym a) m

    -- what was told before comes first
    pub told_first : {a b : ℕ} (r : Result Bool Stop) → RanOn shows prefix before after a b mid new r → (end_of (goal old units)).events ≡ told_so_far old ++ events_now old units
    told_first r ran =
        let b = ran.begins (meaning old) n st.frames s stands_mid in
        let e : (end_of (goal old units)).events ≡ st.state.events ++ (ran.events ++ b.0) = b.1 ∙ append_assoc st.state.events ran.events b.0 in
        e ∙ ap (λ z. z ++ (ran.events ++ b.0)) st.events ∙ ap (λ z. told_so_far old ++ z) (sym (adds (ran.events ++ b.0) e))

    -- ---- main is over

    pub done_comes : {a b : ℕ} → RanOn shows prefix before after a b mid new (Ok false) → Comes old units shows prefix before after new answers.Done
    done_comes ran =
        let a = ran.comes (meaning old) n st.frames s stands_mid in
        let added = adds ran.events (end_same (Goes (tt {0}) a.then) a.is ∙ a.events) in
        let text = whole ran.events added (Goes (tt {0}) a.then) a.is refl ran.outside.tells in
        record {
          events = told_first (Ok false) ran;
          ended = (a.then, a.is);
          text = text;
          front = front_all before after _ text;
          stands = tt;
          objects = many_same (Goes (tt {0}) a.then) a.is a.holding.heap.holds.many;
          holding = holds_same (Goes (tt {0}) a.then) a.is a.holding;
          makes = made_same ran.events added ran.outside.makes;
          keeps_made = ran.outside.keeps_made;
          keeps = ran.outside.keeps;
        }

    -- and as much fuel is left as the meaning leaves
    pub done_leaves : {a b : ℕ} → RanOn shows prefix before after a b mid new (Ok false) → LeavesFuel old units new.fuel answers.Done
    done_leaves ran =
        let a = ran.comes (meaning old) n st.frames s stands_mid in
        sym a.fuel ∙ ap (λ (z : Ran (Unit {0})). (end_of z).fuel) (sym a.is)

    -- ---- no unit is left

    module _ (a b : ℕ) (ran : RanOn shows prefix before after a b mid new (Err stops.Spent)) where
      abbrev w : Waits new (meaning old) n s ran.events
      w = ran.comes (meaning old) n st.frames s stands_mid

      meaning_same : meaning new ≡ meaning old
      meaning_same = ap (λ (l : Linked). means_in l.world new.main) ran.outside.keeps.linked ∙ ap (λ (m : Block). means_in old.linked.world m) ran.outside.keeps.main

      means_now : meaning new new.task.granted ≡ Ends Spent w.then
      means_now = ap (λ k. meaning new k) ran.outside.keeps.granted ∙ ap (λ (f : ℕ → Ran (Unit {0})). f n) meaning_same ∙ w.is

      told_now : w.then.events ≡ told_so_far new
      told_now =
          ap (λ (r : Ran (Unit {0})). (end_of r).events) (sym means_now)
          ∙ ap (λ (b : Bool). if b then (end_of (meaning new new.task.granted)).events else []) (sym ran.outside.keeps.begun)

      stands_now : StandsFor new (meaning new) new.task.granted w.frames w.then
      stands_now =
          subst (λ k. StandsFor new (meaning new) k w.frames w.then) (sym ran.outside.keeps.granted)
          (subst (λ f. StandsFor new f n w.frames w.then) (sym meaning_same) w.stands)

      many_now : length w.then.heap.objects ≡ length new.task.serials
      many_now = w.stands.at.around.holding.heap.holds.many

      pub going_comes : Comes old units shows prefix before after new answers.Going
      going_comes =
          let added = adds ran.events (end_same (Ends Spent w.then) w.is ∙ w.events) in
          let text = whole ran.events added (Ends Spent w.then) w.is refl ran.outside.tells in
          record {
            events = told_first (Err stops.Spent) ran;
            ended = (w.then, w.is);
            text = text;
            front = front_all before after _ text;
            stands = record {
              frames = w.frames;
              state = w.then;
              stands = stands_now;
              nothing_left = w.nothing_left;
              events = told_now;
              objects = sym many_now ∙ ap (λ (r : Ran (Unit {0})). length (end_of r).heap.objects) (sym means_now);
            };
            objects = many_same (Ends Spent w.then) w.is many_now;
            holding = holds_same (Ends Spent w.then) w.is w.stands.at.around.holding;
            makes = made_same ran.events added ran.outside.makes;
            keeps_made = ran.outside.keeps_made;
            keeps = ran.outside.keeps;
          }

    -- ---- the sink failed, or memory was wanting

    module _ (a b : ℕ) (r : Result Bool Stop) (ran : RanOn shows prefix before after a b mid new r) where
      pub front_told : ShowsFront before after (added_text old units shows prefix)
      front_told =
          let b = ran.begins (meaning old) n st.frames s stands_mid in
          let added = adds (ran.events ++ b.0) (b.1 ∙ append_assoc st.state.events ran.events b.0) in
          subst (ShowsFront before after)
          (sym (text_is (ran.events ++ b.0) added (goal old units) refl
          ∙ ap (λ z. text_of prefix z ++ text_of prefix (last_lines (goal old units))) (flat_map-append (event_lines shows) ran.events b.0)
          ∙ ap (λ z. z ++ text_of prefix (last_lines (goal old units))) (text_both prefix (events_lines shows ran.events) (events_lines shows b.0))))
          (front_longer before after (text_of prefix (events_lines shows ran.events) ++ text_of prefix (events_lines shows b.0)) (text_of prefix (last_lines (goal old units)))
          (front_longer before after (text_of prefix (events_lines shows ran.events)) (text_of prefix (events_lines shows b.0)) ran.outside.front))

      pub sunk_comes : Comes old units shows prefix before after new answers.SinkFailed
      sunk_comes = record { events = told_first r ran; ended = tt; text = tt; front = front_told; stands = tt; objects = tt; holding = tt; makes = tt; keeps_made = ran.outside.keeps_made; keeps = ran.outside.keeps }

      pub starved_comes : Comes old units shows prefix before after new answers.NoMemory
      starved_comes = record { events = told_first r ran; ended = tt; text = tt; front = front_told; stands = tt; objects = tt; holding = tt; makes = tt; keeps_made = ran.outside.keeps_made; keeps = ran.outside.keeps }

  -- ---- main has a fault

  module _ (shows : List ℕ → Bool) (prefix : List ℕ) (before told after : Option (List ℕ)) (new : Scene) (a b : ℕ) (f : Fault) (at : Place) (ran : RanOn shows prefix before told a b mid new (Err (stops.Fault f at))) where
    abbrev pub x : Failed (goal old units) f at s new ran.events
    x = ran.comes (meaning old) n st.frames s stands_mid

    abbrev end : Ran (Unit {0})
    end = Ends (Faulted f (place_shown (setting_of new) at)) x.then

    abbrev last : List ℕ
    last = end_text prefix (Faulted f (place_shown (setting_of new) at))

    pub added : events_now old units ≡ ran.events
    added = adds shows prefix before after new ran.events (end_same shows prefix before after new end x.is ∙ x.events)

    text_now : added_text old units shows prefix ≡ text_of prefix (events_lines shows ran.events) ++ last
    text_now = text_is shows prefix before after new ran.events added end x.is

    -- the place is one of the task's own
    pub fault_place : IsOwnPlace (setting_of new) new.objects at
    fault_place = x.place

    named : (r : Fault) → r ≡ f → goal old units ≡ Ends (Faulted r (place_shown (setting_of new) at)) x.then
    named r e = x.is ∙ ap (λ z. Ends (Faulted z (place_shown (setting_of new) at)) x.then) (sym e)

    front_then : ShowsFront told after last → ShowsFront before after (added_text old units shows prefix)
    front_then p = subst (ShowsFront before after) (sym text_now) (front_both before told after (text_of prefix (events_lines shows ran.events)) last ran.outside.tells p)

    pub fault_comes : (answer : Advanced) → EndsBy prefix told after f (place_shown (setting_of new) at) answer → Comes old units shows prefix before after new answer
    fault_comes (answers.SourceFault r running) e =
        let text = subst (ShowsAll before after) (sym text_now) (shows_both before told after (text_of prefix (events_lines shows ran.events)) last ran.outside.tells e.2) in
        record {
          events = told_first shows prefix before told new (Err (stops.Fault f at)) ran;
          ended = (place_shown (setting_of new) at, x.then, named r e.0, e.1);
          text = text;
          front = front_all before after _ text;
          stands = tt;
          objects = many_same shows prefix before after new end x.is x.holding.heap.holds.many;
          holding = holds_same shows prefix before after new end x.is x.holding;
          makes = made_same shows prefix before after new ran.events added ran.outside.makes;
          keeps_made = ran.outside.keeps_made;
          keeps = ran.outside.keeps;
        }
    fault_comes answers.Going e = absurd e
    fault_comes answers.Done e = absurd e
    fault_comes answers.SinkFailed e = record { events = told_first shows prefix before told new (Err (stops.Fault f at)) ran; ended = tt; text = tt; front = front_then e; stands = tt; objects = tt; holding = tt; makes = tt; keeps_made = ran.outside.keeps_made; keeps = ran.outside.keeps }
    fault_comes answers.NoMemory e = record { events = told_first shows prefix before told new (Err (stops.Fault f at)) ran; ended = tt; text = tt; front = front_then e; stands = tt; objects = tt; holding = tt; makes = tt; keeps_made = ran.outside.keeps_made; keeps = ran.outside.keeps }

-- an end by a fault is not that of a main that is over
pub fault_leaves : (old : Scene) (units left : ℕ) (prefix : List ℕ) (told after : Option (List ℕ)) (f : Fault) (place : state.Place) (a : Advanced) → EndsBy prefix told after f place a → LeavesFuel old units left a
fault_leaves old units left prefix told after f place (answers.SourceFault r running) e = tt
fault_leaves old units left prefix told after f place answers.Going e = tt
fault_leaves old units left prefix told after f place answers.Done e = absurd e
fault_leaves old units left prefix told after f place answers.SinkFailed e = tt
fault_leaves old units left prefix told after f place answers.NoMemory e = tt
