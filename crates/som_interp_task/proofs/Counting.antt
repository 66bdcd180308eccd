-- How many steps an advance counts.
use Rattle.std.proofs.Common.{◌≡◌, ◌+◌, ℕ, Bool, false, List, [], ◌++◌, Option, Ok, Err, refl, sym, ap, subst, ◌∙◌, append_assoc, append-nil, arith}
use Rattle.std.specs.List.{concat}
use Rattle.std.proofs.lemmas.Grind.{flat_map-append}
use Rattle.som_model.specs.declared.program.Fault.{Fault}
use Rattle.som_semantics.specs.State.{Event}
use Rattle.som_semantics.specs.Runs.{Ran, Goes, Ends, Faulted, Spent, with_more}
use Rattle.som_semantics.specs.RunText.{event_lines, events_lines, with_prefix}
use Rattle.som_io.specs.Outside.{ShowsAll, ShowsFront}
use Rattle.som_io.proofs.ShownLaws.{front_longer}
use Rattle.som_trace.specs.declared.running.Place.{Place}
use Rattle.som_interp_state.specs.Standing.{place_shown}
use Rattle.som_interp_loop.specs.declared.stop.Stop.TheVariants as stops
use Rattle.som_interp_loop.specs.Moving.{Tells}
use Rattle.som_interp_loop.specs.Scene.{Scene, setting_of}
use Rattle.som_interp_loop.specs.Counted.{CountsFrom, CountsWithin, IsBoundedScene, IsFrom, StopsWith}
use Rattle.som_interp_loop.specs.Ran.{RanOn}
use Rattle.som_interp_task.specs.declared.advanced.Advanced.{Advanced}
use Rattle.som_interp_task.specs.declared.advanced.Advanced.TheVariants as answers
use Rattle.som_interp_task.specs.Advance.{CountsSearches, EndsBy, events_now, goal, last_lines, with_granted}
use Rattle.som_interp_task.specs.Stands.{Stands, meaning}
use Rattle.som_interp_task.proofs.Ending.{adds, added, end_same, stands_mid, text_both, text_of, x as failed}

module _ (old : Scene) (units : ℕ) (st : Stands old) (shows : List ℕ → Bool) (prefix : List ℕ) (before after : Option (List ℕ)) (new : Scene) (a b : ℕ) where
  abbrev mid : Scene
  mid = with_granted old units

  -- the task stands where the units were granted
  from : (n : ℕ) → IsBoundedScene new n → IsFrom n mid new
  from n bound = record { means = meaning old; granted = old.task.granted + units; frames = st.frames; state = with_more units st.state; stands = stands_mid old units st; bound = bound }

  -- what was counted from there
  counts_from : (es : List Event) → CountsFrom mid new a b es → CountsWithin (IsBoundedScene new) a b es
  counts_from es count n bound = let x = count n (from n bound) in omega (arith, x)

  -- what was counted for these events, was for those that come now
  counts_now : (es : List Event) → events_now old units ≡ es → CountsFrom mid new a b es → CountsWithin (IsBoundedScene new) a b (events_now old units)
  counts_now es e count = subst (CountsWithin (IsBoundedScene new) a b) (sym e) (counts_from es count)

  pub counts_done : RanOn shows prefix before after a b mid new (Ok false) → CountsSearches (IsBoundedScene new) old units shows prefix before after a b answers.Done
  counts_done ran =
      let y = ran.comes (meaning old) (old.task.granted + units) st.frames (with_more units st.state) (stands_mid old units st) in
      counts_now ran.events (adds old units st shows prefix before after new ran.events (end_same old units st shows prefix before after new (Goes (tt {0}) y.then) y.is ∙ y.events)) ran.count

  pub counts_going : RanOn shows prefix before after a b mid new (Err stops.Spent) → CountsSearches (IsBoundedScene new) old units shows prefix before after a b answers.Going
  counts_going ran =
      let y = ran.comes (meaning old) (old.task.granted + units) st.frames (with_more units st.state) (stands_mid old units st) in
      counts_now ran.events (adds old units st shows prefix before after new ran.events (end_same old units st shows prefix before after new (Ends Spent y.then) y.is ∙ y.events)) ran.count

  -- of a run that stopped short some of the meaning's events came
  short : (es more : List Event) → events_now old units ≡ es ++ more → StopsWith shows prefix before after es [] (CountsFrom mid new a b) → StopsWith shows prefix before after (events_now old units) (last_lines (goal old units)) (CountsWithin (IsBoundedScene new) a b)
  short es more e q =
      let last = last_lines (goal old units) in
      record {
        came = q.came;
        rest = q.rest ++ more;
        events = e ∙ ap (λ z. z ++ more) q.events ∙ append_assoc q.came q.rest more;
        between = q.between;
        tells = q.tells;
        front = subst (ShowsFront q.between after)
            (sym (text_both prefix (events_lines shows (q.rest ++ more)) last
            ∙ ap (λ z. text_of prefix z ++ text_of prefix last) (flat_map-append (event_lines shows) q.rest more)
            ∙ ap (λ z. z ++ text_of prefix last) (text_both prefix (events_lines shows q.rest) (events_lines shows more))))
            (front_longer q.between after (text_of prefix (events_lines shows q.rest) ++ text_of prefix (events_lines shows more)) (text_of prefix last)
            (front_longer q.between after (text_of prefix (events_lines shows q.rest)) (text_of prefix (events_lines shows more))
            (subst (λ z. ShowsFront q.between after (text_of prefix z)) (append-nil (events_lines shows q.rest)) q.front)));
        count = counts_from q.came q.count;
      }

  pub counts_sunk : RanOn shows prefix before after a b mid new (Err stops.SinkFailed) → CountsSearches (IsBoundedScene new) old units shows prefix before after a b answers.SinkFailed
  counts_sunk ran =
      let y = ran.begins (meaning old) (old.task.granted + units) st.frames (with_more units st.state) (stands_mid old units st) in
      short ran.events y.0 (adds old units st shows prefix before after new (ran.events ++ y.0) (y.1 ∙ append_assoc st.state.events ran.events y.0)) ran.count

  pub counts_starved : RanOn shows prefix before after a b mid new (Err stops.NoMemory) → CountsSearches (IsBoundedScene new) old units shows prefix before after a b answers.NoMemory
  counts_starved ran =
      let y = ran.begins (meaning old) (old.task.granted + units) st.frames (with_more units st.state) (stands_mid old units st) in
      short ran.events y.0 (adds old units st shows prefix before after new (ran.events ++ y.0) (y.1 ∙ append_assoc st.state.events ran.events y.0)) ran.count

-- main has a fault, of which the line is told, or a front of it
module _ (old : Scene) (units : ℕ) (st : Stands old) (shows : List ℕ → Bool) (prefix : List ℕ) (before told after : Option (List ℕ)) (new : Scene) (a b : ℕ) (f : Fault) (at : Place) (ran : RanOn shows prefix before told a b (with_granted old units) new (Err (stops.Fault f at))) where
  count : CountsWithin (IsBoundedScene new) a b (events_now old units)
  count = counts_now old units st shows prefix before told new a b ran.events (added old units st shows prefix before told after new a b f at ran) ran.count

  -- all events came, and nothing but the last line is left
  at_last : ShowsFront told after (text_of prefix (last_lines (goal old units))) → StopsWith shows prefix before after (events_now old units) (last_lines (goal old units)) (CountsWithin (IsBoundedScene new) a b)
  at_last p = record {
    came = events_now old units;
    rest = [];
    events = sym (append-nil (events_now old units));
    between = told;
    tells = subst (Tells shows prefix before told) (sym (added old units st shows prefix before told after new a b f at ran)) ran.outside.tells;
    front = p;
    count = count;
  }

  last_line : ShowsFront told after (text_of prefix (last_lines (Ends (Faulted f (place_shown (setting_of new) at)) (failed old units st shows prefix before told after new a b f at ran).then))) → ShowsFront told after (text_of prefix (last_lines (goal old units)))
  last_line p = subst (λ (r : Ran (Unit {0})). ShowsFront told after (text_of prefix (last_lines r))) (sym (failed old units st shows prefix before told after new a b f at ran).is) p

  pub counts_fault : (answer : Advanced) → EndsBy prefix told after f (place_shown (setting_of new) at) answer → CountsSearches (IsBoundedScene new) old units shows prefix before after a b answer
  counts_fault (answers.SourceFault r running) e = count
  counts_fault answers.Going e = absurd e
  counts_fault answers.Done e = absurd e
  counts_fault answers.SinkFailed e = at_last (last_line e)
  counts_fault answers.NoMemory e = at_last (last_line e)
