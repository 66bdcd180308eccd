-- An advance of a task that was just started is a whole run.
use Rattle.std.proofs.Common.{◌≡◌, ◌+◌, ℕ, Bool, false, List, [], ◌∷◌, ◌++◌, length, drop, Option, if◌then◌else◌, refl, sym, ap, subst, ◌∙◌, arith, append-nil}
use Rattle.std.specs.List.{concat}
use Rattle.som_semantics.specs.State.{Event, Heap}
use Rattle.som_semantics.specs.Runs.{Ran, Goes, Ends, end_of}
use Rattle.som_semantics.specs.RunText.{events_lines, run_lines, run_text, with_prefix}
use Rattle.som_model.specs.declared.program.Fault.{Fault}
use Rattle.som_trace.specs.declared.running.Running.{Running}
use Rattle.som_io.specs.Outside.{ShowsAll, ShowsFront}
use Rattle.som_interp_state.specs.Holding.{Holding}
use Rattle.som_interp_loop.specs.Moving.{Makes}
use Rattle.som_interp_loop.specs.Scene.{Scene}
use Rattle.som_interp_loop.specs.Counted.{CountsWithin, StopsWith}
use Rattle.som_interp_task.specs.declared.advanced.Advanced.TheVariants as answers
use Rattle.som_interp_task.specs.declared.outcome.Outcome.TheVariants as outcomes
use Rattle.som_interp_task.specs.Advance.{Comes, CountsSearches, added_text, events_now, goal, last_lines}
use Rattle.som_interp_task.specs.Run.{CountsRunSearches, RunsSo, text_with}
use Rattle.som_interp_task.specs.Stands.{meaning, told_so_far}

-- without a prefix lines are what they are
pub no_prefix : (lines : List (List ℕ)) → with_prefix [] lines ≡ lines
no_prefix [] = refl
no_prefix (l ∷ ls) = ap (λ z. l ∷ z) (no_prefix ls)

-- the lines of the events, and the last one, are all lines
all_lines : (shows : List ℕ → Bool) (r : Ran (Unit {0})) → events_lines shows (end_of r).events ++ last_lines r ≡ run_lines shows r
all_lines shows (Goes u s) = append-nil (events_lines shows s.events)
all_lines shows (Ends cut s) = refl

module _ (old : Scene) (fuel : ℕ) (granted : old.task.granted ≡ 0) (begun : old.task.begun ≡ false) where
  abbrev r : Ran (Unit {0})
  r = meaning old fuel

  from_none : (n : ℕ) → n ≡ 0 → n + fuel ≡ fuel
  from_none n e = omega (arith, e)

  goal_is : goal old fuel ≡ r
  goal_is = ap (λ n. meaning old n) (from_none old.task.granted granted)

  none_told : told_so_far old ≡ []
  none_told = ap (λ (b : Bool). if b then (end_of (meaning old old.task.granted)).events else []) begun

  events_are : events_now old fuel ≡ (end_of r).events
  events_are = ap (λ (es : List Event). drop (length es) (end_of (goal old fuel)).events) none_told ∙ ap (λ (z : Ran (Unit {0})). (end_of z).events) goal_is

  -- what is counted of a whole run
  module _ (within : ℕ → Type 0) (shows : List ℕ → Bool) (prefix : List ℕ) (before after : Option (List ℕ)) (b c : ℕ) where
    counts_all : CountsWithin within b c (events_now old fuel) → CountsWithin within b c (end_of r).events
    counts_all x = subst (CountsWithin within b c) events_are x

    pub counts_short : StopsWith shows prefix before after (events_now old fuel) (last_lines (goal old fuel)) (CountsWithin within b c) → StopsWith shows prefix before after (end_of r).events (last_lines r) (CountsWithin within b c)
    counts_short x =
        subst (λ (es : List Event). StopsWith shows prefix before after es (last_lines r) (CountsWithin within b c)) events_are
        (subst (λ (z : Ran (Unit {0})). StopsWith shows prefix before after (events_now old fuel) (last_lines z) (CountsWithin within b c)) goal_is x)

    pub counts_spent : CountsSearches within old fuel shows prefix before after b c answers.Going → CountsRunSearches within r shows prefix before after b c outcomes.Spent
    counts_spent x = counts_all x

    pub counts_done : CountsSearches within old fuel shows prefix before after b c answers.Done → CountsRunSearches within r shows prefix before after b c outcomes.Done
    counts_done x = counts_all x

    pub counts_fault : (f : Fault) (at : Running) → CountsSearches within old fuel shows prefix before after b c (answers.SourceFault f at) → CountsRunSearches within r shows prefix before after b c (outcomes.SourceFault f at)
    counts_fault f at x = counts_all x

  -- what a whole run leaves of its fuel
  pub leaves_run : (left : ℕ) → left ≡ (end_of (goal old fuel)).fuel → left ≡ (end_of r).fuel
  leaves_run left e = e ∙ ap (λ (z : Ran (Unit {0})). (end_of z).fuel) goal_is

  text_is : (shows : List ℕ → Bool) (prefix : List ℕ) → added_text old fuel shows prefix ≡ text_with shows prefix r
  text_is shows prefix =
      ap (λ (es : List Event). concat (with_prefix prefix (events_lines shows es ++ last_lines (goal old fuel)))) events_are
      ∙ ap (λ (z : Ran (Unit {0})). concat (with_prefix prefix (events_lines shows (end_of r).events ++ last_lines z))) goal_is
      ∙ ap (λ ls. concat (with_prefix prefix ls)) (all_lines shows r)

  module _ (shows : List ℕ → Bool) (prefix : List ℕ) (before after : Option (List ℕ)) (new : Scene) where
    all_text : ShowsAll before after (added_text old fuel shows prefix) → ShowsAll before after (text_with shows prefix r)
    all_text p = subst (ShowsAll before after) (text_is shows prefix) p

    plain_text : ShowsAll before after (added_text old fuel shows prefix) → prefix ≡ [] → ShowsAll before after (run_text shows r)
    plain_text p e = subst (ShowsAll before after) (ap (λ z. concat (with_prefix z (run_lines shows r))) e ∙ ap concat (no_prefix (run_lines shows r))) (all_text p)

    front_text : ShowsFront before after (added_text old fuel shows prefix) → ShowsFront before after (text_with shows prefix r)
    front_text p = subst (ShowsFront before after) (text_is shows prefix) p

    many : length new.task.serials ≡ length (end_of (goal old fuel)).heap.objects → length new.task.serials ≡ length (end_of r).heap.objects
    many p = p ∙ ap (λ (z : Ran (Unit {0})). length (end_of z).heap.objects) goal_is

    -- the task holds the objects of a heap
    abbrev Holds : Heap → Type 0
    Holds h = Holding new.linked new.made new.task.serials new.objects new.task.statics.items h

    holds : Holds (end_of (goal old fuel)).heap → Holds (end_of r).heap
    holds p = subst (λ (z : Ran (Unit {0})). Holds (end_of z).heap) goal_is p

    makes : Makes old.known.classes old.made new.made (events_now old fuel) → Makes old.known.classes old.made new.made (end_of r).events
    makes p = subst (Makes old.known.classes old.made new.made) events_are p

    pub spent_runs : Comes old fuel shows prefix before after new answers.Going → RunsSo old fuel shows prefix before after new outcomes.Spent
    spent_runs x = record {
      ended = (x.ended.0, sym goal_is ∙ x.ended.1);
      text = all_text x.text;
      plain = plain_text x.text;
      front = front_text x.front;
      objects = many x.objects;
      holding = holds x.holding;
      makes = makes x.makes;
      keeps_made = x.keeps_made;
      keeps = x.keeps;
    }

    pub done_runs : Comes old fuel shows prefix before after new answers.Done → RunsSo old fuel shows prefix before after new outcomes.Done
    done_runs x = record {
      ended = (x.ended.0, sym goal_is ∙ x.ended.1);
      text = all_text x.text;
      plain = plain_text x.text;
      front = front_text x.front;
      objects = many x.objects;
      holding = holds x.holding;
      makes = makes x.makes;
      keeps_made = x.keeps_made;
      keeps = x.keeps;
    }

    pub fault_runs : (f : Fault) (at : Running) → Comes old fuel shows prefix before after new (answers.SourceFault f at) → RunsSo old fuel shows prefix before after new (outcomes.SourceFault f at)
    fault_runs f at x = record {
      ended = (x.ended.0, x.ended.1, sym goal_is ∙ x.ended.2, x.ended.3);
      text = all_text x.text;
      plain = plain_text x.text;
      front = front_text x.front;
      objects = many x.objects;
      holding = holds x.holding;
      makes = makes x.makes;
      keeps_made = x.keeps_made;
      keeps = x.keeps;
    }

    pub sunk_runs : Comes old fuel shows prefix before after new answers.SinkFailed → RunsSo old fuel shows prefix before after new outcomes.SinkFailed
    sunk_runs x = record { ended = tt; text = tt; plain = λ e. tt; front = front_text x.front; objects = tt; holding = tt; makes = tt; keeps_made = x.keeps_made; keeps = x.keeps }

    pub starved_runs : Comes old fuel shows prefix before after new answers.NoMemory → RunsSo old fuel shows prefix before after new outcomes.NoMemory
    starved_runs x = record { ended = tt; text = tt; plain = λ e. tt; front = front_text x.front; objects = tt; holding = tt; makes = tt; keeps_made = x.keeps_made; keeps = x.keeps }
