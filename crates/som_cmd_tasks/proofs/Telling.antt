-- Turns that are given, and ends that are told after them.
use Rattle.std.proofs.Common.{◌≡◌, ◌≢◌, ◌≤◌, ℕ, List, ◌++◌, Option, refl, sym, ap, subst, ◌∙◌, arith}
use Rattle.std.specs.List.{concat}
use Rattle.som_io.specs.Outside.{Rose, ShowsAll, ShowsFront}
use Rattle.som_io.proofs.ShownLaws.{front_both, front_longer, front_none, rose_earlier, shows_both}
use Rattle.som_objects.specs.Objects.{Objects}
use Rattle.som_turn_laws.specs.Turns.{Clients, closing_lines, turns_text}
use Rattle.som_interp_task.specs.declared.advanced.Advanced.{Advanced}
use Rattle.som_tasks.specs.declared.turned.Turned.{Turned}
use Rattle.som_tasks.specs.declared.turned.Turned.TheVariants as turned
use Rattle.som_tasks.specs.Taken.{Counts, StaysCalm, TakesTurns}
use Rattle.som_cmd_tasks.specs.Ends.{EndsTurns, lines_from, tasks_text}
use Rattle.som_cmd_tasks.specs.Given.{GivesTurns}
use Rattle.som_cmd_tasks.proofs.Ending.{closing_are}

pub gives : (clients : Clients) (count : ℕ) (turns : List ℕ) (calm later_calm : Type 0) (before now : ℕ) (old new : Option (List ℕ)) (first last : Objects) (answer : Turned)
    → TakesTurns clients count turns old new first last answer → Counts before now answer → StaysCalm calm later_calm before now answer → GivesTurns clients count turns calm later_calm before now old new answer
gives clients count turns calm later_calm before now old new first last answer takes counts calms = record {
  text = takes.text;
  front = takes.front;
  ends = takes.ends;
  later = counts.later;
  cause = counts.cause;
  stays = calms.stays;
  fine = calms.fine;
}

ten_is_eight : ◌≡◌ {A = ℕ} 10 8 → ⊥
ten_is_eight e = omega arith

module _ (clients : Clients) (turns : List ℕ) (count before : ℕ) (old : Option (List ℕ)) where
  abbrev closing : List ℕ
  closing = concat (closing_lines clients turns count)

  -- all turns were taken, and the ends are told
  pub all_given : (calm later_calm : Type 0) (mid now : ℕ) (midway new : Option (List ℕ)) (ends told_ends : List Advanced) (status : ℕ) → told_ends ≡ ends → GivesTurns clients count turns calm later_calm before mid old midway (turned.Finished ends)
      → (status ≢ 8 → status ≢ 10 → ShowsAll midway new (concat (lines_from 0 told_ends))) → (status ≢ 8 → status ≢ 10 → status ≡ 0) → (status ≡ 8 → Rose mid now) → ShowsFront midway new (concat (lines_from 0 told_ends))
      → EndsTurns clients turns count before now old new status
  all_given calm later_calm mid now midway new ends told_ends status same given all zero cause front =
      let told : concat (lines_from 0 told_ends) ≡ closing = ap (λ (es : List Advanced). concat (lines_from 0 es)) same ∙ ap concat (closing_are clients turns count ends given.ends) in
      record {
        ended = zero;
        text = λ not8 not10. shows_both old midway new (turns_text clients turns) closing given.text (subst (ShowsAll midway new) told (all not8 not10));
        front = front_both old midway new (turns_text clients turns) closing given.text (subst (ShowsFront midway new) told front);
        cause = λ eight. rose_earlier before mid now given.later (cause eight);
      }

  -- the sink failed
  pub sink_failed : (calm later_calm : Type 0) (now : ℕ) (new : Option (List ℕ)) → GivesTurns clients count turns calm later_calm before now old new turned.SinkFailed → EndsTurns clients turns count before now old new 8
  sink_failed calm later_calm now new given = record {
    ended = λ not8 not10. absurd (not8 refl);
    text = λ not8 not10. absurd (not8 refl);
    front = front_longer old new (turns_text clients turns) closing given.front;
    cause = λ eight. given.cause refl;
  }

  -- memory ran out
  pub no_memory : (calm later_calm : Type 0) (now : ℕ) (new : Option (List ℕ)) → GivesTurns clients count turns calm later_calm before now old new turned.NoMemory → EndsTurns clients turns count before now old new 10
  no_memory calm later_calm now new given = record {
    ended = λ not8 not10. absurd (not10 refl);
    text = λ not8 not10. absurd (not10 refl);
    front = front_longer old new (turns_text clients turns) closing given.front;
    cause = λ eight. absurd (ten_is_eight eight);
  }

  -- so it did before the first turn
  pub nothing_given : (now : ℕ) → EndsTurns clients turns count before now old old 10
  nothing_given now = record {
    ended = λ not8 not10. absurd (not10 refl);
    text = λ not8 not10. absurd (not10 refl);
    front = front_none old (tasks_text clients turns count);
    cause = λ eight. absurd (ten_is_eight eight);
  }
