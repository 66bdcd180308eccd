-- What is printed of main and after it.
use Rattle.std.proofs.Common.{◌≡◌, ◌≢◌, ℕ, ◌≤◌, List, [], ◌++◌, Option, refl, sym, ap, subst, ◌∙◌, arith}
use Rattle.std.proofs.lemmas.List.{append-nil}
use Rattle.som_io.specs.Outside.{Rose, ShowsAll, ShowsFront}
use Rattle.som_model.specs.declared.limits.TheConstants.{DEFAULT_FUEL}
use Rattle.som_model.specs.declared.program.ClientProgram.{ClientProgram}
use Rattle.som_model.specs.declared.program.Release.{Release}
use Rattle.som_model.specs.declared.syntax.Block.{Block}
use Rattle.som_model.specs.Class.{Class}
use Rattle.som_model.specs.Classes.{classes}
use Rattle.som_semantics.specs.Means.{means, means_in}
use Rattle.som_semantics.specs.Runs.{Ran, Goes, Spent, end_of}
use Rattle.som_semantics.specs.RunText.{no_trace, run_status, run_text}
use Rattle.som_semantics.specs.State.{State}
use Rattle.som_semantics.specs.World.{World, world}
use Rattle.som_classmgr.specs.Asking.{answers_of}
use Rattle.som_class_kernel.specs.Linked.{Linkage}
use Rattle.som_interp_task.specs.declared.outcome.Outcome.{Outcome}
use Rattle.som_interp_task.specs.declared.outcome.Outcome.TheVariants as outcomes
use Rattle.som_interp_task.specs.Run.{LeavesFuel}
use Rattle.som_cmd_main.specs.Mains.{RunsTraced}
use Rattle.som_cmd_generate.specs.AfterMain.{EndsAfter}
use Rattle.som_cmd_generate.specs.GenerateAnswer.{left_line, left_text, ran_text}
use Rattle.som_cmd_generate.specs.Printing.{Prints}
use Rattle.som_io.proofs.ShownLaws.{front_all, front_longer}
use Rattle.som_cmd_generate.proofs.PrintLaws.{none_printed, prints_after}

-- ---- after main

module _ (m : Ran (Unit {0})) (before mid now : ℕ) (old told new : Option (List ℕ)) (status : ℕ) where
  -- it came to its end
  over : (s : State) (left : ℕ) → m ≡ Goes (tt {0}) s → left ≡ (end_of m).fuel → ShowsAll old told (run_text no_trace m) → before ≤ mid → Prints (left_line left) 0 mid now told new status → Prints (ran_text m) (run_status m) before now old new status
  over s left is fuel text le p =
      let units : left ≡ s.fuel = fuel ∙ ap (λ (r : Ran (Unit {0})). (end_of r).fuel) is in
      let line : left_line left ≡ left_text m = ap left_line units ∙ sym (ap left_text is) in
      let ends : ◌≡◌ {A = ℕ} 0 (run_status m) = sym (ap (λ (r : Ran (Unit {0})). run_status r) is) in
      subst (λ (t : List ℕ). Prints (run_text no_trace m ++ t) (run_status m) before now old new status) line
      (subst (λ (n : ℕ). Prints (run_text no_trace m ++ left_line left) n before now old new status) ends
      (prints_after (run_text no_trace m) (left_line left) 0 before mid now old told new status text le p))

  -- it was cut short, and no line is printed after it
  cut_short : (n : ℕ) → left_text m ≡ [] → run_status m ≡ n → n ≢ 8 → ShowsAll old told (run_text no_trace m) → status ≡ n → new ≡ told → Prints (ran_text m) (run_status m) before now old new status
  cut_short n none ends fine text is same =
      let all : ran_text m ≡ run_text no_trace m = ap (λ (t : List ℕ). run_text no_trace m ++ t) none ∙ append-nil (run_text no_trace m) in
      let shown : ShowsAll old new (ran_text m) = subst (ShowsAll old new) (sym all) (subst (λ (x : Option (List ℕ)). ShowsAll old x (run_text no_trace m)) (sym same) text) in
      record {
        ended = λ not8 not10. is ∙ sym ends;
        whole = λ not8 not10. shown;
        front = front_all old new (ran_text m) shown;
        cause = λ e. absurd (fine (sym is ∙ e));
      }

  front_so : ShowsFront old told (run_text no_trace m) → new ≡ told → ShowsFront old new (ran_text m)
  front_so f same = front_longer old new (run_text no_trace m) (left_text m) (subst (λ (x : Option (List ℕ)). ShowsFront old x (run_text no_trace m)) (sym same) f)

  -- the sink failed in it
  sunk : ShowsFront old told (run_text no_trace m) → Rose before mid → status ≡ 8 → new ≡ told → now ≡ mid → Prints (ran_text m) (run_status m) before now old new status
  sunk f rose is same count = record {
    ended = λ not8 not10. absurd (not8 is);
    whole = λ not8 not10. absurd (not8 is);
    front = front_so f same;
    cause = λ e. subst (λ (n : ℕ). Rose before n) (sym count) rose;
  }

  -- memory ran out in it
  starved : ShowsFront old told (run_text no_trace m) → status ≡ 10 → new ≡ told → Prints (ran_text m) (run_status m) before now old new status
  starved f is same = record {
    ended = λ not8 not10. absurd (not10 is);
    whole = λ not8 not10. absurd (not10 is);
    front = front_so f same;
    cause = λ e. absurd (omega (arith, is, e));
  }

pub main_prints : (w : World) (main : Block) (fuel before mid now : ℕ) (old told new : Option (List ℕ)) (outcome : Outcome) (left status : ℕ) → RunsTraced w main fuel no_trace before mid old told outcome → LeavesFuel (means_in w main fuel) left outcome
    → before ≤ mid → EndsAfter outcome left mid now told new status → Prints (ran_text (means_in w main fuel)) (run_status (means_in w main fuel)) before now old new status
main_prints w main fuel before mid now old told new outcomes.Done left status r fuel_left le e = over (means_in w main fuel) before mid now old told new status r.ended.0 left r.ended.1 fuel_left r.text le e
main_prints w main fuel before mid now old told new (outcomes.SourceFault fault at) left status r fuel_left le e =
    cut_short (means_in w main fuel) before mid now old told new status 1 (ap left_text r.ended.2) (ap (λ (x : Ran (Unit {0})). run_status x) r.ended.2) (λ same. omega (arith, same)) r.text e.0 e.1
main_prints w main fuel before mid now old told new outcomes.Spent left status r fuel_left le e =
    cut_short (means_in w main fuel) before mid now old told new status 9 (ap left_text r.ended.1) (ap (λ (x : Ran (Unit {0})). run_status x) r.ended.1) (λ same. omega (arith, same)) r.text e.0 e.1
main_prints w main fuel before mid now old told new outcomes.SinkFailed left status r fuel_left le e = sunk (means_in w main fuel) before mid now old told new status r.front (r.cause refl) e.0 e.1 e.2
main_prints w main fuel before mid now old told new outcomes.NoMemory left status r fuel_left le e = starved (means_in w main fuel) before mid now old told new status r.front e.0 e.1

-- there was no memory to begin
pub not_begun : (m : Ran (Unit {0})) (before now : ℕ) (old new : Option (List ℕ)) → new ≡ old → Prints (ran_text m) (run_status m) before now old new 10
not_begun m before now old new same = none_printed (ran_text m) (run_status m) before now old new same

-- ---- over the kernel of a client and a release

-- a kernel answers what its classes do
world_is : (cs : List Class) → answers_of cs ≡ world cs
unfolding world
world_is cs = refl

means_so : (r : Release) (p : ClientProgram) (k : Linkage) → k.classes.classes ≡ classes r p → k.main ≡ p.main → means_in (answers_of k.classes.classes) k.main DEFAULT_FUEL ≡ means r p DEFAULT_FUEL
means_so r p k are is =
    ap (λ (w : World). means_in w k.main DEFAULT_FUEL) (world_is k.classes.classes)
    ∙ ap (λ (cs : List Class). means_in (world cs) k.main DEFAULT_FUEL) are
    ∙ ap (λ (main : Block). means_in (world (classes r p)) main DEFAULT_FUEL) is

pub client_prints : (r : Release) (p : ClientProgram) (k : Linkage) (before now : ℕ) (old new : Option (List ℕ)) (status : ℕ) → k.classes.classes ≡ classes r p → k.main ≡ p.main
    → Prints (ran_text (means_in (answers_of k.classes.classes) k.main DEFAULT_FUEL)) (run_status (means_in (answers_of k.classes.classes) k.main DEFAULT_FUEL)) before now old new status
    → Prints (ran_text (means r p DEFAULT_FUEL)) (run_status (means r p DEFAULT_FUEL)) before now old new status
client_prints r p k before now old new status are is x = subst (λ (m : Ran (Unit {0})). Prints (ran_text m) (run_status m) before now old new status) (means_so r p k are is) x
