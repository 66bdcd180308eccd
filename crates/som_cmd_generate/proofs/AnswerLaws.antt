-- What the command comes to is its answer, and there is one and no other.
use Rattle.std.proofs.Common.{◌≡◌, ◌≢◌, ℕ, ◌≤◌, ◌==◌, Bool, true, false, List, [], ◌∷◌, Option, Some, Result, Ok, Err, refl, sym, ap, subst, ◌∙◌, inl, inr}
use Rattle.std.specs.Prelude.{IsTrue}
use Rattle.std.proofs.lemmas.Bool.{eqb-true}
use Rattle.som_io.specs.Outside.{ShowsAll, ShowsFront}
use Rattle.som_model.specs.Bytes.{Files}
use Rattle.som_model.specs.Lists.{Mem}
use Rattle.som_semantics.specs.Runs.{Ran, Goes, Ends, Faulted, Spent}
use Rattle.som_semantics.specs.RunText.{run_status}
use Rattle.som_sources.specs.declared.fault.TextFault.{TextFault}
use Rattle.som_sources.specs.declared.fault.TextFault.TheVariants as texts
use Rattle.som_cmd_sources.specs.Texts.{text_refused}
use Rattle.som_cmd_steps.specs.declared.stop.CommandStop.{CommandStop}
use Rattle.som_cmd_steps.specs.declared.stop.CommandStop.TheVariants as stops
use Rattle.som_cmd_steps.specs.declared.stop.Refusal.{Refusal}
use Rattle.som_cmd_steps.specs.Answering.{StopAnswers}
use Rattle.som_cmd_steps.specs.Cause.{IsQuietStop}
use Rattle.som_cmd_steps.specs.Endings.{Ending, refusing}
use Rattle.som_cmd_steps.specs.Outcomes.{EndsAs}
use Rattle.som_cmd_steps.specs.Refusing.{HasStatusIn}
use Rattle.som_cmd_steps.specs.Saying.{StopSaysAll, StopSaysFailure, StopSaysFront}
use Rattle.som_cmd_steps.specs.Status.{is_calm_status}
use Rattle.som_cmd_steps.proofs.Printed.{shows_nothing, stop_ends}
use Rattle.som_cmd_steps.proofs.Statuses.{differs}
use Rattle.som_generator.specs.declared.fault.MakeFault.{MakeFault}
use Rattle.som_generator.specs.declared.fault.MakeFault.TheVariants as faults
use Rattle.som_generator.specs.declared.fault.Unmade.{Unmade}
use Rattle.som_generator.specs.declared.fault.Unmade.TheVariants as unmade
use Rattle.som_generator.specs.declared.limits.TheConstants.{MAX_CLASSES}
use Rattle.som_generator.specs.declared.made.Made.{Made}
use Rattle.som_generator.specs.Making.{Answers, IsMade, Makes, made}
use Rattle.som_generator.proofs.OneMaking.{one_making}
use Rattle.som_generator.proofs.SomeMaking.{some_making}
use Rattle.som_cmd_generate.specs.GenerateAnswer.{IsGenerateAnswer, client_run, generate_statuses, generated_text, generating, refused, runs, unmade_told}
use Rattle.som_cmd_generate.specs.GenerateEnds.{TellsGenerated}
use Rattle.som_cmd_generate.specs.Printing.{Prints, ShowsSomeOf}
use Rattle.som_cmd_generate.specs.Stopping.{StopsFor}

-- ---- there is one answer

answered_by : (n : ℕ) (files : Files) (told : Result Made Unmade) → Makes n told → (e : Ending) × IsGenerateAnswer n files e
answered_by n files (Ok m) x = (generating n files (client_run m), runs m x)
answered_by n files (Err u) x = (refusing files (unmade_told u), refused u x)

pub some_generate_answer : (n : ℕ) → n ≤ MAX_CLASSES → (files : Files) → (e : Ending) × IsGenerateAnswer n files e
some_generate_answer n few files = let s = some_making n few in answered_by n files s.0 s.1

abbrev unmade_so : Unmade → Result Made Unmade
unmade_so u = Err u

abbrev made_so : Made → Result Made Unmade
made_so m = Ok m

same_unmade : (u v : Unmade) → unmade_so u ≡ unmade_so v → u ≡ v
same_unmade u v e = cc

same_made : (m k : Made) → made_so m ≡ made_so k → m ≡ k
same_made m k e = cc

apart : {A : Type 0} (u : Unmade) (m : Made) → unmade_so u ≡ made_so m → A
apart u m e = cc

pub one_generate_answer : (n : ℕ) (files : Files) (a b : Ending) → IsGenerateAnswer n files a → IsGenerateAnswer n files b → a ≡ b
one_generate_answer n files _ _ (refused u x) (refused v y) = ap (λ (w : Unmade). refusing files (unmade_told w)) (same_unmade u v (one_making n (Err u) (Err v) x y))
one_generate_answer n files _ _ (refused u x) (runs m y) = apart u m (one_making n (Err u) (Ok m) x y)
one_generate_answer n files _ _ (runs m x) (refused u y) = apart u m (one_making n (Err u) (Ok m) y x)
one_generate_answer n files _ _ (runs m x) (runs k y) = ap (λ (z : Made). generating n files (client_run z)) (same_made m k (one_making n (Ok m) (Ok k) x y))

-- ---- all was made

pub is_made : (n : ℕ) (m : Made) → Makes n (Ok m) → IsMade n m
is_made n m (made _ is) = is

module _ (n : ℕ) (m : Made) (x : Makes n (Ok m)) (before now : ℕ) (old new : Option (List ℕ)) (status : ℕ) (p : Prints (generated_text n (client_run m)) (run_status (client_run m)) before now old new status) where
  pub made_ends : status ≢ 8 → status ≢ 10 → (files : Files) → EndsAs (IsGenerateAnswer n files) status (Some files) old new
  made_ends not8 not10 files = record {
    told = generating n files (client_run m);
    is_answer = runs m x;
    status_is = p.ended not8 not10;
    text_is = p.whole not8 not10;
    files_are = refl;
  }

  pub made_fronts : (files : Files) → ShowsSomeOf (IsGenerateAnswer n files) old new
  made_fronts files = (generating n files (client_run m), runs m x, p.front)

-- with the status of the run, or since the sink failed or memory ran out
run_in : (r : Ran (Unit {0})) → Mem (run_status r) generate_statuses
run_in (Goes u s) = inl refl
run_in (Ends (Faulted f at) s) = inr (inl refl)
run_in (Ends Spent s) = inr (inr (inr (inr (inl refl))))

eight_in : Mem 8 generate_statuses
eight_in = inr (inr (inr (inr (inr (inr (inl refl))))))

ten_in : Mem 10 generate_statuses
ten_in = inr (inr (inr (inr (inr (inr (inr (inl refl)))))))

by_failures : (status : ℕ) → (status ≢ 8 → status ≢ 10 → Mem status generate_statuses) → (a b : Bool) → (status == 8) ≡ a → (status == 10) ≡ b → Mem status generate_statuses
by_failures status is true b e f = subst (λ (n : ℕ). Mem n generate_statuses) (sym (eqb-true status 8 e)) eight_in
by_failures status is false true e f = subst (λ (n : ℕ). Mem n generate_statuses) (sym (eqb-true status 10 f)) ten_in
by_failures status is false false e f = is (differs status 8 e) (differs status 10 f)

unless_failed : (status : ℕ) → (status ≢ 8 → status ≢ 10 → Mem status generate_statuses) → Mem status generate_statuses
unless_failed status is = by_failures status is (status == 8) (status == 10) refl refl

pub made_in : (m : Made) (text : List ℕ) (before now : ℕ) (old new : Option (List ℕ)) (status : ℕ) → Prints text (run_status (client_run m)) before now old new status → Mem status generate_statuses
made_in m text before now old new status p =
    unless_failed status (λ not8 not10. subst (λ (n : ℕ). Mem n generate_statuses) (sym (p.ended not8 not10)) (run_in (client_run m)))

-- a status that is none of these
never : (n status : ℕ) → Mem status generate_statuses → (0 == n) ≡ false → (1 == n) ≡ false → (3 == n) ≡ false → (4 == n) ≡ false → (9 == n) ≡ false → (11 == n) ≡ false → (8 == n) ≡ false → (10 == n) ≡ false → status ≢ n
never n status (inl e) a b c d f g h k is = differs 0 n a (sym e ∙ is)
never n status (inr (inl e)) a b c d f g h k is = differs 1 n b (sym e ∙ is)
never n status (inr (inr (inl e))) a b c d f g h k is = differs 3 n c (sym e ∙ is)
never n status (inr (inr (inr (inl e)))) a b c d f g h k is = differs 4 n d (sym e ∙ is)
never n status (inr (inr (inr (inr (inl e))))) a b c d f g h k is = differs 9 n f (sym e ∙ is)
never n status (inr (inr (inr (inr (inr (inl e)))))) a b c d f g h k is = differs 11 n g (sym e ∙ is)
never n status (inr (inr (inr (inr (inr (inr (inl e))))))) a b c d f g h k is = differs 8 n h (sym e ∙ is)
never n status (inr (inr (inr (inr (inr (inr (inr (inl e)))))))) a b c d f g h k is = differs 10 n k (sym e ∙ is)
never n status (inr (inr (inr (inr (inr (inr (inr (inr none)))))))) a b c d f g h k is = none

pub never_two : (status : ℕ) → Mem status generate_statuses → status ≢ 2
never_two status m = never 2 status m refl refl refl refl refl refl refl refl

pub never_six : (status : ℕ) → Mem status generate_statuses → status ≢ 6
never_six status m = never 6 status m refl refl refl refl refl refl refl refl

-- none of these but 8 says that something failed
calm_in : (status : ℕ) → Mem status generate_statuses → status ≢ 8 → IsTrue (is_calm_status status)
calm_in status (inl e) not8 = subst (λ (n : ℕ). IsTrue (is_calm_status n)) (sym e) refl
calm_in status (inr (inl e)) not8 = subst (λ (n : ℕ). IsTrue (is_calm_status n)) (sym e) refl
calm_in status (inr (inr (inl e))) not8 = subst (λ (n : ℕ). IsTrue (is_calm_status n)) (sym e) refl
calm_in status (inr (inr (inr (inl e)))) not8 = subst (λ (n : ℕ). IsTrue (is_calm_status n)) (sym e) refl
calm_in status (inr (inr (inr (inr (inl e))))) not8 = subst (λ (n : ℕ). IsTrue (is_calm_status n)) (sym e) refl
calm_in status (inr (inr (inr (inr (inr (inl e)))))) not8 = subst (λ (n : ℕ). IsTrue (is_calm_status n)) (sym e) refl
calm_in status (inr (inr (inr (inr (inr (inr (inl e))))))) not8 = absurd (not8 e)
calm_in status (inr (inr (inr (inr (inr (inr (inr (inl e)))))))) not8 = subst (λ (n : ℕ). IsTrue (is_calm_status n)) (sym e) refl
calm_in status (inr (inr (inr (inr (inr (inr (inr (inr none)))))))) not8 = absurd none

pub made_calm : (m : Made) (text : List ℕ) (before now : ℕ) (old new : Option (List ℕ)) (status : ℕ) → Prints text (run_status (client_run m)) before now old new status → status ≢ 8 → IsTrue (is_calm_status status)
made_calm m text before now old new status p not8 = calm_in status (made_in m text before now old new status p) not8

-- ---- a step refused

pub quietly : (fault : MakeFault) (stop : CommandStop) → StopsFor fault stop → IsQuietStop stop
quietly (faults.Unmade u) (stops.Refused r) is = tt
quietly (faults.Unmade u) (stops.StoreFailed line) is = absurd is
quietly (faults.Unmade u) stops.NoMemory is = tt
quietly faults.NoMemory stop is = subst IsQuietStop (sym is) tt

no_failure : (stop : CommandStop) (old new : Option (List ℕ)) → IsQuietStop stop → StopSaysFailure stop old new → ⊥
no_failure (stops.Refused r) old new quiet says = says
no_failure (stops.StoreFailed line) old new quiet says = quiet
no_failure stops.NoMemory old new quiet says = says

stop_answers : (n : ℕ) (files : Files) (fault : MakeFault) (stop : CommandStop) → Answers {A = Made} (Makes n) (Err fault) → StopsFor fault stop → StopAnswers (IsGenerateAnswer n files) files stop
stop_answers n files (faults.Unmade u) (stops.Refused r) x is = subst (λ (z : Refusal). IsGenerateAnswer n files (refusing files z)) (sym is) (refused u x)
stop_answers n files (faults.Unmade u) (stops.StoreFailed line) x is = tt
stop_answers n files (faults.Unmade u) stops.NoMemory x is = tt
stop_answers n files faults.NoMemory stop x is = subst (StopAnswers (IsGenerateAnswer n files) files) (sym is) tt

fronts_by : (n : ℕ) → n ≤ MAX_CLASSES → (files : Files) (stop : CommandStop) → IsQuietStop stop → StopAnswers (IsGenerateAnswer n files) files stop → (old new : Option (List ℕ)) → StopSaysFront stop old new → ShowsSomeOf (IsGenerateAnswer n files) old new
fronts_by n few files (stops.Refused r) quiet answers old new says = (refusing files r, answers, says)
fronts_by n few files (stops.StoreFailed line) quiet answers old new says = absurd quiet
fronts_by n few files stops.NoMemory quiet answers old new says =
    let e = some_generate_answer n few files in
    (e.0, e.1, subst (λ (x : Option (List ℕ)). ShowsFront old x e.0.text) (sym says) (shows_nothing old e.0.text))

texts_in : (w : TextFault) → HasStatusIn generate_statuses (text_refused w)
texts_in (texts.Unread fault name place) = inr (inr (inl refl))
texts_in (texts.Rule b) = inr (inr (inl refl))
texts_in (texts.Limit quantity number) = inr (inr (inr (inr (inr (inl refl)))))

unmade_in : (u : Unmade) → HasStatusIn generate_statuses (unmade_told u)
unmade_in (unmade.Texts w) = texts_in w
unmade_in (unmade.NotKept lost) = inr (inr (inr (inl refl)))

stop_in : (fault : MakeFault) (stop : CommandStop) (status : ℕ) (old new : Option (List ℕ)) → StopsFor fault stop → StopSaysAll stop status old new → Mem status generate_statuses
stop_in (faults.Unmade u) (stops.Refused r) status old new is says =
    subst (λ (n : ℕ). Mem n generate_statuses) (sym says.0) (subst (HasStatusIn generate_statuses) (sym is) (unmade_in u))
stop_in (faults.Unmade u) (stops.StoreFailed line) status old new is says = absurd is
stop_in (faults.Unmade u) stops.NoMemory status old new is says = absurd says
stop_in faults.NoMemory stop status old new is says = absurd (subst (λ (s : CommandStop). StopSaysAll s status old new) is says)

module _ (n : ℕ) (fault : MakeFault) (stop : CommandStop) (x : Answers {A = Made} (Makes n) (Err fault)) (is : StopsFor fault stop) (old new : Option (List ℕ)) (status : ℕ)
    (all : status ≢ 6 → status ≢ 8 → status ≢ 10 → StopSaysAll stop status old new) (failure : status ≡ 6 → StopSaysFailure stop old new) where
  not_six : status ≢ 6
  not_six six = no_failure stop old new (quietly fault stop is) (failure six)

  pub stop_answered : status ≢ 8 → status ≢ 10 → (files : Files) → EndsAs (IsGenerateAnswer n files) status (Some files) old new
  stop_answered not8 not10 files = stop_ends (IsGenerateAnswer n files) files stop (stop_answers n files fault stop x is) status (Some files) refl old new (all not_six not8 not10)

  pub stop_among : Mem status generate_statuses
  stop_among = unless_failed status (λ not8 not10. stop_in fault stop status old new is (all not_six not8 not10))

pub stop_fronts : (n : ℕ) → n ≤ MAX_CLASSES → (fault : MakeFault) (stop : CommandStop) → Answers {A = Made} (Makes n) (Err fault) → StopsFor fault stop → (old new : Option (List ℕ)) → StopSaysFront stop old new → (files : Files)
    → ShowsSomeOf (IsGenerateAnswer n files) old new
stop_fronts n few fault stop x is old new says files = fronts_by n few files stop (quietly fault stop is) (stop_answers n files fault stop x is) old new says

-- ---- the end of a call

-- where all is made, it is that of the run
pub generated_by : (n : ℕ) (m : Made) → IsMade n m → (files : Files) (status : ℕ) (new_files : Option Files) (old new : Option (List ℕ)) → EndsAs (IsGenerateAnswer n files) status new_files old new → TellsGenerated n m status old new
generated_by n m is files status new_files old new e =
    let same = one_generate_answer n files e.told (generating n files (client_run m)) e.is_answer (runs m (made m is)) in
    record {
      text = subst (λ (x : Ending). ShowsAll old new x.text) same e.text_is;
      status_is = e.status_is ∙ ap (λ (x : Ending). x.status) same;
    }
