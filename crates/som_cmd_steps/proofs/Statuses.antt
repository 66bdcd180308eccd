-- With which statuses a command ends, and what it tells where a step refuses.
use Rattle.std.proofs.Common.{◌≡◌, ◌≢◌, ℕ, ◌⊎◌, Bool, true, false, ◌==◌, List, [], ◌∷◌, ◌++◌, Option, Some, None, Result, Ok, Err, refl, sym, subst, ◌∙◌, inl, inr, arith}
use Rattle.std.proofs.lemmas.Bool.{eqb-true}
use Rattle.std.proofs.lemmas.Grind.{common_steps}
use Rattle.som_model.specs.Lists.{Mem}
use Rattle.som_model.specs.Rules.{RuleBreach}
use Rattle.som_model.specs.Steps.{◌>>=◌}
use Rattle.som_image_fields.specs.declared.fault.ImageFault.{ImageFault}
use Rattle.som_cmd_steps.specs.declared.output.End.{End}
use Rattle.som_cmd_steps.specs.declared.output.Output.{Output}
use Rattle.som_cmd_steps.specs.declared.stop.Refusal.{Refusal}
use Rattle.som_cmd_steps.specs.declared.stop.CommandStop.{CommandStop}
use Rattle.som_cmd_steps.specs.ImageSteps.{kept_or, read_or, sound}
use Rattle.som_cmd_steps.specs.Lines.{absent}
use Rattle.som_cmd_steps.specs.Refusing.{EndsIn, HasStatusIn, RefusesAs, StopRefusesAs, TellsRefusal}
use Rattle.som_cmd_steps.specs.Saying.{SaysAll}
use Rattle.som_cmd_steps.specs.Status.{end_status, failing_statuses}
use Rattle.som_cmd_steps.specs.Steps.{Stops}
use Rattle.som_cmd_steps.specs.declared.output.End.TheVariants as the_end
use Rattle.som_cmd_steps.specs.declared.stop.CommandStop.TheVariants as stops

-- ---- what steps refuse

-- whatever refusal a step comes to is one of these
abbrev pub Only : {A : Type 0} → (Refusal → Type 0) → Result A Refusal → Type 0
Only IsOne (Ok x) = Unit {0}
Only IsOne (Err r) = IsOne r

pub then_only : {A B : Type 0} (IsOne : Refusal → Type 0) (s : Result A Refusal) (f : A → Result B Refusal) → Only IsOne s → ((x : A) → Only IsOne (f x)) → Only IsOne (s >>= f)
then_only IsOne (Ok x) f one others = others x
then_only IsOne (Err r) f one others = one

-- of the steps of an image: its bytes can't be read, or it breaks a rule
module _ (statuses : List ℕ) (five : Mem 5 statuses) where
  pub read_only : {A : Type 0} (name : List ℕ) (read : Result A ImageFault) → Only (HasStatusIn statuses) (read_or name read)
  read_only name (Ok x) = tt
  read_only name (Err fault) = five

  pub kept_only : (name : List ℕ) (o : Option RuleBreach) → Only (HasStatusIn statuses) (kept_or name o)
  kept_only name None = tt
  kept_only name (Some b) = five

  pub sound_only : {A : Type 0} (breach : A → Option RuleBreach) (name : List ℕ) (read : Result A ImageFault) → Only (HasStatusIn statuses) (sound breach name read)
  sound_only {A} breach name read =
      then_only (HasStatusIn statuses) (read_or name read) (λ (x : A). kept_or name (breach x) >>= λ kept. Ok x) (read_only name read)
      (λ x. then_only (HasStatusIn statuses) (kept_or name (breach x)) (λ kept. Ok x) (kept_only name (breach x)) (λ kept. tt))

-- so what the code refuses is one of these
pub stops_only : {A : Type 0} (IsOne : Refusal → Type 0) (steps : Result A Refusal) → Only IsOne steps → (stop : CommandStop) → Stops stop steps → StopRefusesAs IsOne stop
stops_only {A} IsOne steps only (stops.Refused r) f = subst (λ (x : Result A Refusal). Only IsOne x) f only
stops_only IsOne steps only (stops.StoreFailed line) f = tt
stops_only IsOne steps only stops.NoMemory f = tt

-- a name that isn't there
pub absent_in : (statuses : List ℕ) → Mem 7 statuses → (name : List ℕ) (stop : CommandStop) → StopRefusesAs (λ r. r ≡ absent name) stop → StopRefusesAs (HasStatusIn statuses) stop
absent_in statuses seven name (stops.Refused r) is = subst (HasStatusIn statuses) (sym is) seven
absent_in statuses seven name (stops.StoreFailed line) is = tt
absent_in statuses seven name stops.NoMemory is = tt

-- ---- how a call ends

mem_after : (n : ℕ) (xs ys : List ℕ) → Mem n ys → Mem n (xs ++ ys)
mem_after n [] ys m = m
mem_after n (x ∷ xs) ys m = inr (mem_after n xs ys m)

pub differs : (m n : ℕ) → (m == n) ≡ false → m ≢ n
differs m n e same = grind (arith, common_steps)

abbrev pub AllSaid : Result Output CommandStop → ℕ → Option (List ℕ) → Option (List ℕ) → Type 0
AllSaid outcome status old new = status ≢ 6 → status ≢ 8 → status ≢ 10 → SaysAll outcome status old new

module _ (own : List ℕ) (status : ℕ) (old new : Option (List ℕ)) where
  abbrev all : List ℕ
  all = own ++ failing_statuses

  status_told : (outcome : Result Output CommandStop) → EndsIn all outcome → SaysAll outcome status old new → Mem status all
  status_told (Ok o) ends says = subst (λ (n : ℕ). Mem n all) (sym says.0) ends
  status_told (Err (stops.Refused r)) ends says = subst (λ (n : ℕ). Mem n all) (sym says.0) ends
  status_told (Err (stops.StoreFailed line)) ends says = absurd says
  status_told (Err stops.NoMemory) ends says = absurd says

  failing_is : (n : ℕ) → Mem n failing_statuses → status ≡ n → Mem status all
  failing_is n m e = subst (λ (k : ℕ). Mem k all) (sym e) (mem_after n own failing_statuses m)

  by_failures : (outcome : Result Output CommandStop) → EndsIn all outcome → AllSaid outcome status old new → (a b c : Bool) → (status == 6) ≡ a → (status == 8) ≡ b → (status == 10) ≡ c → Mem status all
  by_failures outcome ends says true b c e f g = failing_is 6 (inl refl) (eqb-true status 6 e)
  by_failures outcome ends says false true c e f g = failing_is 8 (inr (inl refl)) (eqb-true status 8 f)
  by_failures outcome ends says false false true e f g = failing_is 10 (inr (inr (inl refl))) (eqb-true status 10 g)
  by_failures outcome ends says false false false e f g = status_told outcome ends (says (differs status 6 e) (differs status 8 f) (differs status 10 g))

  -- with the status of what it came to, or since something failed
  pub ends_in : (outcome : Result Output CommandStop) → EndsIn all outcome → AllSaid outcome status old new → Mem status all
  ends_in outcome ends says = by_failures outcome ends says (status == 6) (status == 8) (status == 10) refl refl refl

-- ---- what a refused command tells

no_end : (e : End) (status n : ℕ) → status ≡ end_status e → status ≡ n → n ≢ 0 → n ≢ 9 → ⊥
no_end the_end.Done status n is e zero nine = zero (sym e ∙ is)
no_end the_end.Spent status n is e zero nine = nine (sym e ∙ is)

module _ (IsOne : Refusal → Type 0) (outcome : Result Output CommandStop) (refuses : RefusesAs IsOne outcome) (status : ℕ) (old new : Option (List ℕ)) where
  told_by : (o : Result Output CommandStop) → RefusesAs IsOne o → SaysAll o status old new → (n : ℕ) → status ≡ n → n ≢ 0 → n ≢ 9 → TellsRefusal IsOne status old new
  told_by (Ok o) is says n e zero nine = absurd (no_end o.end status n says.0 e zero nine)
  told_by (Err (stops.Refused r)) is says n e zero nine = record { refusal = r; is_one = is; status_is = says.0; written = says.1 }
  told_by (Err (stops.StoreFailed line)) is says n e zero nine = absurd says
  told_by (Err stops.NoMemory) is says n e zero nine = absurd says

  told_at : (n : ℕ) → status ≡ n → n ≢ 0 → n ≢ 9 → n ≢ 6 → n ≢ 8 → n ≢ 10 → AllSaid outcome status old new → TellsRefusal IsOne status old new
  told_at n e zero nine six eight ten says = told_by outcome refuses (says (λ h. six (sym e ∙ h)) (λ h. eight (sym e ∙ h)) (λ h. ten (sym e ∙ h))) n e zero nine

  -- one line alone, where the status is that of a refusal
  pub refusal_told : AllSaid outcome status old new → (status ≡ 4) ⊎ (status ≡ 5) ⊎ (status ≡ 7) → TellsRefusal IsOne status old new
  refusal_told says (inl e) = told_at 4 e (λ h. omega arith) (λ h. omega arith) (λ h. omega arith) (λ h. omega arith) (λ h. omega arith) says
  refusal_told says (inr (inl e)) = told_at 5 e (λ h. omega arith) (λ h. omega arith) (λ h. omega arith) (λ h. omega arith) (λ h. omega arith) says
  refusal_told says (inr (inr e)) = told_at 7 e (λ h. omega arith) (λ h. omega arith) (λ h. omega arith) (λ h. omega arith) (λ h. omega arith) says
