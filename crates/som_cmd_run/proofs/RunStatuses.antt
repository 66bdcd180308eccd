-- With which statuses a run ends.
use Rattle.std.proofs.Common.{◌≡◌, ◌≢◌, ℕ, ◌==◌, Bool, true, false, List, [], ◌∷◌, Option, refl, sym, subst, ◌∙◌, inl, inr}
use Rattle.std.proofs.lemmas.Bool.{eqb-true}
use Rattle.std.specs.Prelude.{IsTrue}
use Rattle.som_model.specs.declared.syntax.Block.{Block}
use Rattle.som_model.specs.Lists.{Mem}
use Rattle.som_semantics.specs.Means.{means_in}
use Rattle.som_semantics.specs.Runs.{Ran, Goes, Ends, Faulted, Spent}
use Rattle.som_semantics.specs.RunText.{run_status}
use Rattle.som_semantics.specs.World.{World}
use Rattle.som_cmd_steps.specs.declared.stop.Refusal.{Refusal}
use Rattle.som_cmd_steps.specs.declared.stop.CommandStop.{CommandStop}
use Rattle.som_cmd_steps.specs.declared.stop.CommandStop.TheVariants as stops
use Rattle.som_cmd_steps.specs.Refusing.{HasStatusIn, StopRefusesAs}
use Rattle.som_cmd_steps.specs.Status.{is_calm_status}
use Rattle.som_cmd_steps.proofs.Statuses.{differs}
use Rattle.som_cmd_link.specs.Refusals.{IsImageRefusal, IsRunRefusal}
use Rattle.som_cmd_main.specs.Mains.{EndsMain}
use Rattle.som_cmd_run.specs.RunAnswer.{run_statuses}

-- ---- a run that is refused

four : Mem 4 run_statuses
four = inr (inr (inl refl))

five : Mem 5 run_statuses
five = inr (inr (inr (inl refl)))

seven : Mem 7 run_statuses
seven = inr (inr (inr (inr (inl refl))))

image_in : (name : List ℕ) (r : Refusal) → IsImageRefusal name r → HasStatusIn run_statuses r
image_in name r (inl is) = subst (HasStatusIn run_statuses) (sym is) seven
image_in name r (inr (inl (fault, named, is))) = subst (HasStatusIn run_statuses) (sym is) five
image_in name r (inr (inr (b, is))) = subst (HasStatusIn run_statuses) (sym is) five

refusal_in : (c l : List ℕ) (r : Refusal) → IsRunRefusal c l r → HasStatusIn run_statuses r
refusal_in c l r (inl is) = image_in c r is
refusal_in c l r (inr (inl is)) = image_in l r is
refusal_in c l r (inr (inr (b, is))) = subst (HasStatusIn run_statuses) (sym is) four

pub stop_in : (c l : List ℕ) (stop : CommandStop) → StopRefusesAs (IsRunRefusal c l) stop → StopRefusesAs (HasStatusIn run_statuses) stop
stop_in c l (stops.Refused r) is = refusal_in c l r is
stop_in c l (stops.StoreFailed line) is = tt
stop_in c l stops.NoMemory is = tt

-- ---- a main that runs

abbrev pub main_statuses : List ℕ
main_statuses = 0 ∷ 1 ∷ 9 ∷ 8 ∷ 10 ∷ []

ended_in : (m : Ran (Unit {0})) (status : ℕ) → status ≡ run_status m → Mem status main_statuses
ended_in (Goes a s) status e = inl e
ended_in (Ends (Faulted f at) s) status e = inr (inl e)
ended_in (Ends Spent s) status e = inr (inr (inl e))

by_failures : (status : ℕ) → (status ≢ 8 → status ≢ 10 → Mem status main_statuses) → (a b : Bool) → (status == 8) ≡ a → (status == 10) ≡ b → Mem status main_statuses
by_failures status is true b e f = inr (inr (inr (inl (eqb-true status 8 e))))
by_failures status is false true e f = inr (inr (inr (inr (inl (eqb-true status 10 f)))))
by_failures status is false false e f = is (differs status 8 e) (differs status 10 f)

pub main_status : {w : World} {main : Block} {fuel : ℕ} {shows : List ℕ → Bool} {before now : ℕ} {old new : Option (List ℕ)} {status : ℕ} → EndsMain w main fuel shows before now old new status → Mem status main_statuses
main_status {w} {main} {fuel} {shows} {before} {now} {old} {new} {status} e = by_failures status (λ not8 not10. ended_in (means_in w main fuel) status (e.ended not8 not10)) (status == 8) (status == 10) refl refl

-- it ends with no other status
pub never : (n status : ℕ) → Mem status main_statuses → (0 == n) ≡ false → (1 == n) ≡ false → (9 == n) ≡ false → (8 == n) ≡ false → (10 == n) ≡ false → status ≢ n
never n status (inl e) a b c d f is = differs 0 n a (sym e ∙ is)
never n status (inr (inl e)) a b c d f is = differs 1 n b (sym e ∙ is)
never n status (inr (inr (inl e))) a b c d f is = differs 9 n c (sym e ∙ is)
never n status (inr (inr (inr (inl e)))) a b c d f is = differs 8 n d (sym e ∙ is)
never n status (inr (inr (inr (inr (inl e))))) a b c d f is = differs 10 n f (sym e ∙ is)
never n status (inr (inr (inr (inr (inr none))))) a b c d f is = none

pub main_in : (status : ℕ) → Mem status main_statuses → Mem status run_statuses
main_in status (inl e) = inl e
main_in status (inr (inl e)) = inr (inl e)
main_in status (inr (inr (inl e))) = inr (inr (inr (inr (inr (inl e)))))
main_in status (inr (inr (inr (inl e)))) = inr (inr (inr (inr (inr (inr (inr (inl e)))))))
main_in status (inr (inr (inr (inr (inl e))))) = inr (inr (inr (inr (inr (inr (inr (inr (inl e))))))))
main_in status (inr (inr (inr (inr (inr none))))) = absurd none

pub main_calm : (status : ℕ) → Mem status main_statuses → status ≢ 8 → IsTrue (is_calm_status status)
main_calm status (inl e) not8 = subst (λ (n : ℕ). IsTrue (is_calm_status n)) (sym e) refl
main_calm status (inr (inl e)) not8 = subst (λ (n : ℕ). IsTrue (is_calm_status n)) (sym e) refl
main_calm status (inr (inr (inl e))) not8 = subst (λ (n : ℕ). IsTrue (is_calm_status n)) (sym e) refl
main_calm status (inr (inr (inr (inl e)))) not8 = absurd (not8 e)
main_calm status (inr (inr (inr (inr (inl e))))) not8 = subst (λ (n : ℕ). IsTrue (is_calm_status n)) (sym e) refl
main_calm status (inr (inr (inr (inr (inr none))))) not8 = absurd none
