-- The laws of runs, from those of acts.
use Rattle.std.proofs.Common.{◌≡◌, ◌⊎◌, inl, inr, ℕ, ◌+◌, Bool, List, refl, ap, ◌∙◌}
use Rattle.som_model.specs.declared.program.Release.{Release}
use Rattle.som_model.specs.declared.program.ClientProgram.{ClientProgram}
use Rattle.som_model.specs.declared.limits.TheConstants.{MAX_DEPTH}
use Rattle.som_model.specs.Classes.{classes}
use Rattle.som_semantics.specs.World.{World, world}
use Rattle.som_semantics.specs.State.{State}
use Rattle.som_semantics.specs.Runs.{Faulted, Spent, Ran, Goes, Ends, IsMore, Lawful, Out, Kept, KGoes, KEnds, kept}
use Rattle.som_semantics.specs.Fuel.{IsOver, IsSpent}
use Rattle.som_semantics.specs.RunText.{line_added}
use Rattle.som_semantics.specs.Means.{main_act, means, beginning}
use Rattle.som_semantics.proofs.TextLaws.{added_lines}
use Rattle.som_semantics.specs.Told.{IsToldAs}

over_or_spent : {A : Type 0} (r r' : Ran A) → IsMore 0 r r' → IsOver r ⊎ IsSpent r
over_or_spent (Goes a s) r' h = inl tt
over_or_spent (Ends (Faulted f at) s) r' h = inl tt
over_or_spent (Ends Spent s) r' h = inr h.nothing_left

pub told_by : {A : Type 0} (shows : List ℕ → Bool) (prefix : List ℕ) (o : Out) (r : Ran A) (k : Kept A) → k ≡ kept (line_added shows prefix) o r → IsToldAs shows prefix o r k
told_by shows prefix o (Goes a s) k e = e ∙ ap (λ (z : Out). KGoes a (record { fuel = s.fuel; out = z; heap = s.heap })) (added_lines shows prefix o s.events)
told_by shows prefix o (Ends c s) k e = e ∙ ap (λ (z : Out). KEnds c (record { fuel = s.fuel; out = z; heap = s.heap })) (added_lines shows prefix o s.events)

module _ (r : Release) (p : ClientProgram) where
  abbrev pub w : World
  w = world (classes r p)

  pub law : Lawful (main_act w p.main).does
  law = (main_act w p.main).law

  pub more : (fuel k : ℕ) → IsMore k (means r p fuel) (means r p (fuel + k))
  more fuel k = law.more k (beginning w fuel)

  pub either : (fuel : ℕ) → IsOver (means r p fuel) ⊎ IsSpent (means r p fuel)
  either fuel = over_or_spent (means r p fuel) (means r p (fuel + 0)) (more fuel 0)
