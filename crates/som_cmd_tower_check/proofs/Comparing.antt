-- Two libraries that are compared, and the line that comes of it.
use Rattle.std.proofs.Common.{◌≡◌, ℕ, List, [], ◌∷◌, ◌++◌, length, Option, Result, Ok, Err, sym, ap, subst, ◌∙◌}
use Rattle.std.specs.Prelude.{codes}
use Rattle.som_model.specs.Compatible.{CompatBreach}
use Rattle.som_model.specs.declared.program.Interface.{Interface}
use Rattle.som_level_laws.specs.Levels.{first_level_break}
use Rattle.som_compat_levels.specs.Conditions.{AreComparable}
use Rattle.som_compat_levels.specs.Told.{IsTold, TellsLevels}
use Rattle.som_compat_levels.specs.declared.breach.LevelBreach.{LevelBreach}
use Rattle.som_compat_levels.specs.declared.breach.LevelFault.TheVariants as faults
use Rattle.som_towerimage.specs.declared.level.Level.{Level}
use Rattle.som_cmd_steps.specs.declared.stop.CommandStop.TheVariants as stops
use Rattle.som_cmd_steps.specs.declared.stop.Refusal.{Refusal}
use Rattle.som_cmd_steps.specs.Lines.{not_kept}
use Rattle.som_cmd_steps.specs.Steps.{Follows}
use Rattle.som_cmd_tower_check.specs.Libraries.{IsSoundLibrary, promised}
use Rattle.som_cmd_tower_check.specs.TowerCheckAnswer.{accepted_or, first_lost}
use Rattle.som_cmd_tower_check.proofs.Promising.{comparable}

abbrev Lost : Type 0
Lost = Option (ℕ × CompatBreach)

abbrev Line : Type 0
Line = Result (List ℕ) Refusal

module _ (o n : Level) (olds news : List Interface) where
  pub may_compare : IsSoundLibrary o → IsSoundLibrary n → length n.sizes ≡ length o.sizes → olds ≡ promised o → news ≡ promised n → AreComparable olds news
  may_compare so sn alike olds_are news_are =
      subst (λ (z : List Interface). AreComparable z news) (sym olds_are) (subst (λ (z : List Interface). AreComparable (promised o) z) (sym news_are) (comparable o n so sn alike))

  same_lost : olds ≡ promised o → news ≡ promised n → first_lost o n ≡ first_level_break olds news
  same_lost olds_are news_are = ap (λ (z : List Interface). first_level_break z (promised n)) (sym olds_are) ∙ ap (λ (z : List Interface). first_level_break olds z) (sym news_are)

  -- nothing is lost
  pub accepts_so : (name line : List ℕ) (u : Unit {0}) → olds ≡ promised o → news ≡ promised n → TellsLevels (first_level_break olds news) (Ok u) → line ≡ codes "accepted" ++ 10 ∷ [] → Follows (Ok line) (accepted_or name (first_lost o n))
  accepts_so name line u olds_are news_are none line_is =
      ap (λ (x : Lost). accepted_or name x) (same_lost olds_are news_are ∙ none) ∙ ap (λ (x : List ℕ). let s : Line = Ok x in s) (sym line_is)

  -- something is
  pub refuses_so : (name : List ℕ) (b : LevelBreach) (r : Refusal) → olds ≡ promised o → news ≡ promised n → TellsLevels (first_level_break olds news) (Err (faults.Breach b)) → ((found : ℕ × CompatBreach) → IsTold found b → r ≡ not_kept name found.1)
      → Follows {A = List ℕ} (Err (stops.Refused r)) (accepted_or name (first_lost o n))
  refuses_so name b r olds_are news_are lost line =
      ap (λ (x : Lost). accepted_or name x) (same_lost olds_are news_are ∙ lost.1) ∙ ap (λ (x : Refusal). let s : Line = Err x in s) (sym (line lost.0 lost.2))
