-- What a command on towers comes to is what the call comes to that asks for it.
use Rattle.std.proofs.Common.{◌≡◌, ℕ, List, Option, refl, ap, subst}
use Rattle.som_model.specs.Bytes.{Files}
use Rattle.som_cmd_steps.specs.Answering.{Answering}
use Rattle.som_cmd_steps.specs.Endings.{Ending}
use Rattle.som_cmd_steps.specs.Outcomes.{EndsAsTold, ShowsSome}
use Rattle.som_cmd_steps.proofs.OutcomeLaws.{some_with, told_with}
use Rattle.som_cmd_towers.specs.Answer.{IsTowerAnswer}
use Rattle.som_cmd_towers.specs.Asked.{TowerAsked}
use Rattle.som_cmd_towers.specs.Ends.{FailsTower}

module _ (what by : TowerAsked) (is : by ≡ what) (IsOwn : Answering) (into : (files : Files) (e : Ending) → IsOwn files e → IsTowerAnswer by files e) where
  pub ends : (files : Option Files) (status : ℕ) (new_files : Option Files) (old new : Option (List ℕ)) → EndsAsTold IsOwn files status new_files old new → EndsAsTold (IsTowerAnswer what) files status new_files old new
  ends files status new_files old new e = subst (λ (x : TowerAsked). EndsAsTold (IsTowerAnswer x) files status new_files old new) is (told_with IsOwn (IsTowerAnswer by) into files status new_files old new e)

  pub fronts : (files : Option Files) (count now : ℕ) (old new : Option (List ℕ)) → ShowsSome IsOwn (FailsTower files by) files count now old new → ShowsSome (IsTowerAnswer what) (FailsTower files what) files count now old new
  fronts files count now old new s =
      subst (λ (x : TowerAsked). ShowsSome (IsTowerAnswer x) (FailsTower files x) files count now old new) is (some_with IsOwn (IsTowerAnswer by) (FailsTower files by) into files count now old new s)
