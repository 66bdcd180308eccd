-- What giving turns to clients comes to.
use Rattle.std.specs.Prelude.{◌≡◌, ◌≢◌, ◌≤◌, ℕ, List, Option}
use Rattle.som_io.specs.Outside.{Rose, ShowsAll, ShowsFront}
use Rattle.som_turn_laws.specs.Turns.{Clients, turns_text}
use Rattle.som_tasks.specs.declared.turned.Turned.{Turned}
use Rattle.som_tasks.specs.declared.turned.Turned.TheVariants as turned
use Rattle.som_tasks.specs.Taken.{AreEnds, IfFinished}

-- the turns of so many clients: their text was written, or a front of it where memory was wanting or the sink failed, whose count rose then; each client has the end that its units bring it to; and a calm sink stays so, and doesn't fail
pub record GivesTurns (clients : Clients) (count : ℕ) (turns : List ℕ) (calm later_calm : Type 0) (before now : ℕ) (old new : Option (List ℕ)) (answer : Turned) : Type 0 where
  pub text : IfFinished answer (λ ends. ShowsAll old new (turns_text clients turns))
  pub front : ShowsFront old new (turns_text clients turns)
  pub ends : IfFinished answer (AreEnds clients turns count)
  pub later : before ≤ now
  pub cause : answer ≡ turned.SinkFailed → Rose before now
  pub stays : calm → later_calm
  pub fine : calm → answer ≢ turned.SinkFailed
