-- Who may ask, and what is answered.
use Rattle.std.specs.Prelude.{ℕ, Bool, List, [], Option, Result, IfOk}
use Rattle.std.specs.List.{All}
use Rattle.som_model.specs.declared.key.ClassKey.{ClassKey}
use Rattle.som_semantics.specs.World.{World}
use Rattle.som_semantics.specs.State.{Value, Heap, Tried}
use Rattle.som_semantics.specs.Invoked.{Asking, asks}
use Rattle.som_objects.specs.declared.cell.Cell.{Cell}
use Rattle.som_objects.specs.Objects.{Objects}
use Rattle.som_values.specs.declared.reference.Reference.{Reference}
use Rattle.som_values.specs.declared.stopped.Stopped.{Stopped}
use Rattle.som_values.specs.Answers.{Answers}
use Rattle.som_values.specs.Shown.{showing, shown_ref, all_shown}
use Rattle.som_interp_state.specs.Settings.{Linked}
use Rattle.som_interp_state.specs.Holding.{Holding, IsUsable, IsUsableRef}

module _ (l : Linked) (made : ClassKey → Bool) where
  -- a task holds this heap, and self and the arguments are its own and name made classes alone
  pub record MayAsk (xs : List ℕ) (os : Objects) (statics : List (Option (List Cell))) (h : Heap) (me : Reference) (args : List Cell) : Type 0 where
    pub holding : Holding l made xs os statics h
    pub self : IsUsableRef l made xs os me
    pub arguments : All (IsUsable l made xs os) args

  -- so it is for some task and some heap
  abbrev pub CanAsk : Objects → Reference → List Cell → Type 0
  CanAsk os me args = (xs : List ℕ) × (statics : List (Option (List Cell))) × (h : Heap) × MayAsk xs os statics h me args

  -- a task has this self in some store
  abbrev pub IsAsked : Reference → Type 0
  IsAsked me = (os : Objects) × CanAsk os me []

  -- the answer is what the meaning answers, and a value of it is one that a task may go on with
  pub record IsAnswered (keys : List ClassKey) (xs : List ℕ) (os : Objects) (answer : Result Cell Stopped) (meant : Tried Value) : Type 0 where
    pub means : Answers (showing keys xs) answer meant
    pub usable : IfOk answer (IsUsable l made xs os)

  -- so it is with a question, whichever task asks it
  abbrev pub AnswersTo : List ClassKey → World → Objects → Reference → List Cell → Asking → Result Cell Stopped → Type 0
  AnswersTo keys w os me args question answer =
      (xs : List ℕ) (statics : List (Option (List Cell))) (h : Heap) → MayAsk xs os statics h me args
      → IsAnswered keys xs os answer (asks w question (shown_ref (showing keys xs) me) (all_shown (showing keys xs) args) h)
