-- What a call prints that prints while it goes.
use Rattle.std.specs.Prelude.{◌≡◌, ◌≢◌, ℕ, List, Option}
use Rattle.som_io.specs.Outside.{Rose, ShowsAll, ShowsFront}
use Rattle.som_io.specs.declared.line.Sending.{Sending}
use Rattle.som_io.specs.declared.line.Sending.TheVariants as sending
use Rattle.som_cmd_steps.specs.Endings.{Ending}

-- a call that prints this text and answers this end: at another status the sink failed, whose count rose then, or memory ran out, and a front of the text was written
pub record Prints (text : List ℕ) (end : ℕ) (before now : ℕ) (old new : Option (List ℕ)) (status : ℕ) : Type 0 where
  pub ended : status ≢ 8 → status ≢ 10 → status ≡ end
  pub whole : status ≢ 8 → status ≢ 10 → ShowsAll old new text
  pub front : ShowsFront old new text
  pub cause : status ≡ 8 → Rose before now

-- the status after a last line
abbrev pub sent_status : Sending → ℕ
sent_status sending.Whole = 0
sent_status sending.Failed = 8
sent_status sending.NoMemory = 10

-- a front of the text of such an ending was written
abbrev pub ShowsSomeOf : (Ending → Type 0) → Option (List ℕ) → Option (List ℕ) → Type 0
ShowsSomeOf IsAnswer old new = (told : Ending) × IsAnswer told × ShowsFront old new told.text
