-- The client's class and its texts.
use Rattle.std.specs.Prelude.{◌≡◌, ℕ, List, [], ◌∷◌, if◌then◌else◌, Some, None}
use Rattle.som_model.specs.declared.key.MethodRef.{MethodRef}
use Rattle.som_model.specs.declared.program.Interface.{Interface}
use Rattle.som_model.specs.Compatible.{CompatBreach}
use Rattle.som_witness.specs.Showings.{Showing, showing_of, told_method}
use Rattle.som_witness.specs.Program.{w_class, w_name}
use Rattle.som_witness.specs.Wording.{has_text, texts_of}
use Rattle.som_witness_programs.specs.declared.answering.Client.{Client}

-- the class of this name in this way, and its texts
pub record IsMade (old : Interface) (w : List ℕ) (m : MethodRef) (way : Showing) (client : Client) : Type 0 where
  pub classes : client.classes ≡ w_class w m way ∷ []
  pub texts : client.texts ≡ (if has_text old m way then Some (texts_of w m way) else None)

-- those that show the breach
abbrev pub IsClient : Interface → Interface → CompatBreach → Client → Type 0
IsClient old new b client = IsMade old (w_name old) (told_method b) (showing_of old new b) client
