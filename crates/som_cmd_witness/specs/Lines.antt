-- The lines that tell whether a newer interface keeps what the older one promised, and the client that shows it where not.
use Rattle.std.specs.Prelude.{ℕ, ◌==◌, if◌then◌else◌, List, [], ◌∷◌, ◌++◌, Option, Some, None, codes}
use Rattle.std.specs.Fmt.{decimal}
use Rattle.std.specs.List.{concat}
use Rattle.som_model.specs.declared.program.Interface.{Interface}
use Rattle.som_model.specs.Compatible.{CompatBreach}
use Rattle.som_witness.specs.declared.verdict.Texts.{Texts}
use Rattle.som_witness.specs.Wording.{witness_texts}
use Rattle.som_cmd_steps.specs.Lines.{or_dash}

-- a text, as a line
abbrev pub line : List ℕ → List ℕ
line text = text ++ 10 ∷ []

-- the newer interface keeps all
abbrev pub accepted_line : List ℕ
accepted_line = line (codes "accepted")

-- it breaks this rule: the old class, the name of what is lost or changed, and its place
abbrev pub breach_line : ℕ → List ℕ → List ℕ → ℕ → List ℕ
breach_line rule class name place = codes "breach K" ++ decimal rule ++ codes " " ++ class ++ codes " " ++ name ++ codes " " ++ decimal place ++ 10 ∷ []

-- the version of a class is another, and no client can show that
abbrev pub version_line : List ℕ → List ℕ
version_line class = breach_line 2 class (codes "-") 0

-- the file of the bodies; the class of a client that shows a lost class has none
abbrev pub bodies_lines : ℕ → List ℕ → List (List ℕ)
bodies_lines rule bodies = if rule == 1 then [] else line (codes "file w.bod") ∷ line bodies ∷ []

-- the files of the client's texts, each after its name
abbrev pub files_lines : ℕ → Texts → List (List ℕ)
files_lines rule t = line (codes "file w.idl") ∷ line t.idl ∷ (bodies_lines rule t.bodies ++ line (codes "file w.main") ∷ line t.main ∷ [])

-- the client's texts, or that it has none
abbrev pub texts_lines : ℕ → Option Texts → List (List ℕ)
texts_lines rule None = line (codes "no text") ∷ []
texts_lines rule (Some t) = files_lines rule t

-- the breach, and the texts of the client that shows it
abbrev pub shown_lines : Interface → Interface → CompatBreach → List (List ℕ)
shown_lines old new b = breach_line b.rule b.class (or_dash b.name) b.place ∷ texts_lines b.rule (witness_texts old new b)

abbrev pub shown_text : Interface → Interface → CompatBreach → List ℕ
shown_text old new b = concat (shown_lines old new b)
