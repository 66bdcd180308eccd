-- Lines that are added to lines.
use Rattle.std.proofs.Common.{◌≡◌, ◌≢◌, ℕ, ◌==◌, Bool, true, false, if◌then◌else◌, List, [], ◌∷◌, ◌++◌, Result, Ok, Err, refl, sym, ap, ◌∙◌, append_assoc, codes}
use Rattle.std.specs.Prelude.{IfOk}
use Rattle.std.proofs.lemmas.Bool.{eqb-true}
use Rattle.som_witness.specs.declared.verdict.Texts.{Texts}
use Rattle.som_cmd_witness.specs.Lines.{bodies_lines, files_lines, line}

abbrev Lines : Type 0
Lines = List (List ℕ)

-- the lines of a file
abbrev pub file_lines : List ℕ → List ℕ → Lines
file_lines name text = line name ∷ line text ∷ []

-- ---- the bodies

bodies_by : (c : Bool) (rule : ℕ) (bodies : List ℕ) → (rule == 1) ≡ c → bodies_lines rule bodies ≡ (if c then [] else file_lines (codes "file w.bod") bodies)
bodies_by c rule bodies e = ap (λ (x : Bool). if x then [] else file_lines (codes "file w.bod") bodies) e

apart_by : (m n : ℕ) (c : Bool) → (m == n) ≡ c → m ≢ n → c ≡ false
apart_by m n true e other = absurd (other (eqb-true m n e))
apart_by m n false e other = refl

apart : (m n : ℕ) → m ≢ n → (m == n) ≡ false
apart m n other = apart_by m n (m == n) refl other

pub some_bodies : {E : Type 0} (rule : ℕ) (result : Result (Unit {0}) E) (old new : Lines) (bodies : List ℕ) → rule ≢ 1 → IfOk result (λ _. new ≡ old ++ file_lines (codes "file w.bod") bodies)
    → IfOk result (λ _. new ≡ old ++ bodies_lines rule bodies)
some_bodies rule (Ok x) old new bodies other e = e ∙ ap (λ (y : Lines). old ++ y) (sym (bodies_by false rule bodies (apart rule 1 other)))
some_bodies rule (Err x) old new bodies other e = tt

-- ---- all files

three : (a idl bodies main : Lines) → ((a ++ idl) ++ bodies) ++ main ≡ a ++ (idl ++ (bodies ++ main))
three a idl bodies main = append_assoc (a ++ idl) bodies main ∙ append_assoc a idl (bodies ++ main)

pub all_files : {E : Type 0} (rule : ℕ) (t : Texts) (result : Result (Unit {0}) E) (a b c d : Lines) → b ≡ a ++ file_lines (codes "file w.idl") t.idl → c ≡ b ++ bodies_lines rule t.bodies
    → IfOk result (λ _. d ≡ c ++ file_lines (codes "file w.main") t.main) → IfOk result (λ _. d ≡ a ++ files_lines rule t)
all_files rule t (Ok x) a b c d e f g =
    let idl = file_lines (codes "file w.idl") t.idl in
    let main = file_lines (codes "file w.main") t.main in
    g ∙ ap (λ (y : Lines). y ++ main) (f ∙ ap (λ (y : Lines). y ++ bodies_lines rule t.bodies) e) ∙ three a idl (bodies_lines rule t.bodies) main
all_files rule t (Err x) a b c d e f g = tt
