-- What is told of two releases, and what it comes to.
use Rattle.std.proofs.Common.{◌≡◌, ◌≢◌, ℕ, ◌==◌, Bool, true, false, if◌then◌else◌, List, [], ◌∷◌, ◌++◌, Option, Some, None, Result, Ok, Err, refl, sym, ap, subst, ◌∙◌}
use Rattle.std.specs.List.{concat}
use Rattle.std.proofs.lemmas.Bool.{eqb-true}
use Rattle.std.proofs.lemmas.List.{append-nil}
use Rattle.som_model.specs.declared.program.ClientProgram.{ClientProgram}
use Rattle.som_model.specs.declared.program.Interface.{Interface}
use Rattle.som_model.specs.Bytes.{Files}
use Rattle.som_model.specs.Class.{interface_of}
use Rattle.som_model.specs.Compatible.{CompatBreach}
use Rattle.som_model.specs.Images.{client_image}
use Rattle.som_cmd_steps.specs.declared.stop.Refusal.{Refusal}
use Rattle.som_cmd_steps.specs.declared.stop.CommandStop.{CommandStop}
use Rattle.som_cmd_steps.specs.Steps.{FollowsTold}
use Rattle.som_cmd_steps.specs.declared.stop.CommandStop.TheVariants as stops
use Rattle.som_cmd_steps.proofs.Statuses.{differs}
use Rattle.som_witness.specs.Program.{witness_program}
use Rattle.som_witness.specs.Verdicts.{verdict_by, verdict_of}
use Rattle.som_witness.specs.Wording.{witness_texts}
use Rattle.som_witness.specs.declared.verdict.Verdict.{Verdict}
use Rattle.som_witness.specs.declared.verdict.Verdict.TheVariants as verdicts
use Rattle.som_cmd_witness.specs.declared.releases.Releases.{Releases}
use Rattle.som_cmd_witness.specs.declared.told.Told.{Told}
use Rattle.som_cmd_witness.specs.Lines.{accepted_line, version_line}
use Rattle.som_cmd_witness.specs.Releases.{releases_in}
use Rattle.som_cmd_witness.specs.WitnessAnswer.{IsShown, break_of, text_of}
use Rattle.som_cmd_witness.specs.WitnessSteps.{IsImageOf, IsToldOf, TellsOf, program_in, verdict_lines, verdict_on}

-- ---- what the code's steps answer

-- memory ran out
pub none_told : (files : Option Files) (old new : List ℕ) → TellsOf files old new (Err stops.NoMemory)
none_told None old new = tt
none_told (Some files) old new = tt

pub both_told : (files : Option Files) (old new : List ℕ) (rs : Releases) (t : Told) → FollowsTold files (Ok rs) (releases_in old new) → IsToldOf (verdict_on rs) t → TellsOf files old new (Ok t)
both_told files old new rs t f is = (rs, f, is)

-- the image of a program
pub image_there : (p : ClientProgram) (bytes : List ℕ) → client_image p ≡ Some bytes → IsImageOf (Some p) (Some bytes)
image_there p bytes e = (bytes, refl, e)

-- ---- what is told, by the first breach

-- the text and the image of what is told: the newer release is accepted, or a class has another version, or a client shows the breach
pub data Comes (rs : Releases) (text : List ℕ) (image : Option (List ℕ)) : Type 0 where
  accepted : break_of rs ≡ None → text ≡ accepted_line → image ≡ None → Comes rs text image
  version : (b : CompatBreach) → break_of rs ≡ Some b → b.rule ≡ 2 → text ≡ version_line b.class → image ≡ None → Comes rs text image
  shown : (b : CompatBreach) (bytes : List ℕ) → IsShown rs b bytes → text ≡ text_of rs b → image ≡ Some bytes → Comes rs text image

one_line : (lines : List (List ℕ)) (line : List ℕ) → lines ≡ line ∷ [] → concat lines ≡ line
one_line lines line e = ap concat e ∙ append-nil line

module _ (rs : Releases) (t : Told) where
  abbrev old : Interface
  old = interface_of rs.older

  abbrev new : Interface
  new = interface_of rs.newer

  by_rule : (b : CompatBreach) → break_of rs ≡ Some b → (two : Bool) → (b.rule == 2) ≡ two
      → IsToldOf (if two then verdicts.VersionOnly b.class else verdicts.Shown b.rule b.class b.name b.place (witness_program old new b) (witness_texts old new b)) t → Comes rs (concat t.lines) t.image
  by_rule b told true e is = version b told (eqb-true b.rule 2 e) (one_line t.lines (version_line b.class) is.lines_are) is.image_is
  by_rule b told false e is =
      let image = is.image_is in
      shown b image.0 (record { unkept = told; other = differs b.rule 2 e; image_is = image.2 }) (ap concat is.lines_are) image.1

  by_break : (o : Option CompatBreach) → break_of rs ≡ o → IsToldOf (verdict_by old new o) t → Comes rs (concat t.lines) t.image
  by_break None told is = accepted told (one_line t.lines accepted_line is.lines_are) is.image_is
  by_break (Some b) told is = by_rule b told (b.rule == 2) refl is

  pub comes : IsToldOf (verdict_on rs) t → Comes rs (concat t.lines) t.image
  unfolding verdict_of
  comes is = by_break (break_of rs) refl is
