-- Releases that are compared: their interfaces may be, and the client that shows what isn't kept has an image.
use Rattle.std.proofs.Common.{◌≡◌, ◌≢◌, ℕ, ◌<◌, ◌≤◌, ◌^◌, ◌==◌, Bool, true, false, if◌then◌else◌, List, length, Option, Some, None, Result, Ok, Err, refl, sym, ap, subst, ◌∙◌, arith}
use Rattle.std.specs.Prelude.{All, IfOk}
use Rattle.std.proofs.lemmas.Bool.{eqb-true}
use Rattle.std.proofs.lemmas.List.{length-map}
use Rattle.std.proofs.lemmas.List.Elements.{All-map}
use Rattle.som_model.specs.declared.limits.TheConstants.{MAX_LIBRARY_CLASSES}
use Rattle.som_model.specs.declared.class.ClassDecl.{ClassDecl}
use Rattle.som_model.specs.declared.class.ClassFace.{ClassFace}
use Rattle.som_model.specs.declared.program.Interface.{Interface}
use Rattle.som_model.specs.declared.program.Release.{Release}
use Rattle.som_model.specs.Class.{interface_of}
use Rattle.som_model.specs.Classes.{interface_classes}
use Rattle.som_model.specs.Compatible.{CompatBreach, first_break}
use Rattle.som_model.specs.Conforming.{ReleaseOk, faces_breach}
use Rattle.som_model.specs.Counts.{FaceCounted}
use Rattle.som_model.specs.Lists.{Mem}
use Rattle.som_model_laws.proofs.Lists.{map_mem}
use Rattle.som_image_classes.specs.ClassLimits.{FaceWithin}
use Rattle.som_libimage.specs.Limits.{IsWithinLimits}
use Rattle.som_link_limits.proofs.Classes.{release_counts}
use Rattle.som_cmd_steps.proofs.ReleaseLaws.{may_be}
use Rattle.som_cmd_steps.proofs.Statuses.{differs}
use Rattle.som_release_laws.proofs.Accepting.{interface_ordered}
use Rattle.som_breach_laws.proofs.Breaking.{first_told}
use Rattle.som_breach_laws.proofs.Moving.{interface_stands}
use Rattle.som_witness.proofs.Clients.{shows}
use Rattle.som_witness.proofs.Holding.{interface_holds}
use Rattle.som_witness.specs.Program.{witness_program}
use Rattle.som_witness.specs.Verdicts.{ShowsBreach, verdict_by, verdict_of}
use Rattle.som_witness.specs.Wording.{witness_texts}
use Rattle.som_witness.specs.declared.verdict.Verdict.{Verdict}
use Rattle.som_witness.specs.declared.verdict.Verdict.TheVariants as verdicts
use Rattle.som_witness_programs.specs.Conditions.{MayBeCompared}
use Rattle.som_witness_programs.proofs.Counted.{few}
use Rattle.som_cmd_witness.specs.declared.releases.Releases.{Releases}
use Rattle.som_cmd_witness.specs.Releases.{AreSound}
use Rattle.som_cmd_witness.specs.WitnessAnswer.{break_of}
use Rattle.som_cmd_witness.specs.WitnessSteps.{MayBePut, program_in, verdict_on}
use Rattle.som_cmd_witness.proofs.Room.{program_within}

-- ---- interfaces

counted : (r : Release) → IsWithinLimits r → (f : ClassFace) → Mem f (interface_of r).classes → FaceCounted f
counted r w f m =
    let d = map_mem (λ (d : ClassDecl). d.face) f r.classes m in
    subst FaceCounted (sym d.2) ((release_counts r w).each d.0 d.1).face

pub compared : (r : Release) → ReleaseOk r → IsWithinLimits r → MayBeCompared (interface_of r)
compared r ok w = let c = may_be r ok w in record { rules = c.rules; classes = c.classes; counts = counted r w }

faces_of : (i : Interface) (r : Release) → i.classes ≡ (interface_of r).classes → i ≡ interface_of r
faces_of i r e = ap (λ (l : List ClassFace). record { classes = l }) e

-- an interface with the faces of a release may be
pub may_be_compared : (i : Interface) (r : Release) → i.classes ≡ (interface_of r).classes → ReleaseOk r → IsWithinLimits r → MayBeCompared i
may_be_compared i r e ok w = subst MayBeCompared (sym (faces_of i r e)) (compared r ok w)

-- what is answered of such interfaces is what is answered of the releases
pub answered_so : (i j : Interface) (rs : Releases) (v : Verdict) → i.classes ≡ (interface_of rs.older).classes → j.classes ≡ (interface_of rs.newer).classes → v ≡ verdict_of i j → v ≡ verdict_on rs
answered_so i j rs v e f is =
    is ∙ ap (λ (x : Interface). verdict_of x j) (faces_of i rs.older e) ∙ ap (λ (x : Interface). verdict_of (interface_of rs.older) x) (faces_of j rs.newer f)

pub witness_so : {E : Type 0} (i j : Interface) (rs : Releases) (result : Result Verdict E) → i.classes ≡ (interface_of rs.older).classes → j.classes ≡ (interface_of rs.newer).classes → IfOk result (λ v. v ≡ verdict_of i j)
    → IfOk result (λ v. v ≡ verdict_on rs)
witness_so i j rs (Ok v) e f is = answered_so i j rs v e f is
witness_so i j rs (Err x) e f is = tt

-- ---- the client

-- it shows the breach: it conforms, and was compiled against the older interface
shown : (old new : Interface) (b : CompatBreach) → length old.classes < 2 ^ 64 → faces_breach (interface_classes old) ≡ None → faces_breach (interface_classes new) ≡ None → first_break old new ≡ Some b → b.rule ≢ 2
    → ShowsBreach (witness_program old new b) old new
shown old new b small eo en told other =
    shows old new (interface_stands old eo) (interface_stands new en) (interface_holds old eo) small b (first_told old new (interface_ordered new en) b told) other

all_faces : (r : Release) → IsWithinLimits r → All FaceWithin (interface_of r).classes
all_faces r w = All-map FaceWithin (λ (d : ClassDecl). d.face) r.classes (λ k d lt. (w.each_class k d lt).face)

module _ (rs : Releases) (sound : AreSound rs) where
  abbrev old : Interface
  old = interface_of rs.older

  abbrev new : Interface
  new = interface_of rs.newer

  pub client_fits : (b : CompatBreach) → break_of rs ≡ Some b → b.rule ≢ 2 → MayBePut (Some (witness_program old new b))
  client_fits b told other =
      let before = compared rs.older sound.older sound.older_within in
      let after = compared rs.newer sound.newer sound.newer_within in
      let le = before.classes in
      ((shown old new b (omega (arith, le)) before.rules after.rules told other).conforms, program_within old new b le (all_faces rs.older sound.older_within) (few old before))

  by_rule : (b : CompatBreach) → break_of rs ≡ Some b → (two : Bool) → (b.rule == 2) ≡ two
      → MayBePut (program_in (if two then verdicts.VersionOnly b.class else verdicts.Shown b.rule b.class b.name b.place (witness_program old new b) (witness_texts old new b)))
  by_rule b told true e = tt
  by_rule b told false e = client_fits b told (differs b.rule 2 e)

  by_break : (o : Option CompatBreach) → break_of rs ≡ o → MayBePut (program_in (verdict_by old new o))
  by_break None told = tt
  by_break (Some b) told = by_rule b told (b.rule == 2) refl

  -- the client of what is answered conforms, and an image has room for it
  pub verdict_fits : MayBePut (program_in (verdict_on rs))
  unfolding verdict_of
  verdict_fits = by_break (break_of rs) refl
