-- What a client is compiled against: the release of an image that breaks no rule.
use Rattle.std.proofs.Common.{◌≡◌, ℕ, ◌≤◌, if◌then◌else◌, List, Option, Some, None, Result, Ok, Err, refl, sym, ap, subst, ◌∙◌}
use Rattle.std.specs.Prelude.{All}
use Rattle.std.proofs.lemmas.List.{length-map}
use Rattle.std.proofs.lemmas.List.Elements.{All-map}
use Rattle.som_model.specs.declared.class.ClassDecl.{ClassDecl}
use Rattle.som_model.specs.declared.class.ClassFace.{ClassFace}
use Rattle.som_model.specs.declared.limits.TheConstants.{MAX_LIBRARY_CLASSES}
use Rattle.som_model.specs.declared.program.Interface.{Interface}
use Rattle.som_model.specs.declared.program.Release.{Release}
use Rattle.som_model.specs.Bytes.{AreBytes}
use Rattle.som_model.specs.Class.{interface_of}
use Rattle.som_model.specs.Conforming.{ReleaseOk, release_breach}
use Rattle.som_model.specs.Rules.{RuleBreach}
use Rattle.som_model.specs.Steps.{◌>>=◌}
use Rattle.som_image_fields.specs.declared.fault.ImageFault.{ImageFault}
use Rattle.som_libimage.specs.Libraries.{library_at}
use Rattle.som_image_classes.specs.ClassLimits.{FaceWithin}
use Rattle.som_libimage.specs.Limits.{IsWithinLimits}
use Rattle.som_libimage.proofs.Decoded.{within}
use Rattle.som_verify.proofs.Conforming.{conforms_release, release_conforms}
use Rattle.som_compile.specs.Compiling.{IsBase}
use Rattle.som_cmd_steps.specs.declared.stop.Refusal.{Refusal}
use Rattle.som_cmd_steps.specs.ImageSteps.{kept_or, library_in, read_or, sound_release}
use Rattle.som_cmd_steps.proofs.ReleaseLaws.{may_be}
use Rattle.som_cmd_steps.proofs.ByteLaws.{library_bytes, library_read}

abbrev Based : Type 0
Based = Result Release Refusal

-- ---- a release that clients may be compiled against

face_within : (r : Release) → IsWithinLimits r → All FaceWithin (interface_of r).classes
face_within r w = All-map FaceWithin (λ (d : ClassDecl). d.face) r.classes (λ k d lt. (w.each_class k d lt).face)

pub shows_base : (r : Release) → ReleaseOk r → IsWithinLimits r → IsBase (interface_of r)
shows_base r ok w = record {
  conforms = (may_be r ok w).rules;
  few = subst (λ (n : ℕ). n ≤ MAX_LIBRARY_CLASSES) (sym (length-map r.classes (λ (d : ClassDecl). d.face))) w.classes;
  each_face = face_within r w;
}

faces_of : (i : Interface) (r : Release) → i.classes ≡ (interface_of r).classes → i ≡ interface_of r
faces_of i r e = ap (λ (l : List ClassFace). record { classes = l }) e

pub is_base : (i : Interface) (r : Release) → i.classes ≡ (interface_of r).classes → ReleaseOk r → IsWithinLimits r → IsBase i
is_base i r e ok w = subst IsBase (sym (faces_of i r e)) (shows_base r ok w)

-- ---- what is known of a release that was read and looked at

record Sound (bytes : List ℕ) (r : Release) : Type 0 where
  read : library_in bytes ≡ Ok r
  kept : release_breach r ≡ None

abbrev based : Release → Based
based r = Ok r

abbrev kept_so : List ℕ → Release → Option RuleBreach → Based
kept_so name r o = kept_or name o >>= λ kept. Ok r

same_base : (r s : Release) → based r ≡ based s → r ≡ s
same_base r s e = cc

sound_kept : (name bytes : List ℕ) (r s : Release) → library_in bytes ≡ Ok s → (o : Option RuleBreach) → release_breach s ≡ o → kept_so name s o ≡ Ok r → Sound bytes r
sound_kept name bytes r s e None none is = let same = same_base s r is in subst (Sound bytes) same (record { read = e; kept = none })
sound_kept name bytes r s e (Some b) none is = absurd cc

sound_read : (name bytes : List ℕ) (r : Release) (x : Result Release ImageFault) → library_in bytes ≡ x → (read_or name x >>= λ s. kept_so name s (release_breach s)) ≡ Ok r → Sound bytes r
sound_read name bytes r (Ok s) e is = sound_kept name bytes r s e (release_breach s) refl is
sound_read name bytes r (Err fault) e is = absurd cc

pub base_read : (name bytes : List ℕ) (r : Release) → sound_release name bytes ≡ Ok r → IsBase (interface_of r)
base_read name bytes r e =
    let s = sound_read name bytes r (library_in bytes) refl e in
    let b = library_bytes bytes r s.read in
    shows_base r (release_conforms r s.kept) (within bytes b.0 (Ok r) b.1)

-- ---- the image of a release

abbrev ruled_base : List ℕ → Release → Based
ruled_base name s = kept_so name s (release_breach s)

pub base_under : (name bytes : List ℕ) (r : Release) → AreBytes bytes → library_at bytes ≡ Ok r → ReleaseOk r → sound_release name bytes ≡ Ok r
base_under name bytes r all e ok =
    ap (λ (x : Result Release ImageFault). read_or name x >>= ruled_base name) (library_read bytes (Ok r) all e)
    ∙ ap (kept_so name r) (conforms_release r ok)
