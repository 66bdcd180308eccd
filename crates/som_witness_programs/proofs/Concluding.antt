-- How a breach is shown, by its rule; and the verdict, by the client that was made.
use Rattle.std.proofs.Common.{◌≡◌, ◌≢◌, ℕ, ◌==◌, Bool, true, false, if◌then◌else◌, List, [], ◌∷◌, ◌++◌, map, Option, Some, None, refl, ap, ◌∙◌}
use Rattle.std.proofs.lemmas.Bool.{eqb-true}
use Rattle.std.specs.Prelude.{slice_get, unwrap_or}
use Rattle.som_model.specs.declared.syntax.Stmt.{Stmt}
use Rattle.som_model.specs.declared.key.Module.TheVariants as modules
use Rattle.som_model.specs.declared.class.ClassDecl.{ClassDecl}
use Rattle.som_model.specs.declared.class.ClassFace.{ClassFace}
use Rattle.som_model.specs.declared.program.Interface.{Interface}
use Rattle.som_model.specs.declared.program.ClientProgram.{ClientProgram}
use Rattle.som_model.specs.declared.key.MethodRef.{MethodRef}
use Rattle.som_model.specs.Class.{Class, bare, class_in}
use Rattle.som_model.specs.Kernel.{kernel}
use Rattle.som_model.specs.Classes.{ancestors, class_at, interface_classes}
use Rattle.som_model.specs.Compatible.{CompatBreach, first_break, release_of, signature}
use Rattle.som_model.specs.Owner.{introduces}
use Rattle.som_verify_classes.specs.declared.types.Declared.{Declared}
use Rattle.som_verify_classes.specs.Modules.{classes_of}
use Rattle.som_verify_forms.specs.declared.knowledge.Knowledge.{Knowledge}
use Rattle.som_verify_forms.specs.Knowing.{all_of}
use Rattle.som_witness.specs.declared.verdict.Texts.{Texts}
use Rattle.som_witness.specs.declared.verdict.Verdict.{Verdict}
use Rattle.som_witness.specs.declared.verdict.Verdict.TheVariants as verdicts
use Rattle.som_witness.specs.Program.{witness_program}
use Rattle.som_witness.specs.Showings.{StandsBelow, KeepsObject, ReturnsClass, changed_showing, metaclass_in, params_of, showing_of, slot_showing, told_class, told_method}
use Rattle.som_witness.specs.Verdicts.{verdict_by, verdict_of, verdict_on}
use Rattle.som_witness.specs.Wording.{witness_texts}
use Rattle.som_witness_programs.specs.declared.answering.Client.{Client}
use Rattle.som_witness_programs.specs.Lent.{IsOf}
use Rattle.som_witness_programs.specs.Made.{IsClient}

differs : (m n : ℕ) → m ≢ n → (m == n) ≡ false
differs m n other = by (m == n) refl
  where
    by : (t : Bool) → (m == n) ≡ t → t ≡ false
    by true e = absurd (other (eqb-true m n e))
    by false e = refl

-- ---- by the rule

pub below_shown : (old new : Interface) (b : CompatBreach) → b.rule ≡ 1 → StandsBelow ≡ showing_of old new b
unfolding showing_of
below_shown old new b e = rw e refl

pub object_shown : (old new : Interface) (b : CompatBreach) → b.rule ≡ 3 → KeepsObject (unwrap_or (slice_get (ancestors (release_of old) (told_class b)) b.place) (told_class b)) ≡ showing_of old new b
unfolding showing_of
object_shown old new b e = rw e refl

pub slot_shown : (old new : Interface) (b : CompatBreach) → b.rule ≡ 4
    → slot_showing (introduces (release_of old) (told_method b).name (told_class b)) (params_of (signature (release_of old) (told_class b) (told_method b).name)) ≡ showing_of old new b
unfolding showing_of
slot_shown old new b e = rw e refl

pub signature_shown : (old new : Interface) (b : CompatBreach) → b.rule ≡ 5
    → changed_showing (release_of new) (signature (release_of old) (told_class b) (told_method b).name) (signature (release_of new) (told_class b) (told_method b).name) ≡ showing_of old new b
unfolding showing_of
signature_shown old new b e = rw e refl

pub class_shown : (old new : Interface) (b : CompatBreach) → (b.rule == 1) ≡ false → (b.rule == 3) ≡ false → (b.rule == 4) ≡ false → (b.rule == 5) ≡ false
    → ReturnsClass (metaclass_in (class_at (release_of old) (told_class b))) ≡ showing_of old new b
unfolding showing_of
class_shown old new b e f g h = rw (e, f, g, h) refl

-- ---- by the rule, of classes and a method that are known

pub all_is : (i : Interface) (known : Knowledge) → IsOf i known → all_of known ≡ release_of i
all_is i known is = ap (λ (cs : List Class). kernel ++ cs) is.classes

module _ (old new : Interface) (b : CompatBreach) (olds : List Class) (m : MethodRef) (e : olds ≡ release_of old) (f : m ≡ told_method b) where
  pub object_made : b.rule ≡ 3 → KeepsObject (unwrap_or (slice_get (ancestors olds m.class) b.place) m.class) ≡ showing_of old new b
  object_made r =
      ap (λ (z : List Class). KeepsObject (unwrap_or (slice_get (ancestors z m.class) b.place) m.class)) e
      ∙ ap (λ (z : MethodRef). KeepsObject (unwrap_or (slice_get (ancestors (release_of old) z.class) b.place) z.class)) f
      ∙ object_shown old new b r

  pub slot_made : b.rule ≡ 4 → slot_showing (introduces olds m.name m.class) (params_of (signature olds m.class m.name)) ≡ showing_of old new b
  slot_made r =
      ap (λ (z : List Class). slot_showing (introduces z m.name m.class) (params_of (signature z m.class m.name))) e
      ∙ ap (λ (z : MethodRef). slot_showing (introduces (release_of old) z.name z.class) (params_of (signature (release_of old) z.class z.name))) f
      ∙ slot_shown old new b r

  pub change_made : (news : List Class) → news ≡ release_of new → b.rule ≡ 5 → changed_showing news (signature olds m.class m.name) (signature news m.class m.name) ≡ showing_of old new b
  change_made news g r =
      ap (λ (z : List Class). changed_showing z (signature olds m.class m.name) (signature z m.class m.name)) g
      ∙ ap (λ (z : List Class). changed_showing (release_of new) (signature z m.class m.name) (signature (release_of new) m.class m.name)) e
      ∙ ap (λ (z : MethodRef). changed_showing (release_of new) (signature (release_of old) z.class z.name) (signature (release_of new) z.class z.name)) f
      ∙ signature_shown old new b r

  pub class_made : (b.rule == 1) ≡ false → (b.rule == 3) ≡ false → (b.rule == 4) ≡ false → (b.rule == 5) ≡ false → ReturnsClass (metaclass_in (class_at olds m.class)) ≡ showing_of old new b
  class_made r s t u =
      ap (λ (z : List Class). ReturnsClass (metaclass_in (class_at z m.class))) e
      ∙ ap (λ (z : MethodRef). ReturnsClass (metaclass_in (class_at (release_of old) z.class))) f
      ∙ class_shown old new b r s t u

-- ---- the verdict

shown_if : (b : Bool) (v w : Verdict) → b ≡ false → w ≡ (if b then v else w)
shown_if true v w e = absurd (cc)
shown_if false v w e = refl

version_if : (b : Bool) (v w : Verdict) → b ≡ true → v ≡ (if b then v else w)
version_if true v w e = refl
version_if false v w e = absurd (cc)

abbrev pub shown_verdict : Interface → CompatBreach → List ClassDecl → Option Texts → Verdict
shown_verdict old b classes texts = verdicts.Shown b.rule b.class b.name b.place (record { base = old; classes = classes; main = record { statements = [] } }) texts

program_is : (old new : Interface) (b : CompatBreach) (c : Client) → IsClient old new b c → record { base = old; classes = c.classes; main = record { statements = [] } } ≡ witness_program old new b
unfolding witness_program
program_is old new b c is = ap (λ (l : List ClassDecl). record { base = old; classes = l; main = record { statements = [] } }) is.classes

texts_are : (old new : Interface) (b : CompatBreach) (c : Client) → IsClient old new b c → c.texts ≡ witness_texts old new b
unfolding witness_texts
texts_are old new b c is = is.texts

pub shown_is : (old new : Interface) (b : CompatBreach) (c : Client) → (b.rule == 2) ≡ false → IsClient old new b c → shown_verdict old b c.classes c.texts ≡ verdict_on old new b
shown_is old new b c other is =
    ap (λ (p : ClientProgram). verdicts.Shown b.rule b.class b.name b.place p c.texts) (program_is old new b c is)
    ∙ ap (λ (t : Option Texts). verdicts.Shown b.rule b.class b.name b.place (witness_program old new b) t) (texts_are old new b c is)
    ∙ shown_if (b.rule == 2) (verdicts.VersionOnly b.class) (verdicts.Shown b.rule b.class b.name b.place (witness_program old new b) (witness_texts old new b)) other

-- of what was copied
pub shown_exact : (old new : Interface) (b : CompatBreach) (c : Client) (class : List ℕ) (name : Option (List ℕ)) (base : Interface) (ss : List Stmt) → class ≡ b.class → name ≡ b.name → base ≡ old → ss ≡ [] → (b.rule == 2) ≡ false → IsClient old new b c
    → verdicts.Shown b.rule class name b.place (record { base = base; classes = c.classes; main = record { statements = ss } }) c.texts ≡ verdict_on old new b
shown_exact old new b c class name base ss e f g h other is =
    ap (λ (z : List ℕ). verdicts.Shown b.rule z name b.place (record { base = base; classes = c.classes; main = record { statements = ss } }) c.texts) e
    ∙ ap (λ (z : Option (List ℕ)). verdicts.Shown b.rule b.class z b.place (record { base = base; classes = c.classes; main = record { statements = ss } }) c.texts) f
    ∙ ap (λ (z : Interface). verdicts.Shown b.rule b.class b.name b.place (record { base = z; classes = c.classes; main = record { statements = ss } }) c.texts) g
    ∙ ap (λ (z : List Stmt). verdicts.Shown b.rule b.class b.name b.place (record { base = old; classes = c.classes; main = record { statements = z } }) c.texts) h
    ∙ shown_is old new b c other is

pub not_two : (b : CompatBreach) → b.rule ≢ 2 → (b.rule == 2) ≡ false
not_two b other = differs b.rule 2 other

pub version_is : (old new : Interface) (b : CompatBreach) → (b.rule == 2) ≡ true → verdicts.VersionOnly b.class ≡ verdict_on old new b
version_is old new b e = version_if (b.rule == 2) (verdicts.VersionOnly b.class) (verdicts.Shown b.rule b.class b.name b.place (witness_program old new b) (witness_texts old new b)) e

pub accepted_is : (old new : Interface) → None ≡ first_break old new → verdicts.Accepted ≡ verdict_of old new
unfolding verdict_of
accepted_is old new e = ap (verdict_by old new) e

pub broken_is : (old new : Interface) (b : CompatBreach) (v : Verdict) → Some b ≡ first_break old new → v ≡ verdict_on old new b → v ≡ verdict_of old new
unfolding verdict_of
broken_is old new b v e f = f ∙ ap (verdict_by old new) e

-- ---- the classes of which the faces are known

pub bare_are : (fs : List ClassFace) → map (class_in modules.Library) (map bare fs) ≡ map (λ f. class_in modules.Library (bare f)) fs
bare_are [] = refl
bare_are (f ∷ fs) = ap (λ (cs : List Class). class_in modules.Library (bare f) ∷ cs) (bare_are fs)

-- those that are declared
pub declared_are : (i : Interface) (bares : List ClassDecl) (first all lent : List Declared) → bares ≡ map bare i.classes → first ≡ [] → classes_of all ≡ classes_of first ++ map (class_in modules.Library) bares → lent ≡ all
    → classes_of lent ≡ interface_classes i
declared_are i bares first all lent e f g h =
    ap classes_of h ∙ g ∙ ap (λ (l : List Declared). classes_of l ++ map (class_in modules.Library) bares) f ∙ ap (map (class_in modules.Library)) e ∙ bare_are i.classes
