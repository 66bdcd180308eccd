-- The texts of the client that shows a breach are compiled to it, and linking it is refused.
use Rattle.std.proofs.Common.{◌≡◌, ◌≢◌, ℕ, ◌<◌, ◌≤◌, ◌^◌, true, false, List, length, get_or, Option, Some, None, refl, sym, ap, subst, ◌∙◌, arith}
use Rattle.std.specs.Option.{option_map}
use Rattle.std.proofs.lemmas.List.{length-map}
use Rattle.std.proofs.lemmas.List.Elements.{All-map}
use Rattle.som_model.specs.declared.limits.TheConstants.{MAX_BYTES, MAX_LIBRARY_CLASSES}
use Rattle.som_model.specs.declared.class.ClassDecl.{ClassDecl}
use Rattle.som_model.specs.declared.program.ClientProgram.{ClientProgram}
use Rattle.som_model.specs.declared.program.Interface.{Interface}
use Rattle.som_model.specs.declared.program.Release.{Release}
use Rattle.som_model.specs.Class.{interface_of}
use Rattle.som_model.specs.Classes.{interface_classes}
use Rattle.som_model.specs.Compatible.{CompatBreach, first_break}
use Rattle.som_model.specs.Conforming.{ReleaseOk, faces_breach, program_breach}
use Rattle.som_model.specs.Counts.{FaceCounted}
use Rattle.som_model.specs.Lists.{or_else}
use Rattle.som_model.specs.Rules.{RuleBreach}
use Rattle.som_model_laws.proofs.Lists.{map_mem}
use Rattle.som_image_classes.specs.ClassLimits.{ClassWithin, FaceWithin}
use Rattle.som_libimage.specs.Limits.{IsWithinLimits}
use Rattle.som_verify.proofs.Conforming.{conforms_program, conforms_release}
use Rattle.som_compat.specs.Conditions.{IsCounted}
use Rattle.som_compat.proofs.Released.{interface_conforms}
use Rattle.som_sources.specs.Sources.{bytes_in}
use Rattle.som_compile.specs.Compiling.{IsBase, StandForClient, a_client_image}
use Rattle.som_compile.proofs.ClientLaws.{client_stands_image}
use Rattle.som_link_check.specs.Pairs.{Breaks, DoesntKeep, obstacle}
use Rattle.som_link_limits.proofs.Classes.{release_counts}
use Rattle.som_release_laws.proofs.Accepting.{interface_ordered}
use Rattle.som_breach_laws.proofs.Breaking.{first_told}
use Rattle.som_breach_laws.proofs.Moving.{interface_stands}
use Rattle.som_witness.specs.Program.{w_name, witness_program}
use Rattle.som_witness.specs.Showings.{showing_of, told_method}
use Rattle.som_witness.specs.Verdicts.{ShowsBreach}
use Rattle.som_witness.specs.Wording.{has_text, texts_of, witness_texts}
use Rattle.som_witness.specs.declared.verdict.Texts.{Texts}
use Rattle.som_witness.proofs.Clients.{shows}
use Rattle.som_witness.proofs.Holding.{interface_holds}
use Rattle.som_witness_texts.specs.Files.{files_of}
use Rattle.som_witness_texts.specs.Trees.{main_tree}
use Rattle.som_witness_texts.proofs.FilesRead.{number_small, some_texts, texts_read}
use Rattle.som_witness_texts.proofs.Sayable.{conditions, showing_sayable}
use Rattle.som_witness_elab.specs.Standing.{witness_trees}
use Rattle.som_witness_elab.proofs.Texts.{texts_stand}
use Rattle.som_witness_laws.specs.Clients.{AreCompiledTo, IsRefused}
use Rattle.som_witness_laws.proofs.Lengths.{one_main, texts_short}
use Rattle.som_witness_laws.proofs.Parameters.{AreCounted, few, showing_few}

-- ---- the interface of a release

face_counted : (d : ClassDecl) → ClassWithin d → IsCounted d.face
face_counted d w = record { some = w.face.some_parent; parents = w.face.parents; entries = w.face.entries }

rules : (r : Release) → ReleaseOk r → IsWithinLimits r → faces_breach (interface_classes (interface_of r)) ≡ None
rules r ok w = (interface_conforms r ok (let le = w.classes in omega (arith, le)) (λ k d lt. face_counted (get_or r.classes k d) (w.each_class k d lt))).rules

base : (r : Release) → ReleaseOk r → IsWithinLimits r → IsBase (interface_of r)
base r ok w = record {
  conforms = rules r ok w;
  few = subst (λ (n : ℕ). n ≤ MAX_LIBRARY_CLASSES) (sym (length-map r.classes (λ (d : ClassDecl). d.face))) w.classes;
  each_face = All-map FaceWithin (λ (d : ClassDecl). d.face) r.classes (λ k d lt. (w.each_class k d lt).face);
}

small : (i : Interface) → IsBase i → length i.classes < 2 ^ 64
small i b = let le = b.few in omega (arith, le)

counted : (r : Release) → IsWithinLimits r → AreCounted (interface_of r)
counted r w f m =
    let d = map_mem (λ (d : ClassDecl). d.face) f r.classes m in
    subst FaceCounted (sym d.2) ((release_counts r w).each d.0 d.1).face

-- ---- the texts

short : (old new : Interface) (b : CompatBreach) (t : Texts) → length old.classes < 2 ^ 64 → faces_breach (interface_classes old) ≡ None → AreCounted old → witness_texts old new b ≡ Some t → bytes_in (files_of t) ≤ MAX_BYTES
unfolding witness_texts
short old new b t lt eo counts e =
    let m = told_method b in
    let x = showing_of old new b in
    let p = some_texts (has_text old m x) (texts_of (w_name old) m x) t e in
    let c = conditions old m x p.0 (showing_sayable old new b eo (few old m counts)) in
    let number = number_small old lt in
    subst (λ (u : Texts). bytes_in (files_of u) ≤ MAX_BYTES) p.1
    (subst (λ (v : List ℕ). bytes_in (files_of (texts_of v m x)) ≤ MAX_BYTES) (sym number.2) (texts_short number.0 number.1 m x c.words (showing_few old new b counts)))

pub recompiled : (o n : Release) (b : CompatBreach) (t : Texts) → ReleaseOk o → IsWithinLimits o → ReleaseOk n → IsWithinLimits n → first_break (interface_of o) (interface_of n) ≡ Some b → b.rule ≢ 2
    → witness_texts (interface_of o) (interface_of n) b ≡ Some t → AreCompiledTo (interface_of o) (files_of t) (witness_program (interface_of o) (interface_of n) b)
recompiled o n b t keeps room new_keeps new_room told other has =
    let old = interface_of o in
    let new = interface_of n in
    let p = witness_program old new b in
    let against = base o keeps room in
    let counts = counted o room in
    let lt = small old against in
    let fewer = few old (told_method b) counts in
    let bytes = short old new b t lt against.conforms counts has in
    let stand : StandForClient old (files_of t) p = record {
      trees = witness_trees old new b;
      main = main_tree;
      read = texts_read old new b t lt against.conforms fewer has;
      one_main = refl;
      built = texts_stand old new b t lt fewer against.conforms (rules n new_keeps new_room) told other has;
    } in
    let image = client_stands_image old (files_of t) p against bytes stand in
    record { one_main = one_main t; bytes = bytes; stand = stand; image = image.0; spelled = image.1; compiled = a_client_image p image.0 stand image.1 }

-- ---- linking

shown : (o : Release) (new : Interface) (b : CompatBreach) → ReleaseOk o → IsWithinLimits o → faces_breach (interface_classes new) ≡ None → first_break (interface_of o) new ≡ Some b → b.rule ≢ 2
    → ShowsBreach (witness_program (interface_of o) new b) (interface_of o) new
shown o new b keeps room en told other =
    let old = interface_of o in
    let against = base o keeps room in
    let eo = against.conforms in
    shows old new (interface_stands old eo) (interface_stands new en) (interface_holds old eo) (small old against) b (first_told old new (interface_ordered new en) b told) other

refused_as : (p : ClientProgram) (r : Release) (b : CompatBreach) → ReleaseOk r → program_breach p ≡ None → first_break p.base (interface_of r) ≡ Some b → obstacle r p ≡ Some (DoesntKeep b)
refused_as p r b ok fine told =
    ap (λ (o : Option RuleBreach). or_else (option_map (Breaks false) o) (or_else (option_map (Breaks true) (program_breach p)) (option_map DoesntKeep (first_break p.base (interface_of r))))) (conforms_release r ok)
    ∙ ap (λ (o : Option RuleBreach). or_else (option_map (Breaks true) o) (option_map DoesntKeep (first_break p.base (interface_of r)))) fine
    ∙ ap (λ (o : Option CompatBreach). option_map DoesntKeep o) told

pub refused : (o n r : Release) (b : CompatBreach) → ReleaseOk o → IsWithinLimits o → ReleaseOk r → IsWithinLimits r → interface_of r ≡ interface_of n → first_break (interface_of o) (interface_of n) ≡ Some b → b.rule ≢ 2
    → IsRefused (witness_program (interface_of o) (interface_of n) b) r b
refused o n r b keeps room newer_keeps newer_room same told other =
    let p = witness_program (interface_of o) (interface_of n) b in
    let en = subst (λ (i : Interface). faces_breach (interface_classes i) ≡ None) same (rules r newer_keeps newer_room) in
    let s = shown o (interface_of n) b keeps room en told other in
    let kept : first_break p.base (interface_of r) ≡ Some b = ap (λ (i : Interface). first_break i (interface_of r)) s.base ∙ ap (first_break (interface_of o)) same ∙ told in
    record { conforms = s.conforms; unkept = kept; in_the_way = refused_as p r b newer_keeps (conforms_program p s.conforms) kept }
