-- The files of a client's texts are read as their trees.
use Rattle.std.proofs.Common.{◌≡◌, ℕ, zero, suc, ◌+◌, ◌<◌, ◌≤◌, ◌^◌, Bool, true, false, if◌then◌else◌, List, [], ◌∷◌, length, Some, None, Ok, refl, sym, ap, subst, arith}
use Rattle.std.specs.Prelude.{codes}
use Rattle.std.specs.Fmt.{decimal}
use Rattle.som_model.specs.declared.key.MethodRef.{MethodRef}
use Rattle.som_model.specs.declared.program.Interface.{Interface}
use Rattle.som_model.specs.Classes.{interface_classes}
use Rattle.som_model.specs.Conforming.{faces_breach}
use Rattle.som_model.specs.Compatible.{CompatBreach}
use Rattle.som_model.specs.Lists.{among}
use Rattle.som_lex.specs.Spelling.{is_word}
use Rattle.som_lex_laws.specs.Pieces.{tokens_of}
use Rattle.som_lex_laws.proofs.CutPieces.{cut}
use Rattle.som_lex_laws.proofs.SeenPieces.{all_bytes, all_seen}
use Rattle.som_parse.specs.Seen.{text_at}
use Rattle.som_parse.specs.Words.{key_of}
use Rattle.som_parse.specs.declared.token.Token.{Token}
use Rattle.som_idl.specs.Grammar as interfaces
use Rattle.som_body.specs.Statements as s
use Rattle.som_sources.specs.Reading.{IsParsed, Reads, ReadsAll, a_tree, no_more, one_more}
use Rattle.som_sources.specs.Sources.{kind_of}
use Rattle.som_sources.specs.declared.kind.SourceKind.{SourceKind}
use Rattle.som_sources.specs.declared.kind.SourceKind.TheVariants as kinds
use Rattle.som_sources.specs.declared.trees.TextTree.TheVariants as trees
use Rattle.som_witness.specs.declared.verdict.Texts.{Texts}
use Rattle.som_witness.specs.Program.{class_names, free_from, numbered_w, w_name}
use Rattle.som_witness.specs.Showings.{Showing, StandsBelow, KeepsObject, Overrides, CallsSlot, Calls, Passes, KeepsParameter, ReturnsNothing, ReturnsVariable, ReturnsAnswer, ReturnsClass, showing_of, told_method}
use Rattle.som_witness.specs.Wording.{bodies_text, has_text, idl_text, texts_of, witness_texts}
use Rattle.som_witness_texts.specs.Trees.{bodies_tree, idl_tree, main_tree}
use Rattle.som_witness_texts.specs.Files.{FewParameters, file_of, files_of, trees_of}
use Rattle.som_witness_texts.proofs.Words.{numbered, plain_w}
use Rattle.som_witness_texts.proofs.TextPieces.{bodies_pieces, bodies_said, idl_pieces, idl_said, main_pieces, main_said}
use Rattle.som_witness_texts.proofs.FinePieces.{bodies_apart, bodies_fine, idl_apart, idl_fine, main_apart, main_fine}
use Rattle.som_witness_texts.proofs.InterfaceDerived.{idl_derived}
use Rattle.som_witness_texts.proofs.BodiesDerived.{bodies_derived, main_derived}
use Rattle.som_witness_texts.proofs.Sayable.{Conditions, conditions, showing_sayable}

idl_kind : kind_of (codes "w.idl") ≡ kinds.Interfaces
idl_kind = refl

bodies_kind : kind_of (codes "w.bod") ≡ kinds.Bodies
bodies_kind = refl

main_kind : kind_of (codes "w.main") ≡ kinds.Main
main_kind = refl

module _ (w : List ℕ) (m : MethodRef) (x : Showing) (c : Conditions m x) (spelled : is_word w ≡ true) (named : interfaces.is_name (key_of w) ≡ true) where
  idl_reads : Reads (file_of (codes "w.idl") (idl_text w m x)) (Ok (trees.Interfaces (idl_tree w m x)))
  idl_reads =
      let ps = idl_pieces w m x in
      let t = tokens_of ps in
      let fine = idl_fine w m x spelled c.words in
      let tree = trees.Interfaces (idl_tree w m x) in
      let derived = subst (λ (u : List Token). interfaces.IsFile (text_at t) u (idl_tree w m x)) (sym (all_seen ps fine)) (idl_derived (text_at t) w m named x (all_bytes ps) c.names) in
      a_tree t tree (idl_said w m x) (cut ps fine (idl_apart w m x)) (subst (λ (k : SourceKind). IsParsed k t (Ok tree)) (sym idl_kind) derived)

  bodies_reads : Reads (file_of (codes "w.bod") (bodies_text w m x)) (Ok (trees.Bodies (bodies_tree w m x)))
  bodies_reads =
      let ps = bodies_pieces w m x in
      let t = tokens_of ps in
      let fine = bodies_fine w m x spelled c.words in
      let tree = trees.Bodies (bodies_tree w m x) in
      let whole = bodies_derived (text_at t) w m x (all_bytes ps) c.said in
      let derived = subst (λ (u : List Token). s.IsBodyFile (text_at t) whole.levels u (bodies_tree w m x)) (sym (all_seen ps fine)) whole.derives in
      a_tree t tree (bodies_said w m x) (cut ps fine (bodies_apart w m x c.words)) (subst (λ (k : SourceKind). IsParsed k t (Ok tree)) (sym bodies_kind) (whole.levels, whole.low, derived))

main_reads : Reads (file_of (codes "w.main") (codes "main { }")) (Ok (trees.Main main_tree))
main_reads =
    let t = tokens_of main_pieces in
    let tree = trees.Main main_tree in
    let derived = subst (λ (u : List Token). s.IsMainFile (text_at t) (0 ∷ 0 ∷ 0 ∷ []) u main_tree) (sym (all_seen main_pieces main_fine)) (main_derived (text_at t)) in
    a_tree t tree main_said (cut main_pieces main_fine main_apart) (subst (λ (k : SourceKind). IsParsed k t (Ok tree)) (sym main_kind) (0 ∷ 0 ∷ 0 ∷ [], omega arith, derived))

module _ (n : ℕ) (lt : n < 2 ^ 64) (m : MethodRef) where
  abbrev w : List ℕ
  w = numbered_w n

  abbrev AllRead : Showing → Type 0
  AllRead x = ReadsAll (files_of (texts_of w m x)) (Ok (trees_of w m x))

  w_word : is_word (numbered_w n) ≡ true
  w_word = numbered 87 n refl lt

  w_named : interfaces.is_name (key_of (numbered_w n)) ≡ true
  w_named = ap interfaces.is_name (plain_w (decimal n))

  three : (x : Showing) → Conditions m x
      → ReadsAll (file_of (codes "w.idl") (idl_text (numbered_w n) m x) ∷ file_of (codes "w.bod") (bodies_text (numbered_w n) m x) ∷ file_of (codes "w.main") (codes "main { }") ∷ [])
      (Ok (record { interfaces = idl_tree (numbered_w n) m x ∷ []; bodies = bodies_tree (numbered_w n) m x ∷ []; mains = main_tree ∷ [] }))
  three x c = one_more (idl_reads (numbered_w n) m x c w_word w_named) (one_more (bodies_reads (numbered_w n) m x c w_word w_named) (one_more main_reads no_more))

  all_read : (x : Showing) → Conditions m x → AllRead x
  all_read StandsBelow c = one_more (idl_reads (numbered_w n) m StandsBelow c w_word w_named) (one_more main_reads no_more)
  all_read (KeepsObject a) c = three (KeepsObject a) c
  all_read (Overrides params) c = three (Overrides params) c
  all_read (CallsSlot params) c = absurd c.words
  all_read (Calls params) c = three (Calls params) c
  all_read (Passes params j kind) c = three (Passes params j kind) c
  all_read (KeepsParameter params j kind) c = three (KeepsParameter params j kind) c
  all_read (ReturnsNothing params) c = three (ReturnsNothing params) c
  all_read (ReturnsVariable params kind) c = three (ReturnsVariable params kind) c
  all_read (ReturnsAnswer params kind) c = three (ReturnsAnswer params kind) c
  all_read (ReturnsClass k) c = three (ReturnsClass k) c

pub some_texts : (x : Bool) (u t : Texts) → (if x then Some u else None) ≡ Some t → (x ≡ true) × (u ≡ t)
some_texts true u t e = (refl, cc)
some_texts false u t e = absurd (cc)

free_by : (names : List (List ℕ)) (left n : ℕ) (b : Bool) → free_from names left (suc n) ≤ suc n + left → (if b then free_from names left (suc n) else n) ≤ n + suc left
free_by names left n true le = omega (arith, le)
free_by names left n false le = omega arith

-- no more numbers are tried than are left
free_low : (names : List (List ℕ)) (left n : ℕ) → free_from names left n ≤ n + left
free_low names zero n = omega arith
free_low names (suc left) n = free_by names left n (among (numbered_w n) names) (free_low names left (suc n))

pub number_small : (old : Interface) → length old.classes < 2 ^ 64 → (n : ℕ) × (n < 2 ^ 64) × (w_name old ≡ numbered_w n)
unfolding w_name
number_small old small =
    let le = free_low (class_names old) (length old.classes) 0 in
    (free_from (class_names old) (length old.classes) 0, omega (arith, le, small), refl)

pub texts_read : (old new : Interface) (b : CompatBreach) (t : Texts) → length old.classes < 2 ^ 64 → faces_breach (interface_classes old) ≡ None → FewParameters old (told_method b)
    → witness_texts old new b ≡ Some t → ReadsAll (files_of t) (Ok (trees_of (w_name old) (told_method b) (showing_of old new b)))
unfolding witness_texts
texts_read old new b t small eo few e =
    let m = told_method b in
    let x = showing_of old new b in
    let p = some_texts (has_text old m x) (texts_of (w_name old) m x) t e in
    let c = conditions old m x p.0 (showing_sayable old new b eo few) in
    let number = number_small old small in
    subst (λ (u : Texts). ReadsAll (files_of u) (Ok (trees_of (w_name old) m x))) p.1
    (subst (λ (v : List ℕ). ReadsAll (files_of (texts_of v m x)) (Ok (trees_of v m x))) (sym number.2) (all_read number.0 number.1 m x c))
