-- What reading a whole text comes to, in the grammar's words.
use Rattle.std.proofs.Common.{◌≡◌, ◌≢◌, ℕ, ◌+◌, ◌-◌, ◌<◌, ◌≤◌, suc, List, [], ◌∷◌, ◌++◌, length, take, get_or, Bool, true, false, Option, Some, None, Result, Ok, Err, refl, sym, ◌∙◌, ap, subst, append_assoc, length-append, inl, inr, arith}
use Rattle.std.proofs.lemmas.Bool.{cases_lt}
use Rattle.std.proofs.Math.Seq.{take-length}
use Rattle.som_lex.specs.declared.token.Tokens.{Tokens}
use Rattle.som_model.specs.declared.limits.TheConstants.{MAX_NESTING}
use Rattle.som_parse.specs.Faults.{Begins, seen_at}
use Rattle.som_parse.specs.Readers.{Outcome, Parser, ◌>>◌, keyword, repeated, keeping}
use Rattle.som_parse.specs.Seen.{seen, seen_before, seen_from, places_from, text_at}
use Rattle.som_parse.specs.Tokens.{head}
use Rattle.som_parse.specs.declared.cursor.Stop.{Stop}
use Rattle.som_parse.specs.declared.cursor.Stop.TheVariants.{Memory, Syntax, Nesting}
use Rattle.som_parse.specs.declared.token.Key.TheVariants as key
use Rattle.som_parse.specs.declared.token.Token.{Token}
use Rattle.som_parse.specs.declared.fault.SyntaxFault.{SyntaxFault}
use Rattle.som_parse.specs.declared.fault.SyntaxFault.TheVariants as faults
use Rattle.som_parse.proofs.FirstFault.{place_of, begins_later, first_fault, fault_or_text, one_fault}
use Rattle.som_parse.proofs.Laws.{Lawful}
use Rattle.som_parse.proofs.Places.{CutAt, cut}
use Rattle.som_parse.proofs.Whole.{ends}
use Rattle.som_body.specs.Levels.{top}
use Rattle.som_body.proofs.LevelFound.{Found}
use Rattle.som_body.proofs.LevelLists.{top_take, top_part}
use Rattle.som_body.specs.Answer.{Leveled, Texts, NoneDeep, SomeDeep, IsNestingFault, IsSyntaxFault, IsAnswer, is_refused}
use Rattle.som_body.specs.StatementReading as sr
use Rattle.som_body.specs.Statements as s
use Rattle.som_ast.specs.declared.body.BlockText.{BlockText}
use Rattle.som_ast.specs.declared.body.BodyFile.{BodyFile}
use Rattle.som_ast.specs.declared.body.BodyText.{BodyText}
use Rattle.som_ast.specs.declared.body.MainFile.{MainFile}
use Rattle.som_body.proofs.FileFound.{body_file_found, main_file_found}
use Rattle.som_body.proofs.FileLaws.{body_file_law, main_file_law}
use Rattle.som_body.proofs.LevelWhole.{LeavesAt, NestsAt, whole_read, syntax_fails, nesting_fails, memory_fails, one_value}

-- ---- the place of a token with which all texts nest too deep

module _ (t : Tokens) where
  place_is : (u z : List Token) → seen t ≡ u ++ z → (c : CutAt t.source 0 t.list u z) → place_of t z ≡ c.place
  place_is u z splits c =
      let n : length (seen t) - length z ≡ length u = omega (arith, ap length splits ∙ length-append u z) in
      let m : length t.list ≡ 0 + length t.list = omega arith in
      let k : 0 + c.place ≡ c.place = omega arith in
      ap (λ i. get_or (places_from t.source 0 t.list) i (length t.list)) n ∙ ap (get_or (places_from t.source 0 t.list) (length u)) m ∙ c.is ∙ k

  all_seen : seen_before t (length t.list) ≡ seen t
  all_seen = ap (seen_from t.source 0) (take-length t.list)

  upto : (k : ℕ) → seen_before t (k + 1) ≡ seen_from t.source 0 (take (suc k) t.list)
  upto k = let n : k + 1 ≡ suc k = omega arith in ap (λ i. seen_from t.source 0 (take i t.list)) n

  module _ {A : Type 0} (L : Leveled A) (d : ℕ) where
    inside : (z : List Token) (u : List Token) (first : Token) → head z ≡ Some first → (c : CutAt t.source 0 t.list u z) → c.place < length t.list
    inside z u first here c = elim (cases_lt c.place (length t.list)) [
      | inl lt ↦ lt
      | inr past ↦ (let last : c.place ≡ length t.list = omega (arith, c.within) in let none : z ≡ [] = c.at_end last in let e : None ≡ Some first = sym (ap head none) ∙ here in absurd cc)
    ]

    nested_at : (z : List Token) (m : NestsAt L d (seen t) z) (c : CutAt t.source 0 t.list m.taken z) → IsNestingFault L d t c.place
    nested_at z m c =
        let lt = inside z m.taken m.first m.here c in
        let h = c.here lt in
        let some : ◌≡◌ {A = Option Token} (Some h.0) (Some m.first) = sym h.1 ∙ m.here in
        let same : h.0 ≡ m.first = cc in
        let front : seen_before t (c.place + 1) ≡ m.taken ++ m.first ∷ [] = upto c.place ∙ h.2 ∙ ap (λ x. m.taken ++ x ∷ []) same in
        record {
          within = lt;
          before = subst (Begins (Texts L)) (sym front) m.before;
          low = subst (NoneDeep L d) (sym c.front) m.low;
          deep = subst (SomeDeep L d) (sym front) m.deep;
        }

    pub nesting_fault : (z : List Token) → NestsAt L d (seen t) z → IsNestingFault L d t (place_of t z)
    nesting_fault z m =
        let c = cut t.source 0 t.list m.taken z m.splits in
        subst (IsNestingFault L d t) (sym (place_is m.taken z m.splits c)) (nested_at z m c)

    pub syntax_fault : (z : List Token) → LeavesAt L d (seen t) z → IsSyntaxFault L d t (place_of t z) × (seen_at t (place_of t z) ≡ head z)
    syntax_fault z m =
        let c = cut t.source 0 t.list m.fails.taken z m.fails.splits in
        let at : place_of t z ≡ c.place = place_is m.fails.taken z m.fails.splits c in
        let told = first_fault t (Texts L) z m.fails in
        (record { first = told.0; low = subst (λ k. NoneDeep L d (seen_before t k)) (sym at) (subst (NoneDeep L d) (sym c.front) m.low) }, told.1)

-- ---- a reader of whole texts, and what is answered

-- why reading stopped, as it is answered
abbrev pub Told : {A : Type 0} → Leveled A → Tokens → ℕ → List Token → Stop → Type 0
Told L t k z Syntax = IsSyntaxFault L MAX_NESTING t k × (seen_at t k ≡ head z)
Told L t k z Nesting = IsNestingFault L MAX_NESTING t k
Told L t k z Memory = ⊥

module _ (t : Tokens) {A : Type 0} (L : Leveled A) (p : ℕ → Parser A) (law : (d : ℕ) → Lawful (Texts L) (p d)) (found : (d : ℕ) (l : List ℕ) (u : List Token) (a : A) → L l u a → Found d l a [] u (p d u))
    (ending : (d : ℕ) (ts : List Token) (a : A) (z : List Token) → p d ts ≡ Ok (a, z) → z ≡ []) where
  text_read : (ts z : List Token) (a : A) → ts ≡ seen t → p MAX_NESTING ts ≡ Ok (a, z) → IsAnswer L t (Ok a)
  text_read ts z a same e =
      let nothing : z ≡ [] = ending MAX_NESTING ts a z e in
      let whole : p MAX_NESTING (seen t) ≡ Ok (a, []) = cc in
      whole_read L p law found MAX_NESTING (seen t) a whole

  stop_told : (z : List Token) (f : Stop) → p MAX_NESTING (seen t) ≡ Err (f, z) → Told L t (place_of t z) z f
  stop_told z Syntax e = syntax_fault t L MAX_NESTING z (syntax_fails L p law found MAX_NESTING (seen t) z e)
  stop_told z Nesting e = nesting_fault t L MAX_NESTING z (nesting_fails L p law found MAX_NESTING (seen t) z e)
  stop_told z Memory e = memory_fails L p law found MAX_NESTING (seen t) z e

  fault_told : (ts z : List Token) (ps : List ℕ) (f : Stop) (k : ℕ) → ts ≡ seen t → ps ≡ places_from t.source 0 t.list → k ≡ get_or ps (length ts - length z) (length t.list)
      → p MAX_NESTING ts ≡ Err (f, z) → Told L t k z f
  fault_told ts z ps f k same places here h =
      let at : k ≡ place_of t z = here ∙ ap (λ y. get_or y (length ts - length z) (length t.list)) places ∙ ap (λ y. get_or (places_from t.source 0 t.list) (length y - length z) (length t.list)) same in
      subst (λ i. Told L t i z f) (sym at) (stop_told z f (ap (p MAX_NESTING) (sym same) ∙ h))

  -- ---- one answer, as far as faults are of the grammar
  within_text : (a : A) → IsAnswer L t (Ok a) → Texts L (seen t) a
  within_text a x = (x.0, x.2)

  abbrev Leaves : ℕ → Type 0
  Leaves k = IsSyntaxFault L MAX_NESTING t k

  abbrev Nests : ℕ → Type 0
  Nests k = IsNestingFault L MAX_NESTING t k

  same_place : (k j : ℕ) → Leaves k → Leaves j → k ≡ j
  same_place k j x y = one_fault t (Texts L) k j x.first y.first

  not_both : {B : Type 0} (k j : ℕ) → Leaves k → Leaves j → is_refused (seen_at t k) ≡ false → is_refused (seen_at t j) ≡ true → B
  not_both k j x y here there =
      let e : k ≡ j = same_place k j x y in
      let both : is_refused (seen_at t j) ≡ false = subst (λ i. is_refused (seen_at t i) ≡ false) e here in
      let clash : true ≡ false = sym there ∙ both in cc

  -- what is too deep with the token at place k is too deep later
  deep_later : (k j : ℕ) (w : List Token) (l : List ℕ) (a : A) → Nests k → k + 1 ≤ j → L l (seen_before t j ++ w) a → MAX_NESTING < top (take (length (seen_before t j)) l)
  deep_later k j w l a x le m =
      let y = begins_later t (k + 1) j le in
      let text : L l (seen_before t (k + 1) ++ (y.0 ++ w)) a = subst (λ u. L l u a) (ap (λ u. u ++ w) y.1 ∙ append_assoc (seen_before t (k + 1)) y.0 w) m in
      let far : length (seen_before t (k + 1)) ≤ length (seen_before t j) = omega (arith, ap length y.1, length-append (seen_before t (k + 1)) y.0) in
      let more = top_take (length (seen_before t (k + 1))) (length (seen_before t j)) l far in
      omega (arith, x.deep (y.0 ++ w) l a text, more)

  -- so no text that isn't too deep begins with these tokens
  no_later : {B : Type 0} (k j : ℕ) → Nests k → k + 1 ≤ j → Begins (Texts L) (seen_before t j) → NoneDeep L MAX_NESTING (seen_before t j) → B
  no_later k j x le b low = absurd (omega (arith, deep_later k j b.0 b.2.0 b.1 x le b.2.1, low b.0 b.2.0 b.1 b.2.1))

  text_nests : {B : Type 0} (k : ℕ) (a : A) → IsAnswer L t (Ok a) → Nests k → B
  text_nests k a x y =
      let w = begins_later t (k + 1) (length t.list) (omega (arith, y.within)) in
      let m : L x.0 (seen_before t (k + 1) ++ w.0) a = subst (λ u. L x.0 u a) (sym (all_seen t) ∙ w.1) x.2 in
      let low = top_part (length (seen_before t (k + 1))) x.0 in
      absurd (omega (arith, y.deep w.0 x.0 a m, x.1, low))

  begins_less : (k j : ℕ) → k ≤ j → Begins (Texts L) (seen_before t j) → Begins (Texts L) (seen_before t k)
  begins_less k j le b = let w = begins_later t k j le in (w.0 ++ b.0, b.1, subst (λ u. Texts L u b.1) (ap (λ u. u ++ b.0) w.1 ∙ append_assoc (seen_before t k) w.0 b.0) b.2)

  nest_apart : {B : Type 0} (k j : ℕ) → Nests k → Nests j → k < j → B
  nest_apart k j x y lt = no_later k j x (omega (arith, lt)) (begins_less j (j + 1) (omega arith) y.before) y.low

  one_nest : (k j : ℕ) → Nests k → Nests j → k ≡ j
  one_nest k j x y = elim (cases_lt k j) [ inl lt ↦ nest_apart k j x y lt | inr le ↦ elim (cases_lt j k) [ inl lt ↦ nest_apart j k y x lt | inr ge ↦ omega (arith, le, ge) ] ]

  leaves_first : {B : Type 0} (k j : ℕ) → Leaves k → Nests j → k ≤ j → B
  leaves_first k j x y le = absurd (x.first.none (omega (arith, le, y.within)) (begins_less (k + 1) (j + 1) (omega (arith, le)) y.before))

  leave_or_nest : {B : Type 0} (k j : ℕ) → Leaves k → Nests j → B
  leave_or_nest k j x y = elim (cases_lt j k) [ inl lt ↦ no_later j k y (omega (arith, lt)) x.first.before x.low | inr le ↦ leaves_first k j x y le ]

  one_answer : (a b : Result A SyntaxFault) → IsAnswer L t a → IsAnswer L t b → a ≢ Err faults.NoMemory → b ≢ Err faults.NoMemory → a ≡ b
  one_answer (Ok f) (Ok h) x y p' q = ap (λ v. Ok v) (one_value L p law found (seen t) f h (within_text f x) (within_text h y))
  one_answer (Ok f) (Err (faults.Syntax k)) x y p' q = absurd (fault_or_text t (Texts L) k f y.0.first (within_text f x))
  one_answer (Ok f) (Err (faults.NotInProfile k)) x y p' q = absurd (fault_or_text t (Texts L) k f y.0.first (within_text f x))
  one_answer (Ok f) (Err (faults.Nesting k)) x y p' q = text_nests k f x y
  one_answer (Err (faults.Syntax k)) (Ok f) x y p' q = absurd (fault_or_text t (Texts L) k f x.0.first (within_text f y))
  one_answer (Err (faults.NotInProfile k)) (Ok f) x y p' q = absurd (fault_or_text t (Texts L) k f x.0.first (within_text f y))
  one_answer (Err (faults.Nesting k)) (Ok f) x y p' q = text_nests k f y x
  one_answer (Err (faults.Syntax k)) (Err (faults.Syntax j)) x y p' q = ap (λ i. Err (faults.Syntax i)) (same_place k j x.0 y.0)
  one_answer (Err (faults.NotInProfile k)) (Err (faults.NotInProfile j)) x y p' q = ap (λ i. Err (faults.NotInProfile i)) (same_place k j x.0 y.0)
  one_answer (Err (faults.Nesting k)) (Err (faults.Nesting j)) x y p' q = ap (λ i. Err (faults.Nesting i)) (one_nest k j x y)
  one_answer (Err (faults.Syntax k)) (Err (faults.NotInProfile j)) x y p' q = not_both k j x.0 y.0 x.1 y.1
  one_answer (Err (faults.NotInProfile k)) (Err (faults.Syntax j)) x y p' q = not_both j k y.0 x.0 y.1 x.1
  one_answer (Err (faults.Syntax k)) (Err (faults.Nesting j)) x y p' q = leave_or_nest k j x.0 y
  one_answer (Err (faults.NotInProfile k)) (Err (faults.Nesting j)) x y p' q = leave_or_nest k j x.0 y
  one_answer (Err (faults.Nesting k)) (Err (faults.Syntax j)) x y p' q = leave_or_nest j k y.0 x
  one_answer (Err (faults.Nesting k)) (Err (faults.NotInProfile j)) x y p' q = leave_or_nest j k y.0 x
  one_answer (Err faults.NoMemory) b x y p' q = absurd (p' refl)
  one_answer a (Err faults.NoMemory) x y p' q = absurd (q refl)

  -- ---- some answer
  told_as : (k : ℕ) (b : Bool) → Leaves k → is_refused (seen_at t k) ≡ b → (a : Result A SyntaxFault) × IsAnswer L t a × (a ≢ Err faults.NoMemory)
  told_as k true f e = (Err (faults.NotInProfile k), (f, e), λ same. cc)
  told_as k false f e = (Err (faults.Syntax k), (f, e), λ same. cc)

  stopped_as : (k : ℕ) (z : List Token) (f : Stop) → Told L t k z f → (a : Result A SyntaxFault) × IsAnswer L t a × (a ≢ Err faults.NoMemory)
  stopped_as k z Syntax x = told_as k (is_refused (seen_at t k)) x.0 refl
  stopped_as k z Nesting x = (Err (faults.Nesting k), x, λ same. cc)
  stopped_as k z Memory x = absurd x

  answered : (o : Outcome A) → p MAX_NESTING (seen t) ≡ o → (a : Result A SyntaxFault) × IsAnswer L t a × (a ≢ Err faults.NoMemory)
  answered (Ok x) e = (Ok x.0, text_read (seen t) x.1 x.0 refl e, λ same. cc)
  answered (Err x) e = stopped_as (place_of t x.1) x.1 x.0 (stop_told x.1 x.0 e)

  some_answer : (a : Result A SyntaxFault) × IsAnswer L t a × (a ≢ Err faults.NoMemory)
  some_answer = answered (p MAX_NESTING (seen t)) refl

-- ---- bodies and mains

file_of : List BodyText → BodyFile
file_of bs = record { bodies = bs }

main_of : BlockText → MainFile
main_of b = record { block = b }

body_ends : (texts : ℕ → List ℕ) (d : ℕ) (ts : List Token) (f : BodyFile) (z : List Token) → sr.body_file texts d ts ≡ Ok (f, z) → z ≡ []
unfolding sr.body_file file_of
body_ends texts d ts f z e = ends (repeated sr.ends_file (keeping (sr.body texts d))) file_of ts f z e

main_ends : (texts : ℕ → List ℕ) (d : ℕ) (ts : List Token) (f : MainFile) (z : List Token) → sr.main_file texts d ts ≡ Ok (f, z) → z ≡ []
unfolding sr.main_file main_of
main_ends texts d ts f z e = ends (keyword key.Main >> sr.block texts (sr.statement_at texts d) (sr.if_at texts d)) main_of ts f z e

module _ (t : Tokens) where
  abbrev pub Bodies : Leveled BodyFile
  Bodies = s.IsBodyFile (text_at t)

  abbrev pub Main : Leveled MainFile
  Main = s.IsMainFile (text_at t)

  pub bodies_read : (ts z : List Token) (f : BodyFile) → ts ≡ seen t → sr.body_file (text_at t) MAX_NESTING ts ≡ Ok (f, z) → IsAnswer Bodies t (Ok f)
  bodies_read = text_read t Bodies (sr.body_file (text_at t)) (body_file_law (text_at t)) (body_file_found (text_at t)) (body_ends (text_at t))

  pub bodies_fault : (ts z : List Token) (ps : List ℕ) (f : Stop) (k : ℕ) → ts ≡ seen t → ps ≡ places_from t.source 0 t.list → k ≡ get_or ps (length ts - length z) (length t.list)
      → sr.body_file (text_at t) MAX_NESTING ts ≡ Err (f, z) → Told Bodies t k z f
  bodies_fault = fault_told t Bodies (sr.body_file (text_at t)) (body_file_law (text_at t)) (body_file_found (text_at t)) (body_ends (text_at t))

  pub one_bodies_tree : (u : List Token) (a b : BodyFile) → Texts Bodies u a → Texts Bodies u b → a ≡ b
  one_bodies_tree = one_value Bodies (sr.body_file (text_at t)) (body_file_law (text_at t)) (body_file_found (text_at t))

  pub one_bodies_answer : (a b : Result BodyFile SyntaxFault) → IsAnswer Bodies t a → IsAnswer Bodies t b → a ≢ Err faults.NoMemory → b ≢ Err faults.NoMemory → a ≡ b
  one_bodies_answer = one_answer t Bodies (sr.body_file (text_at t)) (body_file_law (text_at t)) (body_file_found (text_at t)) (body_ends (text_at t))

  pub some_bodies_answer : (a : Result BodyFile SyntaxFault) × IsAnswer Bodies t a × (a ≢ Err faults.NoMemory)
  some_bodies_answer = some_answer t Bodies (sr.body_file (text_at t)) (body_file_law (text_at t)) (body_file_found (text_at t)) (body_ends (text_at t))

  pub main_read : (ts z : List Token) (f : MainFile) → ts ≡ seen t → sr.main_file (text_at t) MAX_NESTING ts ≡ Ok (f, z) → IsAnswer Main t (Ok f)
  main_read = text_read t Main (sr.main_file (text_at t)) (main_file_law (text_at t)) (main_file_found (text_at t)) (main_ends (text_at t))

  pub main_fault : (ts z : List Token) (ps : List ℕ) (f : Stop) (k : ℕ) → ts ≡ seen t → ps ≡ places_from t.source 0 t.list → k ≡ get_or ps (length ts - length z) (length t.list)
      → sr.main_file (text_at t) MAX_NESTING ts ≡ Err (f, z) → Told Main t k z f
  main_fault = fault_told t Main (sr.main_file (text_at t)) (main_file_law (text_at t)) (main_file_found (text_at t)) (main_ends (text_at t))

  pub one_main_tree : (u : List Token) (a b : MainFile) → Texts Main u a → Texts Main u b → a ≡ b
  one_main_tree = one_value Main (sr.main_file (text_at t)) (main_file_law (text_at t)) (main_file_found (text_at t))

  pub one_main_answer : (a b : Result MainFile SyntaxFault) → IsAnswer Main t a → IsAnswer Main t b → a ≢ Err faults.NoMemory → b ≢ Err faults.NoMemory → a ≡ b
  one_main_answer = one_answer t Main (sr.main_file (text_at t)) (main_file_law (text_at t)) (main_file_found (text_at t)) (main_ends (text_at t))

  pub some_main_answer : (a : Result MainFile SyntaxFault) × IsAnswer Main t a × (a ≢ Err faults.NoMemory)
  some_main_answer = some_answer t Main (sr.main_file (text_at t)) (main_file_law (text_at t)) (main_file_found (text_at t)) (main_ends (text_at t))
