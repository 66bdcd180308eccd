-- What reading a whole file comes to, in the grammar's words.
use Rattle.std.proofs.Common.{◌≡◌, ◌≢◌, ℕ, ◌-◌, List, [], length, get_or, Bool, true, false, Result, Ok, Err, refl, sym, ◌∙◌, ap, subst}
use Rattle.som_lex.specs.declared.token.Tokens.{Tokens}
use Rattle.som_parse.specs.Faults.{IsFirstFault, seen_at}
use Rattle.som_parse.specs.Readers.{Outcome, repeated}
use Rattle.som_parse.specs.Seen.{seen, places_from, text_at}
use Rattle.som_parse.specs.Tokens.{head}
use Rattle.som_parse.specs.declared.cursor.Stop.{Stop}
use Rattle.som_parse.specs.declared.token.Token.{Token}
use Rattle.som_parse.specs.declared.fault.SyntaxFault.{SyntaxFault}
use Rattle.som_parse.specs.declared.fault.SyntaxFault.TheVariants as faults
use Rattle.som_idl.specs.Answer.{IsAnswer, is_refused}
use Rattle.som_idl.specs.Grammar as g
use Rattle.som_idl.specs.Reading as r
use Rattle.som_ast.specs.declared.interface.IdlFile.{IdlFile}
use Rattle.som_ast.specs.declared.interface.IdlInterface.{IdlInterface}
use Rattle.som_parse.proofs.FirstFault.{place_of, first_fault, fault_or_text, one_fault}
use Rattle.som_parse.proofs.Whole.{read_whole, read_fails, one_value, ends}
use Rattle.som_idl.proofs.FileFound.{file_found}
use Rattle.som_idl.proofs.FileLaws.{file_law}

file_of : List IdlInterface → IdlFile
file_of is = record { interfaces = is }

file_ends : (text_at : ℕ → List ℕ) (ts z : List Token) (f : IdlFile) → r.file text_at ts ≡ Ok (f, z) → z ≡ []
unfolding r.file file_of
file_ends text_at ts z f e = ends (repeated r.ends_file (r.entry text_at)) file_of ts f z e

module _ (t : Tokens) where
  pub text_read : (ts z : List Token) (f : IdlFile) → ts ≡ seen t → r.file (text_at t) ts ≡ Ok (f, z) → g.IsFile (text_at t) (seen t) f
  text_read ts z f same e =
      let nothing : z ≡ [] = file_ends (text_at t) ts z f e in
      let whole : r.file (text_at t) (seen t) ≡ Ok (f, []) = cc in
      read_whole (g.IsFile (text_at t)) (r.file (text_at t)) (file_law (text_at t)) (file_found (text_at t)) (seen t) f whole

  pub fault_told : (ts z : List Token) (ps : List ℕ) (e : Stop) (k : ℕ) → ts ≡ seen t → ps ≡ places_from t.source 0 t.list → k ≡ get_or ps (length ts - length z) (length t.list)
      → r.file (text_at t) ts ≡ Err (e, z) → IsFirstFault (g.IsFile (text_at t)) t k × (seen_at t k ≡ head z)
  fault_told ts z ps e k same places here h =
      let at : k ≡ place_of t z = here ∙ ap (λ y. get_or y (length ts - length z) (length t.list)) places ∙ ap (λ y. get_or (places_from t.source 0 t.list) (length y - length z) (length t.list)) same in
      let told = first_fault t (g.IsFile (text_at t)) z (read_fails (g.IsFile (text_at t)) (r.file (text_at t)) (file_law (text_at t)) (file_found (text_at t)) (seen t) z e (ap (r.file (text_at t)) (sym same) ∙ h)) in
      (subst (IsFirstFault (g.IsFile (text_at t)) t) (sym at) told.0, ap (seen_at t) at ∙ told.1)

  -- ---- one answer
  pub one_tree : (u : List Token) (a b : IdlFile) → g.IsFile (text_at t) u a → g.IsFile (text_at t) u b → a ≡ b
  one_tree u a b x y = one_value (g.IsFile (text_at t)) (r.file (text_at t)) (file_law (text_at t)) (file_found (text_at t)) u a b x y

  same_place : (k j : ℕ) → IsFirstFault (g.IsFile (text_at t)) t k → IsFirstFault (g.IsFile (text_at t)) t j → k ≡ j
  same_place k j x y = one_fault t (g.IsFile (text_at t)) k j x y

  not_both : {B : Type 0} (k j : ℕ) → IsFirstFault (g.IsFile (text_at t)) t k → IsFirstFault (g.IsFile (text_at t)) t j → is_refused (seen_at t k) ≡ false → is_refused (seen_at t j) ≡ true → B
  not_both k j x y here there = let e : k ≡ j = same_place k j x y in let both : is_refused (seen_at t j) ≡ false = subst (λ i. is_refused (seen_at t i) ≡ false) e here in let clash : true ≡ false = sym there ∙ both in cc

  pub one_answer : (a b : Result IdlFile SyntaxFault) → IsAnswer t a → IsAnswer t b → a ≢ Err faults.NoMemory → b ≢ Err faults.NoMemory → a ≡ b
  one_answer (Ok f) (Ok h) x y p q = ap (λ v. Ok v) (one_tree (seen t) f h x y)
  one_answer (Ok f) (Err (faults.Syntax k)) x y p q = absurd (fault_or_text t (g.IsFile (text_at t)) k f y.0 x)
  one_answer (Ok f) (Err (faults.NotInProfile k)) x y p q = absurd (fault_or_text t (g.IsFile (text_at t)) k f y.0 x)
  one_answer (Err (faults.Syntax k)) (Ok f) x y p q = absurd (fault_or_text t (g.IsFile (text_at t)) k f x.0 y)
  one_answer (Err (faults.NotInProfile k)) (Ok f) x y p q = absurd (fault_or_text t (g.IsFile (text_at t)) k f x.0 y)
  one_answer (Err (faults.Syntax k)) (Err (faults.Syntax j)) x y p q = ap (λ i. Err (faults.Syntax i)) (same_place k j x.0 y.0)
  one_answer (Err (faults.NotInProfile k)) (Err (faults.NotInProfile j)) x y p q = ap (λ i. Err (faults.NotInProfile i)) (same_place k j x.0 y.0)
  one_answer (Err (faults.Syntax k)) (Err (faults.NotInProfile j)) x y p q = not_both k j x.0 y.0 x.1 y.1
  one_answer (Err (faults.NotInProfile k)) (Err (faults.Syntax j)) x y p q = not_both j k y.0 x.0 y.1 x.1
  one_answer (Err (faults.Nesting k)) b x y p q = absurd x
  one_answer a (Err (faults.Nesting k)) x y p q = absurd y
  one_answer (Err faults.NoMemory) b x y p q = absurd (p refl)
  one_answer a (Err faults.NoMemory) x y p q = absurd (q refl)

  -- ---- some answer
  told_as : (k : ℕ) (b : Bool) → IsFirstFault (g.IsFile (text_at t)) t k → is_refused (seen_at t k) ≡ b → (a : Result IdlFile SyntaxFault) × IsAnswer t a × (a ≢ Err faults.NoMemory)
  told_as k true f e = (Err (faults.NotInProfile k), (f, e), λ same. cc)
  told_as k false f e = (Err (faults.Syntax k), (f, e), λ same. cc)

  answered : (o : Outcome IdlFile) → r.file (text_at t) (seen t) ≡ o → (a : Result IdlFile SyntaxFault) × IsAnswer t a × (a ≢ Err faults.NoMemory)
  answered (Ok x) e = (Ok x.0, text_read (seen t) x.1 x.0 refl e, λ same. cc)
  answered (Err x) e =
      let k : ℕ = get_or (places_from t.source 0 t.list) (length (seen t) - length x.1) (length t.list) in
      told_as k (is_refused (seen_at t k)) (fault_told (seen t) x.1 (places_from t.source 0 t.list) x.0 k refl refl refl e).0 refl

  pub some_answer : (a : Result IdlFile SyntaxFault) × IsAnswer t a × (a ≢ Err faults.NoMemory)
  some_answer = answered (r.file (text_at t) (seen t)) refl
