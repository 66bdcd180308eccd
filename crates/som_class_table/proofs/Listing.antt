-- The tokens of what classes introduce, one entry and one class further.
use Rattle.std.proofs.Common.{◌≡◌, ◌==◌, ℕ, zero, suc, ◌+◌, ◌<◌, inl, inr, true, false, List, [], ◌∷◌, ◌++◌, length, take, get_or, Some, slice_get, refl, sym, ap, ◌∙◌, arith, length-append}
use Rattle.std.proofs.lemmas.Bool.{cases_lt}
use Rattle.std.proofs.lemmas.List.{take_more}
use Rattle.som_model.specs.declared.class.Entry.{Entry}
use Rattle.som_model.specs.declared.class.Entry.TheVariants as entries
use Rattle.som_model.specs.Class.{Class, introduced}
use Rattle.som_model.specs.Classes.{class_at}
use Rattle.som_model.specs.Owner.{introduced_in}
use Rattle.som_model_laws.proofs.Lists.{get_mem}
use Rattle.som_meta.specs.Numbering.{Numbering, names_of, tokens_from, tokens_of}
use Rattle.som_class_ids.specs.Numbers.{AreFirst}
use Rattle.som_class_methods.specs.Owners.{AreFaces}
use Rattle.som_class_methods.proofs.Facts.{facts}

-- entries

introduced_end : (es : List Entry) (e : Entry) → introduced (es ++ e ∷ []) ≡ introduced es ++ introduced (e ∷ [])
introduced_end [] e = refl
introduced_end (entries.Introduced name sig way ∷ es) e = ap (λ l. name ∷ l) (introduced_end es e)
introduced_end (entries.Moved name to ∷ es) e = introduced_end es e

introduced_next : (es : List Entry) (i : ℕ) (e : Entry) → i < length es → e ≡ get_or es i e → length (introduced (take (i + 1) es)) ≡ length (introduced (take i es)) + length (introduced (e ∷ []))
introduced_next es i e lt is =
    ap (λ (l : List Entry). length (introduced l)) (take_more es i e lt ∙ ap (λ z. take i es ++ z ∷ []) (sym is)) ∙ ap length (introduced_end (take i es) e) ∙ length-append (introduced (take i es)) (introduced (e ∷ []))

-- an entry adds one where it is introduced, and else none
pub count_one : (es : List Entry) (i count : ℕ) (e : Entry) → i < length es → e ≡ get_or es i e → count ≡ length (introduced (take i es)) → true ≡ (length (introduced (e ∷ [])) == 1) → count + 1 ≡ length (introduced (take (i + 1) es))
count_one es i count (entries.Introduced name sig way) lt is so t = (let s = introduced_next es i (entries.Introduced name sig way) lt is in omega (arith, s, so))
count_one es i count (entries.Moved name to) lt is so t = absurd (cc)

pub count_none : (es : List Entry) (i count : ℕ) (e : Entry) → i < length es → e ≡ get_or es i e → count ≡ length (introduced (take i es)) → false ≡ (length (introduced (e ∷ [])) == 1) → count ≡ length (introduced (take (i + 1) es))
count_none es i count (entries.Introduced name sig way) lt is so t = absurd (cc)
count_none es i count (entries.Moved name to) lt is so t = (let s = introduced_next es i (entries.Moved name to) lt is in omega (arith, s, so))

-- tokens of one method more

tokens_end : (n place count : ℕ) → tokens_from n place (count + 1) ≡ tokens_from n place count ++ (n, place + count) ∷ []
tokens_end n place zero = (let s : place ≡ place + 0 = omega arith in ap (λ p. (n, p) ∷ []) s)
tokens_end n place (suc count) = (let s : suc place + count ≡ place + suc count = omega arith in let t : suc count + 1 ≡ suc (count + 1) = omega arith in ap (tokens_from n place) t ∙ ap (λ l. (n, place) ∷ l) (tokens_end n (suc place) count ∙ ap (λ p. tokens_from n (suc place) count ++ (n, p) ∷ []) s))

pub tokens_more : (n count : ℕ) (now : List (ℕ × ℕ)) → now ≡ tokens_from n 0 count → now ++ (n, count) ∷ [] ≡ tokens_from n 0 (count + 1)
tokens_more n count now e = ap (λ l. l ++ (n, count) ∷ []) e ∙ ap (λ p. tokens_from n 0 count ++ (n, p) ∷ []) (omega arith) ∙ sym (tokens_end n 0 count)

-- the tokens of one class more

pub names_are : (k : Numbering) → AreFaces k.classes → AreFirst k → (n : ℕ) (c : Class) → slice_get k.classes n ≡ Some c → names_of k n ≡ introduced c.decl.face.entries
names_are k faces first n c at = ap introduced_in (ap (class_at k.classes) (first.key n c at) ∙ (facts k.classes faces).found_at c (get_mem k.classes n c at))

pub few_entries : (k : Numbering) → AreFaces k.classes → (n : ℕ) (c : Class) → slice_get k.classes n ≡ Some c → length c.decl.face.entries < 65536
few_entries k faces n c at = (let l = faces.counted c (get_mem k.classes n c at) in omega (arith, l))

pub class_more : (k : Numbering) → AreFaces k.classes → AreFirst k → (n count : ℕ) (c : Class) (ts : List (ℕ × ℕ)) → slice_get k.classes n ≡ Some c → count ≡ length (introduced c.decl.face.entries) → ts ≡ tokens_from n 0 count → ts ≡ tokens_of k n
class_more k faces first n count c ts at long is = is ∙ ap (tokens_from n 0) (long ∙ sym (ap length (names_are k faces first n c at)))

get_left : {A : Type 0} (xs : List A) (y : A) (n : ℕ) (x : A) → slice_get xs n ≡ Some x → slice_get (xs ++ y ∷ []) n ≡ Some x
get_left [] y n x e = absurd (cc)
get_left (z ∷ xs) y zero x e = e
get_left (z ∷ xs) y (suc n) x e = get_left xs y n x e

get_end : {A : Type 0} (xs : List A) (y : A) → slice_get (xs ++ y ∷ []) (length xs) ≡ Some y
get_end [] y = refl
get_end (x ∷ xs) y = get_end xs y

pub introduced_more : (k : Numbering) (all : List (List (ℕ × ℕ))) (m : ℕ) (ts : List (ℕ × ℕ)) → length all ≡ m → ((n : ℕ) → n < m → slice_get all n ≡ Some (tokens_of k n)) → ts ≡ tokens_of k m
    → (n : ℕ) → n < m + 1 → slice_get (all ++ ts ∷ []) n ≡ Some (tokens_of k n)
introduced_more k all m ts long so is n lt = elim (cases_lt n m) [
  | inl low ↦ get_left all ts n (tokens_of k n) (so n low)
  | inr ge ↦ (let at : n ≡ length all = omega (arith, lt, ge, long) in let same : m ≡ n = omega (arith, lt, ge) in
      ap (slice_get (all ++ ts ∷ [])) at ∙ get_end all ts ∙ ap (λ z. Some z) is ∙ ap (λ z. Some (tokens_of k z)) same)
]
