-- The methods that classes introduce with their places, one entry more and one class more.
use Rattle.std.proofs.Common.{◌≡◌, ℕ, zero, suc, ◌+◌, ◌<◌, inl, inr, List, [], ◌∷◌, ◌++◌, append_assoc, drop, get_or, length, Some, slice_get, refl, sym, ap, ◌∙◌, arith}
use Rattle.std.proofs.lemmas.Bool.{cases_lt}
use Rattle.std.proofs.lemmas.Option.{same_Some}
use Rattle.som_model.specs.declared.key.ClassKey.{ClassKey}
use Rattle.som_model.specs.declared.class.Entry.{Entry}
use Rattle.som_model.specs.declared.class.Entry.TheVariants as entries
use Rattle.som_model.specs.Class.{Class}
use Rattle.som_meta.specs.Numbering.{Numbering}
use Rattle.som_class_table.specs.Loaded.{AreLoaded}
use Rattle.som_class_table.proofs.Listing.{few_entries}
use Rattle.som_class_table.proofs.LoadedClasses.{faces}
use Rattle.som_class_methods.specs.Owners.{ref}
use Rattle.som_class_kernel.specs.declared.entries.MethodEntry.{MethodEntry}
use Rattle.som_class_kernel.specs.Entries.{entries_from}

entries_split : (key : ClassKey) (i : ℕ) (e : Entry) (es : List Entry) → entries_from key i (e ∷ es) ≡ entries_from key i (e ∷ []) ++ entries_from key (i + 1) es
entries_split key i (entries.Introduced name sig way) es = (let s : suc i ≡ i + 1 = omega arith in ap (λ j. record { place = i; method = ref key name } ∷ entries_from key j es) s)
entries_split key i (entries.Moved name to) es = (let s : suc i ≡ i + 1 = omega arith in ap (λ j. entries_from key j es) s)

dropped : (es : List Entry) (i : ℕ) (e : Entry) → i < length es → e ≡ get_or es i e → drop i es ≡ e ∷ drop (i + 1) es
dropped [] i e lt is = absurd (omega (arith, lt))
dropped (x ∷ es) zero e lt is = ap (λ z. z ∷ es) (sym is)
dropped (x ∷ es) (suc i) e lt is = (let s : suc i + 1 ≡ suc (i + 1) = omega arith in rw s (dropped es i e (omega (arith, lt)) is))

pub entries_step : (key : ClassKey) (i : ℕ) (es : List Entry) (e : Entry) (now all : List MethodEntry) → i < length es → e ≡ get_or es i e → now ++ entries_from key i (drop i es) ≡ all
    → (now ++ entries_from key i (e ∷ [])) ++ entries_from key (i + 1) (drop (i + 1) es) ≡ all
entries_step key i es e now all lt is so =
    append_assoc now (entries_from key i (e ∷ [])) (entries_from key (i + 1) (drop (i + 1) es))
    ∙ ap (λ z. now ++ z) (sym (entries_split key i e (drop (i + 1) es)) ∙ ap (entries_from key i) (sym (dropped es i e lt is))) ∙ so

get_left : {A : Type 0} (xs : List A) (y : A) (n : ℕ) (x : A) → slice_get xs n ≡ Some x → slice_get (xs ++ y ∷ []) n ≡ Some x
get_left [] y n x e = absurd (cc)
get_left (z ∷ xs) y zero x e = e
get_left (z ∷ xs) y (suc n) x e = get_left xs y n x e

get_end : {A : Type 0} (xs : List A) (y : A) → slice_get (xs ++ y ∷ []) (length xs) ≡ Some y
get_end [] y = refl
get_end (x ∷ xs) y = get_end xs y

abbrev HaveEntries : List Class → List (List MethodEntry) → ℕ → Type 0
HaveEntries cs all m = (n : ℕ) (c : Class) → n < m → slice_get cs n ≡ Some c → slice_get all n ≡ Some (entries_from c.key 0 c.decl.face.entries)

pub entries_more : (cs : List Class) (all : List (List MethodEntry)) (m : ℕ) (xs : List MethodEntry) (c : Class) → length all ≡ m → HaveEntries cs all m → slice_get cs m ≡ Some c → xs ≡ entries_from c.key 0 c.decl.face.entries
    → HaveEntries cs (all ++ xs ∷ []) (m + 1)
entries_more cs all m xs c long so at is n d lt e = elim (cases_lt n m) [
  | inl low ↦ get_left all xs n (entries_from d.key 0 d.decl.face.entries) (so n d low e)
  | inr ge ↦ (
      let same : n ≡ m = omega (arith, lt, ge) in
      let place : n ≡ length all = omega (arith, same, long) in
      let class : c ≡ d = same_Some c d (sym at ∙ ap (slice_get cs) (sym same) ∙ e) in
      ap (slice_get (all ++ xs ∷ [])) place ∙ get_end all xs ∙ ap (λ z. Some z) is ∙ ap (λ (z : Class). Some (entries_from z.key 0 z.decl.face.entries)) class)
]

pub declared_few : (k : Numbering) (l : AreLoaded k) (n : ℕ) (c : Class) → slice_get k.classes n ≡ Some c → (es : List Entry) → es ≡ c.decl.face.entries → length es < 65536
declared_few k l n c at es same = rw same (few_entries k (faces k l) n c at)
