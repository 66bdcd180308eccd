-- What is found is what the name means.
use Rattle.std.proofs.Common.{◌≡◌, ℕ, zero, suc, ◌<◌, ◌-◌, inl, inr, Bool, true, false, if◌then◌else◌, List, [], ◌∷◌, map, length, get_or, Option, Some, None, is_some, refl, sym, ap, ◌∙◌, subst, arith, true≢false}
use Rattle.std.specs.Prelude.{option_and_then}
use Rattle.std.specs.Option.{option_map, option_map_or}
use Rattle.som_model.specs.Lists.{Mem, find}
use Rattle.som_model.specs.Classes.{ancestors, hierarchy}
use Rattle.som_model.specs.Owner.{introduces}
use Rattle.som_meta.specs.Numbering.{IsNumbered, IsToken, Numbering, key_at, names_of, tokens_of}
use Rattle.som_names.specs.declared.named.Named.{Named}
use Rattle.som_names.specs.Index.{ancestors_at, asked, found, own_token, token_in}
use Rattle.som_names.proofs.ByName.{found_is, introducer, introducer_is}
use Rattle.som_class_loaded.specs.Added.{HaveDistinctEntries, HasClass, HasClasses, IsMeant, count_to, introducer_of}
use Rattle.som_class_loaded.proofs.Entries.{introduces_is}
use Rattle.som_class_loaded.proofs.Tokens.{token_is, token_some}

mem_at : {A : Type 0} (xs : List A) (i : ℕ) (d : A) → i < length xs → Mem (get_or xs i d) xs
mem_at [] i d lt = absurd (omega (arith, lt))
mem_at (x ∷ xs) zero d lt = inl refl
mem_at (x ∷ xs) (suc i) d lt = inr (mem_at xs i d (omega (arith, lt)))

-- the token of a name where a class introduces it
own_is : (k : Numbering) (index : List (ℕ × Named)) (a : ℕ) (name : List ℕ) → HasClass k index a → own_token index name a ≡ token_in (names_of k a) (tokens_of k a) name
own_is k index a name has =
    ap (option_and_then (λ (e : Named). token_in e.names e.tokens name)) has.there
    ∙ ap (λ (ns : List (List ℕ)). token_in ns has.added.tokens name) has.names ∙ ap (λ (ts : List (ℕ × ℕ)). token_in (names_of k a) ts name) has.tokens

own_some : (k : Numbering) (index : List (ℕ × Named)) (a : ℕ) (name : List ℕ) → HaveDistinctEntries k.classes → HasClass k index a → is_some (own_token index name a) ≡ introduces k.classes name (key_at k a)
own_some k index a name distinct has = ap is_some (own_is k index a name has) ∙ token_some name a 0 (names_of k a) ∙ sym (introduces_is k.classes name (key_at k a) distinct)

above_is : (k : Numbering) (index : List (ℕ × Named)) (n : ℕ) → HasClass k index n → map (key_at k) (ancestors_at index n) ≡ ancestors k.classes (key_at k n)
above_is k index n has = ap (λ (o : Option Named). map (key_at k) (option_map_or (λ (e : Named). e.ancestors) o [])) has.there ∙ has.ancestors

found_there : (test : ℕ → Bool) (xs : List ℕ) (a : ℕ) → find test xs ≡ Some a → Mem a xs × (test a ≡ true)
found_there test [] a e = absurd (cc)
found_there test (x ∷ xs) a e = by (test x) refl (λ f. found_there test xs a f) e
  where
    by : (b : Bool) → test x ≡ b → (find test xs ≡ Some a → Mem a xs × (test a ≡ true)) → (if b then Some x else find test xs) ≡ Some a → Mem a (x ∷ xs) × (test a ≡ true)
    by true is later f = let same : x ≡ a = cc in (inl (sym same), subst (λ (z : ℕ). test z ≡ true) same is)
    by false is later f = let h = later f in (inr h.0, h.1)

meant_by : (k : Numbering) (index : List (ℕ × Named)) (n a : ℕ) (name : List ℕ) → HasClass k index a → (o : Option (ℕ × ℕ)) → own_token index name a ≡ o → is_some o ≡ true
    → introducer_of k n name ≡ Some (key_at k a) → IsMeant k n name o
meant_by k index n a name has None is some e = absurd (true≢false (sym some))
meant_by k index n a name has (Some t) is some e =
    let h = token_is name a 0 (names_of k a) t (sym (own_is k index a name has) ∙ is) in
    let same = h.0 in
    let flat : t.1 - 0 ≡ t.1 = omega arith in
    let name_is : get_or (names_of k t.0) t.1 [] ≡ name = ap (λ (z : ℕ). get_or (names_of k z) t.1 []) same ∙ ap (λ (z : ℕ). get_or (names_of k a) z []) (sym flat) ∙ h.3 in
    let below = h.2 in
    let here : t.1 < length (names_of k a) = omega (arith, below) in
    let few : t.1 < length (names_of k t.0) = subst (λ (z : ℕ). t.1 < length (names_of k z)) (sym same) here in
    ((subst (λ (z : ℕ). IsNumbered k z) (sym same) has.numbered, few), e ∙ ap (λ (z : ℕ). Some (key_at k z)) (sym same), name_is)

pub found_meant : (k : Numbering) (index : List (ℕ × Named)) (n : ℕ) (name : List ℕ) → HaveDistinctEntries k.classes → HasClasses k index n → IsMeant k n name (found index n name)
found_meant k index n name distinct has =
    subst (λ (o : Option (ℕ × ℕ)). IsMeant k n name o) (sym (found_is index n name)) (by (introducer index name (ancestors_at index n)) refl)
  where
    there : option_map (key_at k) (introducer index name (ancestors_at index n)) ≡ introducer_of k n name
    there = introducer_is (hierarchy k.classes) (introduces k.classes name) (key_at k) index n name (above_is k index n has.own)
        (λ i d lt. own_some k index (get_or (ancestors_at index n) i d) name distinct (has.above (get_or (ancestors_at index n) i d) (mem_at (ancestors_at index n) i d lt)))

    by : (o : Option ℕ) → introducer index name (ancestors_at index n) ≡ o → IsMeant k n name (option_and_then (own_token index name) o)
    by None e = sym there ∙ ap (option_map (key_at k)) e
    by (Some a) e =
        let h = found_there (λ x. is_some (own_token index name x)) (ancestors_at index n) a e in
        meant_by k index n a name (has.above a h.0) (own_token index name a) refl h.1 (sym there ∙ ap (option_map (key_at k)) e)

asked_of : (k : Numbering) (index : List (ℕ × Named)) (name : List ℕ) (xs : List ℕ) → ((a : ℕ) → Mem a xs → is_some (own_token index name a) ≡ introduces k.classes name (key_at k a))
    → asked index name xs ≡ count_to (introduces k.classes name) (map (key_at k) xs)
asked_of k index name [] each = refl
asked_of k index name (x ∷ xs) each =
    let here = each x (inl refl) in
    let rest = asked_of k index name xs (λ a m. each a (inr m)) in
    rw here (ap (λ (z : ℕ). if introduces k.classes name (key_at k x) then 1 else suc z) rest)

pub asked_up_to : (k : Numbering) (index : List (ℕ × Named)) (n : ℕ) (name : List ℕ) → HaveDistinctEntries k.classes → HasClasses k index n
    → asked index name (ancestors_at index n) ≡ count_to (introduces k.classes name) (ancestors k.classes (key_at k n))
asked_up_to k index n name distinct has =
    asked_of k index name (ancestors_at index n) (λ a m. own_some k index a name distinct (has.above a m)) ∙ ap (count_to (introduces k.classes name)) (above_is k index n has.own)
