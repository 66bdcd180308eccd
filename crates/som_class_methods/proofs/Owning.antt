-- The tokens of entries are those of their owners.
use Rattle.std.proofs.Common.{◌≡◌, ℕ, zero, suc, ◌+◌, ◌<◌, ◌≤◌, inl, inr, true, List, [], ◌∷◌, ◌++◌, length, map, take, get_or, Option, Some, None, IsSome, slice_get, slice_index_or, refl, sym, ap, ◌∙◌, subst, arith, length-append, true≢false}
use Rattle.std.specs.Str.{bytes_eq}
use Rattle.std.proofs.lemmas.Bool.{cases_lt}
use Rattle.std.proofs.lemmas.List.{take_more}
use Rattle.std.proofs.Math.ListN.{get_or-append}
use Rattle.std.proofs.Math.Seq.{get_or-append_seam}
use Rattle.som_model.specs.declared.key.ClassKey.{ClassKey}
use Rattle.som_model.specs.declared.class.Entry.{Entry}
use Rattle.som_model.specs.declared.class.Entry.TheVariants as entries
use Rattle.som_model.specs.Lists.{Mem}
use Rattle.som_model.specs.Class.{Class, entry_name, entry_of, introduced}
use Rattle.som_model.specs.Classes.{class_at}
use Rattle.som_model.specs.Owner.{entry_at, introduced_by, introduced_in, owner}
use Rattle.som_model.specs.Keys.{same_key}
use Rattle.som_model.specs.Loads.{keys_of}
use Rattle.som_model.proofs.KeyLaws.{exact_bytes, exact_keys}
use Rattle.som_model_laws.proofs.Lists.{find_mem, get_mem, mem_get, mem_map}
use Rattle.som_model_laws.proofs.Owners.{entry_is, entry_unknown, moved_to}
use Rattle.som_meta.specs.Numbering.{Numbering, key_at}
use Rattle.som_class_ids.specs.Numbers.{AreFirst}
use Rattle.som_class_ids.proofs.Declaring.{apart_at, key_is, keys_length}
use Rattle.som_class_methods.specs.Owners.{AreFaces, AreOwned, HaveOwners, IsBefore, IsEntry, IsTokenOf, ref}
use Rattle.som_class_methods.proofs.Facts.{Facts, entry_at_found}

pub introduced-append : (xs ys : List Entry) → introduced (xs ++ ys) ≡ introduced xs ++ introduced ys
introduced-append [] ys = refl
introduced-append (entries.Introduced name sig way ∷ xs) ys = ap (λ l. name ∷ l) (introduced-append xs ys)
introduced-append (entries.Moved name to ∷ xs) ys = introduced-append xs ys

-- the place of an introduced name is how many are introduced before
pub own_name : (es : List Entry) (i : ℕ) (name : List ℕ) (sig : _) (way : _) → slice_get es i ≡ Some (entries.Introduced name sig way)
    → (length (introduced (take i es)) < length (introduced es)) × (get_or (introduced es) (length (introduced (take i es))) [] ≡ name)
own_name [] i name sig way e = absurd (cc)
own_name (entries.Introduced x s w ∷ es) zero name sig way e = (omega arith, (let same : entries.Introduced x s w ≡ entries.Introduced name sig way = cc in cc))
own_name (entries.Moved x to ∷ es) zero name sig way e = absurd (let same : entries.Moved x to ≡ entries.Introduced name sig way = cc in cc)
own_name (entries.Introduced x s w ∷ es) (suc i) name sig way e = let r = own_name es i name sig way e in let lt = r.0 in (omega (arith, lt), r.1)
own_name (entries.Moved x to ∷ es) (suc i) name sig way e = own_name es i name sig way e

own_few : (es : List Entry) (i : ℕ) → length (introduced (take i es)) ≤ length es
own_few [] zero = omega arith
own_few [] (suc i) = omega arith
own_few (x ∷ es) zero = omega arith
own_few (entries.Introduced x s w ∷ es) (suc i) = let l = own_few es i in omega (arith, l)
own_few (entries.Moved x to ∷ es) (suc i) = let l = own_few es i in omega (arith, l)

module _ (k : Numbering) (f : Facts k.classes) (first : AreFirst k) where
  -- the token of an introduced method is the class's own
  pub own_token : (n : ℕ) (c : Class) (i : ℕ) (name : List ℕ) (sig : _) (way : _) → slice_get k.classes n ≡ Some c → slice_get c.decl.face.entries i ≡ Some (entries.Introduced name sig way)
      → IsTokenOf k (n, length (introduced (take i c.decl.face.entries))) (owner k.classes (ref (key_at k n) name))
  own_token n c i name sig way is at =
      let m = get_mem k.classes n c is in
      let key = first.key n c is in
      let own = own_name c.decl.face.entries i name sig way at in
      let names : introduced_by k.classes (key_at k n) ≡ introduced c.decl.face.entries = ap (introduced_by k.classes) key ∙ ap introduced_in (f.found_at c m) in
      let here : entry_at k.classes (key_at k n) name ≡ Some (entries.Introduced name sig way) = ap (λ z. entry_at k.classes z name) key ∙ entry_at_found k.classes f c m i (entries.Introduced name sig way) at in
      let stays = f.stays (key_at k n) name (ap moved_to here) in
      let lt : length (introduced (take i c.decl.face.entries)) < length (introduced_by k.classes (key_at k n)) = subst (λ l. length (introduced (take i c.decl.face.entries)) < length l) (sym names) own.0 in
      record {
        token = (first.numbered n c is, lt);
        method = ap (λ x. ref (key_at k n) x) (ap (λ l. get_or l (length (introduced (take i c.decl.face.entries))) []) names ∙ own.1) ∙ sym stays;
      }

  -- that of a moved one is the token that the class has to which it was moved
  pub moved_same : (n : ℕ) (c : Class) (i : ℕ) (name : List ℕ) (to : ClassKey) → slice_get k.classes n ≡ Some c → slice_get c.decl.face.entries i ≡ Some (entries.Moved name to)
      → owner k.classes (ref to name) ≡ owner k.classes (ref (key_at k n) name)
  moved_same n c i name to is at =
      let m = get_mem k.classes n c is in
      let key = first.key n c is in
      sym (ap (λ z. owner k.classes (ref z name)) key ∙ f.moves c.key name name to (entry_at_found k.classes f c m i (entries.Moved name to) at))

  pub moved_before : (n : ℕ) (c : Class) (i : ℕ) (name : List ℕ) (to : ClassKey) → slice_get k.classes n ≡ Some c → slice_get c.decl.face.entries i ≡ Some (entries.Moved name to)
      → IsBefore k n to × IsSome (entry_at k.classes to name)
  moved_before n c i name to is at =
      let r = f.target n c name to is (get_mem c.decl.face.entries i (entries.Moved name to) at) in
      (record { number = r.0; class = r.1; lower = r.2; there = r.3; is = r.4 }, r.5)

  -- the owner of the entry at a place
  pub have_at : (c : ClassKey) (es : List Entry) (ts : List (ℕ × ℕ)) → HaveOwners k c es ts → (i : ℕ) (name : List ℕ) (t : ℕ × ℕ) → slice_get (map entry_name es) i ≡ Some name → slice_get ts i ≡ Some t → IsTokenOf k t (owner k.classes (ref c name))
  have_at c [] ts h i name t e g = absurd (cc)
  have_at c (x ∷ es) [] h i name t e g = absurd h
  have_at c (x ∷ es) (u ∷ ts) h zero name t e g =
      let one : entry_name x ≡ name = cc in
      let two : u ≡ t = cc in
      subst (λ z. IsTokenOf k z (owner k.classes (ref c name))) two (subst (λ z. IsTokenOf k u (owner k.classes (ref c z))) one h.0)
  have_at c (x ∷ es) (u ∷ ts) h (suc i) name t e g = have_at c es ts h.1 i name t e g

  pub have_length : (c : ClassKey) (es : List Entry) (ts : List (ℕ × ℕ)) → HaveOwners k c es ts → length ts ≡ length es
  have_length c [] [] h = refl
  have_length c (x ∷ es) (t ∷ ts) h = let e = have_length c es ts h.1 in omega (arith, e)
  have_length c [] (t ∷ ts) h = absurd h
  have_length c (x ∷ es) [] h = absurd h

pub have_more : (k : Numbering) (c : ClassKey) (es : List Entry) (ts : List (ℕ × ℕ)) (e : Entry) (t : ℕ × ℕ) → HaveOwners k c es ts → IsTokenOf k t (owner k.classes (ref c (entry_name e))) → HaveOwners k c (es ++ e ∷ []) (ts ++ t ∷ [])
have_more k c [] [] e t h is = (is, tt)
have_more k c (x ∷ es) (u ∷ ts) e t h is = (h.0, have_more k c es ts e t h.1 is)
have_more k c [] (u ∷ ts) e t h is = absurd h
have_more k c (x ∷ es) [] e t h is = absurd h

-- the tokens of one class more
pub owned_more : (k : Numbering) (tokens : List (List (ℕ × ℕ))) → AreOwned k tokens → (c : Class) (ts : List (ℕ × ℕ)) → slice_get k.classes (length tokens) ≡ Some c → length tokens < length k.classes
    → HaveOwners k c.key c.decl.face.entries ts → AreOwned k (tokens ++ ts ∷ [])
owned_more k tokens owned c ts is lt h = record {
  within = (let long = length-append tokens (ts ∷ []) in omega (arith, long, lt));
  each = λ n d l e. elim (cases_lt n (length tokens)) [
    | inl less ↦ subst (λ z. HaveOwners k d.key d.decl.face.entries z) (sym (get_or-append tokens (ts ∷ []) [] n less)) (owned.each n d less e)
    | inr ge ↦ (
        let long = length-append tokens (ts ∷ []) in
        let at : n ≡ length tokens = omega (arith, long, l, ge) in
        let same : c ≡ d = (let two : Some c ≡ Some d = sym is ∙ ap (slice_get k.classes) (sym at) ∙ e in cc) in
        subst (λ z. HaveOwners k d.key d.decl.face.entries z) (sym (ap (λ j. slice_index_or (tokens ++ ts ∷ []) j []) at ∙ get_or-append_seam tokens ts [] []))
        (subst (λ (z : Class). HaveOwners k z.key z.decl.face.entries ts) same h))
  ];
}

pub none_owned : (k : Numbering) → AreOwned k []
none_owned k = record { within = omega arith; each = λ n c lt e. absurd (omega (arith, lt)) }

-- what the code asks of one class and one entry

pub name_there : (es : List Entry) (i : ℕ) (e : Entry) (name : List ℕ) → slice_get es i ≡ Some e → bytes_eq (entry_name e) name ≡ true → slice_get (map entry_name es) i ≡ Some name
name_there [] i e name is t = absurd (cc)
name_there (x ∷ es) zero e name is t = (let same : x ≡ e = cc in ap (λ z. Some (entry_name z)) same ∙ ap (λ z. Some z) (exact_bytes.two (entry_name e) name t))
name_there (x ∷ es) (suc i) e name is t = name_there es i e name is t

pub name_within : (es : List Entry) (i : ℕ) (name : List ℕ) → slice_get (map entry_name es) i ≡ Some name → i < length es
name_within [] i name e = absurd (cc)
name_within (x ∷ es) zero name e = omega arith
name_within (x ∷ es) (suc i) name e = let l = name_within es i name e in omega (arith, l)

get_within : {A : Type 0} (xs : List A) (i : ℕ) (x : A) → slice_get xs i ≡ Some x → i < length xs
get_within [] i x e = absurd (cc)
get_within (y ∷ xs) zero x e = omega arith
get_within (y ∷ xs) (suc i) x e = let l = get_within xs i x e in omega (arith, l)

some_class : (xs : List Class) (i : ℕ) → i < length xs → (c : Class) × (slice_get xs i ≡ Some c)
some_class [] i l = absurd (omega (arith, l))
some_class (x ∷ xs) zero l = (x, refl)
some_class (x ∷ xs) (suc i) l = some_class xs i (omega (arith, l))

pub known_before : (k : Numbering) (m : ℕ) (key : ClassKey) → IsBefore k m key → Mem key (keys_of k.classes)
known_before k m key b = subst (λ z. Mem z (keys_of k.classes)) b.is (mem_map (λ (c : Class). c.key) b.class k.classes (get_mem k.classes b.number b.class b.there))

module _ (k : Numbering) (f : Facts k.classes) (first : AreFirst k) where
  -- the number of a key is that of the class that stands before
  pub number_before : (m : ℕ) (key : ClassKey) → IsBefore k m key → (n : ℕ) → n < length k.classes → key_at k n ≡ key → n < m
  number_before m key b n lt e =
      let c = some_class k.classes n lt in
      let long = keys_length k.classes in
      let w = get_within k.classes b.number b.class b.there in
      let one : n < length (keys_of k.classes) = omega (arith, lt, long) in
      let two : b.number < length (keys_of k.classes) = omega (arith, w, long) in
      let same = apart_at (keys_of k.classes) f.apart n b.number one two
      (key_is k.classes n c.0 c.1 ∙ sym (first.key n c.0 c.1) ∙ e ∙ sym b.is ∙ sym (key_is k.classes b.number b.class b.there)) in
      let less = b.lower in
      omega (arith, same, less)

  pub entry_there : (n : ℕ) (c : Class) (key : ClassKey) (name : List ℕ) → slice_get k.classes n ≡ Some c → c.key ≡ key → IsSome (entry_at k.classes key name) → IsSome (entry_of c.decl.face.entries name)
  entry_there n c key name is e some =
      let at : class_at k.classes key ≡ Some c = subst (λ z. class_at k.classes z ≡ Some c) e (f.found_at c (get_mem k.classes n c is)) in
      subst (λ (o : Option Entry). IsSome o) (entry_is k.classes key name c at) some

  -- the class that a method is named by, where it has an entry of that name
  pub before_all : (key : ClassKey) (name : List ℕ) (m : ℕ) → length k.classes ≤ m → IsSome (entry_at k.classes key name) → IsBefore k m key
  before_all key name m le some = by (class_at k.classes key) refl
    where
      by : (o : Option Class) → class_at k.classes key ≡ o → IsBefore k m key
      by None e = absurd (true≢false (sym (subst (λ (o : Option Entry). IsSome o) (entry_unknown k.classes key name e) some)))
      by (Some c) e =
          let r = find_mem (λ (z : Class). same_key z.key key) k.classes c e in
          let p = mem_get k.classes c r.0 in
          let w = get_within k.classes p.0 c p.1 in
          record { number = p.0; class = c; lower = omega (arith, w, le); there = p.1; is = exact_keys.two c.key key r.1 }

  pub own_entry : (n : ℕ) (e : Entry) (own : ℕ) → IsEntry k n e own → (name : List ℕ) (sig : _) (way : _) → e ≡ entries.Introduced name sig way → (t : ℕ × ℕ) → t ≡ (n, own) → IsTokenOf k t (owner k.classes (ref (key_at k n) (entry_name e)))
  own_entry n e own i name sig way is t at =
      subst (λ z. IsTokenOf k z (owner k.classes (ref (key_at k n) (entry_name e)))) (ap (λ o. (n, o)) (sym i.own_is) ∙ sym at)
      (subst (λ (z : Entry). IsTokenOf k (n, length (introduced (take i.place i.class.decl.face.entries))) (owner k.classes (ref (key_at k n) (entry_name z)))) (sym is)
      (own_token k f first n i.class i.place name sig way i.there (i.at_place ∙ ap (λ z. Some z) is)))

  pub moved_entry : (n : ℕ) (e : Entry) (own : ℕ) → IsEntry k n e own → (name : List ℕ) (to : ClassKey) → e ≡ entries.Moved name to → (t : ℕ × ℕ) → IsTokenOf k t (owner k.classes (ref to name)) → IsTokenOf k t (owner k.classes (ref (key_at k n) (entry_name e)))
  moved_entry n e own i name to is t h =
      subst (λ (z : Entry). IsTokenOf k t (owner k.classes (ref (key_at k n) (entry_name z)))) (sym is)
      (subst (λ z. IsTokenOf k t z) (moved_same k f first n i.class i.place name to i.there (i.at_place ∙ ap (λ z. Some z) is)) h)

  pub moved_known : (n : ℕ) (e : Entry) (own : ℕ) → IsEntry k n e own → (name : List ℕ) (to : ClassKey) → e ≡ entries.Moved name to → IsBefore k n to × IsSome (entry_at k.classes to name)
  moved_known n e own i name to is = moved_before k f first n i.class i.place name to i.there (i.at_place ∙ ap (λ z. Some z) is)

-- no class introduces too many methods
pub own_fits : (k : Numbering) → AreFaces k.classes → (n : ℕ) (c : Class) → slice_get k.classes n ≡ Some c → (i : ℕ) → length (introduced (take i c.decl.face.entries)) ≤ 256
own_fits k faces n c is i = let a = own_few c.decl.face.entries i in let b = faces.counted c (get_mem k.classes n c is) in omega (arith, a, b)

pub own_more : (es : List Entry) (i : ℕ) (e : Entry) (own : ℕ) → i < length es → e ≡ get_or es i e → own ≡ length (introduced (take i es)) → own + length (introduced (e ∷ [])) ≡ length (introduced (take (i + 1) es))
own_more es i e own lt is o =
    ap (λ z. z + length (introduced (e ∷ []))) o ∙ sym (length-append (introduced (take i es)) (introduced (e ∷ [])))
    ∙ ap length (sym (introduced-append (take i es) (e ∷ [])) ∙ ap introduced (ap (λ z. take i es ++ z ∷ []) is ∙ sym (take_more es i e lt)))

pub tokens_more : (k : Numbering) (c : ClassKey) (es : List Entry) (i : ℕ) (e : Entry) (ts : List (ℕ × ℕ)) (t : ℕ × ℕ) → i < length es → e ≡ get_or es i e → HaveOwners k c (take i es) ts → IsTokenOf k t (owner k.classes (ref c (entry_name e))) → HaveOwners k c (take (i + 1) es) (ts ++ t ∷ [])
tokens_more k c es i e ts t lt is h one = subst (λ l. HaveOwners k c l (ts ++ t ∷ [])) (ap (λ z. take i es ++ z ∷ []) is ∙ sym (take_more es i e lt)) (have_more k c (take i es) ts e t h one)
