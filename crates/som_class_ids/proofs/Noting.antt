-- Classes by their names, one class further, and the search among those of a name.
use Rattle.std.proofs.Common.{take, get_or, ◌≡◌, ℕ, zero, suc, ◌+◌, ◌<◌, ◌≤◌, inl, inr, Bool, true, false, cond, List, [], ◌∷◌, ◌++◌, length, Option, Some, None, slice_get, slice_index_or, refl, sym, ap, ◌∙◌, subst, arith, length-append, true≢false}
use Rattle.std.proofs.lemmas.Bool.{cases_lt}
use Rattle.std.proofs.lemmas.List.{length-take}
use Rattle.std.proofs.lemmas.Slice.Eq.{bytes_eq-Decides}
use Rattle.std.proofs.lemmas.Map.Text.{is_eq-slice_cmp}
use Rattle.std.proofs.Math.ListN.{get_or-append}
use Rattle.std.proofs.Math.Seq.{get_or-append_seam}
use Rattle.std.specs.BTreeMap.{is_at}
use Rattle.std.specs.Cmp.Lexicographic.{slice_cmp}
use Rattle.std.specs.Ordering.{nat_cmp}
use Rattle.som_model.specs.declared.key.Module.{Module}
use Rattle.som_model.specs.declared.key.ClassKey.TheVariants as keys
use Rattle.som_model.specs.Keys.{same_key}
use Rattle.som_class_ids.specs.declared.keyed.Keyed.{Keyed}
use Rattle.som_class_ids.specs.declared.names.Names.{Names}
use Rattle.som_class_ids.specs.Names.{AreNoted, face_names, last_of, name_at}

is_self : (x : List ℕ) → is_at (slice_cmp nat_cmp x) x ≡ true
is_self x = is_eq-slice_cmp x x ∙ (bytes_eq-Decides x x).1 refl

is_same : (x y : List ℕ) → is_at (slice_cmp nat_cmp x) y ≡ true → x ≡ y
is_same x y t = (bytes_eq-Decides x y).0 (sym (is_eq-slice_cmp x y) ∙ t)

module _ (names : List (List ℕ)) (x : List ℕ) (old new : Names) (noted : AreNoted names old)
    (last_so : (q : List ℕ) → last_of new q ≡ cond (is_at (slice_cmp nat_cmp x) q) (Some (length names)) (last_of old q))
    (earlier_so : new.earlier ≡ old.earlier ++ last_of old x ∷ []) where
  abbrev all : List (List ℕ)
  all = names ++ x ∷ []

  long_all : length all ≡ length names + 1
  long_all = length-append names (x ∷ [])

  left : (n : ℕ) → n < length names → name_at all n ≡ name_at names n
  left n lt = get_or-append names (x ∷ []) [] n lt

  end : name_at all (length names) ≡ x
  end = get_or-append_seam names x [] []

  hit : last_of new x ≡ Some (length names)
  hit = last_so x ∙ ap (λ b. cond b (Some (length names)) (last_of old x)) (is_self x)

  miss : (q : List ℕ) → is_at (slice_cmp nat_cmp x) q ≡ false → last_of new q ≡ last_of old q
  miss q t = last_so q ∙ ap (λ b. cond b (Some (length names)) (last_of old q)) t

  earlier_left : (h : ℕ) → h < length names → slice_index_or new.earlier h None ≡ slice_index_or old.earlier h None
  earlier_left h lt = ap (λ l. slice_index_or l h None) earlier_so ∙ get_or-append old.earlier (last_of old x ∷ []) None h (let e = noted.long in omega (arith, lt, e))

  earlier_end : slice_index_or new.earlier (length names) None ≡ last_of old x
  earlier_end = ap (λ l. slice_index_or l (length names) None) earlier_so ∙ ap (λ n. slice_index_or (old.earlier ++ last_of old x ∷ []) n None) (sym noted.long) ∙ get_or-append_seam old.earlier (last_of old x) [] None

  last_is_by : (b : Bool) (name : List ℕ) (h : ℕ) → is_at (slice_cmp nat_cmp x) name ≡ b → last_of new name ≡ Some h → (h < length all) × (name_at all h ≡ name)
  last_is_by true name h t e =
      let same = is_same x name t in
      let is : Some (length names) ≡ Some h = sym hit ∙ ap (last_of new) same ∙ e in
      let at : length names ≡ h = cc in
      (omega (arith, at, long_all), ap (name_at all) (sym at) ∙ end ∙ same)
  last_is_by false name h t e =
      let r = noted.last_is name h (sym (miss name t) ∙ e) in
      let lt = r.0 in
      (omega (arith, lt, long_all), left h lt ∙ r.1)

  last_by : (b : Bool) (n : ℕ) → is_at (slice_cmp nat_cmp x) (name_at all n) ≡ b → n < length all → (h : ℕ) × (last_of new (name_at all n) ≡ Some h) × (n ≤ h)
  last_by true n t lt = (length names, ap (last_of new) (sym (is_same x (name_at all n) t)) ∙ hit, omega (arith, lt, long_all))
  last_by false n t lt = elim (cases_lt n (length names)) [
    | inl less ↦ (let r = noted.last n less in (r.0, miss (name_at all n) t ∙ ap (last_of old) (left n less) ∙ r.1, r.2))
    | inr ge ↦ (let is : n ≡ length names = omega (arith, lt, ge, long_all) in
        absurd (true≢false (sym (is_self x) ∙ ap (is_at (slice_cmp nat_cmp x)) (sym end ∙ ap (name_at all) (sym is)) ∙ t)))
  ]

  -- with the name of the next class
  pub noted_more : AreNoted all new
  noted_more = record {
    long = ap length earlier_so ∙ length-append old.earlier (last_of old x ∷ []) ∙ ap (λ n. n + 1) noted.long ∙ sym long_all;
    last_is = λ name h e. last_is_by (is_at (slice_cmp nat_cmp x) name) name h refl e;
    last = λ n lt. last_by (is_at (slice_cmp nat_cmp x) (name_at all n)) n refl lt;
    earlier_is = λ h e lt is. elim (cases_lt h (length names)) [
      | inl less ↦ (let r = noted.earlier_is h e less (sym (earlier_left h less) ∙ is) in
          let low = r.0 in
          (r.0, left e (omega (arith, low, less)) ∙ r.1 ∙ sym (left h less)))
      | inr ge ↦ (let at : h ≡ length names = omega (arith, lt, ge, long_all) in
          let r = noted.last_is x e (sym earlier_end ∙ ap (λ n. slice_index_or new.earlier n None) (sym at) ∙ is) in
          let low = r.0 in
          (omega (arith, low, at), left e low ∙ r.1 ∙ sym end ∙ ap (name_at all) (sym at)))
    ];
    earlier = λ n h lt lh same. elim (cases_lt h (length names)) [
      | inl less ↦ (let low : n < length names = omega (arith, lt, less) in
          let r = noted.earlier n h lt less (sym (left n low) ∙ same ∙ left h less) in
          (r.0, earlier_left h less ∙ r.1, r.2))
      | inr ge ↦ (let at : h ≡ length names = omega (arith, lh, ge, long_all) in
          let low : n < length names = omega (arith, lt, at) in
          let r = noted.last n low in
          let name : name_at names n ≡ x = sym (left n low) ∙ same ∙ ap (name_at all) at ∙ end in
          (r.0, ap (λ i. slice_index_or new.earlier i None) at ∙ earlier_end ∙ ap (last_of old) (sym name) ∙ r.1, r.2))
    ];
  }

-- the name of a class at its place
pub name_get : (ks : List Keyed) (n : ℕ) (k : Keyed) → slice_get ks n ≡ Some k → name_at (face_names ks) n ≡ k.decl.face.name
name_get [] n k e = absurd (cc)
name_get (d ∷ ks) zero k e = let same : d ≡ k = cc in ap (λ (z : Keyed). z.decl.face.name) same
name_get (d ∷ ks) (suc n) k e = name_get ks n k e

pub names_length : (ks : List Keyed) → length (face_names ks) ≡ length ks
names_length [] = refl
names_length (k ∷ ks) = let e = names_length ks in omega (arith, e)

pub names_next : (ks : List Keyed) (i : ℕ) (k : Keyed) → i < length ks → k ≡ get_or ks i k → take (i + 1) (face_names ks) ≡ take i (face_names ks) ++ k.decl.face.name ∷ []
names_next [] i k lt is = absurd (omega (arith, lt))
names_next (d ∷ ks) zero k lt is = ap (λ (z : Keyed). z.decl.face.name ∷ []) (sym is)
names_next (d ∷ ks) (suc i) k lt is =
    let s : suc i + 1 ≡ suc (i + 1) = omega arith in
    ap (λ j. take j (face_names (d ∷ ks))) s ∙ ap (λ l. d.decl.face.name ∷ l) (names_next ks i k (omega (arith, lt)) is)

pub short : (ks : List Keyed) (i : ℕ) → length (take i (face_names ks)) ≤ length ks
short ks i = let a = length-take i (face_names ks) in let b = names_length ks in omega (arith, a, b)

take_past : (xs : List (List ℕ)) (i : ℕ) → length xs ≤ i → take i xs ≡ xs
take_past [] zero le = refl
take_past [] (suc i) le = refl
take_past (x ∷ xs) zero le = absurd (omega (arith, le))
take_past (x ∷ xs) (suc i) le = ap (λ l. x ∷ l) (take_past xs i (omega (arith, le)))

pub all_noted : (ks : List Keyed) (i : ℕ) (t : Names) → length ks ≤ i → AreNoted (take i (face_names ks)) t → AreNoted (face_names ks) t
all_noted ks i t le noted = subst (λ l. AreNoted l t) (take_past (face_names ks) i (let e = names_length ks in omega (arith, e, le))) noted

-- the search among the classes of a name

-- the test for a module and a name
abbrev pub is_of : Module → List ℕ → Keyed → Bool
is_of home name k = same_key k.key (keys.Named home name)

abbrev pub steps_left : Option ℕ → ℕ
steps_left None = 0
steps_left (Some n) = suc n

-- what is sought stands no higher than the class that is asked next
pub record Comes (ks : List Keyed) (name : List ℕ) (test : Keyed → Bool) (next : Option ℕ) : Type 0 where
  pub inside : (h : ℕ) → next ≡ Some h → (h < length ks) × (name_at (face_names ks) h ≡ name)
  pub there : (n : ℕ) (k : Keyed) → slice_get ks n ≡ Some k → k.decl.face.name ≡ name → test k ≡ true → (h : ℕ) × (next ≡ Some h) × (n ≤ h)

within : (ks : List Keyed) (n : ℕ) (k : Keyed) → slice_get ks n ≡ Some k → n < length ks
within [] n k e = absurd (cc)
within (d ∷ ks) zero k e = omega arith
within (d ∷ ks) (suc n) k e = let l = within ks n k e in omega (arith, l)

module _ (ks : List Keyed) (t : Names) (noted : AreNoted (face_names ks) t) (name : List ℕ) (test : Keyed → Bool) where
  pub comes_first : Comes ks name test (last_of t name)
  comes_first = record {
    inside = λ h e. (let r = noted.last_is name h e in let lt = r.0 in (omega (arith, lt, names_length ks), r.1));
    there = λ n k is so passes.
        let lt = within ks n k is in
        let r = noted.last n (omega (arith, lt, names_length ks)) in
        (r.0, ap (last_of t) (sym so ∙ sym (name_get ks n k is)) ∙ r.1, r.2);
  }

  module _ (h : ℕ) (d : Keyed) (at : slice_get ks h ≡ Some d) (comes : Comes ks name test (Some h)) where
    low : h < length (face_names ks)
    low = (let lt = within ks h d at in omega (arith, lt, names_length ks))

    pub comes_next : test d ≡ false → Comes ks name test (slice_index_or t.earlier h None)
    comes_next fails = record {
      inside = λ e is. (let r = noted.earlier_is h e low is in let lt = r.0 in (omega (arith, lt, low, names_length ks), r.1 ∙ (comes.inside h refl).1));
      there = λ n k is so passes.
          let r = comes.there n k is so passes in
          let same : h ≡ r.0 = (let e = r.1 in cc) in
          let le = r.2 in
          elim (cases_lt n h) [
            | inl lt ↦ noted.earlier n h lt low (name_get ks n k is ∙ so ∙ sym (comes.inside h refl).1)
            | inr ge ↦ (let one : n ≡ h = omega (arith, le, ge, same) in
                let two : Some k ≡ Some d = sym is ∙ ap (slice_get ks) one ∙ at in
                let both : k ≡ d = cc in
                absurd (true≢false (sym passes ∙ ap test both ∙ fails)))
          ];
    }

    pub fewer_left : steps_left (slice_index_or t.earlier h None) < suc h
    fewer_left = by (slice_index_or t.earlier h None) refl
      where
        by : (o : Option ℕ) → slice_index_or t.earlier h None ≡ o → steps_left o < suc h
        by None e = omega arith
        by (Some e) is = (let r = (noted.earlier_is h e low is).0 in omega (arith, r))

pub comes_none : (ks : List Keyed) (name : List ℕ) (test : Keyed → Bool) → Comes ks name test None → (n : ℕ) (k : Keyed) → slice_get ks n ≡ Some k → k.decl.face.name ≡ name → test k ≡ true → ⊥
comes_none ks name test comes n k is so passes = let r = comes.there n k is so passes in let e = r.1 in cc

-- one turn of the search
module _ (ks : List Keyed) (t : Names) (noted : AreNoted (face_names ks) t) (home : Module) (name : List ℕ) (next : Option ℕ) (h : ℕ) (e : next ≡ Some h) (comes : Comes ks name (is_of home name) next) where
  comes_so : Comes ks name (is_of home name) (Some h)
  comes_so = subst (λ o. Comes ks name (is_of home name) o) e comes

  pub asked_within : h < length ks
  asked_within = (comes_so.inside h refl).0

  pub asked_noted : h < length t.earlier
  asked_noted = (let lt = asked_within in let a = noted.long in omega (arith, lt, a, names_length ks))

  pub asked_next : (d : Keyed) → slice_get ks h ≡ Some d → same_key d.key (keys.Named home name) ≡ false → Comes ks name (is_of home name) (slice_index_or t.earlier h None)
  asked_next d at fails = comes_next ks t noted name (is_of home name) h d at comes_so fails

  pub asked_fewer : (d : Keyed) → slice_get ks h ≡ Some d → steps_left (slice_index_or t.earlier h None) < steps_left next
  asked_fewer d at = subst (λ o. steps_left (slice_index_or t.earlier h None) < steps_left o) (sym e) (fewer_left ks t noted name (is_of home name) h d at comes_so)
