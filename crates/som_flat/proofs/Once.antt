-- Where no name is introduced twice, no two ancestors of a class introduce one name.
use Rattle.std.proofs.Common.{◌≡◌, ℕ, inl, inr, Bool, true, false, not, if◌then◌else◌, List, [], ◌∷◌, ◌++◌, Option, Some, None, flat_map, map, refl, sym, ap, ◌∙◌, subst, true≢false}
use Rattle.std.specs.Borrow.{Bor}
use Rattle.std.specs.Prelude.{filter, is_some, option_copied}
use Rattle.std.specs.Str.{bytes_eq}
use Rattle.som_model.specs.declared.key.ClassKey.{ClassKey}
use Rattle.som_model.specs.Keys.{same_key}
use Rattle.som_model.specs.Lists.{Mem, doubles, find, first}
use Rattle.som_model.specs.Hierarchy.{Tells}
use Rattle.som_model.specs.Class.{Class, introduced}
use Rattle.som_model.specs.Classes.{ancestors, class_at, hierarchy}
use Rattle.som_model.specs.Owner.{introduced_by, introduced_in}
use Rattle.som_model.specs.Rules.{breach, s8}
use Rattle.som_model.proofs.KeyLaws.{exact_bytes, exact_keys}
use Rattle.som_model.proofs.NamedLaws.{hierarchy_same}
use Rattle.som_model_laws.proofs.Laws.{ancestors_apart}
use Rattle.som_model_laws.proofs.Lists.{doubles_apart}
use Rattle.som_model_laws.proofs.Members.{Apart}
use Rattle.som_verify_rules.specs.Shared.{Twice, all_introduced}
use Rattle.som_verify_rules.proofs.Sharing.{doubles_kept, twice_among}

abbrev names_of : Class → List (List ℕ)
names_of c = introduced c.decl.face.entries

-- ---- names that differ

apart_once : (xs : List (List ℕ)) → Apart xs → (n : List ℕ) → Twice n xs → ⊥
apart_once [] o n t = t
apart_once (x ∷ xs) o n (inl p) = o.0 (subst (λ z. Mem z xs) p.0 p.1)
apart_once (x ∷ xs) o n (inr t) = apart_once xs o.1 n t

first_none : {A : Type 0} (xs : List A) → first xs ≡ None → xs ≡ []
first_none [] e = refl
first_none (x ∷ xs) e = absurd (cc)

pub nothing_is : {A : Type 0} (o : Option A) (b : Bool) → is_some o ≡ not b → b ≡ true → o ≡ None
nothing_is None b e t = refl
nothing_is (Some x) b e t = absurd (true≢false (e ∙ ap not t))

-- no name stands twice where none is found that does
pub none_twice : (names : List (List ℕ)) (double : Option (Bor (List ℕ))) → option_copied double ≡ first (doubles bytes_eq [] names) → double ≡ None → (n : List ℕ) → Twice n names → ⊥
none_twice names double is none n t =
    apart_once names (doubles_apart bytes_eq exact_bytes names (first_none (doubles bytes_eq [] names) (sym is ∙ ap (λ z. option_copied z) none))) n t

none_pass : (xs : List (List ℕ)) → filter (λ x. false) xs ≡ []
none_pass [] = refl
none_pass (x ∷ xs) = none_pass xs

no_doubles : (xs : List (List ℕ)) → ((n : List ℕ) → Twice n xs → ⊥) → doubles bytes_eq [] xs ≡ []
no_doubles xs once = sym (doubles_kept (λ n. false) [] xs (λ n m k. absurd m) (λ n t. absurd (once n t))) ∙ ap (doubles bytes_eq []) (none_pass xs)

-- ---- the classes of keys

find_by : {A : Type 0} (p : A → Bool) (x c : A) (xs : List A) (b : Bool) → p x ≡ b → (if b then Some x else find p xs) ≡ Some c → (find p xs ≡ Some c → Mem c xs × (p c ≡ true)) → Mem c (x ∷ xs) × (p c ≡ true)
find_by p x c xs true t e rest = let is : x ≡ c = cc in (inl (sym is), ap p (sym is) ∙ t)
find_by p x c xs false t e rest = let r = rest e in (inr r.0, r.1)

find_there : {A : Type 0} (p : A → Bool) (xs : List A) (c : A) → find p xs ≡ Some c → Mem c xs × (p c ≡ true)
find_there p [] c e = absurd (cc)
find_there p (x ∷ xs) c e = find_by p x c xs (p x) refl e (find_there p xs c)

tells : (cs : List Class) → Tells (hierarchy cs)
tells cs = record { one = λ x. hierarchy_same cs x x ∙ exact_keys.one x; two = λ x y e. exact_keys.two x y (sym (hierarchy_same cs x y) ∙ e) }

module _ (X : List Class) where
  abbrev there_by : Option Class → List Class → List Class
  there_by None cs = cs
  there_by (Some c) cs = c ∷ cs

  abbrev there : List ClassKey → List Class
  there [] = []
  there (k ∷ ks) = there_by (class_at X k) (there ks)

  found_is : (k : ClassKey) (c : Class) → class_at X k ≡ Some c → Mem c X × (c.key ≡ k)
  found_is k c e = let r = find_there (λ (z : Class). same_key z.key k) X c e in (r.0, exact_keys.two c.key k r.1)

  member_there_by : (k : ClassKey) (ks : List ClassKey) (c : Class) (o : Option Class) → class_at X k ≡ o → (Mem c (there ks) → Mem c X × Mem c.key ks) → Mem c (there_by o (there ks)) → Mem c X × Mem c.key (k ∷ ks)
  member_there_by k ks c None e rest m = let r = rest m in (r.0, inr r.1)
  member_there_by k ks c (Some d) e rest (inl is) = let r = found_is k d e in (subst (λ z. Mem z X) (sym is) r.0, inl (ap (λ (z : Class). z.key) is ∙ r.1))
  member_there_by k ks c (Some d) e rest (inr m) = let r = rest m in (r.0, inr r.1)

  member_there : (ks : List ClassKey) (c : Class) → Mem c (there ks) → Mem c X × Mem c.key ks
  member_there [] c m = absurd m
  member_there (k ∷ ks) c m = member_there_by k ks c (class_at X k) refl (member_there ks c) m

  apart_there_by : (k : ClassKey) (ks : List ClassKey) (o : Option Class) → class_at X k ≡ o → (Mem k ks → ⊥) → Apart (there ks) → Apart (there_by o (there ks))
  apart_there_by k ks None e out apart = apart
  apart_there_by k ks (Some d) e out apart = (λ m. out (subst (λ z. Mem z ks) (found_is k d e).1 (member_there ks d m).1), apart)

  apart_there : (ks : List ClassKey) → Apart ks → Apart (there ks)
  apart_there [] o = tt
  apart_there (k ∷ ks) o = apart_there_by k ks (class_at X k) refl o.0 (apart_there ks o.1)

  along_by : (o : Option Class) (names : List (List ℕ)) (cs : List Class) → names ≡ flat_map names_of cs → introduced_in o ++ names ≡ flat_map names_of (there_by o cs)
  along_by None names cs e = e
  along_by (Some c) names cs e = ap (λ z. names_of c ++ z) e

  along : (ks : List ClassKey) → flat_map (introduced_by X) ks ≡ flat_map names_of (there ks)
  along [] = refl
  along (k ∷ ks) = along_by (class_at X k) (flat_map (introduced_by X) ks) (there ks) (along ks)

  -- no class has two ancestors that introduce one name
  module _ (once : (n : List ℕ) → Twice n (all_introduced X) → ⊥) where
    above_once : (ks : List ClassKey) → Apart ks → (n : List ℕ) → Twice n (flat_map (introduced_by X) ks) → ⊥
    above_once ks o n t = once n (twice_among names_of n (there ks) X (apart_there ks o) (λ c m. (member_there ks c m).0) (subst (Twice n) (along ks) t))

    keeps_s8 : (c : Class) → s8 X c ≡ []
    keeps_s8 c = ap (map (breach 8 c)) (no_doubles (flat_map (introduced_by X) (ancestors X c.key)) (above_once (ancestors X c.key) (ancestors_apart (hierarchy X) (tells X) c.key)))

    pub all_keep_s8 : (cs : List Class) → flat_map (s8 X) cs ≡ []
    all_keep_s8 [] = refl
    all_keep_s8 (c ∷ cs) = ap (λ z. z ++ flat_map (s8 X) cs) (keeps_s8 c) ∙ all_keep_s8 cs
