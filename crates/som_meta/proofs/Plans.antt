-- A plan over numbers is the metaclass at their keys.
use Rattle.std.proofs.Common.{◌≡◌, ℕ, ◌<◌, inl, inr, ◌==◌, ◌&&◌, nat_eq, not, Bool, true, false, if◌then◌else◌, List, [], ◌∷◌, ◌++◌, map, length, Option, Some, None, refl, sym, ap, ◌∙◌, true≢false}
use Rattle.std.specs.List.{All}
use Rattle.std.specs.Option.{option_map}
use Rattle.std.proofs.lemmas.Bool.{cases_eq, eq-eqb, ne_eqb}
use Rattle.std.proofs.lemmas.List.Elements.{All-cons, All-head, All-tail, All-nil}
use Rattle.som_model.specs.declared.key.ClassKey.{ClassKey}
use Rattle.som_model.specs.declared.key.ClassKey.TheVariants as keys
use Rattle.som_model.specs.Lists.{firsts, without, some, option_list}
use Rattle.som_model.specs.Keys.{same_key}
use Rattle.som_model.specs.Classes.{is_a}
use Rattle.som_model.specs.Metaclass.{is_above, lowest, made_of}
use Rattle.som_model.proofs.KeyLaws.{exact_keys}
use Rattle.som_meta.specs.Numbering.{Numbering, IsNumbered, AreNumbered, AreApart, key_at}
use Rattle.som_meta.specs.Planning.{constraints, is_above_some, lowest_numbers, planned, plan_of, plan_key, chosen_key}

-- what is kept of the list without some
pub without-all : {A : Type 0} (P : A → Type 0) (test : A → Bool) (xs : List A) → All P xs → All P (without test xs)
without-all P test [] all = All-nil P
without-all {A} P test (x ∷ xs) all = go (test x) (without test xs) (All-head P x xs all) (without-all P test xs (All-tail P x xs all)) where
  go : (b : Bool) (rest : List A) → P x → All P rest → All P (if b then rest else x ∷ rest)
  go true rest p more = more
  go false rest p more = All-cons P x rest p more

pub firsts-all : (P : ℕ → Type 0) (xs : List ℕ) → All P xs → All P (firsts nat_eq xs)
firsts-all P [] all = All-nil P
firsts-all P (x ∷ xs) all = All-cons P x (without (nat_eq x) (firsts nat_eq xs)) (All-head P x xs all) (without-all P (nat_eq x) (firsts nat_eq xs) (firsts-all P xs (All-tail P x xs all)))

map_step : (f : ℕ → ClassKey) (b c : Bool) (x : ℕ) (rest : List ℕ) (kept : List ClassKey) → b ≡ c → map f rest ≡ kept → map f (if b then rest else x ∷ rest) ≡ (if c then kept else f x ∷ kept)
map_step f true true x rest kept e is = is
map_step f false false x rest kept e is = ap (λ l. f x ∷ l) is
map_step f true false x rest kept e is = absurd (true≢false e)
map_step f false true x rest kept e is = absurd (true≢false (sym e))

-- a test on numbers that agrees with one on keys leaves out the numbers of those keys that the other leaves out
without-keys : (f : ℕ → ClassKey) (P : ℕ → Type 0) (test : ℕ → Bool) (tests : ClassKey → Bool) → ((n : ℕ) → P n → test n ≡ tests (f n)) → (ns : List ℕ) → All P ns → map f (without test ns) ≡ without tests (map f ns)
without-keys f P test tests same [] all = refl
without-keys f P test tests same (n ∷ ns) all = map_step f (test n) (tests (f n)) n (without test ns) (without tests (map f ns)) (same n (All-head P n ns all)) (without-keys f P test tests same ns (All-tail P n ns all))

some-keys : (f : ℕ → ClassKey) (P : ℕ → Type 0) (test : ℕ → Bool) (tests : ClassKey → Bool) → ((n : ℕ) → P n → test n ≡ tests (f n)) → (ns : List ℕ) → All P ns → some test ns ≡ some tests (map f ns)
some-keys f P test tests same [] all = refl
some-keys f P test tests same (n ∷ ns) all = ap (λ b. if b then true else some test ns) (same n (All-head P n ns all)) ∙ ap (λ b. if tests (f n) then true else b) (some-keys f P test tests same ns (All-tail P n ns all))

module _ (k : Numbering) (apart : AreApart k) where
  -- numbers are equal where their keys are
  pub same_at : (m n : ℕ) → IsNumbered k m → IsNumbered k n → nat_eq m n ≡ same_key (key_at k m) (key_at k n)
  same_at m n im in' = elim (cases_eq m n) [
    | inl e ↦ eq-eqb m n e ∙ sym (ap (λ i. same_key (key_at k m) (key_at k i)) (sym e) ∙ exact_keys.one (key_at k m))
    | inr ne ↦ ne_eqb m n ne ∙ sym (other (same_key (key_at k m) (key_at k n)) refl ne)
  ] where
    other : (b : Bool) → same_key (key_at k m) (key_at k n) ≡ b → (m ≡ n → ⊥) → same_key (key_at k m) (key_at k n) ≡ false
    other true is ne = absurd (ne (apart m n im in' (exact_keys.two (key_at k m) (key_at k n) is)))
    other false is ne = is

  firsts-keys : (ns : List ℕ) → AreNumbered k ns → map (key_at k) (firsts nat_eq ns) ≡ firsts same_key (map (key_at k) ns)
  firsts-keys [] all = refl
  firsts-keys (n ∷ ns) all =
      let here = All-head (IsNumbered k) n ns all in
      let rest = All-tail (IsNumbered k) n ns all in
      ap (λ l. key_at k n ∷ l)
      (without-keys (key_at k) (IsNumbered k) (nat_eq n) (same_key (key_at k n)) (λ m im. same_at n m here im) (firsts nat_eq ns) (firsts-all (IsNumbered k) ns rest)
      ∙ ap (without (same_key (key_at k n))) (firsts-keys ns rest))

  above-keys : (ns : List ℕ) → AreNumbered k ns → (n : ℕ) → IsNumbered k n → is_above_some k ns n ≡ is_above k.classes (map (key_at k) ns) (key_at k n)
  above-keys ns all n im =
      some-keys (key_at k) (IsNumbered k) (λ m. not (m == n) && is_a k.classes (key_at k m) (key_at k n)) (λ x. not (same_key x (key_at k n)) && is_a k.classes x (key_at k n))
      (λ m i. ap (λ b. not b && is_a k.classes (key_at k m) (key_at k n)) (same_at m n i im)) ns all

  lowest-keys : (ns : List ℕ) → AreNumbered k ns → map (key_at k) (lowest_numbers k ns) ≡ lowest k.classes (map (key_at k) ns)
  lowest-keys ns all = without-keys (key_at k) (IsNumbered k) (is_above_some k ns) (is_above k.classes (map (key_at k) ns)) (above-keys ns all) ns all

  made_by : (ns : List ℕ) → plan_key k (plan_of ns) ≡ made_of (map (key_at k) ns)
  made_by [] = refl
  made_by (n ∷ []) = refl
  made_by (m ∷ n ∷ ns) = refl

  constraints-keys : (d : Option ℕ) (ms : List ℕ) → map (key_at k) (constraints d ms) ≡ option_list (option_map (key_at k) d) ++ map (key_at k) ms
  constraints-keys None ms = refl
  constraints-keys (Some n) ms = refl

  -- the class that is planned is the metaclass
  pub plan-keys : (d : Option ℕ) (ms : List ℕ) → AreNumbered k (constraints d ms) → plan_key k (plan_of (planned k d ms)) ≡ chosen_key k d ms
  plan-keys d ms all =
      made_by (planned k d ms)
      ∙ ap made_of (lowest-keys (firsts nat_eq (constraints d ms)) (firsts-all (IsNumbered k) (constraints d ms) all)
      ∙ ap (lowest k.classes) (firsts-keys (constraints d ms) all ∙ ap (firsts same_key) (constraints-keys d ms)))
