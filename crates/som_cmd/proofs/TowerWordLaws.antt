-- How many words stand before the first that passes a test; what is asked of towers has its form.
use Rattle.std.proofs.Common.{◌≡◌, ℕ, suc, ◌+◌, ◌<◌, ◌≤◌, Bool, true, false, if◌then◌else◌, List, ◌∷◌, length, drop, get_or, refl, sym, ap, ◌∙◌, arith}
use Rattle.std.proofs.lemmas.List.{drop_more, drop_all}
use Rattle.som_cmd.specs.Words.{count_before}

-- all words before a place fail the test
pub record BeforeSoFar (test : List ℕ → Bool) (words : List (List ℕ)) (i count : ℕ) : Type 0 where
  pub counted : count + count_before test (drop i words) ≡ count_before test words
  pub at : count ≡ i

module _ (test : List ℕ → Bool) (words : List (List ℕ)) where
  pub none_before : BeforeSoFar test words 0 0
  none_before = record { counted = omega arith; at = refl }

  module _ (i count : ℕ) (w : List ℕ) (lt : i < length words) (at : w ≡ get_or words i w) where
    from_here : (b : Bool) → test w ≡ b → count_before test (drop i words) ≡ (if b then 0 else suc (count_before test (drop (i + 1) words)))
    from_here b is =
        ap (count_before test) (drop_more words i w lt) ∙ ap (λ (x : List ℕ). count_before test (x ∷ drop (i + 1) words)) (sym at)
        ∙ ap (λ (x : Bool). if x then 0 else suc (count_before test (drop (i + 1) words))) is

    pub one_before : test w ≡ false → BeforeSoFar test words i count → BeforeSoFar test words (i + 1) (count + 1)
    one_before is so =
        let e = from_here false is in
        let c = so.counted in
        let f = so.at in
        record { counted = omega (arith, e, c); at = omega (arith, f) }

    pub found : test w ≡ true → BeforeSoFar test words i count → (count ≡ count_before test words) × (count ≤ length words)
    found is so =
        let e = from_here true is in
        let c = so.counted in
        let f = so.at in
        (omega (arith, e, c), omega (arith, f, lt))

  pub all_before : (i count : ℕ) → length words ≤ i → i ≤ length words → BeforeSoFar test words i count → (count ≡ count_before test words) × (count ≤ length words)
  all_before i count over under so =
      let e : count_before test (drop i words) ≡ 0 = ap (count_before test) (drop_all i words over) in
      let c = so.counted in
      let f = so.at in
      (omega (arith, e, c), omega (arith, f, under))
