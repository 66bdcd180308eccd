-- The token at the place of a name among those that a class introduces.
use Rattle.std.proofs.Common.{◌≡◌, ℕ, suc, ◌+◌, ◌≤◌, ◌<◌, ◌-◌, Bool, true, false, if◌then◌else◌, List, [], ◌∷◌, length, get_or, Some, is_some, refl, ap, ◌∙◌, arith}
use Rattle.std.specs.Str.{bytes_eq}
use Rattle.som_model.proofs.KeyLaws.{exact_bytes}
use Rattle.som_meta.specs.Numbering.{tokens_from}
use Rattle.som_names.specs.Index.{token_in}
use Rattle.som_class_loaded.proofs.Entries.{among}

-- there is one exactly where the name is among them
pub token_some : (name : List ℕ) (n i : ℕ) (ns : List (List ℕ)) → is_some (token_in ns (tokens_from n i (length ns)) name) ≡ among name ns
token_some name n i [] = refl
token_some name n i (x ∷ ns) = by (bytes_eq x name) (token_some name n (suc i) ns)
  where
    by : (b : Bool) → is_some (token_in ns (tokens_from n (suc i) (length ns)) name) ≡ among name ns
        → is_some (if b then Some (n, i) else token_in ns (tokens_from n (suc i) (length ns)) name) ≡ (if b then true else among name ns)
    by true h = refl
    by false h = h

-- it is of that class, and the name stands at its place
pub token_is : (name : List ℕ) (n i : ℕ) (ns : List (List ℕ)) (t : ℕ × ℕ) → token_in ns (tokens_from n i (length ns)) name ≡ Some t → (t.0 ≡ n) × (i ≤ t.1) × (t.1 < i + length ns) × (get_or ns (t.1 - i) [] ≡ name)
token_is name n i [] t e = absurd (cc)
token_is name n i (x ∷ ns) t e = by (bytes_eq x name) refl (λ f. token_is name n (suc i) ns t f) e
  where
    by : (b : Bool) → bytes_eq x name ≡ b
        → (token_in ns (tokens_from n (suc i) (length ns)) name ≡ Some t → (t.0 ≡ n) × (suc i ≤ t.1) × (t.1 < suc i + length ns) × (get_or ns (t.1 - suc i) [] ≡ name))
        → (if b then Some (n, i) else token_in ns (tokens_from n (suc i) (length ns)) name) ≡ Some t
        → (t.0 ≡ n) × (i ≤ t.1) × (t.1 < i + suc (length ns)) × (get_or (x ∷ ns) (t.1 - i) [] ≡ name)
    by true is later f =
        let here : t ≡ (n, i) = cc in
        let first : t.0 ≡ n = ap (λ (z : ℕ × ℕ). z.0) here in
        let second : t.1 ≡ i = ap (λ (z : ℕ × ℕ). z.1) here in
        let none : t.1 - i ≡ 0 = omega (arith, second) in
        (first, omega (arith, second), omega (arith, second), ap (λ (z : ℕ). get_or (x ∷ ns) z []) none ∙ exact_bytes.two x name is)
    by false is later f =
        let h = later f in
        let above = h.1 in
        let below = h.2 in
        let later : t.1 - i ≡ suc (t.1 - suc i) = omega (arith, above) in
        (h.0, omega (arith, above), omega (arith, below), ap (λ (z : ℕ). get_or (x ∷ ns) z []) later ∙ h.3)
