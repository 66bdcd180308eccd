-- The tokens of a class are those of the methods that it introduces.
use Rattle.std.proofs.Common.{◌≡◌, ℕ, zero, suc, ◌+◌, ◌<◌, List, [], ◌∷◌, map, length, drop, get_or, refl, sym, ap, ◌∙◌, arith}
use Rattle.std.specs.List.{All}
use Rattle.std.proofs.Math.Seq.{drop-cons}
use Rattle.std.proofs.lemmas.List.Elements.{All-cons, All-nil}
use Rattle.som_model.specs.declared.key.ClassKey.{ClassKey}
use Rattle.som_model.specs.declared.key.MethodRef.{MethodRef}
use Rattle.som_meta.specs.Numbering.{Numbering, IsNumbered, IsToken, AreTokens, key_at, names_of, method_at, tokens_from, tokens_of}

drop_past : {X : Type 0} (xs : List X) (i : ℕ) → length xs ≡ i → drop i xs ≡ []
drop_past [] zero e = refl
drop_past [] (suc i) e = refl
drop_past (x ∷ xs) zero e = absurd (omega arith)
drop_past (x ∷ xs) (suc i) e = drop_past xs i (omega arith)

module _ (k : Numbering) (n : ℕ) where
  abbrev named : List ℕ → MethodRef
  named name = record { class = key_at k n; name = name }

  methods_from : (count place : ℕ) → place + count ≡ length (names_of k n) → map (method_at k) (tokens_from n place count) ≡ map named (drop place (names_of k n))
  methods_from zero place e = sym (ap (map named) (drop_past (names_of k n) place (omega (arith, e))))
  methods_from (suc count) place e =
      let lt : place < length (names_of k n) = omega (arith, e) in
      ap (λ ms. named (get_or (names_of k n) place []) ∷ ms) (methods_from count (suc place) (omega (arith, e)))
      ∙ ap (map named) (sym (drop-cons (names_of k n) place [] lt))

  -- the methods of a class's tokens are those that it introduces, in order
  pub methods_are : map (method_at k) (tokens_of k n) ≡ map (λ name. record { class = key_at k n; name = name }) (names_of k n)
  methods_are = methods_from (length (names_of k n)) 0 (omega arith)

  tokens_within : IsNumbered k n → (count place : ℕ) → place + count ≡ length (names_of k n) → AreTokens k (tokens_from n place count)
  tokens_within im zero place e = All-nil (IsToken k)
  tokens_within im (suc count) place e = All-cons (IsToken k) (n, place) (tokens_from n (suc place) count) (im, omega (arith, e)) (tokens_within im count (suc place) (omega (arith, e)))

  pub tokens_are : IsNumbered k n → AreTokens k (tokens_of k n)
  tokens_are im = tokens_within im (length (names_of k n)) 0 (omega arith)
