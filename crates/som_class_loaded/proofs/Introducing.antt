-- The names that a class introduces.
use Rattle.std.proofs.Common.{◌≡◌, ℕ, zero, suc, ◌≤◌, [], length, refl, ap}
use Rattle.som_model.specs.Owner.{introduced_in}
use Rattle.som_meta.specs.Numbering.{IsNumbered, Numbering, names_of, tokens_from, tokens_of}
use Rattle.som_class_table.specs.Loaded.{AreLoaded}
use Rattle.som_class_table.proofs.Bodies.{made_unknown}

pub made_names : (k : Numbering) (l : AreLoaded k) (n : ℕ) → IsNumbered k n → length k.classes ≤ n → names_of k n ≡ []
made_names k l n lt le = ap introduced_in (made_unknown k l n lt le)

tokens_long : (n p count : ℕ) → length (tokens_from n p count) ≡ count
tokens_long n p zero = refl
tokens_long n p (suc count) = ap suc (tokens_long n (suc p) count)

pub as_many : (k : Numbering) (n : ℕ) → length (tokens_of k n) ≡ length (names_of k n)
as_many k n = tokens_long n 0 (length (names_of k n))
