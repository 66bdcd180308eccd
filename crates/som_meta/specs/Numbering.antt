-- Classes by their numbers, as those see them who choose metaclasses, hooks and forwards.
use Rattle.std.specs.Prelude.{◌≡◌, ℕ, zero, suc, ◌+◌, ◌<◌, List, [], ◌∷◌, ◌++◌, length, map, get_or}
use Rattle.std.specs.List.{All}
use Rattle.som_model.specs.declared.key.ClassKey.{ClassKey}
use Rattle.som_model.specs.declared.key.MethodRef.{MethodRef}
use Rattle.som_model.specs.Class.{Class}
use Rattle.som_model.specs.Kernel.{som_object}
use Rattle.som_model.specs.Owner.{introduced_by}

-- the classes of a hierarchy, and the key that each number stands for, made classes among them
pub record Numbering : Type 0 where
  pub classes : List Class
  pub keys : List ClassKey

-- a class has the number
abbrev pub IsNumbered : Numbering → ℕ → Type 0
IsNumbered k n = n < length k.keys

-- a class has each of these numbers
abbrev pub AreNumbered : Numbering → List ℕ → Type 0
AreNumbered k ns = All (IsNumbered k) ns

-- the key that a number stands for
abbrev pub key_at : Numbering → ℕ → ClassKey
key_at k n = get_or k.keys n som_object

-- no two numbers stand for one class
abbrev pub AreApart : Numbering → Type 0
AreApart k = (m n : ℕ) → IsNumbered k m → IsNumbered k n → key_at k m ≡ key_at k n → m ≡ n

-- the names that a class introduces, in the order of its entries
abbrev pub names_of : Numbering → ℕ → List (List ℕ)
names_of k n = introduced_by k.classes (key_at k n)

-- the token, which is a class and a place, is that of a name that the class introduces
abbrev pub IsToken : Numbering → ℕ × ℕ → Type 0
IsToken k t = IsNumbered k t.0 × (t.1 < length (names_of k t.0))

-- the method of a token: the name that its class introduces at its place
abbrev pub method_at : Numbering → ℕ × ℕ → MethodRef
method_at k t = record { class = key_at k t.0; name = get_or (names_of k t.0) t.1 [] }

-- the tokens of a class from a place on, for so many names
abbrev pub tokens_from : ℕ → ℕ → ℕ → List (ℕ × ℕ)
tokens_from n place zero = []
tokens_from n place (suc count) = (n, place) ∷ tokens_from n (suc place) count

-- the tokens of what a class introduces, in the order of its entries
abbrev pub tokens_of : Numbering → ℕ → List (ℕ × ℕ)
tokens_of k n = tokens_from n 0 (length (names_of k n))

-- each is the token of a name that its class introduces
abbrev pub AreTokens : Numbering → List (ℕ × ℕ) → Type 0
AreTokens k ts = All (IsToken k) ts
