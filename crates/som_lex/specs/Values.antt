-- What numbers and text literals mean.
use Rattle.std.specs.Prelude.{ℕ, ◌+◌, ◌-◌, ◌*◌, Bool, true, false, if◌then◌else◌, ◌==◌, List, [], ◌∷◌, fold}
use Rattle.som_lex.specs.Alphabet.{quote, backslash, zero_digit, escaped}

-- the value of digits
abbrev pub number_of : List ℕ → ℕ
number_of digits = fold (λ n d. 10 * n + (d - zero_digit)) 0 digits

-- what stands up to the closing quote, after its escapes. `after` says that a backslash stands before the first byte
unfoldable pub inside_of : Bool → List ℕ → List ℕ
inside_of after [] = []
inside_of true (b ∷ bs) = escaped b ∷ inside_of false bs
inside_of false (b ∷ bs) =
    if b == quote then [] else (
    if b == backslash then inside_of true bs else b ∷ inside_of false bs)

-- the text of a literal, which begins with a quote
abbrev pub text_of : List ℕ → List ℕ
text_of [] = []
text_of (_ ∷ bs) = inside_of false bs
