-- Languages, as relations of texts to the values that they have, and the two repetitions of grammars.
use Rattle.std.specs.Prelude.{List, [], ◌∷◌, ◌++◌, Option, Some, None}
use Rattle.som_parse.specs.declared.token.Sign.TheVariants as sign
use Rattle.som_parse.specs.declared.token.Token.{Token}
use Rattle.som_parse.specs.declared.token.Token.TheVariants as token

abbrev pub Lang : Type 0 → Type 1
Lang A = List Token → A → Type 0

-- a { "," a }
pub data Listed {A : Type 0} (L : Lang A) : List Token → List A → Type 0 where
  the_first : {u : List Token} {a : A} → L u a → Listed L u (a ∷ [])
  the_next : {u v : List Token} {as' : List A} {a : A} → Listed L u as' → L v a → Listed L (u ++ token.Mark sign.Comma ∷ v) (as' ++ a ∷ [])

-- { a }, where each a is kept or left out
pub data Repeated {A : Type 0} (L : Lang (Option A)) : List Token → List A → Type 0 where
  nothing_yet : Repeated L [] []
  one_kept : {u v : List Token} {as' : List A} {a : A} → Repeated L u as' → L v (Some a) → Repeated L (u ++ v) (as' ++ a ∷ [])
  one_left_out : {u v : List Token} {as' : List A} → Repeated L u as' → L v None → Repeated L (u ++ v) as'

-- each is kept
pub data Kept {A : Type 0} (L : Lang A) : List Token → Option A → Type 0 where
  it_is_kept : {u : List Token} {a : A} → L u a → Kept L u (Some a)
