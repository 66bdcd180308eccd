-- Where tokens stand.
use Rattle.std.specs.Prelude.{ℕ, ◌-◌, ◌<◌, ◌≤◌, ⊤, List, [], ◌∷◌, length, take, drop, slice_get}
use Rattle.std.specs.Option.{option_map_or}
use Rattle.som_lex.specs.declared.token.LexToken.{LexToken}
use Rattle.som_lex.specs.declared.token.Tokens.{Tokens}
use Rattle.som_lex.specs.Cut.{IsCut}
use Rattle.som_lex.specs.Spelling.{Spells, FitsLimit}

-- the bytes of a token
abbrev pub bytes_of : List ℕ → LexToken → List ℕ
bytes_of source t = take (t.end - t.start) (drop t.start source)

-- from `low` on and up to `high` the tokens stand in order, and none is empty
abbrev pub AreInOrder : ℕ → ℕ → List LexToken → Type 0
AreInOrder low high [] = ⊤
AreInOrder low high (t ∷ ts) = (low ≤ t.start) × (t.start < t.end) × (t.end ≤ high) × AreInOrder t.end high ts

-- the bytes of a token spell one of its kind, within its limit
pub record IsSpelled (source : List ℕ) (t : LexToken) : Type 0 where
  pub spelled : Spells t.kind (bytes_of source t)
  pub fits : FitsLimit t.kind (bytes_of source t)

-- these are the tokens of their source
abbrev pub AreTokens : Tokens → Type 0
AreTokens t = IsCut t.source 0 t.list

-- where the token at a place of the list begins; behind the last one, the length of the source
abbrev pub offset_of : Tokens → ℕ → ℕ
offset_of t place = option_map_or (λ (token : LexToken). token.start) (slice_get t.list place) (length t.source)
