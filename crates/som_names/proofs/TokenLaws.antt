-- The search for a name's token, a place further.
use Rattle.std.proofs.Common.{◌≡◌, ℕ, zero, suc, ◌<◌, Bool, true, false, if◌then◌else◌, List, [], ◌∷◌, length, drop, get_or, Option, Some, None, slice_get, refl, sym, ap, ◌∙◌, arith}
use Rattle.std.specs.Str.{bytes_eq}
use Rattle.som_names.specs.Index.{token_in}

no_token : (ns : List (List ℕ)) (name : List ℕ) → token_in ns [] name ≡ None
no_token [] name = refl
no_token (n ∷ ns) name = refl

none_either : {A : Type 0} (b : Bool) (o : Option A) → o ≡ None → None ≡ (if b then None else o)
none_either true o e = refl
none_either false o e = sym e

-- a name that isn't the one sought is passed over
pub token_step : (names : List (List ℕ)) (tokens : List (ℕ × ℕ)) (name n : List ℕ) (i : ℕ) → i < length names → n ≡ get_or names i n
    → token_in (drop i names) (drop i tokens) name ≡ (if bytes_eq n name then slice_get tokens i else token_in (drop (suc i) names) (drop (suc i) tokens) name)
token_step [] tokens name n i lt is = absurd (omega arith)
token_step (x ∷ xs) [] name n zero lt is = none_either (bytes_eq n name) (token_in xs [] name) (no_token xs name)
token_step (x ∷ xs) [] name n (suc i) lt is = no_token (drop i xs) name ∙ none_either (bytes_eq n name) (token_in (drop (suc i) xs) [] name) (no_token (drop (suc i) xs) name)
token_step (x ∷ xs) (t ∷ ts) name n zero lt is = ap (λ y. if bytes_eq y name then Some t else token_in xs ts name) (sym is)
token_step (x ∷ xs) (t ∷ ts) name n (suc i) lt is = token_step xs ts name n i (omega arith) is
