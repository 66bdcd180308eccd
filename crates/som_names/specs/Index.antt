-- An index of names: what was added for each class, and what a name means.
use Rattle.std.specs.Prelude.{◌≡◌, ◌≢◌, ℕ, suc, nat_eq, Bool, if◌then◌else◌, List, [], ◌∷◌, Option, Some, None, is_some, option_and_then}
use Rattle.std.specs.Option.{option_map_or}
use Rattle.std.specs.Map.{lookup}
use Rattle.std.specs.Str.{bytes_eq}
use Rattle.som_model.specs.Lists.{first_some}
use Rattle.som_names.specs.declared.named.Named.{Named}

-- what was added for a class: its ancestors with itself first, the names that it introduces, and their tokens
abbrev pub named_at : List (ℕ × Named) → ℕ → Option Named
named_at index c = lookup (nat_eq c) index

-- what was added for each class but c is as before
abbrev pub KeepsOthers : List (ℕ × Named) → List (ℕ × Named) → ℕ → Type 0
KeepsOthers old new c = (d : ℕ) → d ≢ c → named_at new d ≡ named_at old d

-- the ancestors of a class, with itself first; none where it wasn't added
abbrev pub ancestors_at : List (ℕ × Named) → ℕ → List ℕ
ancestors_at index c = option_map_or (λ (e : Named). e.ancestors) (named_at index c) []

-- the token at the place of the name in a list
abbrev pub token_in : List (List ℕ) → List (ℕ × ℕ) → List ℕ → Option (ℕ × ℕ)
token_in [] ts name = None
token_in (n ∷ ns) [] name = None
token_in (n ∷ ns) (t ∷ ts) name = if bytes_eq n name then Some t else token_in ns ts name

-- the token of a name where the class introduces it
abbrev pub own_token : List (ℕ × Named) → List ℕ → ℕ → Option (ℕ × ℕ)
own_token index name a = option_and_then (λ (e : Named). token_in e.names e.tokens name) (named_at index a)

-- the token of a name in a class: that of its first ancestor that introduces it
abbrev pub found : List (ℕ × Named) → ℕ → List ℕ → Option (ℕ × ℕ)
found index c name = first_some (own_token index name) (ancestors_at index c)

-- how many of these classes are asked for a name: those up to the first that introduces it
abbrev pub asked : List (ℕ × Named) → List ℕ → List ℕ → ℕ
asked index name [] = 0
asked index name (a ∷ as') = if is_some (own_token index name a) then 1 else suc (asked index name as')
