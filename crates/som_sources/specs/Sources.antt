-- What stands in texts by their names, and how many bytes they have.
use Rattle.std.specs.Prelude.{ℕ, zero, suc, ◌+◌, nat_eq, Bool, if◌then◌else◌, List, [], ◌∷◌, map, length, codes}
use Rattle.std.specs.List.{ends_with}
use Rattle.som_sources.specs.declared.kind.SourceKind.{SourceKind}
use Rattle.som_sources.specs.declared.kind.SourceKind.TheVariants as kinds
use Rattle.som_sources.specs.declared.source.Source.{Source}

-- the name of a main
abbrev pub is_main : List ℕ → Bool
is_main name = ends_with nat_eq name (codes ".main")

-- the name of a text of bodies
abbrev pub is_bodies : List ℕ → Bool
is_bodies name = ends_with nat_eq name (codes ".bod")

-- what stands in a text, by its name
abbrev pub kind_of : List ℕ → SourceKind
kind_of name = if is_main name then kinds.Main else (if is_bodies name then kinds.Bodies else kinds.Interfaces)

abbrev pub names_of : List Source → List (List ℕ)
names_of ss = map (λ (s : Source). s.name) ss

-- how many of these names are those of mains
abbrev pub mains_in : List (List ℕ) → ℕ
mains_in [] = zero
mains_in (n ∷ ns) = if is_main n then suc (mains_in ns) else mains_in ns

-- the bytes of all texts together
abbrev pub bytes_in : List Source → ℕ
bytes_in [] = zero
bytes_in (s ∷ ss) = length s.bytes + bytes_in ss
