-- Tests that hold of each of a list.
use Rattle.std.specs.Prelude.{Bool, List}
use Rattle.std.specs.List.{list_all}

-- all of these
abbrev pub all_found : List Bool → Bool
all_found known = list_all (λ one. one) known
