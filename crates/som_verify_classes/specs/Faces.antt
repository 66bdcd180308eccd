-- What the rules say of faces, variables and overrides.
use Rattle.std.specs.Prelude.{ℕ, ◌++◌, List, take, drop, flat_map, Option}
use Rattle.som_model.specs.Lists.{first, or_else}
use Rattle.som_model.specs.Class.{Class}
use Rattle.som_model.specs.Kernel.{kernel}
use Rattle.som_model.specs.Conforming.{each_after, first_of_names, first_of_members}
pub use Rattle.som_model.specs.Conforming.{faces_breach}
use Rattle.som_model.specs.Rules.{RuleBreach, s2, s3, s4, s5, s8, s9, s10, s14}

-- the first breach of S1 to S10, where the types of the first n classes name no class after them
abbrev pub classes_breach : ℕ → List Class → Option RuleBreach
classes_breach n cs =
    or_else (first_of_names kernel cs)
    (or_else (first (flat_map (s5 (kernel ++ take n cs)) (take n cs) ++ flat_map (s5 (kernel ++ cs)) (drop n cs)))
    (first_of_members kernel cs))

-- the first breach of the rules S1 to S10 and S14, where the first n classes are known by their faces alone
abbrev pub rules_breach : ℕ → List Class → Option RuleBreach
rules_breach n cs = or_else (classes_breach n cs) (first (flat_map s14 (drop n cs)))

-- the first breach of S2 and S3
abbrev pub standing_breach : List Class → Option RuleBreach
standing_breach cs = or_else (first (each_after s2 kernel cs)) (first (flat_map s3 cs))

-- the first breach of S5, where the types of the first n classes name no class after them
abbrev pub types_breach : ℕ → List Class → Option RuleBreach
types_breach n cs = first (flat_map (s5 (kernel ++ take n cs)) (take n cs) ++ flat_map (s5 (kernel ++ cs)) (drop n cs))

-- the first breach of S4 to S10, where the types of the first n classes name no class after them
abbrev pub placed_breach : ℕ → List Class → Option RuleBreach
placed_breach n cs = or_else (first (flat_map (s4 (kernel ++ cs)) cs)) (or_else (types_breach n cs) (first_of_members kernel cs))

-- the first breach of S8 to S10
abbrev pub methods_breach : List Class → Option RuleBreach
methods_breach cs =
    or_else (first (flat_map (s8 (kernel ++ cs)) cs))
    (or_else (first (flat_map (s9 (kernel ++ cs)) cs))
    (first (flat_map (s10 (kernel ++ cs)) cs)))
