-- The choice of a metaclass over class numbers.
use Rattle.std.specs.Prelude.{◌==◌, ℕ, Bool, not, ◌&&◌, nat_eq, List, [], ◌∷◌, ◌++◌, map, Option}
use Rattle.std.specs.Option.{option_map}
use Rattle.som_model.specs.declared.key.ClassKey.{ClassKey}
use Rattle.som_model.specs.declared.key.ClassKey.TheVariants as keys
use Rattle.som_model.specs.Lists.{firsts, without, some, option_list}
use Rattle.som_model.specs.Keys.{same_key}
use Rattle.som_model.specs.Classes.{is_a}
use Rattle.som_model.specs.Metaclass.{lowest, made_of}
use Rattle.som_meta.specs.declared.plan.MetaPlan.{MetaPlan}
use Rattle.som_meta.specs.declared.plan.MetaPlan.TheVariants as plans
use Rattle.som_meta.specs.Numbering.{Numbering, key_at}

-- what a metaclass has to descend from: the declared one, if any, and then those of the parents
abbrev pub constraints : Option ℕ → List ℕ → List ℕ
constraints declared metas = option_list declared ++ metas

-- whether a class is a proper ancestor of one of the list
abbrev pub is_above_some : Numbering → List ℕ → ℕ → Bool
is_above_some k ns n = some (λ m. not (m == n) && is_a k.classes (key_at k m) (key_at k n)) ns

-- those that are proper ancestors of no other
abbrev pub lowest_numbers : Numbering → List ℕ → List ℕ
lowest_numbers k ns = without (is_above_some k ns) ns

-- each constraint once, without the proper ancestors of others
abbrev pub planned : Numbering → Option ℕ → List ℕ → List ℕ
planned k declared metas = lowest_numbers k (firsts nat_eq (constraints declared metas))

-- one class is there already, several are to be derived from
abbrev pub plan_of : List ℕ → MetaPlan
plan_of (n ∷ []) = plans.Existing n
plan_of ns = plans.Derive ns

-- the class that a plan stands for
abbrev pub plan_key : Numbering → MetaPlan → ClassKey
plan_key k (plans.Existing n) = key_at k n
plan_key k (plans.Derive ns) = keys.Derived (map (key_at k) ns)

-- the metaclass of a class with these: the lowest of the declared metaclass and the parents' metaclasses, each once, or what is made of them
abbrev pub chosen_key : Numbering → Option ℕ → List ℕ → ClassKey
chosen_key k declared metas = made_of (lowest k.classes (firsts same_key (option_list (option_map (key_at k) declared) ++ map (key_at k) metas)))
