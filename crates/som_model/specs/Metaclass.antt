-- The metaclass of a class, and the hooks of a metaclass.
use Rattle.std.specs.Prelude.{ℕ, zero, suc, Bool, not, ◌&&◌, ◌||◌, if◌then◌else◌, nat_lt, List, [], ◌∷◌, ◌++◌, map, filter, Option, Some, None}
use Rattle.som_model.specs.declared.key.ClassKey.{ClassKey, fold-ClassKey}
use Rattle.som_model.specs.declared.key.ClassKey.TheVariants as keys
use Rattle.som_model.specs.declared.key.ClassKey.TheOpen.{ClassKey-F}
use Rattle.som_model.specs.Lists.{firsts, without, some, option_list}
use Rattle.som_model.specs.Keys.{same_key}
use Rattle.som_model.specs.Class.{Class}
use Rattle.som_model.specs.Kernel.{som_class, before_after, before_method, after_method}
use Rattle.som_model.specs.Classes.{class_at, parents_of, place_of, greatest, hierarchy, ancestors, is_a}
use Rattle.som_model.specs.Implementation.{has_body}

-- the rank of a declared class is its place, and that of a made one the greatest of what it is made of
abbrev pub rank_step : List Class → ClassKey-F ℕ → ℕ
rank_step cs (ClassKey-F.Named m name) = place_of 0 cs (keys.Named m name)
rank_step cs (ClassKey-F.Derived rs) = greatest rs
rank_step cs (ClassKey-F.Proxy r) = r

abbrev pub rank : List Class → ClassKey → ℕ
rank cs k = fold-ClassKey ℕ (rank_step cs) k

-- the four classes of the kernel, and what is made of them alone
abbrev pub is_low : List Class → ClassKey → Bool
is_low cs k = nat_lt (rank cs k) 4

-- whether a class is a proper ancestor of one of the list
abbrev pub is_above : List Class → List ClassKey → ClassKey → Bool
is_above cs ks k = some (λ x. not (same_key x k) && is_a cs x k) ks

-- those that are proper ancestors of no other
abbrev pub lowest : List Class → List ClassKey → List ClassKey
lowest cs ks = without (is_above cs ks) ks

abbrev declared_metaclass : Option Class → List ClassKey
declared_metaclass None = []
declared_metaclass (Some c) = option_list c.decl.face.metaclass

-- one class is itself, and several make the class Derived of them
abbrev pub made_of : List ClassKey → ClassKey
made_of (k ∷ []) = k
made_of ks = keys.Derived ks

-- the lowest of the declared metaclass and the parents' metaclasses, each once, in this order, or what is made of them
abbrev pub meta_within : List Class → ℕ → ClassKey → ClassKey
meta_within cs zero k = som_class
meta_within cs (suc n) k =
    if is_low cs k then som_class
    else made_of (lowest cs (firsts same_key (declared_metaclass (class_at cs k) ++ map (meta_within cs n) (parents_of cs k))))

-- the metaclass of a class; as many levels as it is high are all levels
abbrev pub meta : List Class → ClassKey → ClassKey
meta cs k = meta_within cs ((hierarchy cs).height k) k

-- the ancestors of a metaclass below SOMMBeforeAfter that have a before or an after body of their own
abbrev pub hooks : List Class → ClassKey → List ClassKey
hooks cs m = if is_a cs m before_after
    then filter (λ k. not (same_key k before_after) && (has_body cs before_method k || has_body cs after_method k)) (ancestors cs m)
    else []
