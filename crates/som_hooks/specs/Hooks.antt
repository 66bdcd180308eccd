-- Which ancestors of a metaclass are hooks.
use Rattle.std.specs.Prelude.{Bool, not, ◌&&◌, ◌||◌, List}
use Rattle.som_model.specs.declared.key.ClassKey.{ClassKey}
use Rattle.som_model.specs.Keys.{same_key}
use Rattle.som_model.specs.Class.{Class}
use Rattle.som_model.specs.Kernel.{before_after, before_method, after_method}
use Rattle.som_model.specs.Implementation.{has_body}

-- a class other than SOMMBeforeAfter that has a before or an after body of its own
abbrev pub is_hook : List Class → ClassKey → Bool
is_hook cs k = not (same_key k before_after) && (has_body cs before_method k || has_body cs after_method k)
