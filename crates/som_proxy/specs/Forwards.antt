-- The methods that a proxy forwards, class by class.
use Rattle.std.specs.Prelude.{List, [], map, if◌then◌else◌}
use Rattle.som_model.specs.declared.key.ClassKey.{ClassKey}
use Rattle.som_model.specs.declared.key.MethodRef.{MethodRef}
use Rattle.som_model.specs.Class.{Class}
use Rattle.som_model.specs.Owner.{introduced_by}
use Rattle.som_model.specs.Implementation.{is_kernel}

-- what a proxy of a class forwards of one ancestor: the methods that it introduces, unless it is the kernel's
abbrev pub forwards_of : List Class → ClassKey → List MethodRef
forwards_of cs k = if is_kernel k then [] else map (λ name. record { class = k; name = name }) (introduced_by cs k)
