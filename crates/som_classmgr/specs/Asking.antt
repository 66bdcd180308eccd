-- What a linked kernel says to a program that runs.
use Rattle.std.specs.Prelude.{ℕ, zero, suc, nat_lt, Bool, true, false, ◌&&◌, if◌then◌else◌, List, [], ◌∷◌, length, Option, Some, None}
use Rattle.som_model.specs.declared.key.ClassKey.{ClassKey}
use Rattle.som_model.specs.declared.key.MethodRef.{MethodRef}
use Rattle.som_model.specs.declared.key.ValueType.{ValueType}
use Rattle.som_model.specs.declared.key.ValueType.TheVariants as types
use Rattle.som_model.specs.declared.class.Variable.{Variable}
use Rattle.som_model.specs.Keys.{same_key}
use Rattle.som_model.specs.Resolution.{byname}
use Rattle.som_model.specs.Class.{Class}
use Rattle.som_model.specs.Classes.{hierarchy, is_a, parents_of, variable_type, version_of}
use Rattle.som_model.specs.Owner.{introduces, owner, sig_of}
use Rattle.som_model.specs.Implementation.{held, implementation}
use Rattle.som_model.specs.Metaclass.{hooks, meta}
use Rattle.som_semantics.specs.World.{World, named_class}
use Rattle.som_meta.specs.Numbering.{Numbering, key_at, method_at, names_of}
use Rattle.som_class_variables.specs.Variables.{object_variables, own_variables, place_in}
use Rattle.som_interp_state.specs.Settings.{Linked}
use Rattle.som_values.specs.Variables.{Places}
use Rattle.som_interp_state.specs.Asked.{target_after}

abbrev reference : List ℕ → Option ClassKey → Option MethodRef
reference name None = None
reference name (Some k) = Some (record { class = k; name = name })

-- what these classes answer, written out
abbrev pub answers_of : List Class → World
answers_of cs = record {
  parents = parents_of cs;
  is_a = is_a cs;
  meta = meta cs;
  hooks = hooks cs;
  owner = owner cs;
  sig = sig_of cs;
  byname = λ k name. reference name (byname (hierarchy cs) (introduces cs name) k);
  impl = implementation cs;
  held = held cs;
  variable = variable_type cs;
  version = version_of cs;
  named = named_class cs;
}

-- the type of the variable at a place
abbrev pub kind_at : List Variable → ℕ → ValueType
kind_at [] n = types.Void
kind_at (v ∷ vs) zero = v.kind
kind_at (v ∷ vs) (suc n) = kind_at vs n

-- where variable i of a class stands in the objects of another, where that one descends from it
abbrev pub places_of : List Class → ClassKey → Places
places_of cs x a i = if is_a cs x a && nat_lt i (length (own_variables cs a)) then Some (place_in cs x a i) else None

-- whether a class and a place are the token of a method
abbrev pub is_token : Numbering → ℕ × ℕ → Bool
is_token k t = nat_lt t.0 (length k.keys) && nat_lt t.1 (length (names_of k t.0))

-- the numbers and the methods of these classes, and where variables stand: a proxy's target after all variables, and the variables of a class object as in the objects of the metaclass
abbrev pub linked_of : Numbering → Linked
linked_of k = record {
  world = answers_of k.classes;
  keys = k.keys;
  is_token = is_token k;
  method = method_at k;
  variables = λ n. places_of k.classes (key_at k n);
  target = λ n. target_after (key_at k n) (length (object_variables k.classes (key_at k n)));
  statics = λ n. places_of k.classes (meta k.classes (key_at k n));
}

-- whether the class of a key is made: its number is marked
abbrev pub is_made : List ClassKey → List Bool → ClassKey → Bool
is_made [] ms x = false
is_made (k ∷ ks) [] x = false
is_made (k ∷ ks) (m ∷ ms) x = if m && same_key k x then true else is_made ks ms x
