-- What is asked of the classes, and what they say.
use Rattle.std.proofs.Common.{◌≡◌, List, Option, Some, None, is_some, refl}
use Rattle.som_model.specs.declared.key.ClassKey.{ClassKey}
use Rattle.som_model.specs.declared.key.MethodRef.{MethodRef}
use Rattle.som_model.specs.declared.key.ValueType.{ValueType}
use Rattle.som_model.specs.declared.key.ValueType.TheVariants as types
use Rattle.som_model.specs.Class.{Class}
use Rattle.som_model.specs.Classes.{class_at, is_a}
use Rattle.som_model.specs.Kernel.{som_class}
use Rattle.som_model.specs.Owner.{owner, sig_of}
use Rattle.som_model.specs.Rules.{is_known}
use Rattle.som_model.specs.Typing.{class_facts, kind_is_known}
use Rattle.std.specs.Prelude.{unwrap_or}

abbrev pub object_of : Option Class → ClassKey
object_of None = som_class
object_of (Some c) = unwrap_or c.decl.face.metaclass som_class

module _ (cs : List Class) where
  pub known_said : (k : ClassKey) → (class_facts cs).is_known k ≡ is_some (class_at cs k)
  unfolding class_facts
  known_said k = refl

  pub descent_said : (k a : ClassKey) → (class_facts cs).is_a k a ≡ is_a cs k a
  unfolding class_facts
  descent_said k a = refl

  pub object_said : (k : ClassKey) → (class_facts cs).class_object k ≡ object_of (class_at cs k)
  unfolding class_facts
  object_said k = refl

  pub owner_said : (r : MethodRef) → (class_facts cs).owner r ≡ owner cs r
  unfolding class_facts
  owner_said r = refl

  pub signature_said : (r : MethodRef) → (class_facts cs).signature r ≡ sig_of cs (owner cs r)
  unfolding class_facts
  signature_said r = refl

  pub kind_said : (t : ValueType) → kind_is_known (class_facts cs) t ≡ is_known cs t
  kind_said types.Void = refl
  kind_said types.Long = refl
  kind_said types.Boolean = refl
  kind_said types.Str = refl
  kind_said (types.Class k) = known_said k
