-- Where in a body nothing that a name could stand for stands twice.
use Rattle.std.specs.Prelude.{◌≡◌, Some}
use Rattle.som_model.specs.declared.key.ClassKey.{ClassKey}
use Rattle.som_model.specs.declared.class.Variable.{Variable}
use Rattle.som_model.specs.Class.{Class}
use Rattle.som_model.specs.Typing.{CodePlace}
use Rattle.som_verify_classes.specs.Plainly.{Differ}
use Rattle.som_elab_body.specs.Locals.{Named, Names}

-- no two names in scope are the same, and of the body's class no two variables have one name, and no two parents are one class
pub record NothingTwice (at : CodePlace) (scope : Names) : Type 0 where
  pub locals : Differ (λ (n : Named). n.name) scope
  pub variables : (c : Class) → at.class ≡ Some c → Differ (λ (v : Variable). v.name) c.decl.variables
  pub parents : (c : Class) → at.class ≡ Some c → Differ (λ (k : ClassKey). k) c.decl.face.parents
