-- What look-ups answer: numbers of bodies.
use Rattle.std.specs.Prelude.{◌≡◌, ℕ, Option, Some, slice_get}
use Rattle.std.specs.Option.{option_map}
use Rattle.som_model.specs.declared.key.ClassKey.{ClassKey}
use Rattle.som_model.specs.Implementation.{implementation}
use Rattle.som_meta.specs.Numbering.{key_at, method_at}
use Rattle.som_class_bodies.specs.declared.body.BodyAt.{BodyAt}
use Rattle.som_class_kernel.specs.Linked.{IsMadeIn, Linkage}

-- the class that has the body of a number, and the method for which it has it
abbrev pub body_at : Linkage → ℕ → Option (ℕ × (ℕ × ℕ))
body_at l b = option_map (λ (x : BodyAt). (x.class, x.method)) (slice_get l.parts.bodies.bodies b)

-- the body of this number is the one that a class of this key has for a method, its own or an inherited one; the class whose own it is, is made
pub record IsAnswer (l : Linkage) (x : ClassKey) (t : ℕ × ℕ) (b : ℕ) : Type 0 where
  pub class : ℕ
  pub made : IsMadeIn l class
  pub body : body_at l b ≡ Some (class, t)
  pub answers : implementation l.classes.classes x (method_at l.classes t) ≡ Some (key_at l.classes class)
