-- The bodies that classes have, by numbers, and the rows of them.
use Rattle.std.specs.Prelude.{◌≡◌, ℕ, List, [], length, Option, Some, None, slice_get}
use Rattle.std.specs.Option.{option_map}
use Rattle.som_model.specs.declared.key.ClassKey.{ClassKey}
use Rattle.som_model.specs.declared.class.Body.{Body}
use Rattle.som_model.specs.declared.class.Body.TheVariants as bodies
use Rattle.som_model.specs.declared.class.Override.{Override}
use Rattle.som_model.specs.Lists.{Mem}
use Rattle.som_model.specs.Ancestors.{Descends}
use Rattle.som_model.specs.Class.{Class}
use Rattle.som_model.specs.Classes.{class_at, hierarchy}
use Rattle.som_model.specs.Implementation.{Held, User, Get, Set, OfKernel, Forward, Nothing, held, implementation}
use Rattle.som_tables.specs.Rows.{Added, HasRow, HasToken}
use Rattle.som_meta.specs.Numbering.{IsNumbered, IsToken, Numbering, key_at, method_at}
use Rattle.som_class_layout_laws.specs.Laying.{Bodies, IsLaid}
use Rattle.som_class_layout_laws.specs.Schemes.{scheme_of}
use Rattle.som_class_bodies.specs.declared.body.Source.{Source}
use Rattle.som_class_bodies.specs.declared.body.Source.TheVariants as sources
use Rattle.som_class_bodies.specs.declared.body.BodyAt.{BodyAt}

-- the bodies of what a class introduces, and its overrides
abbrev bodies_in : Option Class → List Body
bodies_in None = []
bodies_in (Some c) = c.decl.bodies

abbrev overrides_in : Option Class → List Override
overrides_in None = []
overrides_in (Some c) = c.decl.overrides

-- a declared body, as the definitions have it
abbrev pub held_body : Body → Held
held_body (bodies.User block) = User block
held_body (bodies.Get n) = Get n
held_body (bodies.Set n) = Set n

-- the body that a source names: one of those of a class's declaration by its place, the kernel's of this name, a proxy's forward, or one that does nothing
abbrev pub source_body : Option Class → List ℕ → Source → Option Held
source_body c name (sources.Introduced i) = option_map held_body (slice_get (bodies_in c) i)
source_body c name (sources.Overriding i) = option_map (λ (o : Override). User o.block) (slice_get (overrides_in c) i)
source_body c name sources.Kernel = Some (OfKernel name)
source_body c name sources.Forward = Some Forward
source_body c name sources.Nothing = Some Nothing

-- the source of a body names the body that its class has for its method
pub record IsSourced (k : Numbering) (x : BodyAt) : Type 0 where
  pub class : IsNumbered k x.class
  pub method : IsToken k x.method
  pub held_is : Held
  pub has : held k.classes (key_at k x.class) (method_at k x.method) ≡ Some held_is
  pub named : source_body (class_at k.classes (key_at k x.class)) (method_at k x.method).name x.source ≡ Some held_is

-- so it is of each of these
abbrev pub AreSourced : Numbering → List BodyAt → Type 0
AreSourced k all = (b : ℕ) (x : BodyAt) → slice_get all b ≡ Some x → IsSourced k x

-- what each row is made of, and the bodies whose numbers are the cells
pub record MethodRows : Type 0 where
  pub rows : List (Option (Added ℕ))
  pub bodies : List BodyAt

abbrev pub rows_with : List (Option (Added ℕ)) → List BodyAt → MethodRows
rows_with rows all = record { rows = rows; bodies = all }

-- the body of a number is that of a class for a token
abbrev pub body_of : Numbering → List BodyAt → Bodies ClassKey
body_of k all b = option_map (λ (x : BodyAt). (key_at k x.class, x.method)) (slice_get all b)

-- the rows of these classes: each class has a number, each cell of a row is the body of the class that answers, and each body's source is right
pub record AreBodies (k : Numbering) (v : MethodRows) : Type 0 where
  pub each : length v.rows ≡ length k.keys
  pub laid : IsLaid (scheme_of k) (body_of k v.bodies) v.rows
  pub sourced : AreSourced k v.bodies
  -- a row has no tokens but those of methods that its class or an ancestor introduces
  pub tokens : (n : ℕ) (t : ℕ × ℕ) → HasToken v.rows n t → IsToken k t × Descends (hierarchy k.classes) (key_at k n) (method_at k t).class

-- each parent of a class has a row
abbrev pub HaveParentRows : Numbering → MethodRows → ℕ → Type 0
HaveParentRows k v n = (p : ℕ) → IsNumbered k p → Mem (key_at k p) ((hierarchy k.classes).parents (key_at k n)) → HasRow v.rows p

-- a class's body of this number is that of the class which answers for a method
pub record IsAnswer (k : Numbering) (v : MethodRows) (n : ℕ) (t : ℕ × ℕ) (b : ℕ) : Type 0 where
  pub body : BodyAt
  pub there : slice_get v.bodies b ≡ Some body
  pub method : body.method ≡ t
  pub class : implementation k.classes (key_at k n) (method_at k t) ≡ Some (key_at k body.class)
