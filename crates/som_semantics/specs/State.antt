-- The state of a run: its fuel, what was seen of it, and its objects.
use Rattle.std.specs.Prelude.{ℕ, zero, suc, ◌==◌, ℤ, pos, Bool, true, false, if◌then◌else◌, ◌&&◌, List, [], ◌∷◌, Some, None, Result, Ok, Err, slice_get}
use Rattle.std.specs.Ordering.{int_eq}
use Rattle.std.specs.Str.{bytes_eq}
use Rattle.som_model.specs.declared.key.ClassKey.{ClassKey}
use Rattle.som_model.specs.declared.key.MethodRef.{MethodRef}
use Rattle.som_model.specs.declared.key.ValueType.{ValueType}
use Rattle.som_model.specs.declared.key.ValueType.TheVariants as types
use Rattle.som_model.specs.declared.program.Fault.{Fault}
use Rattle.som_model.specs.declared.program.Fault.TheVariants as faults
use Rattle.som_model.specs.Keys.{same_key}
use Rattle.som_model.specs.Kernel.{som_object, som_class_mgr}
use Rattle.som_semantics.specs.World.{World}

-- an object by its place in the order in which objects are made, counted from 0; the class object of a class; the class manager object
pub data Ref : Type 0 where
  Object : ℕ → Ref
  ClassObject : ClassKey → Ref
  Manager : Ref

-- a long, a boolean, a string, nil or a reference
pub data Value : Type 0 where
  Long : ℤ → Value
  Boolean : Bool → Value
  Str : List ℕ → Value
  Nil : Value
  To : Ref → Value

-- the value that a variable of a type begins with
abbrev pub zero_of : ValueType → Value
zero_of types.Void = Nil
zero_of types.Long = Long (pos 0)
zero_of types.Boolean = Boolean false
zero_of types.Str = Str []
zero_of (types.Class k) = Nil

-- the value of each variable of each class
abbrev pub Variables : Type 0
Variables = ClassKey → ℕ → Value

-- each variable of each class at its zero value
abbrev pub zeros : World → Variables
zeros w k n = zero_of (w.variable k n)

-- the variables with another value for one of them
abbrev pub put : ClassKey → ℕ → Value → Variables → Variables
put k n v vars = λ c m. if same_key c k && m == n then v else vars c m

-- an object: its class, whether it is live, a proxy's target, and its variables
pub record Instance : Type 0 where
  pub class : ClassKey
  pub live : Bool
  pub target : Value
  pub variables : Variables

-- the objects in order, and the variables of each class object
pub record Heap : Type 0 where
  pub objects : List Instance
  pub statics : ClassKey → Variables

-- where a body runs: in main, or in a class's body for a method
pub data Place : Type 0 where
  InMain : Place
  InBody : ClassKey → List ℕ → Place

-- how a body was reached
pub data Manner : Type 0 where
  Offset : Manner
  Lookup : Manner
  Dispatch : Manner
  Parent : Manner
  Before : Manner
  After : Manner
  Forward : Manner

-- what is seen of a run: a text that is printed, a body that is invoked, with the owner reference and the class whose body it is, and, without a line, a class that is used
pub data Event : Type 0 where
  Printed : List ℕ → Event
  Called : MethodRef → Manner → ClassKey → Event
  Used : ClassKey → Event

-- the classes that were used
abbrev pub used : List Event → List ClassKey
used [] = []
used (Printed t ∷ es) = used es
used (Called r way k ∷ es) = used es
used (Used k ∷ es) = k ∷ used es

-- the fuel left, the events so far, and the objects
pub record State : Type 0 where
  pub fuel : ℕ
  pub events : List Event
  pub heap : Heap

-- a value or a fault
abbrev pub Tried : Type 0 → Type 0
Tried A = Result A Fault

-- one test, and then another
abbrev pub ◌then_try◌ : {A B : Type 0} → Tried A → (A → Tried B) → Tried B
(Ok a) then_try k = k a
(Err f) then_try k = Err f

infixl 10 ◌then_try◌
-- the class of an object; that of a class object is the class's metaclass
abbrev pub class_of : World → Heap → Ref → ClassKey
class_of w h (Object i) = elim (slice_get h.objects i) [ None ↦ som_object | Some t ↦ t.class ]
class_of w h (ClassObject k) = w.meta k
class_of w h Manager = som_class_mgr

-- whether a reference isn't freed
abbrev pub is_live : Heap → Ref → Bool
is_live h (Object i) = elim (slice_get h.objects i) [ None ↦ false | Some t ↦ t.live ]
is_live h (ClassObject k) = true
is_live h Manager = true

-- a reference that isn't freed
abbrev pub live : Heap → Ref → Tried Ref
live h r = if is_live h r then Ok r else Err faults.Freed

-- a receiver: not nil, and not freed
abbrev pub receiver : Heap → Value → Tried Ref
receiver h (To r) = live h r
receiver h _ = Err faults.Nil

-- the target of a proxy
abbrev pub target_of : Heap → Ref → Value
target_of h (Object i) = elim (slice_get h.objects i) [ None ↦ Nil | Some t ↦ t.target ]
target_of h _ = Nil

-- the variables of an object
abbrev pub variables_of : Heap → Ref → Variables
variables_of h (Object i) = elim (slice_get h.objects i) [ None ↦ (λ k n. Nil) | Some t ↦ t.variables ]
variables_of h (ClassObject k) = h.statics k
variables_of h Manager = λ k n. Nil

-- the object at a place is changed
abbrev pub changed : (Instance → Instance) → List Instance → ℕ → List Instance
changed f [] i = []
changed f (t ∷ ts) zero = f t ∷ ts
changed f (t ∷ ts) (suc i) = t ∷ changed f ts i

-- an object with another value for one of its variables
abbrev pub with_variable : ClassKey → ℕ → Value → Instance → Instance
with_variable k n v t = record { class = t.class; live = t.live; target = t.target; variables = put k n v t.variables }

-- an object that is freed
abbrev pub no_longer_live : Instance → Instance
no_longer_live t = record { class = t.class; live = false; target = t.target; variables = t.variables }

-- an object's variable gets a value
abbrev pub write : Ref → ClassKey → ℕ → Value → Heap → Heap
write (Object i) k n v h = record { objects = changed (with_variable k n v) h.objects i; statics = h.statics }
write (ClassObject c) k n v h = record { objects = h.objects; statics = λ x. if same_key x c then put k n v (h.statics x) else h.statics x }
write Manager k n v h = h

-- an object is freed
abbrev pub freed : Ref → Heap → Heap
freed (Object i) h = record { objects = changed no_longer_live h.objects i; statics = h.statics }
freed r h = h

-- whether two references are to one object
abbrev pub same_ref : Ref → Ref → Bool
same_ref (Object i) (Object j) = i == j
same_ref (ClassObject k) (ClassObject c) = same_key k c
same_ref Manager Manager = true
same_ref _ _ = false

-- whether two booleans are one
abbrev pub same_bool : Bool → Bool → Bool
same_bool true b = b
same_bool false true = false
same_bool false false = true

-- equality of values, and identity of references
abbrev pub same_value : Value → Value → Bool
same_value (Long a) (Long b) = int_eq a b
same_value (Boolean a) (Boolean b) = same_bool a b
same_value (Str a) (Str b) = bytes_eq a b
same_value Nil Nil = true
same_value (To r) (To q) = same_ref r q
same_value _ _ = false
