-- What the steps of a run take for granted, as tests.
use Rattle.std.specs.Prelude.{ℕ, Bool, true, false, not, ◌&&◌, List, [], ◌∷◌, Option, Some, None, is_some, slice_get}
use Rattle.std.specs.Str.{bytes_eq}
use Rattle.som_model.specs.declared.key.ClassKey.{ClassKey}
use Rattle.som_model.specs.declared.key.MethodRef.{MethodRef}
use Rattle.som_model.specs.declared.key.ValueType.{ValueType}
use Rattle.som_model.specs.declared.key.ValueType.TheVariants as types
use Rattle.som_model.specs.Lists.{some}
use Rattle.som_model.specs.Kernel.{som_object, a_class}
use Rattle.som_model.specs.Rules.{is_void}
use Rattle.som_semantics.specs.World.{World}
use Rattle.som_semantics.specs.State.{Value, To, Ref, Object, Heap, target_of}
use Rattle.som_semantics.specs.Calls.{Request, Here, class_here}
use Rattle.som_semantics.specs.Invoked.{IsA, IsInstanceOf, RespondsTo, DispatchName, DescendedFrom, SupportsMethod, CheckVersion, KernelBody, Idle, FindClass, Asks, table, kernel_body}
use Rattle.som_type_soundness.specs.Values.{has_type, have_types, are_of_one_kind, are_arguments, is_reference}

-- there is the class, or what it is made of
abbrev pub is_class : World → ClassKey → Heap → Bool
is_class w k h = w.is_a k som_object

-- the class of a type is there, if it names one
abbrev pub is_kind : World → ValueType → Heap → Bool
is_kind w (types.Class k) h = is_class w k h
is_kind w kind h = true

-- there is the local, and it holds a value of the kind of this one
abbrev pub has_local : Option Value → Value → Bool
has_local None v = false
has_local (Some u) v = are_of_one_kind u v

-- a value of a class's type
abbrev pub of_class : World → ClassKey → Value → Heap → Bool
of_class w k v h = has_type w h (types.Class k) v

-- a body of this class can run on this value: it is an object that there is, of the class or of one below it
abbrev pub stands : World → ClassKey → Value → Heap → Bool
stands w k v h = is_reference v && has_type w h (types.Class k) v

-- and the class has the variable of this number, so that the object has a slot for it
abbrev pub has_slot : World → ClassKey → ℕ → Value → Heap → Bool
has_slot w k n v h = stands w k v h && not (is_void (w.variable k n))

-- the body that runs is of a class, with self in place, and the class has a parent of this number
abbrev pub has_parent : World → Here → ℕ → Heap → Bool
has_parent w here n h = stands w (class_here here) here.me h && is_some (slice_get (w.parents (class_here here)) n)

-- and some parent has the method of this reference
abbrev pub has_parents : World → Here → MethodRef → Heap → Bool
has_parents w here r h = stands w (class_here here) here.me h && some (λ p. w.is_a p (w.owner r).class) (w.parents (class_here here))

-- the class at which a parent call begins descends from the method's
abbrev pub is_below : World → ClassKey → Option ClassKey → Bool
is_below w k None = true
is_below w k (Some p) = w.is_a p k

-- a call is of a method that a class from which self's class descends introduces, and so does the parent's in a parent call
abbrev pub has_method : World → Request → Heap → Bool
has_method w q h = stands w q.method.class (To q.self) h && (is_some (w.sig q.method) && is_below w q.method.class q.parent)

-- a body of this class for a method can run: self is in place, and the arguments are as the signature says
abbrev pub can_run : World → MethodRef → ClassKey → Ref → List Value → Heap → Bool
can_run w method x self args h = stands w x (To self) h && are_arguments w h (w.sig method) args

-- the types of the arguments that a body of the kernel reads
abbrev pub reads : KernelBody → List ValueType
reads FindClass = types.Str ∷ types.Long ∷ types.Long ∷ []
reads (Asks IsA) = a_class ∷ []
reads (Asks IsInstanceOf) = a_class ∷ []
reads (Asks RespondsTo) = types.Str ∷ []
reads (Asks DispatchName) = types.Str ∷ []
reads (Asks DescendedFrom) = a_class ∷ []
reads (Asks SupportsMethod) = types.Str ∷ []
reads (Asks CheckVersion) = types.Long ∷ types.Long ∷ []
reads _ = []

-- a body of the kernel has the arguments that it reads; one that does nothing reads none
abbrev kernel_reads : World → KernelBody → List Value → Heap → Bool
kernel_reads w Idle args h = true
kernel_reads w b args h = have_types w h (reads b) args

-- the kernel has a body of this name, and that has the arguments which it reads
abbrev pub kernel_can : World → List ℕ → List Value → Heap → Bool
kernel_can w name args h = some (λ row. bytes_eq row.0 name) table && kernel_reads w (kernel_body table name) args h

-- a forward runs on an object, and finds a target of the method's class there, or nil
abbrev pub has_target : World → MethodRef → Ref → Heap → Bool
has_target w method (Object i) h = has_type w h (types.Class method.class) (target_of h (Object i))
has_target w method self h = false
