-- What the bodies do: blocks, accessors, forwards and those of the kernel.
use Rattle.std.specs.Prelude.{ℕ, Bool, true, ◌&&◌, int_le, ℤ, pos, List, [], ◌∷◌, Option, Some, None, is_some, if◌then◌else◌, Ok, Err, codes}
use Rattle.std.specs.Str.{bytes_eq}
use Rattle.std.specs.Ordering.{int_eq}
use Rattle.som_model.specs.declared.key.ClassKey.{ClassKey}
use Rattle.som_model.specs.declared.key.MethodRef.{MethodRef}
use Rattle.som_model.specs.declared.class.Sig.{Sig}
use Rattle.som_model.specs.declared.program.Fault.TheVariants as faults
use Rattle.som_model.specs.Keys.{same_key}
use Rattle.som_model.specs.Kernel.{som_init, som_uninit}
use Rattle.som_model.specs.ClassNames.{class_name}
use Rattle.som_model.specs.Implementation.{Held}
use Rattle.som_model.specs.Implementation as held
use Rattle.som_semantics.specs.World.{World}
use Rattle.som_semantics.specs.State.{Value, Boolean, Nil, To, Ref, Object, ClassObject, Heap, Place, InBody, Offset, Forward, Used, Tried, ◌then_try◌, freed, live, receiver, class_of, target_of, zero_of}
use Rattle.som_semantics.specs.Runs.{Act}
use Rattle.som_semantics.specs.Acts.{◌>>=◌, ◌>>◌, pure, fault, asked, tried, emit, become, freed_stays, make}
use Rattle.som_semantics.specs.Values.{text, text_of, number_of}
use Rattle.som_semantics.specs.Calls.{Calls, offset_call}
use Rattle.som_semantics.specs.Expressions.{read}
use Rattle.som_semantics.specs.Statements.{Flow, Returned, run_block, assign}

-- the first argument
abbrev pub first_argument : List Value → Value
first_argument [] = Nil
first_argument (v ∷ vs) = v

-- the arguments after the first
abbrev pub further_arguments : List Value → List Value
further_arguments [] = []
further_arguments (v ∷ vs) = vs

-- the class that a reference stands for
abbrev pub stands_for : Ref → Tried ClassKey
stands_for (ClassObject k) = Ok k
stands_for _ = Err faults.NotClass

-- the class that an argument stands for
abbrev class_argument : Heap → Value → Tried ClassKey
class_argument h v = receiver h v then_try stands_for

abbrev at_least : ℕ → ℤ → Bool
at_least n z = int_le z (pos n)

-- the rule of somCheckVersion
abbrev pub version_fits : ℕ × ℕ → ℤ → ℤ → Bool
version_fits v major minor =
    if int_eq major (pos 0) && int_eq minor (pos 0) then true else int_eq (pos v.0) major && at_least v.1 minor

-- a class whose version fits
abbrev fitting : World → Option ClassKey → ℤ → ℤ → Option ClassKey
fitting w None major minor = None
fitting w (Some k) major minor = if version_fits (w.version k) major minor then Some k else None

-- the class that somFindClass finds: the one of that name, where its version fits
abbrev pub class_found : World → List Value → Option ClassKey
class_found w args = fitting w (w.named (text_of (first_argument args))) (number_of (first_argument (further_arguments args))) (number_of (first_argument (further_arguments (further_arguments args))))

-- the class object of the class that was found, which is used; or nil
abbrev pub found_object : Option ClassKey → Act Value
found_object None = pure Nil
found_object (Some k) = emit (Used k) >> pure (To (ClassObject k))

abbrev truth : Bool → Tried Value
truth b = Ok (Boolean b)

-- the kernel's bodies that only ask
pub data Asking : Type 0 where
  GetClass : Asking
  GetClassName : Asking
  IsA : Asking
  IsInstanceOf : Asking
  RespondsTo : Asking
  DispatchName : Asking
  GetName : Asking
  DescendedFrom : Asking
  SupportsMethod : Asking
  CheckVersion : Asking

-- what they answer
abbrev pub asks : World → Asking → Ref → List Value → Heap → Tried Value
asks w GetClass self args h = live h self then_try λ r. Ok (To (ClassObject (class_of w h r)))
asks w GetClassName self args h = live h self then_try λ r. text (class_name (class_of w h r))
asks w IsA self args h = live h self then_try λ r. class_argument h (first_argument args) then_try λ k. truth (w.is_a (class_of w h r) k)
asks w IsInstanceOf self args h = live h self then_try λ r. class_argument h (first_argument args) then_try λ k. truth (same_key (class_of w h r) k)
asks w RespondsTo self args h = live h self then_try λ r. truth (is_some (w.byname (class_of w h r) (text_of (first_argument args))))
asks w DispatchName self args h = Ok (first_argument args)
asks w GetName self args h = stands_for self then_try λ k. text (class_name k)
asks w DescendedFrom self args h = stands_for self then_try λ k. class_argument h (first_argument args) then_try λ c. truth (w.is_a k c)
asks w SupportsMethod self args h = stands_for self then_try λ k. truth (is_some (w.byname k (text_of (first_argument args))))
asks w CheckVersion self args h = stands_for self then_try λ k. truth (version_fits (w.version k) (number_of (first_argument args)) (number_of (first_argument (further_arguments args))))

-- a kernel body: it does nothing, or frees, or makes, or finds a class, or asks
pub data KernelBody : Type 0 where
  Idle : KernelBody
  Free : KernelBody
  New : KernelBody
  NewNoInit : KernelBody
  FindClass : KernelBody
  Asks : Asking → KernelBody

-- the kernel's bodies by the names of their methods, in the order of its classes and their entries
abbrev pub table : List (List ℕ × KernelBody)
table =
    (codes "somInit", Idle) ∷
    (codes "somUninit", Idle) ∷
    (codes "somFree", Free) ∷
    (codes "somGetClass", Asks GetClass) ∷
    (codes "somGetClassName", Asks GetClassName) ∷
    (codes "somIsA", Asks IsA) ∷
    (codes "somIsInstanceOf", Asks IsInstanceOf) ∷
    (codes "somRespondsTo", Asks RespondsTo) ∷
    (codes "somDispatchName", Asks DispatchName) ∷
    (codes "somNew", New) ∷
    (codes "somNewNoInit", NewNoInit) ∷
    (codes "somGetName", Asks GetName) ∷
    (codes "somDescendedFrom", Asks DescendedFrom) ∷
    (codes "somSupportsMethod", Asks SupportsMethod) ∷
    (codes "somCheckVersion", Asks CheckVersion) ∷
    (codes "somFindClass", FindClass) ∷
    (codes "sommBeforeMethod", Idle) ∷
    (codes "sommAfterMethod", Idle) ∷ []

-- the kernel's body for a name
abbrev pub kernel_body : List (List ℕ × KernelBody) → List ℕ → KernelBody
kernel_body [] name = Idle
kernel_body (row ∷ rows) name = if bytes_eq row.0 name then row.1 else kernel_body rows name

module _ (w : World) (call : Calls) (at : Place) (self : Ref) where
  -- an object is freed, which isn't a class object or the class manager object
  abbrev pub free_body : Ref → Act Value
  free_body (Object i) = do
    offset_call w call at Offset som_uninit (To self) []
    asked at (λ h. live h self)
    become (freed self) (freed_stays self)
    pure Nil
  free_body _ = fault faults.ClassFree at

  -- a new object of the class that self stands for, on which somInit is called
  abbrev pub new_body : Act Value
  new_body = do
    k ← tried at (stands_for self)
    r ← make w k Nil
    offset_call w call at Offset som_init (To r) []
    pure (To r)

  -- a new object of the class that self stands for, on which nothing is called
  abbrev pub new_no_init_body : Act Value
  new_no_init_body = do
    k ← tried at (stands_for self)
    r ← make w k Nil
    pure (To r)

  -- a proxy's body: it calls the method on its target, with the arguments that it was given
  abbrev pub forward_body : MethodRef → List Value → Act Value
  forward_body method args = do
    asked at (λ h. live h self)
    on ← asked at (λ h. Ok (target_of h self))
    offset_call w call at Forward method on args

  -- what a body of the kernel does
  abbrev pub kernel_does : KernelBody → List Value → Act Value
  kernel_does Idle args = pure Nil
  kernel_does Free args = free_body self
  kernel_does New args = new_body
  kernel_does NewNoInit args = new_no_init_body
  kernel_does FindClass args = found_object (class_found w args)
  kernel_does (Asks q) args = asked at (asks w q self args)

-- the zero value of a method's result
abbrev pub result_zero : Option Sig → Value
result_zero None = Nil
result_zero (Some sig) = zero_of sig.result

-- what a body answers that ends so; without a value it answers its type's zero value
abbrev pub answer_of : Value → Flow → Value
answer_of zero_value (Returned v) = v
answer_of zero_value _ = zero_value

module _ (w : World) (call : Calls) where
  -- a body of class x for an owner reference, run on self
  abbrev pub body_does : Held → ClassKey → MethodRef → Ref → List Value → Act Value
  body_does (held.User block) x method self args = do
    flow ← run_block w call (record { me = To self; place = InBody x method.name }) block args
    pure (answer_of (result_zero (w.sig method)) flow)
  body_does (held.Get n) x method self args = asked (InBody x method.name) (read x n (To self))
  body_does (held.Set n) x method self args = assign (InBody x method.name) x n (To self) (first_argument args) >> pure Nil
  body_does (held.OfKernel name) x method self args = kernel_does w call (InBody x method.name) self (kernel_body table name) args
  body_does held.Forward x method self args = forward_body w call (InBody x method.name) self method args
  body_does held.Nothing x method self args = pure Nil
