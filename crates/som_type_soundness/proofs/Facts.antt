-- What a typed run needs of the classes, and what is typed by these facts.
use Rattle.std.proofs.Common.{◌≡◌, ℕ, ◌⊎◌, Bool, true, false, List, [], ◌∷◌, map, Option, Some, None, slice_get, Ok}
use Rattle.std.specs.Str.{bytes_eq}
use Rattle.som_model.specs.declared.key.ClassKey.{ClassKey}
use Rattle.som_model.specs.declared.key.ClassKey.TheVariants as keys
use Rattle.som_model.specs.declared.key.MethodRef.{MethodRef}
use Rattle.som_model.specs.declared.key.ValueType.{ValueType}
use Rattle.som_model.specs.declared.key.ValueType.TheVariants as types
use Rattle.som_model.specs.declared.class.Sig.{Sig}
use Rattle.som_model.specs.declared.class.Variable.{Variable}
use Rattle.som_model.specs.Lists.{Mem, some}
use Rattle.som_model.specs.Keys.{same_key}
use Rattle.som_model.specs.Class.{Class}
use Rattle.som_model.specs.Kernel.{som_object, som_class, som_class_mgr, som_init, som_uninit, som_free, som_new, som_dispatch_name, before_method, after_method, a_class, an_object}
use Rattle.som_model.specs.Rules.{is_void}
use Rattle.som_model.specs.Implementation.{Held}
use Rattle.som_model.specs.Implementation as held
use Rattle.som_semantics.specs.World.{World}
use Rattle.som_semantics.specs.State.{To, Heap}
use Rattle.som_semantics.specs.Calls.{Here, class_here}
use Rattle.som_semantics.specs.Invoked.{GetClass, GetClassName, IsA, IsInstanceOf, RespondsTo, DispatchName, GetName, DescendedFrom, SupportsMethod, CheckVersion, KernelBody, Idle, Free, New, NewNoInit, FindClass, Asks, table, kernel_body}
use Rattle.som_model.specs.Typing.{ClassFacts, in_body}
use Rattle.som_model.specs.TypedBlocks.{Scope, block_scope}
use Rattle.som_type_soundness.specs.Values.{has_type}
use Rattle.som_type_soundness.specs.Checks.{reads}

-- typing by what a run asks of the classes
abbrev pub facts_of : World → (ClassKey → Bool) → ClassFacts
facts_of w known = record { is_known = known; is_a = w.is_a; class_object = w.meta; owner = w.owner; signature = λ r. w.sig (w.owner r) }

abbrev pub sig : ValueType → List ValueType → Sig
sig result params = record { result = result; params = params }

-- a class among those of a run: its parents, and its variables with their types
pub record IsClass (w : World) (c : Class) : Type 0 where
  pub parents : w.parents c.key ≡ c.decl.face.parents
  pub above : (p : ClassKey) → Mem p c.decl.face.parents → w.is_a c.key p ≡ true
  pub proper : (a : ClassKey) → same_key a c.key ≡ false → w.is_a c.key a ≡ true → some (λ p. w.is_a p a) c.decl.face.parents ≡ true
  pub variables : (n : ℕ) (kind : ValueType) → slice_get (map (λ (v : Variable). v.kind) c.decl.variables) n ≡ Some kind → (w.variable c.key n ≡ kind) × (is_void kind ≡ false)

-- the results of the kernel's bodies
abbrev pub kernel_result : KernelBody → ValueType
kernel_result Idle = types.Void
kernel_result Free = types.Void
kernel_result New = an_object
kernel_result NewNoInit = an_object
kernel_result FindClass = a_class
kernel_result (Asks GetClass) = a_class
kernel_result (Asks GetClassName) = types.Str
kernel_result (Asks IsA) = types.Boolean
kernel_result (Asks IsInstanceOf) = types.Boolean
kernel_result (Asks RespondsTo) = types.Boolean
kernel_result (Asks DispatchName) = types.Str
kernel_result (Asks GetName) = types.Str
kernel_result (Asks DescendedFrom) = types.Boolean
kernel_result (Asks SupportsMethod) = types.Boolean
kernel_result (Asks CheckVersion) = types.Boolean

-- a signature is that of a body of the kernel
abbrev pub IsKernelSig : KernelBody → Sig → Type 0
IsKernelSig b s = (s.result ≡ kernel_result b) × ((s.params ≡ reads b) ⊎ (b ≡ Idle))

-- a body that class y has for r fits the signature of r
abbrev pub IsBody : World → (ClassKey → Bool) → ClassKey → MethodRef → Sig → Held → Type 0
IsBody w known y r s (held.User block) = (c : Class) × (c.key ≡ y) × IsClass w c × ((after : Scope) × (block_scope (facts_of w known) (in_body c s.result) block s.params ≡ Ok after))
IsBody w known y r s (held.Get n) = (w.variable y n ≡ s.result) × (is_void s.result ≡ false) × (s.params ≡ [])
IsBody w known y r s (held.Set n) = (s.result ≡ types.Void) × (is_void (w.variable y n) ≡ false) × (s.params ≡ w.variable y n ∷ [])
IsBody w known y r s (held.OfKernel name) = (some (λ row. bytes_eq row.0 name) table ≡ true) × IsKernelSig (kernel_body table name) s
IsBody w known y r s held.Forward = (c : ClassKey) × (y ≡ keys.Proxy c) × (w.is_a c r.class ≡ true)
IsBody w known y r s held.Nothing = s.result ≡ types.Void

-- a class answers a method of its own or of an ancestor
pub record IsAnswered (w : World) (x : ClassKey) (r : MethodRef) : Type 0 where
  pub class : ClassKey
  pub found : w.impl x r ≡ Some class
  pub body : Held
  pub held : w.held class r ≡ Some body
  pub above : w.is_a x class ≡ true

-- a method of the kernel's, with its signature
pub record IsMethod (w : World) (r : MethodRef) (s : Sig) : Type 0 where
  pub owner : w.owner r ≡ r
  pub sig : w.sig r ≡ Some s

pub record IsSound (w : World) (known : ClassKey → Bool) : Type 0 where
  -- descent
  pub itself : (k : ClassKey) → w.is_a k k ≡ true
  pub through : (a b c : ClassKey) → w.is_a a b ≡ true → w.is_a b c ≡ true → w.is_a a c ≡ true
  -- classes that are known, metaclasses, and the kernel's
  pub class : (k : ClassKey) → known k ≡ true → w.is_a k som_object ≡ true
  pub meta : (k : ClassKey) → w.is_a (w.meta k) som_class ≡ true
  pub metaclass : w.is_a som_class som_object ≡ true
  pub manager : w.is_a som_class_mgr som_object ≡ true
  -- no metaclass and not SOMClassMgr is a proxy's class
  pub real : (k c : ClassKey) → w.is_a (w.meta k) (keys.Proxy c) ≡ true → ⊥
  pub real_manager : (c : ClassKey) → w.is_a som_class_mgr (keys.Proxy c) ≡ true → ⊥
  -- the class manager object has no variables
  pub slots : (k : ClassKey) (n : ℕ) → w.is_a som_class_mgr k ≡ true → is_void (w.variable k n) ≡ true
  pub named : (name : List ℕ) (k : ClassKey) → w.named name ≡ Some k → w.is_a k som_object ≡ true
  -- proxies
  pub proxy : (k : ClassKey) → w.is_a (keys.Proxy k) k ≡ true
  pub proxied : (k c : ClassKey) → known k ≡ true → w.is_a (keys.Proxy k) (keys.Proxy c) ≡ true → k ≡ c
  -- methods: an owner is above, a name is that of a method of an ancestor, some class answers, and each body fits
  pub owner : (r : MethodRef) (s : Sig) → w.sig (w.owner r) ≡ Some s → w.is_a r.class (w.owner r).class ≡ true
  pub own : (r : MethodRef) (s : Sig) → w.sig r ≡ Some s → w.owner r ≡ r
  pub byname : (k : ClassKey) (name : List ℕ) (r : MethodRef) → w.byname k name ≡ Some r → (w.is_a k r.class ≡ true) × ((s : Sig) × (w.sig r ≡ Some s))
  pub answered : (x : ClassKey) (r : MethodRef) (s : Sig) → w.sig r ≡ Some s → w.is_a x r.class ≡ true → IsAnswered w x r
  pub bodies : (y : ClassKey) (r : MethodRef) (s : Sig) (b : Held) → w.sig r ≡ Some s → w.held y r ≡ Some b → IsBody w known y r s b
  pub hooks : (m k : ClassKey) → Mem k (w.hooks m) → w.is_a m k ≡ true
  -- methods of the kernel
  pub init : IsMethod w som_init (sig types.Void [])
  pub uninit : IsMethod w som_uninit (sig types.Void [])
  pub free : IsMethod w som_free (sig types.Void [])
  pub new : IsMethod w som_new (sig an_object [])
  pub dispatch : IsMethod w som_dispatch_name (sig types.Str (types.Str ∷ []))
  pub before : IsMethod w before_method (sig types.Void (an_object ∷ types.Str ∷ []))
  pub after : IsMethod w after_method (sig types.Void (an_object ∷ types.Str ∷ []))

-- where code stands: in main, or in a body of a class, with a self of that class
abbrev pub InClass : World → Option Class → Here → Heap → Type 0
InClass w None here h = Unit {0}
InClass w (Some c) here h = IsClass w c × (class_here here ≡ c.key) × (has_type w h (types.Class c.key) here.me ≡ true) × ((r : _) × (here.me ≡ To r))
