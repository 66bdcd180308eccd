-- The bodies that classes have for methods.
use Rattle.std.specs.Prelude.{ℕ, Bool, false, ◌||◌, if◌then◌else◌, List, [], ◌∷◌, map, flat_map, slice_get, Option, Some, None, is_some}
use Rattle.std.specs.Option.{option_and_then}
use Rattle.std.specs.Str.{bytes_eq}
use Rattle.som_model.specs.declared.key.Module.TheVariants as modules
use Rattle.som_model.specs.declared.key.ClassKey.{ClassKey, out-ClassKey}
use Rattle.som_model.specs.declared.key.ClassKey.TheOpen.{ClassKey-F}
use Rattle.som_model.specs.declared.key.MethodRef.{MethodRef}
use Rattle.som_model.specs.declared.syntax.Block.{Block}
use Rattle.som_model.specs.declared.class.Entry.{Entry}
use Rattle.som_model.specs.declared.class.Entry.TheVariants as entries
use Rattle.som_model.specs.declared.class.Body.{Body}
use Rattle.som_model.specs.declared.class.Body.TheVariants as bodies
use Rattle.som_model.specs.declared.class.Override.{Override}
use Rattle.som_model.specs.declared.class.Select.{Select}
use Rattle.som_model.specs.Lists.{or_else, some}
use Rattle.som_model.specs.Keys.{same_key, same_module, same_method}
use Rattle.som_model.specs.Resolution.{impl}
use Rattle.som_model.specs.Class.{Class, entry_of}
use Rattle.som_model.specs.Kernel.{som_init, som_uninit}
use Rattle.som_model.specs.Classes.{class_at, hierarchy, ancestors}
use Rattle.som_model.specs.Owner.{owner, introduced_by}

-- what a body is: a block, the reader or writer of a variable, a body of the kernel's by its method's name, a proxy's forward, or one that does nothing
pub data Held : Type 0 where
  User : Block → Held
  Get : ℕ → Held
  Set : ℕ → Held
  OfKernel : List ℕ → Held
  Forward : Held
  Nothing : Held

abbrev held_body : Body → Held
held_body (bodies.User b) = User b
held_body (bodies.Get n) = Get n
held_body (bodies.Set n) = Set n

-- the body of an introduced name; there is one for each introduced entry, in order
abbrev pub body_named : List Entry → List Body → List ℕ → Option Held
body_named [] bs name = None
body_named (entries.Moved n to ∷ es) bs name = body_named es bs name
body_named (entries.Introduced n sig way ∷ es) [] name = None
body_named (entries.Introduced n sig way ∷ es) (b ∷ bs) name = if bytes_eq n name then Some (held_body b) else body_named es bs name

abbrev pub is_kernel_layer : ClassKey-F ClassKey → Bool
is_kernel_layer (ClassKey-F.Named m name) = same_module m modules.Kernel
is_kernel_layer (ClassKey-F.Derived ks) = false
is_kernel_layer (ClassKey-F.Proxy of) = false

-- whether a class is one of the kernel's
abbrev pub is_kernel : ClassKey → Bool
is_kernel k = is_kernel_layer (out-ClassKey k)

-- the body of a method that the class introduces
abbrev pub introduced_body : Class → List ℕ → Option Held
introduced_body c name =
    if is_kernel c.key then (if is_some (entry_of c.decl.face.entries name) then Some (OfKernel name) else None) else body_named c.decl.face.entries c.decl.bodies name

-- the body of an override of a reference with this owner
abbrev pub override_of : List Class → MethodRef → List Override → Option Held
override_of cs r [] = None
override_of cs r (o ∷ os) = if same_method (owner cs o.method) r then Some (User o.block) else override_of cs r os

abbrev pub declared_held : List Class → Option Class → MethodRef → Option Held
declared_held cs None r = None
declared_held cs (Some c) r = or_else (if same_key c.key r.class then introduced_body c r.name else None) (override_of cs r c.decl.overrides)

-- the methods that a class introduces, in order
abbrev introduced_methods : List Class → ClassKey → List MethodRef
introduced_methods cs k = map (λ name. record { class = k; name = name }) (introduced_by cs k)

-- the methods that a proxy of C forwards: those that C's ancestors outside the kernel introduce, in the order of the ancestors and then of entries
abbrev pub forwards : List Class → ClassKey → List MethodRef
forwards cs c = flat_map (λ k. if is_kernel k then [] else introduced_methods cs k) (ancestors cs c)

-- a proxy has a forward for each of these, and does nothing for somInit and somUninit
abbrev pub proxy_held : List Class → ClassKey → MethodRef → Option Held
proxy_held cs c r =
    if same_method r som_init || same_method r som_uninit then Some Nothing
    else (if some (same_method r) (forwards cs c) then Some Forward else None)

abbrev pub held_by : List Class → ClassKey-F ClassKey → ClassKey → MethodRef → Option Held
held_by cs (ClassKey-F.Named m name) k r = declared_held cs (class_at cs k) r
held_by cs (ClassKey-F.Derived ks) k r = None
held_by cs (ClassKey-F.Proxy c) k r = proxy_held cs c r

-- the body of its own that a class has for an owner reference
abbrev pub held : List Class → ClassKey → MethodRef → Option Held
held cs k r = held_by cs (out-ClassKey k) k r

abbrev pub has_body : List Class → MethodRef → ClassKey → Bool
has_body cs r k = is_some (held cs k r)

-- the place of the parent that a class selects for an owner reference: that of its first select of a reference with this owner
abbrev pub select_of : List Class → MethodRef → List Select → Option ℕ
select_of cs r [] = None
select_of cs r (s ∷ ss) = if same_method (owner cs s.method) r then Some s.parent else select_of cs r ss

abbrev pub selected_in : List Class → MethodRef → Option Class → Option ClassKey
selected_in cs r None = None
selected_in cs r (Some c) = option_and_then (slice_get c.decl.face.parents) (select_of cs r c.decl.selects)

-- the parent that a class selects for an owner reference; made classes select none
abbrev pub selected : List Class → MethodRef → ClassKey → Option ClassKey
selected cs r k = selected_in cs r (class_at cs k)

-- the class whose body a class has for an owner reference
abbrev pub implementation : List Class → ClassKey → MethodRef → Option ClassKey
implementation cs k r = impl (hierarchy cs) (has_body cs r) (selected cs r) r.class k
