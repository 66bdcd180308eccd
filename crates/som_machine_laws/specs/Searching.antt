-- What searches for a method by a name: methods, instructions, bodies.
use Rattle.std.specs.Prelude.{◌≡◌, ℕ, Bool, true, false, List, slice_get, Some}
use Rattle.som_model.specs.declared.key.ClassKey.{ClassKey}
use Rattle.som_model.specs.declared.key.MethodRef.{MethodRef}
use Rattle.som_model.specs.declared.syntax.Block.{Block}
use Rattle.som_model.specs.Lists.{Mem, some}
use Rattle.som_model.specs.Keys.{same_method}
use Rattle.som_model.specs.Implementation.{Held}
use Rattle.som_model.specs.Implementation as held
use Rattle.som_semantics.specs.World.{World}
use Rattle.som_model.specs.Made.{asking_methods}
use Rattle.som_semantics.specs.Invoked.{Asks, KernelBody, RespondsTo, SupportsMethod, kernel_body, table}
use Rattle.som_code.specs.declared.instruction.Instruction.{Instruction}
use Rattle.som_code.specs.declared.instruction.Instruction.TheVariants as ops
use Rattle.som_code.specs.Laid.{lay_body}
use Rattle.som_machine_laws.specs.Naming.{kernel_calls}

-- whether a method is one of the two that ask whether a class has a method of some name
abbrev pub is_asking : MethodRef → Bool
is_asking r = some (same_method r) asking_methods

-- whether an instruction searches for a name, where methods have these owners: it calls by name, or calls a method that asks
abbrev pub searches : (MethodRef → MethodRef) → Instruction → Bool
searches owner (ops.Lookup result name n) = true
searches owner (ops.Dispatch result name n) = true
searches owner (ops.OffsetCall method n) = is_asking (owner method)
searches owner (ops.ParentCall parent method n) = is_asking (owner method)
searches owner (ops.ParentsCall method n) = is_asking (owner method)
searches owner _ = false

-- no instruction of code does
abbrev pub IsDirectCode : World → List Instruction → Type 0
IsDirectCode w code = (n : ℕ) (i : Instruction) → slice_get code n ≡ Some i → searches w.owner i ≡ false

-- whether a body of the kernel's looks a method up by its name
abbrev pub looks_up : KernelBody → Bool
looks_up (Asks RespondsTo) = true
looks_up (Asks SupportsMethod) = true
looks_up _ = false

-- a body doesn't search: a block's code doesn't, for whatever number of arguments it is laid out, and a body of the kernel's looks nothing up
abbrev pub IsDirectBody : World → Held → Type 0
IsDirectBody w (held.User block) = (params : ℕ) → IsDirectCode w (lay_body block params)
IsDirectBody w (held.OfKernel name) = looks_up (kernel_body table name) ≡ false
IsDirectBody w _ = Unit {0}

-- a method that owns itself and doesn't ask
pub record IsDirectMethod (w : World) (r : MethodRef) : Type 0 where
  pub own : w.owner r ≡ r
  pub other : is_asking r ≡ false

-- classes of which no body searches but those of the methods that ask: each owner owns itself, and the methods that a run calls by itself don't ask
pub record IsDirectWorld (w : World) : Type 0 where
  pub owners : (r : MethodRef) → w.owner (w.owner r) ≡ w.owner r
  pub bodies : (k : ClassKey) (r : MethodRef) (body : Held) → w.held k r ≡ Some body → is_asking r ≡ false → IsDirectBody w body
  pub calls : (r : MethodRef) → Mem r kernel_calls → IsDirectMethod w r

-- such classes, and a main whose code doesn't search
pub record IsDirectProgram (w : World) (main : Block) : Type 0 where
  pub classes : IsDirectWorld w
  pub code : (params : ℕ) → IsDirectCode w (lay_body main params)
