-- The hooks of a call, where no class that is made has any.
use Rattle.std.proofs.Common.{◌≡◌, Bool, true, false, if◌then◌else◌, List, [], Option, Some, None, refl}
use Rattle.som_model.specs.declared.key.ClassKey.{ClassKey}
use Rattle.som_semantics.specs.Calls.{Request}
use Rattle.som_model.specs.Implementation.{is_kernel}
use Rattle.som_semantics.specs.Means.{hooks_of}
use Rattle.som_semantics.specs.World.{World}
use Rattle.som_machine_laws.specs.Counted.{AreWithoutHooks}

abbrev none_of : Option ClassKey → Bool → List ClassKey → List ClassKey
none_of o kernels hooks = elim o [ None ↦ if kernels then [] else hooks | Some p ↦ [] ]

none : (hooks : List ClassKey) → hooks ≡ [] → (o : Option ClassKey) (kernels : Bool) → none_of o kernels hooks ≡ []
none hooks e None true = refl
none hooks e None false = e
none hooks e (Some p) kernels = refl

pub call_hooks : (w : World) (made : ClassKey → Bool) (x : ClassKey) (q : Request) → AreWithoutHooks w made → made x ≡ true → hooks_of w x q ≡ []
call_hooks w made x q without m = none (w.hooks (w.meta x)) (without x m) q.parent (is_kernel q.method.class)
