-- The signatures of the kernel's methods, as values that take no memory.
use Rattle.std.specs.Prelude.{map, Option, Some, None}
use Rattle.som_model.specs.declared.key.ValueType.{ValueType}
use Rattle.som_model.specs.declared.key.ValueType.TheVariants as types
use Rattle.som_model.specs.declared.class.Sig.{Sig}
use Rattle.som_model.specs.Kernel.{a_class, an_object}
use Rattle.som_compat.specs.declared.kernel.KernelType.{KernelType}
use Rattle.som_compat.specs.declared.kernel.KernelType.TheVariants as kernel_types
use Rattle.som_compat.specs.declared.kernel.KernelSig.{KernelSig}

abbrev pub type_of : KernelType → ValueType
type_of kernel_types.Void = types.Void
type_of kernel_types.Long = types.Long
type_of kernel_types.Boolean = types.Boolean
type_of kernel_types.Str = types.Str
type_of kernel_types.Object = an_object
type_of kernel_types.Class = a_class

abbrev pub sig_of_kernel : KernelSig → Sig
sig_of_kernel k = record { result = type_of k.result; params = map type_of k.params.now }

abbrev pub told_sig : Option KernelSig → Option Sig
told_sig None = None
told_sig (Some k) = Some (sig_of_kernel k)
