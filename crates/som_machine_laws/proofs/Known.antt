-- What the blocks of classes that can be loaded name is there, and so is what their code names.
use Rattle.std.proofs.Common.{◌≡◌, ℕ, inl, inr, List, [], ◌∷◌, ◌++◌, flat_map, Some, IsSome, slice_get, refl, sym, ap, subst}
use Rattle.std.specs.Prelude.{is_some}
use Rattle.som_model.specs.declared.key.MethodRef.{MethodRef}
use Rattle.som_model.specs.declared.key.ValueType.{ValueType}
use Rattle.som_model.specs.declared.key.ValueType.TheVariants as types
use Rattle.som_model.specs.declared.syntax.Block.{Block}
use Rattle.som_model.specs.declared.class.Sig.{Sig}
use Rattle.som_model.specs.Lists.{Mem}
use Rattle.som_model.specs.Class.{Class}
use Rattle.som_model.specs.Kernel.{kernel, som_free}
use Rattle.som_model.specs.Loads.{IsOrdered, Loads, keys_of}
use Rattle.som_model.specs.Made.{blocks_of, blocks_of_class}
use Rattle.som_model.specs.Named.{Named, AClass, AMethod, AProxy, block_names, method_names}
use Rattle.som_model.specs.Owner.{owner, sig_of}
use Rattle.som_model.specs.Typing.{ClassFacts, running_facts}
use Rattle.som_semantics.specs.World.{world}
use Rattle.som_model_laws.proofs.Members.{mem_split}
use Rattle.som_model_laws.proofs.Lists.{get_mem, mem_map, flat_mem}
use Rattle.som_release_laws.specs.Refining.{AreKnown}
use Rattle.som_release_laws.proofs.Prefix.{signature_entry}
use Rattle.som_release_laws.proofs.TypedClasses.{main_carried}
use Rattle.som_proxy_uses.proofs.Known.{class_block, class_known, declared, known_is, same}
use Rattle.som_code.specs.declared.instruction.Instruction.{Instruction}
use Rattle.som_code.specs.declared.instruction.Instruction.TheVariants as ops
use Rattle.som_code.specs.Laid.{lay_body}
use Rattle.som_machine_laws.specs.Naming.{AreNaming, AreSigned, HasEntry, HasSignature, IsNaming, IsOfDeclared, IsSigned, kernel_calls}
use Rattle.som_machine_laws.proofs.Pieces.{named_by}
use Rattle.som_machine_laws.proofs.Covered.{body_covered}
use Rattle.som_machine_laws.proofs.KernelCalls.{kernel_own, object_class}

-- ---- what an instruction names is there where each of its names is

-- a method has an entry in its class, and a signature at its owner
pub record IsMethod (all : List Class) (r : MethodRef) : Type 0 where
  pub entry : HasEntry all r
  pub sig : IsSome (sig_of all (owner all r))

-- what a name stands for is there
abbrev IsThere : List Class → Named → Type 0
IsThere all (AClass k) = Mem k (keys_of all)
IsThere all (AMethod r) = IsMethod all r
IsThere all (AProxy k) = Unit {0}

kind_there : (all : List Class) (kind : ValueType) (n : List ℕ) (m : ℕ) → ((x : Named) → Mem x (named_by (ops.Lookup kind n m)) → IsThere all x) → IsOfDeclared all kind
kind_there all (types.Class k) n m h = h (AClass k) (inl refl)
kind_there all _ n m h = tt

naming : (all : List Class) (i : Instruction) → ((n : Named) → Mem n (named_by i) → IsThere all n) → IsNaming all i
naming all (ops.New k) h = h (AClass k) (inl refl)
naming all (ops.Class k) h = h (AClass k) (inl refl)
naming all (ops.Cast k) h = h (AClass k) (inl refl)
naming all (ops.Isa k) h = h (AClass k) (inl refl)
naming all (ops.Proxy k) h = h (AClass k) (inl refl)
naming all (ops.OffsetCall r n) h = (h (AMethod r) (inr (inl refl))).entry
naming all (ops.Lookup kind name n) h = kind_there all kind name n h
naming all (ops.Dispatch kind name n) h = kind_there all kind name n h
naming all (ops.ParentCall p r n) h = (h (AMethod r) (inr (inl refl))).entry
naming all (ops.ParentsCall r n) h = (h (AMethod r) (inr (inl refl))).entry
naming all _ h = tt

sig_there : (all : List Class) (r : MethodRef) → IsSome (sig_of all (owner all r)) → HasSignature (world all) r
unfolding world
sig_there all r e = e

signing : (all : List Class) (i : Instruction) → ((n : Named) → Mem n (named_by i) → IsThere all n) → IsSigned (world all) i
signing all (ops.OffsetCall r n) h = sig_there all r (h (AMethod r) (inr (inl refl))).sig
signing all (ops.ParentCall p r n) h = sig_there all r (h (AMethod r) (inr (inl refl))).sig
signing all (ops.ParentsCall r n) h = sig_there all r (h (AMethod r) (inr (inl refl))).sig
signing all _ h = tt

module _ (cs : List Class) (main : Block) (l : Loads cs main) where
  abbrev all : List Class
  all = kernel ++ cs

  abbrev o : IsOrdered cs
  o = l.faces.ordered

  abbrev w : ClassFacts
  w = running_facts all

  -- what has a signature has an entry
  method_is_there : (m : MethodRef) (s : Sig) → w.signature m ≡ Some s → IsMethod all m
  unfolding running_facts
  method_is_there m s e = record { entry = ap is_some (signature_entry all m.class m.name s e).1; sig = ap is_some e }

  there_of : (ns : List Named) → AreKnown w ns → (n : Named) → Mem n ns → IsThere all n
  there_of ns a (AClass k) m = declared cs main l k (known_is cs main l k (a.classes k m))
  there_of ns a (AMethod r) m = let s = a.methods r m in method_is_there r s.0 s.1
  there_of ns a (AProxy k) m = tt

  -- what a block names is there
  block_there : (b : Block) → Mem b (blocks_of all main) → (n : Named) → Mem n (block_names b) → IsThere all n
  block_there b m n at = elim (mem_split b (flat_map blocks_of_class cs) (main ∷ []) m) [
    | inl x ↦ (let r = flat_mem blocks_of_class b cs x in there_of _ (class_known cs main l r.0 r.1) n (class_block r.0 b n r.2 at))
    | inr x ↦ elim x [
      | inl is ↦ there_of (block_names main) (main_carried w w (same cs main l) main l.main_typed).1 n (subst (λ z. Mem n (block_names z)) is at)
      | inr z ↦ absurd z
    ]
  ]

  free_is : IsMethod all som_free
  free_is = let own = kernel_own cs o som_free (inr (inr (inr (inl refl)))) in record { entry = own.entry; sig = subst (λ z. IsSome (sig_of all z)) (sym own.owner) own.sig }

  free_there : (n : Named) → Mem n (method_names som_free) → IsThere all n
  free_there n (inl e) = subst (λ z. IsThere all z) (sym e) (mem_map (λ (c : Class). c.key) object_class all (inl refl))
  free_there n (inr (inl e)) = subst (λ z. IsThere all z) (sym e) free_is
  free_there n (inr (inr m)) = absurd m

  instruction_there : (b : Block) (params : ℕ) → Mem b (blocks_of all main) → (k : ℕ) (i : Instruction) → slice_get (lay_body b params) k ≡ Some i → (n : Named) → Mem n (named_by i) → IsThere all n
  instruction_there b params m k i e n at =
      let covered = body_covered b params i (get_mem (lay_body b params) k i e) in
      elim (covered.names n at) [ inl x ↦ block_there b m n x | inr x ↦ free_there n x ]

  -- and so is what its code names
  pub code_there : (b : Block) (params : ℕ) → Mem b (blocks_of all main) → AreNaming all (lay_body b params)
  code_there b params m k i e = naming all i (instruction_there b params m k i e)

  -- and what it calls has a signature
  pub code_signed : (b : Block) (params : ℕ) → Mem b (blocks_of all main) → AreSigned (world all) (lay_body b params)
  code_signed b params m k i e = signing all i (instruction_there b params m k i e)

  -- as has each of the kernel's methods that a run calls by itself
  pub kernel_signed : (r : MethodRef) → Mem r kernel_calls → HasSignature (world all) r
  kernel_signed r m = let own = kernel_own cs o r m in sig_there all r (subst (λ z. IsSome (sig_of all z)) (sym own.owner) own.sig)
