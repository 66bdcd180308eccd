-- Classes that can be loaded, no block of which searches, are classes of which no body searches but those of the methods that ask.
use Rattle.std.proofs.Common.{◌≡◌, ℕ, inl, inr, Bool, false, List, [], ◌∷◌, ◌++◌, Some, refl, ap, ◌∙◌}
use Rattle.som_model.specs.declared.key.ClassKey.{ClassKey}
use Rattle.som_model.specs.declared.key.MethodRef.{MethodRef}
use Rattle.som_model.specs.declared.syntax.Block.{Block}
use Rattle.som_model.specs.Lists.{Mem, some}
use Rattle.som_model.specs.Class.{Class}
use Rattle.som_model.specs.Kernel.{kernel, som_free}
use Rattle.som_model.specs.Implementation.{Held}
use Rattle.som_model.specs.Implementation as held
use Rattle.som_model.specs.Loads.{Loads}
use Rattle.som_model.specs.Made.{blocks_of, has_search}
use Rattle.som_model.specs.Owner.{owner}
use Rattle.som_semantics.specs.World.{world}
use Rattle.som_model.proofs.NamedLaws.{same_named}
use Rattle.som_model_laws.proofs.Members.{mem_right}
use Rattle.som_code.specs.Laid.{lay_body}
use Rattle.som_machine_laws.specs.Naming.{kernel_calls}
use Rattle.som_machine_laws.proofs.Blocks.{world_block}
use Rattle.som_machine_laws.proofs.KernelCalls.{kernel_own}
use Rattle.som_machine_laws.specs.Searching.{IsDirectBody, IsDirectCode, IsDirectMethod, IsDirectProgram, is_asking}
use Rattle.som_machine_laws.specs.Counted.{AreWithoutHooks, IsSearchFree}
use Rattle.som_machine_laws.proofs.Kernels.{held_quiet, owner_rests}
use Rattle.som_machine_laws.proofs.Laid.{body_direct}
use Rattle.som_machine_laws.proofs.Tests.{none_at, none_passes}

-- none of the methods that a run calls by itself asks
calls_other : some is_asking kernel_calls ≡ false
calls_other = simp same_named

module _ (cs : List Class) (main : Block) (loads : Loads cs main) (silent : some (has_search (kernel ++ cs)) (blocks_of (kernel ++ cs) main) ≡ false) where
  abbrev all : List Class
  all = kernel ++ cs

  call_method : (r : MethodRef) → Mem r kernel_calls → IsDirectMethod (world all) r
  unfolding world
  call_method r m = record { own = (kernel_own cs loads.faces.ordered r m).owner; other = none_passes is_asking kernel_calls calls_other r m }

  free_other : is_asking (owner all som_free) ≡ false
  free_other =
      let m : Mem som_free kernel_calls = inr (inr (inr (inl refl))) in
      ap is_asking (kernel_own cs loads.faces.ordered som_free m).owner ∙ none_passes is_asking kernel_calls calls_other som_free m

  -- the code of each block that may run
  pub block_code : (b : Block) (params : ℕ) → Mem b (blocks_of all main) → IsDirectCode (world all) (lay_body b params)
  unfolding world
  block_code b params m n i e = none_at _ (lay_body b params) (body_direct (owner all) free_other b params (none_passes (has_search all) (blocks_of all main) silent b m)) n i e

  main_mem : Mem main (blocks_of all main)
  main_mem = mem_right main _ (main ∷ []) (inl refl)

  world_rests : (r : MethodRef) → (world all).owner ((world all).owner r) ≡ (world all).owner r
  unfolding world
  world_rests r = owner_rests cs loads.faces.ordered r

  kernel_looks : (k : ClassKey) (r : MethodRef) (name : List ℕ) → (world all).held k r ≡ Some (held.OfKernel name) → is_asking r ≡ false → IsDirectBody (world all) (held.OfKernel name)
  unfolding world
  kernel_looks k r name e other = held_quiet cs loads.faces r name k e other

  body_is : (k : ClassKey) (r : MethodRef) (body : Held) → (world all).held k r ≡ Some body → is_asking r ≡ false → IsDirectBody (world all) body
  body_is k r (held.User b) e other = λ params. block_code b params (world_block all main r b k e)
  body_is k r (held.Get n) e other = tt
  body_is k r (held.Set n) e other = tt
  body_is k r (held.OfKernel name) e other = kernel_looks k r name e other
  body_is k r held.Forward e other = tt
  body_is k r held.Nothing e other = tt

  pub direct_program : IsDirectProgram (world all) main
  direct_program = record {
    classes = record { owners = world_rests; bodies = body_is; calls = call_method };
    code = λ params. block_code main params main_mem;
  }

-- the hooks of classes, as a run asks for them
pub without_hooks : (cs : List Class) (main : Block) (made : ClassKey → Bool) → IsSearchFree (kernel ++ cs) main made → AreWithoutHooks (world (kernel ++ cs)) made
unfolding world
without_hooks cs main made free = free.no_hooks
