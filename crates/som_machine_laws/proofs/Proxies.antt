-- A proxy that the code of a block names is one that the block names, so it is among the classes with which the made ones begin.
use Rattle.std.proofs.Common.{◌≡◌, ℕ, inl, List, flat_map, Some, slice_get, refl}
use Rattle.som_model.specs.declared.key.ClassKey.{ClassKey}
use Rattle.som_model.specs.declared.key.ClassKey.TheVariants as keys
use Rattle.som_model.specs.declared.syntax.Block.{Block}
use Rattle.som_model.specs.Lists.{Mem}
use Rattle.som_model.specs.Class.{Class}
use Rattle.som_model.specs.Loads.{keys_of}
use Rattle.som_model.specs.Made.{all_roots, blocks_of, proxies_in}
use Rattle.som_model_laws.proofs.Members.{mem_left, mem_right}
use Rattle.som_model_laws.proofs.Lists.{get_mem, mem_flat}
use Rattle.som_code.specs.declared.instruction.Instruction.TheVariants as ops
use Rattle.som_code.specs.Laid.{lay_body}
use Rattle.som_machine_laws.proofs.Covered.{body_covered}

module _ (cs : List Class) (main : Block) where
  pub proxy_root : (b : Block) (params n : ℕ) (k : ClassKey) → Mem b (blocks_of cs main) → slice_get (lay_body b params) n ≡ Some (ops.Proxy k) → Mem (keys.Proxy k) (all_roots cs main)
  proxy_root b params n k m e =
      let covered = body_covered b params (ops.Proxy k) (get_mem (lay_body b params) n (ops.Proxy k) e) in
      mem_right (keys.Proxy k) (keys_of cs) (flat_map proxies_in (blocks_of cs main)) (mem_flat proxies_in (keys.Proxy k) b (blocks_of cs main) m (covered.proxies (keys.Proxy k) (inl refl)))

  pub class_root : (k : ClassKey) → Mem k (keys_of cs) → Mem k (all_roots cs main)
  class_root k m = mem_left k (keys_of cs) (flat_map proxies_in (blocks_of cs main)) m
