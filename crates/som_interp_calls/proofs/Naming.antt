-- What the codes of a task name, among the classes of a kernel.
use Rattle.std.proofs.Common.{◌≡◌, ◌<◌, ℕ, zero, suc, Bool, List, [], ◌∷◌, length, slice_get, Some, ap, arith}
use Rattle.std.proofs.lemmas.Option.{none-some}
use Rattle.som_model.specs.declared.key.ClassKey.{ClassKey}
use Rattle.som_model.specs.declared.key.MethodRef.{MethodRef}
use Rattle.som_model.specs.declared.syntax.Block.{Block}
use Rattle.som_model.specs.Kernel.{som_object}
use Rattle.som_semantics.specs.World.{World}
use Rattle.som_code.specs.declared.instruction.Instruction.{Instruction}
use Rattle.som_code.specs.declared.instruction.Instruction.TheVariants as ops
use Rattle.som_machine_laws.specs.Naming.{HasEntry, IsNaming}
use Rattle.som_code_cache.specs.Coded.{AreCodes, Coded, codes_of}
use Rattle.som_meta.specs.Numbering.{Numbering}
use Rattle.som_values.specs.Shown.{IsKey, IsNumbered, key_of}
use Rattle.som_interp_state.specs.Settings.{Linked, code_at, instruction_at}
use Rattle.som_interp_state.specs.Asked.{Agree, CanLoad, HaveNumbers}
use Rattle.som_interp_loop.specs.Scene.{IsFineCode}
use Rattle.som_interp_loop.proofs.Fine.{are_fine, class_numbered}

nothing_there : (at : ℕ) (i : Instruction) → slice_get [] at ≡ Some i → ⊥
nothing_there zero i e = none-some i e
nothing_there (suc n) i e = none-some i e

-- where an instruction stands, there is a code
pub code_has : (codes : List (List Instruction)) (n at : ℕ) (i : Instruction) → instruction_at codes n at ≡ Some i → n < length codes
code_has [] zero at i e = absurd (nothing_there at i e)
code_has [] (suc n) at i e = absurd (nothing_there at i e)
code_has (c ∷ cs) zero at i e = omega arith
code_has (c ∷ cs) (suc n) at i e = let lt = code_has cs n at i e in omega (arith, lt)

module _ (ks : List ClassKey) (w : World) (k : Numbering) (l : Linked) (main : Block) (made : ClassKey → Bool) (agree : Agree ks w k l) (can : CanLoad k.classes main) (have : HaveNumbers ks k.classes main made) where
  -- SOMObject has the first number
  pub root_number : IsNumbered ks 0 × (key_of ks 0 ≡ som_object)
  root_number = agree.first 0 _ (ap (λ z. slice_get z 0) can.is)

  module _ (cs : List Coded) (codes : AreCodes k main cs) (n at : ℕ) where
    -- the code at an instruction is fine
    pub fine_at : (i : Instruction) → instruction_at (codes_of cs) n at ≡ Some i → IsFineCode ks w k.classes (code_at (codes_of cs) n)
    fine_at i e = are_fine ks w k l main agree can cs codes made have n (code_has (codes_of cs) n at i e)

    -- an instruction names what is there
    pub naming_at : (i : Instruction) → instruction_at (codes_of cs) n at ≡ Some i → IsNaming k.classes i
    naming_at i e = (fine_at i e).naming at i e

    -- the class that a `new` names has a number
    pub new_key : (key : ClassKey) → instruction_at (codes_of cs) n at ≡ Some (ops.New key) → IsKey ks key
    new_key key e = class_numbered ks k main made have key (naming_at (ops.New key) e)

    -- the method that a call of all parents names has an entry
    pub parents_entry : (method : MethodRef) (count : ℕ) → instruction_at (codes_of cs) n at ≡ Some (ops.ParentsCall method count) → HasEntry k.classes method
    parents_entry method count e = naming_at (ops.ParentsCall method count) e

    pub offset_entry : (method : MethodRef) (count : ℕ) → instruction_at (codes_of cs) n at ≡ Some (ops.OffsetCall method count) → HasEntry k.classes method
    offset_entry method count e = naming_at (ops.OffsetCall method count) e

    pub parent_entry : (p : ℕ) (method : MethodRef) (count : ℕ) → instruction_at (codes_of cs) n at ≡ Some (ops.ParentCall p method count) → HasEntry k.classes method
    parent_entry p method count e = naming_at (ops.ParentCall p method count) e
