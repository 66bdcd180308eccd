-- The code that is written for a body is its code, so it is sound and has the body's effect.
use Rattle.std.proofs.Common.{◌≡◌, ◌-◌, ℕ, List, [], ◌∷◌, ◌++◌, length, slice_get, true, sym, ap, ◌∙◌, subst}
use Rattle.som_model.specs.declared.syntax.Block.{Block}
use Rattle.som_code.specs.declared.instruction.Instruction.{Instruction}
use Rattle.som_code.specs.declared.instruction.Instruction.TheVariants as ops
use Rattle.som_code.specs.Laid.{just, lay_block, lay_body}
use Rattle.som_code.specs.Sound.{is_return, IsSound}
use Rattle.som_code.specs.Same.{HasEffect}
use Rattle.som_code.proofs.Emits.{emits_then}
use Rattle.som_code.proofs.Led.{laid_sound}
use Rattle.som_code.proofs.Stmts.{laid_effect}

module _ (b : Block) (params : ℕ) (c c1 c2 : List Instruction) (e : c ≡ []) (e1 : c1 ≡ c ++ lay_block b params (length c)) (e2 : c2 ≡ c1 ++ ops.Return ∷ []) where
  pub out_laid : c2 ≡ lay_body b params
  out_laid = emits_then (lay_block b params) (just ops.Return) [] c1 c2 (e1 ∙ ap (λ (z : List Instruction). z ++ lay_block b params (length z)) e) e2

  pub out_sound : IsSound c2
  out_sound = subst IsSound (sym out_laid) (laid_sound b params)

-- what code has that is laid out so
pub laid_has_effect : (b : Block) (params : ℕ) (r : List Instruction) → r ≡ lay_body b params → HasEffect r b params
laid_has_effect b params r is = subst (λ z. HasEffect z b params) (sym is) (laid_effect b params)

pub laid_ends : (b : Block) (params : ℕ) (r : List Instruction) → r ≡ lay_body b params → is_return (slice_get r (length r - 1)) ≡ true
laid_ends b params r is = subst (λ (z : List Instruction). is_return (slice_get z (length z - 1)) ≡ true) (sym is) (laid_sound b params).ends
