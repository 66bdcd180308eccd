-- What code has to have in common with its block.
use Rattle.std.specs.Prelude.{◌≡◌, ℕ, List, length}
use Rattle.som_code.specs.declared.instruction.Instruction.{Instruction}
use Rattle.som_code.specs.Machine.{ComesTo}
use Rattle.som_code.specs.Effect.{beginning, step}
use Rattle.som_model.specs.declared.syntax.Block.{Block}
use Rattle.som_semantics.specs.World.{World}
use Rattle.som_semantics.specs.State.{Value, State}
use Rattle.som_semantics.specs.Runs.{Act}
use Rattle.som_semantics.specs.Acts.{◌>>=◌, pure}
use Rattle.som_semantics.specs.Calls.{Calls, Here}
use Rattle.som_semantics.specs.Statements.{run_block}
use Rattle.som_semantics.specs.Invoked.{answer_of}

-- what a block does as a body with these parameters: where it ends without a value, it answers this one
abbrev pub body_act : World → Calls → Here → Value → Block → List Value → Act Value
body_act w call here zero_value block args = run_block w call here block args >>= λ flow. pure (answer_of zero_value flow)

-- code has the effect of a block as a body of so many parameters: among all classes, whatever calls do, from every self, class and method, state, fuel and list of parameters. Main has no parameters, and its answer is not looked at
pub record HasEffect (code : List Instruction) (block : Block) (params : ℕ) : Type 0 where
  pub by : (w : World) (call : Calls) (here : Here) (zero_value : Value) (args : List Value) (s : State) → length args ≡ params
      → ComesTo (step w here zero_value call code) (beginning args) s ((body_act w call here zero_value block args).does s)
