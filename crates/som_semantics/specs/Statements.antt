-- What statements mean.
use Rattle.std.specs.Prelude.{ℕ, zero, suc, Bool, true, false, List, [], ◌∷◌, ◌++◌, if◌then◌else◌, length, take, slice_set}
use Rattle.std.proofs.Common.{◌≡◌, ◌+◌, subst, arith}
use Rattle.som_model.specs.declared.syntax.Stmt.{Stmt, fold-Stmt}
use Rattle.som_model.specs.declared.syntax.Stmt.TheOpen.{Stmt-F, Block-F}
use Rattle.som_model.specs.declared.syntax.Block.{Block, fold-Block}
use Rattle.som_model.specs.declared.key.ClassKey.{ClassKey}
use Rattle.som_model.specs.declared.program.Fault.TheVariants as faults
use Rattle.som_model.specs.Kernel.{som_free}
use Rattle.som_semantics.specs.World.{World}
use Rattle.som_semantics.specs.State.{Value, To, Place, Offset, Printed, live, write}
use Rattle.som_semantics.specs.Runs.{Act}
use Rattle.som_semantics.specs.Acts.{◌>>=◌, ◌>>◌, pure, fault, asked, take_unit, become, write_stays, emit, bounded, Grown, Extends, itself, bind_extends, after_no_unit, after_unit}
use Rattle.som_semantics.specs.Values.{text_of}
use Rattle.som_semantics.specs.Calls.{Calls, Here, class_here, offset_call}
use Rattle.som_semantics.specs.Expressions.{Frame, Evals, eval, is_true}

-- after a statement: the next one, or a return
pub data Flow : Type 0 where
  Next : Frame → Flow
  Return : Flow
  Returned : Value → Flow

-- what a statement or a block does
abbrev pub Runs : Type 0
Runs = Frame → Act Flow

-- the rest runs unless the body has returned
abbrev pub go_on : Flow → Runs → Act Flow
go_on (Next frame) rest = rest frame
go_on Return rest = pure Return
go_on (Returned v) rest = pure (Returned v)

-- self's variable n of a class becomes v, where self is live
abbrev pub assign : Place → ClassKey → ℕ → Value → Value → Act (Unit {0})
assign at k n (To r) v = asked at (λ h. live h r) >> become (write r k n v) (write_stays r k n v)
assign at k n _ v = fault faults.Nil at

-- the text of a value is printed
abbrev pub print_value : Value → Act (Unit {0})
print_value v = emit (Printed (text_of v))

-- a turn: where the condition is TRUE, a unit is taken, the block is run, and the rest follows
abbrev pub turn : Evals → Runs → Runs → Runs
turn condition body rest frame = do
  v ← condition frame
  if is_true v then (take_unit >> (body frame >>= λ flow. go_on flow rest)) else pure (Next frame)

-- a loop that goes on after so many turns as if its condition were FALSE
abbrev pub turns : ℕ → Evals → Runs → Runs
turns zero condition body = turn condition body (λ frame. pure (Next frame))
turns (suc n) condition body = turn condition body (turns n condition body)

-- a loop of more turns does what it did in fewer, and more, where there is as much fuel more
bool_extends : {A : Type 0} (b k : ℕ) (c : Bool) (x x' y : Act A) → Extends b k x x' → Extends b k (if c then x else y) (if c then x' else y)
bool_extends b k true x x' y h = h
bool_extends b k false x x' y h = itself b k y

go_on_extends : (b k : ℕ) (flow : Flow) (r r' : Runs) → ((frame : Frame) → Extends b k (r frame) (r' frame)) → Extends b k (go_on flow r) (go_on flow r')
go_on_extends b k (Next frame) r r' h = h frame
go_on_extends b k Return r r' h = itself b k (pure Return)
go_on_extends b k (Returned v) r r' h = itself b k (pure (Returned v))

module _ (c : Evals) (body : Runs) where
  no_fuel_turn : (k : ℕ) (r r' : Runs) (frame : Frame) → Extends 0 k (turn c body r frame) (turn c body r' frame)
  no_fuel_turn k r r' frame = bind_extends 0 k _ _ _ _ (itself 0 k (c frame)) (λ v. bool_extends 0 k (is_true v) _ _ _ (after_no_unit k _ _))

  turn_extends : (b k : ℕ) (r r' : Runs) (frame : Frame) → ((f : Frame) → Extends b k (r f) (r' f)) → Extends (suc b) k (turn c body r frame) (turn c body r' frame)
  turn_extends b k r r' frame h =
      bind_extends (suc b) k _ _ _ _ (itself (suc b) k (c frame)) (λ v. bool_extends (suc b) k (is_true v) _ _ _
      (after_unit b k _ _ (bind_extends b k _ _ _ _ (itself b k (body frame)) (λ flow. go_on_extends b k flow r r' h))))

  no_turns : (k m : ℕ) (frame : Frame) → Extends 0 k (turns zero c body frame) (turns m c body frame)
  no_turns k zero frame = no_fuel_turn k _ _ frame
  no_turns k (suc m) frame = no_fuel_turn k _ _ frame

  turns_more : (k n : ℕ) (frame : Frame) → Extends n k (turns n c body frame) (turns (n + k) c body frame)
  turns_more k zero frame = no_turns k (0 + k) frame
  turns_more k (suc n) frame =
      let e : suc (n + k) ≡ suc n + k = omega arith in
      subst (λ m. Extends (suc n) k (turns (suc n) c body frame) (turns m c body frame)) e (turn_extends n k _ _ frame (turns_more k n))

  pub turns_grown : (frame : Frame) → Grown (λ n. turns n c body frame)
  turns_grown frame = record { by = λ k n. turns_more k n frame }

-- `while`: as many turns as there is fuel are all turns, since each takes a unit
abbrev pub while_loop : Evals → Runs → Runs
while_loop condition body frame = bounded (λ n. turns n condition body frame) (turns_grown condition body frame)

-- statements one after the other
abbrev pub all_of : List Runs → Runs
all_of [] frame = pure (Next frame)
all_of (r ∷ rs) frame = do
  flow ← r frame
  go_on flow (all_of rs)

-- the block's own locals end with it
abbrev pub leave : ℕ → Flow → Flow
leave n (Next frame) = Next (take n frame)
leave n Return = Return
leave n (Returned v) = Returned v

-- a block, by what its statements do
abbrev pub block_step : Block-F Runs Runs → Runs
block_step b frame = do
  flow ← all_of b.statements frame
  pure (leave (length frame) flow)

module _ (w : World) (call : Calls) (here : Here) where
  -- a statement, by what its blocks do
  abbrev pub stmt_step : Stmt-F Runs Runs → Runs
  stmt_step (Stmt-F.Var kind e) frame = do
    v ← eval w call here e frame
    pure (Next (frame ++ v ∷ []))
  stmt_step (Stmt-F.SetLocal n e) frame = do
    v ← eval w call here e frame
    pure (Next (slice_set frame n v))
  stmt_step (Stmt-F.SetVariable n e) frame = do
    v ← eval w call here e frame
    assign here.place (class_here here) n here.me v
    pure (Next frame)
  stmt_step (Stmt-F.If c x y) frame = do
    v ← eval w call here c frame
    if is_true v then x frame else y frame
  stmt_step (Stmt-F.While c b) frame = while_loop (eval w call here c) b frame
  stmt_step Stmt-F.Return frame = pure Return
  stmt_step (Stmt-F.ReturnValue e) frame = do
    v ← eval w call here e frame
    pure (Returned v)
  stmt_step (Stmt-F.Print e) frame = do
    v ← eval w call here e frame
    print_value v
    pure (Next frame)
  stmt_step (Stmt-F.Free e) frame = do
    v ← eval w call here e frame
    offset_call w call here.place Offset som_free v []
    pure (Next frame)
  stmt_step (Stmt-F.Call e) frame = do
    v ← eval w call here e frame
    pure (Next frame)

  -- what a statement does
  abbrev pub exec : Stmt → Runs
  exec = fold-Stmt Runs Runs stmt_step block_step

  -- what a block does
  abbrev pub run_block : Block → Runs
  run_block = fold-Block Runs Runs stmt_step block_step
