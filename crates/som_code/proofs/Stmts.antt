-- The code of a statement and of a block goes where it says; and so does the code of a body.
use Rattle.std.proofs.Common.{◌≡◌, ◌<◌, ◌≤◌, ◌+◌, ℕ, zero, suc, List, [], ◌∷◌, ◌++◌, map, length, Bool, true, false, if◌then◌else◌, nat_lt, refl, sym, ap, ◌∙◌, subst, arith}
use Rattle.std.proofs.lemmas.Bool.{ltb-true, ltb-false}
use Rattle.std.proofs.lemmas.List.{set_past}
use Rattle.std.specs.Prelude.{slice_set}
use Rattle.som_model.specs.declared.syntax.Expr.{Expr}
use Rattle.som_model.specs.declared.syntax.Stmt.{Stmt, roll-Stmt, fold-roll-Stmt, map-Stmt}
use Rattle.som_model.specs.declared.syntax.Stmt.TheOpen.{Stmt-F, Block-F}
use Rattle.som_model.specs.declared.syntax.Block.{Block, ind-Block, roll-Block, fold-roll-Block, map-Block}
use Rattle.som_model.specs.Kernel.{som_free}
use Rattle.som_semantics.specs.World.{World}
use Rattle.som_semantics.specs.State.{Value, Offset, State}
use Rattle.som_semantics.specs.Runs.{Ran, Goes, Ends, follow, Act}
use Rattle.som_semantics.specs.Acts.{◌>>=◌, ◌>>◌, pure}
use Rattle.som_semantics.specs.Calls.{Calls, Here, class_here, offset_call}
use Rattle.som_semantics.specs.Expressions.{Frame, Evals, is_true, eval}
use Rattle.som_semantics.specs.Statements.{Flow, Next, Return, Returned, Runs, assign, print_value, all_of, stmt_step as run_step, block_step as run_block_step, exec, run_block}
use Rattle.som_semantics.specs.Invoked.{answer_of}
use Rattle.som_code.specs.declared.instruction.Instruction.{Instruction}
use Rattle.som_code.specs.declared.instruction.Instruction.TheVariants as ops
use Rattle.som_code.specs.Machine.{After, On, Over, over, ComesTo}
use Rattle.som_code.specs.Effect.{Conf, conf, beginning, with_local, obey, step}
use Rattle.som_code.specs.Laid.{Bodies, Laid, just, ◌then◌, stmt_step as lay_step, block_step as lay_block_step, lay_choice, lay_all, set_local, lay_expr, lay_stmt, lay_block, lay_body}
use Rattle.som_code.specs.Same.{body_act, HasEffect}
use Rattle.som_code.proofs.Leads.{Leads, follow_assoc, comes}
use Rattle.som_code.proofs.Sits.{Sits, sits_front, sits_back, sits_all}
use Rattle.som_code.proofs.Pieces.{one, puts_one}
use Rattle.som_code.proofs.Exprs.{expr_good}
use Rattle.som_code.proofs.Keeps.{Keeps, keeps_next, keeps_after, keeps_return, keeps_returned, keeps_if, loop_keeps, AtLeast, none_least, next_least, block_keeps, same_length, one_longer, set_length}
use Rattle.som_code.proofs.Flows.{landing, Flows, flows_one, flows_then, flow_on, flows_none, flows_next, flows_block, flows_choice, flows_loop}

local_new : (fr : Frame) (v : Value) → with_local fr (length fr) v ≡ fr ++ v ∷ []
local_new [] v = refl
local_new (x ∷ fr) v = ap (λ l. x ∷ l) (local_new fr v)

local_old : (fr : Frame) (n : ℕ) (v : Value) → n < length fr → with_local fr n v ≡ slice_set fr n v
local_old [] n v h = absurd (omega arith)
local_old (x ∷ fr) zero v h = refl
local_old (x ∷ fr) (suc n) v h = let g : n < length fr = omega arith in ap (λ l. x ∷ l) (local_old fr n v g)

module _ (w : World) (here : Here) (zero_value : Value) (call : Calls) (code : List Instruction) where
  abbrev F : List Value → Runs → Bodies → Type 0
  F = Flows w here zero_value call code

  abbrev ev : Expr → Evals
  ev = eval w call here

  abbrev land : ℕ → List Value → Flow → State → Ran (After Conf Value)
  land = landing w here zero_value call code

  -- a statement's code goes where it says, and keeps count of the locals
  pub record Made (m : Runs) (x : Laid) : Type 0 where
    pub keeps : Keeps m x.adds
    pub flows : F [] m x.lays

  pub record MadeBlock (m : Runs) (x : Bodies) : Type 0 where
    pub keeps : Keeps m 0
    pub flows : F [] m x

  abbrev Fine : Stmt → Type 0
  Fine x = Made (exec w call here x) (lay_stmt x)

  abbrev FineBlock : Block → Type 0
  FineBlock b = MadeBlock (run_block w call here b) (lay_block b)

  abbrev first : List ((x : Stmt) × Fine x) → List Stmt
  first = map (λ e. e.0)

  -- an expression, and then one instruction
  after_expr : (e : Expr) (k : Value → Runs) (i : ℕ → Instruction) → ((v : Value) → F (v ∷ []) (k v) (λ d. just (i d))) → F [] (λ fr. ev e fr >>= λ v. k v fr) (λ d. lay_expr e then just (i d))
  after_expr e k i h = flows_then w here zero_value call code [] (ev e) k (lay_expr e) (λ d. just (i d)) (expr_good w here zero_value call code e) h

  var_fine : (e : Expr) → Made (λ fr. ev e fr >>= λ v. pure (Next (fr ++ v ∷ []))) (record { lays = λ d. lay_expr e then just (ops.Set d); adds = 1 })
  var_fine e = record {
    keeps = keeps_after (ev e) (λ v fr. pure (Next (fr ++ v ∷ []))) 1 (λ v. keeps_next (λ fr. fr ++ v ∷ []) 1 (λ fr. one_longer fr v));
    flows = after_expr e (λ v fr. pure (Next (fr ++ v ∷ []))) (λ d. ops.Set d)
        (λ v. flows_one w here zero_value call code (v ∷ []) (λ fr. pure (Next (fr ++ v ∷ []))) (λ d. ops.Set d)
        (λ a d st fr s l. ap (λ (f : Frame). Goes (On (conf (a + 1) st f)) s) (ap (λ n. with_local fr n v) (sym l) ∙ local_new fr v)));
  }

  -- a local that isn't visible stays unset
  set_does : (n d a : ℕ) (v : Value) (st : List Value) (fr : Frame) (s : State) (b : Bool) → nat_lt n d ≡ b → length fr ≡ d
      → (obey w here zero_value call (if b then ops.Set n else ops.Drop) a (v ∷ st) fr).does s ≡ Goes (On (conf (a + 1) st (slice_set fr n v))) s
  set_does n d a v st fr s true t l = ap (λ (f : Frame). Goes (On (conf (a + 1) st f)) s) (local_old fr n v (subst (λ k. n < k) (sym l) (ltb-true n d t)))
  set_does n d a v st fr s false t l = ap (λ (f : Frame). Goes (On (conf (a + 1) st f)) s) (sym (set_past fr n v (subst (λ k. k ≤ n) (sym l) (ltb-false n d t))))

  set_fine : (n : ℕ) (e : Expr) → Made (λ fr. ev e fr >>= λ v. pure (Next (slice_set fr n v))) (record { lays = λ d. lay_expr e then just (set_local n d); adds = 0 })
  set_fine n e = record {
    keeps = keeps_after (ev e) (λ v fr. pure (Next (slice_set fr n v))) 0 (λ v. keeps_next (λ fr. slice_set fr n v) 0 (λ fr. set_length fr n v ∙ same_length fr));
    flows = after_expr e (λ v fr. pure (Next (slice_set fr n v))) (λ d. set_local n d)
        (λ v. flows_one w here zero_value call code (v ∷ []) (λ fr. pure (Next (slice_set fr n v))) (λ d. set_local n d)
        (λ a d st fr s l. set_does n d a v st fr s (nat_lt n d) refl l));
  }

  keeps_same : Keeps (λ fr. pure (Next fr)) 0
  keeps_same = keeps_next (λ fr. fr) 0 same_length

  variable_fine : (n : ℕ) (e : Expr) → Made (λ fr. ev e fr >>= λ v. assign here.place (class_here here) n here.me v >> pure (Next fr)) (record { lays = λ d. lay_expr e then just (ops.SetVariable n); adds = 0 })
  variable_fine n e =
      let act : Value → Act (Unit {0}) = assign here.place (class_here here) n here.me in
      record {
        keeps = keeps_after (ev e) (λ v fr. act v >> pure (Next fr)) 0 (λ v. keeps_after (λ fr. act v) (λ _ fr. pure (Next fr)) 0 (λ _. keeps_same));
        flows = after_expr e (λ v fr. act v >> pure (Next fr)) (λ d. ops.SetVariable n)
            (λ v. flows_one w here zero_value call code (v ∷ []) (λ fr. act v >> pure (Next fr)) (λ d. ops.SetVariable n)
            (λ a d st fr s l. sym (follow_assoc ((act v).does s) (λ _ u. Goes (Next fr) u) (land (a + 1) st))));
      }

  return_fine : Made (λ fr. pure Return) (record { lays = λ d. just ops.Return; adds = 0 })
  return_fine = record { keeps = keeps_return 0; flows = flows_one w here zero_value call code [] (λ fr. pure Return) (λ d. ops.Return) (λ a d st fr s l. refl) }

  returned_fine : (e : Expr) → Made (λ fr. ev e fr >>= λ v. pure (Returned v)) (record { lays = λ d. lay_expr e then just ops.ReturnValue; adds = 0 })
  returned_fine e = record {
    keeps = keeps_after (ev e) (λ v fr. pure (Returned v)) 0 (λ v. keeps_returned v 0);
    flows = after_expr e (λ v fr. pure (Returned v)) (λ d. ops.ReturnValue)
        (λ v. flows_one w here zero_value call code (v ∷ []) (λ fr. pure (Returned v)) (λ d. ops.ReturnValue) (λ a d st fr s l. refl));
  }

  print_fine : (e : Expr) → Made (λ fr. ev e fr >>= λ v. print_value v >> pure (Next fr)) (record { lays = λ d. lay_expr e then just ops.Print; adds = 0 })
  print_fine e = record {
    keeps = keeps_after (ev e) (λ v fr. print_value v >> pure (Next fr)) 0 (λ v. keeps_after (λ fr. print_value v) (λ _ fr. pure (Next fr)) 0 (λ _. keeps_same));
    flows = after_expr e (λ v fr. print_value v >> pure (Next fr)) (λ d. ops.Print)
        (λ v. flows_one w here zero_value call code (v ∷ []) (λ fr. print_value v >> pure (Next fr)) (λ d. ops.Print) (λ a d st fr s l. refl));
  }

  -- the top is taken off
  drop_flows : (v : Value) → F (v ∷ []) (λ fr. pure (Next fr)) (λ d. just ops.Drop)
  drop_flows v = flows_one w here zero_value call code (v ∷ []) (λ fr. pure (Next fr)) (λ d. ops.Drop) (λ a d st fr s l. refl)

  call_fine : (e : Expr) → Made (λ fr. ev e fr >>= λ v. pure (Next fr)) (record { lays = λ d. lay_expr e then just ops.Drop; adds = 0 })
  call_fine e = record {
    keeps = keeps_after (ev e) (λ v fr. pure (Next fr)) 0 (λ v. keeps_same);
    flows = after_expr e (λ v fr. pure (Next fr)) (λ d. ops.Drop) drop_flows;
  }

  free_fine : (e : Expr) → Made (λ fr. ev e fr >>= λ v. offset_call w call here.place Offset som_free v [] >> pure (Next fr)) (record { lays = λ d. lay_expr e then (just (ops.OffsetCall som_free 0) then just ops.Drop); adds = 0 })
  free_fine e =
      let act : Value → Act Value = λ v. offset_call w call here.place Offset som_free v [] in
      record {
        keeps = keeps_after (ev e) (λ v fr. act v >> pure (Next fr)) 0 (λ v. keeps_after (λ fr. act v) (λ _ fr. pure (Next fr)) 0 (λ _. keeps_same));
        flows = flows_then w here zero_value call code [] (ev e) (λ v fr. act v >> pure (Next fr)) (lay_expr e) (λ d. just (ops.OffsetCall som_free 0) then just ops.Drop) (expr_good w here zero_value call code e)
            (λ v. flows_then w here zero_value call code (v ∷ []) (λ fr. act v) (λ _ fr. pure (Next fr)) (just (ops.OffsetCall som_free 0)) (λ d. just ops.Drop)
            (puts_one w here zero_value call code (v ∷ []) (λ fr. act v) (ops.OffsetCall som_free 0) (λ a st fr s. refl)) drop_flows);
      }

  if_fine : (c : Expr) (m m' : Runs) (x y : Bodies) → MadeBlock m x → MadeBlock m' y
      → Made (λ fr. ev c fr >>= λ v. if is_true v then m fr else m' fr) (lay_step (Stmt-F.If c x y))
  if_fine c m m' x y p q = record {
    keeps = keeps_after (ev c) (λ v fr. if is_true v then m fr else m' fr) 0 (λ v. keeps_if (is_true v) m m' 0 p.keeps q.keeps);
    flows = flows_then w here zero_value call code [] (ev c) (λ v fr. if is_true v then m fr else m' fr) (lay_expr c) (λ d. lay_choice (x d) (y d)) (expr_good w here zero_value call code c)
        (λ v. flows_choice w here zero_value call code v m m' x y p.flows q.flows);
  }

  layer : (y : Stmt-F ((x : Stmt) × Fine x) ((b : Block) × FineBlock b))
      → Made (run_step w call here (map-Stmt _ _ _ _ (exec w call here) (run_block w call here) (map-Stmt _ _ _ _ (λ e. e.0) (λ e. e.0) y))) (lay_step (map-Stmt _ _ _ _ lay_stmt lay_block (map-Stmt _ _ _ _ (λ e. e.0) (λ e. e.0) y)))
  layer (Stmt-F.Var kind e) = record { keeps = (var_fine e).keeps; flows = (var_fine e).flows }
  layer (Stmt-F.SetLocal n e) = record { keeps = (set_fine n e).keeps; flows = (set_fine n e).flows }
  layer (Stmt-F.SetVariable n e) = record { keeps = (variable_fine n e).keeps; flows = (variable_fine n e).flows }
  layer (Stmt-F.If c x y) = let p = if_fine c (run_block w call here x.0) (run_block w call here y.0) (lay_block x.0) (lay_block y.0) x.1 y.1 in record { keeps = p.keeps; flows = p.flows }
  layer (Stmt-F.While c x) = record {
    keeps = loop_keeps (ev c) (run_block w call here x.0) x.1.keeps;
    flows = flows_loop w here zero_value call code (ev c) (lay_expr c) (expr_good w here zero_value call code c) (run_block w call here x.0) (lay_block x.0) x.1.keeps x.1.flows;
  }
  layer Stmt-F.Return = record { keeps = return_fine.keeps; flows = return_fine.flows }
  layer (Stmt-F.ReturnValue e) = record { keeps = (returned_fine e).keeps; flows = (returned_fine e).flows }
  layer (Stmt-F.Print e) = record { keeps = (print_fine e).keeps; flows = (print_fine e).flows }
  layer (Stmt-F.Free e) = record { keeps = (free_fine e).keeps; flows = (free_fine e).flows }
  layer (Stmt-F.Call e) = record { keeps = (call_fine e).keeps; flows = (call_fine e).flows }

  all_flow : (xs : List ((x : Stmt) × Fine x)) → F [] (all_of (map (exec w call here) (first xs))) (lay_all (map lay_stmt (first xs)))
  all_flow [] = flows_none w here zero_value call code
  all_flow (x ∷ xs) = flows_next w here zero_value call code (exec w call here x.0) (lay_stmt x.0) (map (exec w call here) (first xs)) (map lay_stmt (first xs)) x.1.keeps x.1.flows (all_flow xs)

  all_least : (xs : List ((x : Stmt) × Fine x)) → AtLeast (all_of (map (exec w call here) (first xs)))
  all_least [] = none_least
  all_least (x ∷ xs) = next_least (exec w call here x.0) (lay_stmt x.0).adds (map (exec w call here) (first xs)) x.1.keeps (all_least xs)

  block_layer : (y : Block-F ((x : Stmt) × Fine x) ((b : Block) × FineBlock b))
      → MadeBlock (run_block_step (map-Block _ _ _ _ (exec w call here) (run_block w call here) (map-Block _ _ _ _ (λ e. e.0) (λ e. e.0) y))) (lay_block_step (map-Block _ _ _ _ lay_stmt lay_block (map-Block _ _ _ _ (λ e. e.0) (λ e. e.0) y)))
  block_layer y = record {
    keeps = block_keeps (map (exec w call here) (first y.statements)) (all_least y.statements);
    flows = flows_block w here zero_value call code (map (exec w call here) (first y.statements)) (map lay_stmt (first y.statements)) (all_flow y.statements);
  }

  from_stmt : (x : Stmt-F Stmt Block) (y : Stmt-F ((s : Stmt) × Fine s) ((b : Block) × FineBlock b)) → map-Stmt _ _ _ _ (λ e. e.0) (λ e. e.0) y ≡ x → Fine (roll-Stmt x)
  from_stmt x y is = subst (λ (r : Runs). Made r (lay_stmt (roll-Stmt x))) (sym (fold-roll-Stmt Runs Runs (run_step w call here) run_block_step x))
      (subst (λ (l : Laid). Made (run_step w call here (map-Stmt Stmt Block Runs Runs (exec w call here) (run_block w call here) x)) l) (sym (fold-roll-Stmt Laid Bodies lay_step lay_block_step x))
      (subst (λ z. Made (run_step w call here (map-Stmt Stmt Block Runs Runs (exec w call here) (run_block w call here) z)) (lay_step (map-Stmt Stmt Block Laid Bodies lay_stmt lay_block z))) is (layer y)))

  from_block : (x : Block-F Stmt Block) (y : Block-F ((s : Stmt) × Fine s) ((b : Block) × FineBlock b)) → map-Block _ _ _ _ (λ e. e.0) (λ e. e.0) y ≡ x → FineBlock (roll-Block x)
  from_block x y is = subst (λ (r : Runs). MadeBlock r (lay_block (roll-Block x))) (sym (fold-roll-Block Runs Runs (run_step w call here) run_block_step x))
      (subst (λ (l : Bodies). MadeBlock (run_block_step (map-Block Stmt Block Runs Runs (exec w call here) (run_block w call here) x)) l) (sym (fold-roll-Block Laid Bodies lay_step lay_block_step x))
      (subst (λ z. MadeBlock (run_block_step (map-Block Stmt Block Runs Runs (exec w call here) (run_block w call here) z)) (lay_block_step (map-Block Stmt Block Laid Bodies lay_stmt lay_block z))) is (block_layer y)))

  pub block_fine : (b : Block) → FineBlock b
  block_fine = ind-Block Fine FineBlock from_stmt from_block

-- the code of a body leads to where the block leads as a body
body_leads : (w : World) (here : Here) (zero_value : Value) (call : Calls) (b : Block) (args : List Value) (s : State)
    → Leads (step w here zero_value call (lay_body b (length args))) (beginning args) s (follow ((run_block w call here b args).does s) (λ flow t. Goes (Over (answer_of zero_value flow)) t))
body_leads w here zero_value call b args s =
    let code : List Instruction = lay_body b (length args) in
    let x : List Instruction = lay_block b (length args) 0 in
    let all : Sits code 0 (x ++ ops.Return ∷ []) = sits_all code in
    flow_on w here zero_value call code (beginning args) s ((run_block w call here b args).does s) (0 + length x) [] (λ flow u. Goes (Over (answer_of zero_value flow)) u)
    ((block_fine w here zero_value call code b).flows.by 0 (length args) [] args s refl (sits_front code 0 x (ops.Return ∷ []) all))
    (λ fr u _. one w here zero_value call code ops.Return (conf (0 + length x) [] fr) u (sits_back code 0 x (ops.Return ∷ []) all).0)
    (λ u. refl) (λ v u. refl)

over_follow : (zero_value : Value) (r : Ran Flow) → ◌≡◌ {A = Ran (After Conf Value)} (follow r (λ flow t. Goes (Over (answer_of zero_value flow)) t)) (over (follow r (λ flow t. Goes (answer_of zero_value flow) t)))
over_follow zero_value (Goes flow s) = refl
over_follow zero_value (Ends c s) = refl

as_many : (b : Block) (args : List Value) (params : ℕ) → length args ≡ params
    → (w : World) (call : Calls) (here : Here) (zero_value : Value) (s : State) → ComesTo (step w here zero_value call (lay_body b params)) (beginning args) s ((body_act w call here zero_value b args).does s)
as_many b args params e w call here zero_value s =
    subst (λ n. ComesTo (step w here zero_value call (lay_body b n)) (beginning args) s ((body_act w call here zero_value b args).does s)) e
    (comes (step w here zero_value call (lay_body b (length args))) (beginning args) s ((body_act w call here zero_value b args).does s)
    (subst (Leads (step w here zero_value call (lay_body b (length args))) (beginning args) s) (over_follow zero_value ((run_block w call here b args).does s))
    (body_leads w here zero_value call b args s)))

-- code that is laid out has the effect of its block
pub laid_effect : (b : Block) (params : ℕ) → HasEffect (lay_body b params) b params
laid_effect b params = record { by = λ w call here zero_value args s e. as_many b args params e w call here zero_value s }
