-- The code of a body, on frames, comes to what it does where its calls are those of the meaning.
use Rattle.std.proofs.Common.{◌≡◌, ◌+◌, ℕ, zero, suc, List, [], ◌∷◌, length, drop, slice_get, Option, Some, None, refl, sym, ap, ◌∙◌, subst, arith}
use Rattle.som_model.specs.declared.key.ClassKey.{ClassKey}
use Rattle.som_model.specs.declared.syntax.Block.{Block}
use Rattle.som_model.specs.Kernel.{som_new, som_dispatch_name}
use Rattle.som_model.specs.Implementation.{User}
use Rattle.som_semantics.specs.World.{World}
use Rattle.som_semantics.specs.State.{Value, Str, To, ClassObject, State, InBody, Offset, Lookup, Dispatch, Used}
use Rattle.som_semantics.specs.Runs.{Ran, Goes, Ends, follow, Act}
use Rattle.som_semantics.specs.Acts.{◌>>=◌, emit, asked}
use Rattle.som_semantics.specs.Values.{cast, text_of}
use Rattle.som_semantics.specs.Calls.{Calls, Here, class_here, parent_at, offset_call, named_call, dispatch_call, parent_call, parents_calls}
use Rattle.som_semantics.specs.Expressions.{new_on}
use Rattle.som_semantics.specs.Invoked.{result_zero, body_does}
use Rattle.som_code.specs.declared.instruction.Instruction.{Instruction}
use Rattle.som_code.specs.declared.instruction.Instruction.TheVariants as ops
use Rattle.som_code.specs.Machine as m
use Rattle.som_code.specs.Machine.{On, Over, then_on, over, run}
use Rattle.som_code.specs.Effect as flat
use Rattle.som_code.specs.Effect.{Conf, conf, top, below, arguments, plain, beginning}
use Rattle.som_code.specs.Same.{body_act}
use Rattle.som_code.specs.Laid.{lay_body}
use Rattle.som_code.proofs.Stmts.{laid_effect}
use Rattle.som_machine_laws.specs.Frames.{Body, Frames, Running, Answering, Waiting, ForCall, ForObject, ForName, Invocation}
use Rattle.som_machine_laws.specs.Tested.{Tests, tested}
use Rattle.som_machine_laws.specs.Passed.{passes_offset}
use Rattle.som_machine_laws.specs.Step.{Step, frames, makes, after_body, obey_at, step, begins}
use Rattle.som_machine_laws.proofs.Comes.{run_suc, run_zero, comes_same, comes_trans, comes_step}
use Rattle.som_machine_laws.proofs.Answered.{Come, here, answers, Answered, answered_bind, answered_once, answered_then, Matched, offset_answered, named_answered, parent_answered, parents_answered}

module _ (w : World) (tests : Tests) (l : ℕ) (matched : Matched w tests l) where
  abbrev call : Calls
  call = tested w tests l

  -- ---- calls that an instruction makes

  module _ (from : Here) (ks : List Waiting) where
    pub new_calls : (k : ClassKey) → Answered w tests (emit (Used k) >>= λ _. passes_offset w (makes l (ForObject from.place k ∷ ks)) from.place Offset som_new (To (ClassObject k)) []) ks (new_on w call from.place k)
    new_calls k =
        answered_bind w tests (emit (Used k)) (λ _. passes_offset w (makes l (ForObject from.place k ∷ ks)) from.place Offset som_new (To (ClassObject k)) [])
        (λ _. offset_call w call from.place Offset som_new (To (ClassObject k)) [] >>= λ v. asked from.place (λ h. cast w k h v)) ks
        (λ _. answered_then w tests (passes_offset w (makes l (ForObject from.place k ∷ ks)) from.place Offset som_new (To (ClassObject k)) []) (ForObject from.place k) ks (offset_call w call from.place Offset som_new (To (ClassObject k)) []) (λ v. asked from.place (λ h. cast w k h v))
        (offset_answered w tests l matched from.place Offset som_new (To (ClassObject k)) [] (ForObject from.place k ∷ ks))
        (λ v. answered_once w tests (asked from.place (λ h. cast w k h v)) ks))

    pub dispatch_calls : (wanted : _) (name : List ℕ) (on : Value) (args : List Value)
        → Answered w tests (passes_offset w (makes l (ForName l from.place wanted on args ∷ ks)) from.place Offset som_dispatch_name on (Str name ∷ [])) ks (dispatch_call w call from.place wanted name on args)
    dispatch_calls wanted name on args =
        answered_then w tests (passes_offset w (makes l (ForName l from.place wanted on args ∷ ks)) from.place Offset som_dispatch_name on (Str name ∷ [])) (ForName l from.place wanted on args) ks (offset_call w call from.place Offset som_dispatch_name on (Str name ∷ [])) (λ v. named_call w call from.place Dispatch wanted (text_of v) on args)
        (offset_answered w tests l matched from.place Offset som_dispatch_name on (Str name ∷ []) (ForName l from.place wanted on args ∷ ks))
        (λ v. named_answered w tests l matched from.place Dispatch wanted (text_of v) args on ks)

  -- ---- the code of a body

  module _ (from : Here) (zero_value : Value) (code : List Instruction) (ks : List Waiting) where
    abbrev body : Conf → Body
    body c = record { levels = l; here = from; zero_value = zero_value; code = code; conf = c }

    abbrev machine : Conf → Act (m.After Conf Value)
    machine = flat.step w from zero_value call code

    abbrev rest : ℕ → m.After Conf Value → State → Ran (m.After Conf Value)
    rest n x = (then_on (run machine n) x).does

    -- what the code comes to, on frames
    abbrev lift : Ran (m.After Conf Value) → Ran (m.After Frames (Unit {0}))
    lift r = follow r (λ x t. Goes (after_body (body (conf 0 [] [])) ks x) t)

    abbrev Follows : ℕ → Type 0
    Follows n = (c : Conf) (s : State) → Come w tests (here w tests (Running (body c)) ks s) (lift ((run machine n c).does s))

    plain_run : (n : ℕ) → Follows n → (r : Ran (m.After Conf Value)) → Come w tests (lift r) (lift (follow r (rest n)))
    plain_run n ih (Goes (On c) s) = ih c s
    plain_run n ih (Goes (Over v) s) = comes_same (step w tests) (here w tests (Answering v) ks s)
    plain_run n ih (Ends cut s) = comes_same (step w tests) (Ends cut s)

    -- a call has answered, and the body goes on
    call_run : (n : ℕ) → Follows n → (a : ℕ) (st : List Value) (fr : List Value) (r : Ran Value)
        → Come w tests (answers w tests (ForCall (body (conf a st fr)) ∷ ks) r) (lift (follow (follow r (λ v t. Goes (On (conf a (v ∷ st) fr)) t)) (rest n)))
    call_run n ih a st fr (Goes v s) = comes_step (step w tests) (frames (Answering v) (ForCall (body (conf a st fr)) ∷ ks)) s _ (ih (conf a (v ∷ st) fr) s)
    call_run n ih a st fr (Ends cut s) = comes_same (step w tests) (Ends cut s)

    call_case : (n : ℕ) → Follows n → (a : ℕ) (st : List Value) (fr : List Value) (x : Step) (act : Act Value) (s : State) → Answered w tests x (ForCall (body (conf a st fr)) ∷ ks) act
        → Come w tests (x.does s) (lift (follow (follow (act.does s) (λ v t. Goes (On (conf a (v ∷ st) fr)) t)) (rest n)))
    call_case n ih a st fr x act s h = comes_trans (step w tests) (x.does s) (answers w tests (ForCall (body (conf a st fr)) ∷ ks) (act.does s)) _ (h.by s) (call_run n ih a st fr (act.does s))

    obeyed : (n : ℕ) → Follows n → (o : Option Instruction) (c : Conf) (s : State)
        → Come w tests ((obey_at w o (body c) ks).does s) (lift (follow ((flat.obey_at w from zero_value call o c).does s) (rest n)))
    obeyed n ih None c s = comes_same (step w tests) (here w tests (Answering zero_value) ks s)
    obeyed n ih (Some (ops.New k)) c s = call_case n ih (c.at + 1) c.stack c.locals _ (new_on w call from.place k) s (new_calls from (ForCall (body (conf (c.at + 1) c.stack c.locals)) ∷ ks) k)
    obeyed n ih (Some (ops.OffsetCall method k)) c s =
        call_case n ih (c.at + 1) (below (drop k c.stack)) c.locals _ (offset_call w call from.place Offset method (top (drop k c.stack)) (arguments k c.stack)) s
        (offset_answered w tests l matched from.place Offset method (top (drop k c.stack)) (arguments k c.stack) (ForCall (body (conf (c.at + 1) (below (drop k c.stack)) c.locals)) ∷ ks))
    obeyed n ih (Some (ops.Lookup wanted name k)) c s =
        call_case n ih (c.at + 1) (below (drop k c.stack)) c.locals _ (named_call w call from.place Lookup wanted name (top (drop k c.stack)) (arguments k c.stack)) s
        (named_answered w tests l matched from.place Lookup wanted name (arguments k c.stack) (top (drop k c.stack)) (ForCall (body (conf (c.at + 1) (below (drop k c.stack)) c.locals)) ∷ ks))
    obeyed n ih (Some (ops.Dispatch wanted name k)) c s =
        call_case n ih (c.at + 1) (below (drop k c.stack)) c.locals _ (dispatch_call w call from.place wanted name (top (drop k c.stack)) (arguments k c.stack)) s
        (dispatch_calls from (ForCall (body (conf (c.at + 1) (below (drop k c.stack)) c.locals)) ∷ ks) wanted name (top (drop k c.stack)) (arguments k c.stack))
    obeyed n ih (Some (ops.ParentCall parent method k)) c s =
        call_case n ih (c.at + 1) (drop k c.stack) c.locals _ (parent_call w call from (parent_at (w.parents (class_here from)) parent) method (arguments k c.stack)) s
        (parent_answered w tests l matched from method (arguments k c.stack) (parent_at (w.parents (class_here from)) parent) (ForCall (body (conf (c.at + 1) (drop k c.stack) c.locals)) ∷ ks))
    obeyed n ih (Some (ops.ParentsCall method k)) c s =
        call_case n ih (c.at + 1) (drop k c.stack) c.locals _ (parents_calls w call from (w.parents (class_here from)) method (arguments k c.stack)) s
        (parents_answered w tests l matched from method (arguments k c.stack) (w.parents (class_here from)) (ForCall (body (conf (c.at + 1) (drop k c.stack) c.locals)) ∷ ks))
    obeyed n ih (Some i) c s = plain_run n ih ((plain w from zero_value i c.at c.stack c.locals).does s)

    flat_suc : (n : ℕ) (c : Conf) (s : State) → (run machine (suc n) c).does s ≡ follow ((machine c).does s) (rest n)
    flat_suc n c s = run_suc machine n c s

    pub follows : (n : ℕ) → Follows n
    follows zero c s = subst (λ r. Come w tests (here w tests (Running (body c)) ks s) (lift r)) (sym (run_zero machine c s)) (comes_same (step w tests) (here w tests (Running (body c)) ks s))
    follows (suc n) c s =
        subst (λ r. Come w tests (here w tests (Running (body c)) ks s) (lift r)) (sym (flat_suc n c s))
        (comes_step (step w tests) (frames (Running (body c)) ks) s _ (obeyed n (follows n) (slice_get code c.at) c s))

    lift_over : (r : Ran Value) → lift (over r) ≡ answers w tests ks r
    lift_over (Goes v s) = refl
    lift_over (Ends cut s) = refl

  -- the code of a block comes to what the block does as a body
  pub body_comes : (from : Here) (zero_value : Value) (ks : List Waiting) (block : Block) (args : List Value) (s : State)
      → Come w tests (here w tests (Running (body from zero_value (lay_body block (length args)) ks (beginning args))) ks s) (answers w tests ks ((body_act w call from zero_value block args).does s))
  body_comes from zero_value ks block args s =
      let code : List Instruction = lay_body block (length args) in
      let e = (laid_effect block (length args)).by w call from zero_value args s refl in
      subst (Come w tests (here w tests (Running (body from zero_value code ks (beginning args))) ks s))
      (ap (lift from zero_value code ks) (e.by e.enough (omega arith)) ∙ lift_over from zero_value code ks ((body_act w call from zero_value block args).does s))
      (follows from zero_value code ks e.enough (beginning args) s)

  pub blocks_answered : (block : Block) (i : Invocation) (ks : List Waiting) → Answered w tests (begins w tests i (User block) l ks) ks (body_does w call (User block) i.class i.method i.self i.args)
  blocks_answered block i ks = record {
    by = λ s.
        body_comes (record { me = To i.self; place = InBody i.class i.method.name }) (result_zero (w.sig i.method)) ks block i.args s;
  }
