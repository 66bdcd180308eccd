-- A body that only asks answers what it is asked.
use Rattle.std.proofs.Common.{◌≡◌, ℕ, Bool, List, length, Some, Result, Ok, IfOk, sym, ap, subst, ◌∙◌}
use Rattle.som_model.specs.declared.key.ClassKey.{ClassKey}
use Rattle.som_semantics.specs.World.{World}
use Rattle.som_model.specs.Implementation.{Held}
use Rattle.som_semantics.specs.State.{Heap, InBody, Manner, Nil, State, To}
use Rattle.som_semantics.specs.Expressions.{read}
use Rattle.som_semantics.specs.Invoked as bodies
use Rattle.som_semantics.specs.Invoked.{asks, kernel_body, table}
use Rattle.som_machine_laws.specs.Frames as frames
use Rattle.som_machine_laws.specs.Tested.{Tests}
use Rattle.som_machine_laws.specs.Step.{Step, go, kernel_begins}
use Rattle.som_code_cache.specs.Coded.{key_of as body_of}
use Rattle.som_objects.specs.declared.cell.Cell.{Cell}
use Rattle.som_objects.specs.declared.cell.Cell.TheVariants as cells
use Rattle.som_values.specs.declared.reference.Reference.{Reference}
use Rattle.som_values.specs.declared.stopped.Stopped.{Stopped}
use Rattle.som_values.specs.Answers.{Answers}
use Rattle.som_values.specs.Shown.{all_shown, key_of, showing, shown_ref}
use Rattle.som_trace.specs.declared.running.Place.TheVariants as places
use Rattle.som_objects.specs.Objects.{Objects}
use Rattle.som_interp_state.specs.declared.frames.Now.TheVariants as nows
use Rattle.som_interp_state.specs.Settings.{Linked, shows}
use Rattle.som_interp_state.specs.Holding.{IsUsable}
use Rattle.som_interp_objects.specs.Acting.{Acts}
use Rattle.som_interp_builtins.specs.declared.kinds.Asking.{Asking}
use Rattle.som_interp_builtins.specs.declared.kinds.KernelBody.{KernelBody}
use Rattle.som_interp_builtins.specs.declared.kinds.KernelBody.TheVariants as kinds
use Rattle.som_interp_builtins.specs.Answered.{IsAnswered, MayAsk}
use Rattle.som_interp_builtins.specs.Kinds.{asking_shown, body_shown}
use Rattle.som_interp_loop.specs.Scene.{Scene, setting_of}
use Rattle.som_interp_invoke.specs.declared.begun.Begun.{Begun}
use Rattle.som_interp_invoke.specs.declared.begun.What.{What}
use Rattle.som_interp_invoke.specs.declared.begun.What.TheVariants as whats
use Rattle.som_interp_invoke.specs.Begun.{IsIdle, IsWhat}
use Rattle.som_interp_invoke.specs.Beginning.{Began, Begins, act_of, answer_at}
use Rattle.som_interp_invoke.proofs.Standing.{answer_none, answered, answers, quiet}

-- an answer among the classes of a kernel, by other words
pub by_linked : (l : Linked) (made : ClassKey → Bool) (ks : List ClassKey) (w : World) (xs : List ℕ) (os : Objects) (r : Result Cell Stopped) (q : bodies.Asking) (me : Reference) (args : List Cell) (h : Heap) → l.keys ≡ ks → l.world ≡ w
    → IsAnswered l made ks xs os r (asks w q (shown_ref (showing ks xs) me) (all_shown (showing ks xs) args) h)
    → IsAnswered l made l.keys xs os r (asks l.world q (shown_ref (showing l.keys xs) me) (all_shown (showing l.keys xs) args) h)
by_linked l made ks w xs os r q me args h d e x =
    subst (λ (y : List ClassKey). IsAnswered l made y xs os r (asks l.world q (shown_ref (showing y xs) me) (all_shown (showing y xs) args) h)) (sym d)
    (subst (λ (v : World). IsAnswered l made ks xs os r (asks v q (shown_ref (showing ks xs) me) (all_shown (showing ks xs) args) h)) (sym e) x)

module _ (c : Scene) (b : Begun) (me : Reference) (args : List Cell) where
  -- a body of the kernel's does what the machine does of its kind
  pub kernel_act : (kind : KernelBody) → b.what ≡ whats.Kernel kind → (body : Held) (ws : List frames.Waiting) (s : State) → Begins c s.heap ws b body me args → (levels : ℕ) (tests : Tests) (way : Manner) (answers : Bool)
      → act_of c b body levels me args ws tests way answers ≡ kernel_begins c.linked.world levels (InBody (key_of c.linked.keys b.class) (c.linked.method b.method).name) (shown_ref (shows (setting_of c)) me) ws (body_shown kind) (all_shown (shows (setting_of c)) args)
  kernel_act kind is body ws s began levels tests way answers =
      let what = subst (λ (x : What). IsWhat c.task.codes (body_of b.class b.method (length args)) x body) is began.begun.what in
      ap (λ (x : Held). act_of c b x levels me args ws tests way answers) what.1
      ∙ ap (λ (k : bodies.KernelBody). kernel_begins c.linked.world levels (InBody (key_of c.linked.keys b.class) (c.linked.method b.method).name) (shown_ref (shows (setting_of c)) me) ws k (all_shown (shows (setting_of c)) args)) (sym what.2)

  -- where a body may begin, it may ask
  pub may_ask : (body : Held) (ws : List frames.Waiting) (s : State) → Begins c s.heap ws b body me args → MayAsk c.linked c.made c.task.serials c.objects c.task.statics.items s.heap me args
  may_ask body ws s began = record { holding = began.around.holding; self = began.self; arguments = began.arguments }

  pub asked : (asking : Asking) → b.what ≡ whats.Kernel (kinds.Asks asking) → (r : Result Cell Stopped) (levels : ℕ)
      → ((body : Held) (ws : List frames.Waiting) (s : State) → Begins c s.heap ws b body me args
      → IsAnswered c.linked c.made c.linked.keys c.task.serials c.objects r (asks c.linked.world (asking_shown asking) (shown_ref (shows (setting_of c)) me) (all_shown (shows (setting_of c)) args) s.heap))
      → Began c c b levels me args (answer_at (places.Body b.class b.method) r)
  asked asking is r levels by = quiet c b levels me args (answer_at (places.Body b.class b.method) r) (answer_none (places.Body b.class b.method) r) (λ body ws s began fuel tests way answers.
      (let is_answer = by body ws s began in
      answered c s ws began.around fuel (act_of c b body levels me args ws tests way answers) (places.Body b.class b.method) r
      (asks c.linked.world (asking_shown asking) (shown_ref (shows (setting_of c)) me) (all_shown (shows (setting_of c)) args) s.heap)
      (ap (λ (x : Step). x.does s) (kernel_act (kinds.Asks asking) is body ws s began levels tests way answers))
      is_answer.means is_answer.usable))

  -- a body that reads a variable
  pub was_read : (n : ℕ) → b.what ≡ whats.Get n → (r : Result Cell Stopped) (levels : ℕ)
      → ((body : Held) (ws : List frames.Waiting) (s : State) → Begins c s.heap ws b body me args
      → Answers (shows (setting_of c)) r (read (key_of c.linked.keys b.class) n (To (shown_ref (shows (setting_of c)) me)) s.heap) × IfOk r (IsUsable c.linked c.made c.task.serials c.objects))
      → Began c c b levels me args (answer_at (places.Body b.class b.method) r)
  was_read n is r levels by = quiet c b levels me args (answer_at (places.Body b.class b.method) r) (answer_none (places.Body b.class b.method) r) (λ body ws s began fuel tests way a.
      (let x = by body ws s began in
      answered c s ws began.around fuel (act_of c b body levels me args ws tests way a) (places.Body b.class b.method) r (read (key_of c.linked.keys b.class) n (To (shown_ref (shows (setting_of c)) me)) s.heap)
      (ap (λ (y : Held). (act_of c b y levels me args ws tests way a).does s) (subst (λ (x : What). IsWhat c.task.codes (body_of b.class b.method (length args)) x body) is began.begun.what))
      x.0 x.1))

  -- where a body may begin, it may read and write
  pub acts : (body : Held) (ws : List frames.Waiting) (h : Heap) → Begins c h ws b body me args → Acts c.linked c.made c.objects c.task.statics.items (Some me) c.task.serials h
  acts body ws h began = record { holding = began.around.holding; self = began.self }

  -- a body that does nothing
  pub idle : (levels : ℕ) → ((body : Held) (ws : List frames.Waiting) (s : State) → Begins c s.heap ws b body me args → (tests : Tests) (way : Manner) (a : Bool) → act_of c b body levels me args ws tests way a ≡ go (frames.Answering Nil) ws)
      → Began c c b levels me args (Ok (nows.Answering cells.Nil))
  idle levels is = quiet c b levels me args (Ok (nows.Answering cells.Nil)) tt (λ body ws s began fuel tests way a.
      answers c s ws began.around fuel (act_of c b body levels me args ws tests way a) cells.Nil (record { own = (tt, tt); made_of = tt })
      (ap (λ (x : Step). x.does s) (is body ws s began tests way a)))

  pub does_nothing : (levels : ℕ) (what : What) → b.what ≡ what → IsIdle what → Began c c b levels me args (Ok (nows.Answering cells.Nil))
  does_nothing levels (whats.Kernel kinds.Idle) is i = idle levels (λ body ws s began tests way a. kernel_act kinds.Idle is body ws s began levels tests way a)
  does_nothing levels whats.Nothing is i = idle levels (λ body ws s began tests way a. ap (λ (y : Held). act_of c b y levels me args ws tests way a) (subst (λ (x : What). IsWhat c.task.codes (body_of b.class b.method (length args)) x body) is began.begun.what))
  does_nothing levels (whats.Kernel kinds.Free) is i = absurd i
  does_nothing levels (whats.Kernel kinds.New) is i = absurd i
  does_nothing levels (whats.Kernel kinds.NewNoInit) is i = absurd i
  does_nothing levels (whats.Kernel kinds.FindClass) is i = absurd i
  does_nothing levels (whats.Kernel (kinds.Asks q)) is i = absurd i
  does_nothing levels (whats.Code n) is i = absurd i
  does_nothing levels (whats.Get n) is i = absurd i
  does_nothing levels (whats.Set n) is i = absurd i
  does_nothing levels whats.Forward is i = absurd i
