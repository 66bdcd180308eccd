-- A body that begins comes to what it means.
use Rattle.std.proofs.Common.{ℕ, List, [], ◌∷◌, Ok}
use Rattle.som_model.specs.declared.key.ClassKey.{ClassKey}
use Rattle.som_model.specs.declared.key.MethodRef.{MethodRef}
use Rattle.som_model.specs.declared.syntax.Block.{Block}
use Rattle.som_model.specs.declared.program.Fault.TheVariants as faults
use Rattle.som_model.specs.Kernel.{som_init, som_uninit}
use Rattle.som_model.specs.Implementation.{Held, User}
use Rattle.som_model.specs.Implementation as held
use Rattle.som_semantics.specs.World.{World}
use Rattle.som_semantics.specs.State.{Value, Nil, To, Ref, Object, ClassObject, Manager, Place, InBody, Offset, Forward, live, freed, target_of}
use Rattle.som_semantics.specs.Runs.{Faulted, Ends, Act}
use Rattle.som_semantics.specs.Acts.{◌>>=◌, pure, fault, tried, asked, become, freed_stays, make}
use Rattle.som_semantics.specs.Calls.{Calls, offset_call}
use Rattle.som_semantics.specs.Expressions.{read}
use Rattle.som_semantics.specs.Statements.{assign}
use Rattle.som_semantics.specs.Invoked.{first_argument, stands_for, class_found, found_object, asks, KernelBody, Idle, Free, New, NewNoInit, FindClass, Asks, kernel_body, table, free_body, new_body, new_no_init_body, forward_body, kernel_does, body_does}
use Rattle.som_machine_laws.specs.Frames.{Waiting, Answering, ForInit, ForUninit, Invocation}
use Rattle.som_machine_laws.specs.Tested.{Tests, tested}
use Rattle.som_machine_laws.specs.Passed.{passes_offset}
use Rattle.som_machine_laws.specs.Step.{Step, go, makes, free_begins, new_begins, new_no_init_begins, forward_begins, kernel_begins, begins, step}
use Rattle.som_machine_laws.proofs.Comes.{comes_same}
use Rattle.som_machine_laws.proofs.Answered.{Answered, answered_pure, answered_bind, answered_once, answered_then, Matched, offset_answered}

module _ (w : World) (tests : Tests) where
  answered_fault : (at : Place) (ks : List Waiting) → Answered w tests (fault faults.ClassFree at) ks (fault faults.ClassFree at)
  answered_fault at ks = record { by = λ s. comes_same (step w tests) (Ends (Faulted faults.ClassFree at) s) }

  module _ (l : ℕ) (matched : Matched w tests l) where
    abbrev call : Calls
    call = tested w tests l

    module _ (at : Place) (self : Ref) (ks : List Waiting) where
      free_answered : (r : Ref) → Answered w tests (free_begins w l at self ks r) ks (free_body w call at self r)
      free_answered (Object i) = answered_then w tests (passes_offset w (makes l (ForUninit at self ∷ ks)) at Offset som_uninit (To self) []) (ForUninit at self) ks (offset_call w call at Offset som_uninit (To self) [])
          (λ _. asked at (λ h. live h self) >>= λ _. become (freed self) (freed_stays self) >>= λ _. pure Nil)
          (offset_answered w tests l matched at Offset som_uninit (To self) [] (ForUninit at self ∷ ks))
          (λ v. answered_bind w tests (asked at (λ h. live h self)) (λ _. become (freed self) (freed_stays self) >>= λ _. go (Answering Nil) ks) (λ _. become (freed self) (freed_stays self) >>= λ _. pure Nil) ks
          (λ _. answered_bind w tests (become (freed self) (freed_stays self)) (λ _. go (Answering Nil) ks) (λ _. pure Nil) ks (λ _. answered_pure w tests Nil ks)))
      free_answered (ClassObject k) = answered_fault at ks
      free_answered Manager = answered_fault at ks

      inits : {A : Type 0} → (Ref → Act A) → ClassKey → Act A
      inits after k = make w k Nil >>= after

      new_answered : Answered w tests (new_begins w l at self ks) ks (new_body w call at self)
      new_answered =
          let begun : Ref → Step = λ r. passes_offset w (makes l (ForInit r ∷ ks)) at Offset som_init (To r) [] in
          let done : Ref → Act Value = λ r. offset_call w call at Offset som_init (To r) [] >>= λ _. pure (To r) in
          answered_bind w tests (tried at (stands_for self)) (λ k. make w k Nil >>= begun) (λ k. make w k Nil >>= done) ks
          (λ k. answered_bind w tests (make w k Nil) begun done ks
          (λ r. answered_then w tests (begun r) (ForInit r) ks (offset_call w call at Offset som_init (To r) []) (λ _. pure (To r))
          (offset_answered w tests l matched at Offset som_init (To r) [] (ForInit r ∷ ks)) (λ v. answered_pure w tests (To r) ks)))

      new_no_init_answered : Answered w tests (new_no_init_begins w l at self ks) ks (new_no_init_body w call at self)
      new_no_init_answered =
          answered_bind w tests (tried at (stands_for self)) (λ k. make w k Nil >>= λ r. go (Answering (To r)) ks) (λ k. make w k Nil >>= λ r. pure (To r)) ks
          (λ k. answered_bind w tests (make w k Nil) (λ r. go (Answering (To r)) ks) (λ r. pure (To r)) ks (λ r. answered_pure w tests (To r) ks))

      forward_answered : (method : MethodRef) (args : List Value) → Answered w tests (forward_begins w l at self ks method args) ks (forward_body w call at self method args)
      forward_answered method args =
          let begun : Value → Step = λ on. passes_offset w (makes l ks) at Forward method on args in
          let done : Value → Act Value = λ on. offset_call w call at Forward method on args in
          answered_bind w tests (asked at (λ h. live h self)) (λ _. asked at (λ h. Ok (target_of h self)) >>= begun) (λ _. asked at (λ h. Ok (target_of h self)) >>= done) ks
          (λ _. answered_bind w tests (asked at (λ h. Ok (target_of h self))) begun done ks
          (λ on. offset_answered w tests l matched at Forward method on args ks))

      kernel_answered : (b : KernelBody) (args : List Value) → Answered w tests (kernel_begins w l at self ks b args) ks (kernel_does w call at self b args)
      kernel_answered Idle args = answered_pure w tests Nil ks
      kernel_answered Free args = free_answered self
      kernel_answered New args = new_answered
      kernel_answered NewNoInit args = new_no_init_answered
      kernel_answered FindClass args = answered_once w tests (found_object (class_found w args)) ks
      kernel_answered (Asks q) args = answered_once w tests (asked at (asks w q self args)) ks

    -- what the code of a block comes to where it is run as a body
    abbrev pub RunsBlocks : Type 0
    RunsBlocks = (block : Block) (i : Invocation) (ks : List Waiting) → Answered w tests (begins w tests i (User block) l ks) ks (body_does w call (User block) i.class i.method i.self i.args)

    pub begins_answered : RunsBlocks → (i : Invocation) (b : Held) (ks : List Waiting) → Answered w tests (begins w tests i b l ks) ks (body_does w call b i.class i.method i.self i.args)
    begins_answered blocks i (held.User block) ks = blocks block i ks
    begins_answered blocks i (held.Get n) ks = answered_once w tests (asked (InBody i.class i.method.name) (read i.class n (To i.self))) ks
    begins_answered blocks i (held.Set n) ks =
        answered_bind w tests (assign (InBody i.class i.method.name) i.class n (To i.self) (first_argument i.args)) (λ _. go (Answering Nil) ks) (λ _. pure Nil) ks (λ _. answered_pure w tests Nil ks)
    begins_answered blocks i (held.OfKernel name) ks = kernel_answered (InBody i.class i.method.name) i.self ks (kernel_body table name) i.args
    begins_answered blocks i held.Forward ks = forward_answered (InBody i.class i.method.name) i.self ks i.method i.args
    begins_answered blocks i held.Nothing ks = answered_pure w tests Nil ks
