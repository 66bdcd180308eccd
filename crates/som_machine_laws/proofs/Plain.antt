-- An instruction that makes no call takes a unit, or goes on where there is less room.
use Rattle.std.proofs.Common.{◌≡◌, ◌<◌, ◌+◌, ℕ, List, ◌∷◌, take, slice_get, Some, Bool, true, false, if◌then◌else◌, refl}
use Rattle.som_model.specs.declared.key.ClassKey.TheVariants as keys
use Rattle.som_semantics.specs.World.{World}
use Rattle.som_semantics.specs.State.{Value, To, ClassObject, Manager, Used, receiver}
use Rattle.som_semantics.specs.Runs.{Act}
use Rattle.som_semantics.specs.Acts.{◌>>=◌, pure, tried, asked, take_unit, emit, make}
use Rattle.som_semantics.specs.Values.{unary, unary_op, binary, binary_op, cast, isa, text_of}
use Rattle.som_semantics.specs.Calls.{Here, class_here}
use Rattle.som_semantics.specs.Expressions.{Frame, is_true, read, class_object, proxy_on}
use Rattle.som_semantics.specs.Statements.{assign, print_value}
use Rattle.som_code.specs.declared.instruction.Instruction.{Instruction}
use Rattle.som_code.specs.declared.instruction.Instruction.TheVariants as ops
use Rattle.som_code.specs.Machine.{On}
use Rattle.som_code.specs.Effect.{Conf, conf, on, top, below, plain, push, with_local}
use Rattle.som_code.specs.Sound.{is_turn, is_led}
use Rattle.som_machine_laws.specs.Weight.{room}
use Rattle.som_machine_laws.proofs.Calm.{Calm, calm_more, calm_after, calm_pure, calm_tried, calm_asked, calm_printed, calm_used, calm_make, calm_assign, calm_bind, Steady, steady_on, steady_over, steady_bind, Takes, takes_calm, takes_then, takes_asked}
use Rattle.som_machine_laws.proofs.Lighter.{room_next, jump_room, unless_room}

module _ (w : World) (here : Here) (zero_value : Value) (code : List Instruction) (p : ℕ) where
  abbrev pub Nearer : Conf → Type 0
  Nearer c = room code c.at < room code p

  steady_push : (i : Instruction) → slice_get code p ≡ Some i → is_turn (Some i) ≡ false → (m : Act Value) → Calm 0 m → (st : List Value) (fr : Frame) → Steady Nearer (push m p st fr)
  steady_push i is other m c st fr = steady_bind Nearer m (λ v. on (p + 1) (v ∷ st) fr) c (λ v. steady_on Nearer (conf (p + 1) (v ∷ st) fr) (room_next code p i is other))

  -- it goes on to the next instruction
  steady_next : (i : Instruction) → slice_get code p ≡ Some i → is_turn (Some i) ≡ false → (st : List Value) (fr : Frame) → Steady Nearer (on (p + 1) st fr)
  steady_next i is other st fr = steady_on Nearer (conf (p + 1) st fr) (room_next code p i is other)

  unless_steady : (k : ℕ) → slice_get code p ≡ Some (ops.Unless k) → is_led code p (ops.Unless k) ≡ true → (b : Bool) (st : List Value) (fr : Frame) → Steady Nearer (if b then on (p + 1) st fr else on k st fr)
  unless_steady k is led true st fr = steady_next (ops.Unless k) is refl st fr
  unless_steady k is led false st fr = steady_on Nearer (conf k st fr) (unless_room code p k is led)

  -- those that take no unit
  pub data IsSteady : Instruction → Type 0 where
    steady : {i : Instruction} → ((st : List Value) (fr : Frame) → Steady Nearer (plain w here zero_value i p st fr)) → IsSteady i
    takes : {i : Instruction} → ((st : List Value) (fr : Frame) → Takes 0 (plain w here zero_value i p st fr)) → IsSteady i

  proxy_takes : (k : _) (v : Value) → Takes 0 (proxy_on w here.place k v)
  proxy_takes k v =
      let made : Act Value = make w (keys.Proxy k) v >>= λ r. emit (Used (keys.Proxy k)) >>= λ _. pure (To r) in
      takes_asked here.place (λ _. take_unit >>= λ _. made) (λ _. takes_calm made
      (calm_after (make w (keys.Proxy k) v) (λ r. emit (Used (keys.Proxy k)) >>= λ _. pure (To r)) (calm_make w (keys.Proxy k) v)
      (λ r. calm_bind (emit (Used (keys.Proxy k))) (λ _. pure (To r)) (calm_used (keys.Proxy k)) (λ _. calm_pure (To r))))) (λ h. receiver h v)

  pub plain_steady : (i : Instruction) → slice_get code p ≡ Some i → is_led code p i ≡ true → IsSteady i
  plain_steady (ops.Push c) is led = steady (λ st fr. steady_next (ops.Push c) is refl _ fr)
  plain_steady (ops.Get n) is led = steady (λ st fr. steady_next (ops.Get n) is refl _ fr)
  plain_steady (ops.Set n) is led = steady (λ st fr. steady_next (ops.Set n) is refl (below st) (with_local fr n (top st)))
  plain_steady (ops.Cut n) is led = steady (λ st fr. steady_next (ops.Cut n) is refl st (take n fr))
  plain_steady ops.Me is led = steady (λ st fr. steady_next ops.Me is refl (here.me ∷ st) fr)
  plain_steady (ops.GetVariable n) is led = steady (λ st fr. steady_push (ops.GetVariable n) is refl (asked here.place (read (class_here here) n here.me)) (calm_asked here.place (read (class_here here) n here.me)) st fr)
  plain_steady (ops.SetVariable n) is led = steady (λ st fr. steady_bind Nearer (assign here.place (class_here here) n here.me (top st)) (λ _. on (p + 1) (below st) fr) (calm_assign here.place (class_here here) n here.me (top st)) (λ _. steady_next (ops.SetVariable n) is refl (below st) fr))
  plain_steady (ops.Unary op) is led = steady (λ st fr. steady_push (ops.Unary op) is refl (tried here.place (unary (unary_op op) (top st))) (calm_tried here.place (unary (unary_op op) (top st))) (below st) fr)
  plain_steady (ops.Binary op) is led = steady (λ st fr. steady_push (ops.Binary op) is refl (tried here.place (binary (binary_op op) (top (below st)) (top st))) (calm_tried here.place (binary (binary_op op) (top (below st)) (top st))) (below (below st)) fr)
  plain_steady (ops.Jump k) is led = steady (λ st fr. steady_on Nearer (conf k st fr) (jump_room code p k is led))
  plain_steady (ops.Unless k) is led = steady (λ st fr. unless_steady k is led (is_true (top st)) (below st) fr)
  plain_steady ops.Turn is led = takes (λ st fr. takes_calm (on (p + 1) st fr) (calm_more (on (p + 1) st fr) (calm_pure (On (conf (p + 1) st fr)))))
  plain_steady (ops.Class k) is led = steady (λ st fr. steady_push (ops.Class k) is refl (class_object k) (calm_bind (emit (Used k)) (λ _. pure (To (ClassObject k))) (calm_used k) (λ _. calm_pure (To (ClassObject k)))) st fr)
  plain_steady ops.Manager is led = steady (λ st fr. steady_next ops.Manager is refl (To Manager ∷ st) fr)
  plain_steady (ops.Cast k) is led = steady (λ st fr. steady_push (ops.Cast k) is refl (asked here.place (λ h. cast w k h (top st))) (calm_asked here.place (λ h. cast w k h (top st))) (below st) fr)
  plain_steady (ops.Isa k) is led = steady (λ st fr. steady_push (ops.Isa k) is refl (asked here.place (λ h. isa w k h (top st))) (calm_asked here.place (λ h. isa w k h (top st))) (below st) fr)
  plain_steady (ops.Proxy k) is led = takes (λ st fr. takes_then 0 (λ v. on (p + 1) (v ∷ below st) fr) (λ v. calm_pure (On (conf (p + 1) (v ∷ below st) fr))) (proxy_on w here.place k (top st)) (proxy_takes k (top st)))
  plain_steady (ops.Host c) is led = steady (λ st fr. steady_next (ops.Host c) is refl _ fr)
  plain_steady ops.Print is led = steady (λ st fr. steady_bind Nearer (print_value (top st)) (λ _. on (p + 1) (below st) fr) (calm_printed (text_of (top st))) (λ _. steady_next ops.Print is refl (below st) fr))
  plain_steady ops.Drop is led = steady (λ st fr. steady_next ops.Drop is refl (below st) fr)
  plain_steady ops.Return is led = steady (λ st fr. steady_over Nearer zero_value)
  plain_steady ops.ReturnValue is led = steady (λ st fr. steady_over Nearer (top st))
  plain_steady (ops.New k) is led = steady (λ st fr. steady_next (ops.New k) is refl st fr)
  plain_steady (ops.OffsetCall r n) is led = steady (λ st fr. steady_next (ops.OffsetCall r n) is refl st fr)
  plain_steady (ops.Lookup v x n) is led = steady (λ st fr. steady_next (ops.Lookup v x n) is refl st fr)
  plain_steady (ops.Dispatch v x n) is led = steady (λ st fr. steady_next (ops.Dispatch v x n) is refl st fr)
  plain_steady (ops.ParentCall q r n) is led = steady (λ st fr. steady_next (ops.ParentCall q r n) is refl st fr)
  plain_steady (ops.ParentsCall r n) is led = steady (λ st fr. steady_next (ops.ParentsCall r n) is refl st fr)
