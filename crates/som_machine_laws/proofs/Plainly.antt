-- The bodies of a call, one after the other, are what the meaning does.
use Rattle.std.proofs.Common.{◌≡◌, List, [], ◌∷◌, true, false, if◌then◌else◌, reverse, Option, Some, None, refl}
use Rattle.som_model.specs.declared.key.ClassKey.{ClassKey}
use Rattle.som_model.specs.declared.key.MethodRef.{MethodRef}
use Rattle.som_model.specs.Kernel.{before_method, after_method}
use Rattle.som_model.specs.Implementation.{Held}
use Rattle.som_semantics.specs.World.{World}
use Rattle.som_semantics.specs.State.{Value, Nil, Str, To, Ref, ClassObject, State, Manner, Before, After}
use Rattle.som_semantics.specs.Runs.{Ran, Goes, Ends, follow, Act}
use Rattle.som_semantics.specs.Acts.{◌>>=◌, pure}
use Rattle.som_semantics.specs.Calls.{Calls, Request}
use Rattle.som_semantics.specs.Means.{body_class, hooks_of, invoke, invoke_held, invoke_in, invoke_hook, each_hook, bodies}
use Rattle.som_machine_laws.specs.Frames.{Invocation}
use Rattle.som_machine_laws.specs.CallBodies.{with_held, with_hooks, with_method, call_bodies}

module _ (w : World) (call : Calls) where
  -- a body is invoked
  abbrev pub invoking : Invocation → Act Value
  invoking i = invoke w call i.way i.method i.class i.body i.self i.args

  -- bodies in order, and what the call answers so far
  abbrev pub all_plain : List Invocation → Value → Act Value
  all_plain [] v = pure v
  all_plain (i ∷ is) v = invoking i >>= λ u. all_plain is (if i.answers then u else v)

  module _ (way : Manner) (method : MethodRef) (self : Ref) (args : List Value) where
    abbrev each : List ClassKey → Act (Unit {0})
    each ks = each_hook w call way method ks self args

    hook_run : (r : Ran Value) (m : Act (Unit {0})) (k n : Act Value) → ((s : State) → (m >>= λ _. k).does s ≡ n.does s)
        → follow (follow (follow r (λ _ t. Goes (tt {0}) t)) (λ _. m.does)) (λ _. k.does) ≡ follow r (λ _. n.does)
    hook_run (Goes u t) m k n h = h t
    hook_run (Ends c t) m k n h = refl

    hook_plain : (x : ClassKey) (o : Option Held) (is : List Invocation) (v : Value) (m : Act (Unit {0})) (k : Act Value) → ((s : State) → (m >>= λ _. k).does s ≡ (all_plain is v).does s)
        → (s : State) → ((invoke_hook w call way method x o self args >>= λ _. m) >>= λ _. k).does s ≡ (all_plain (with_held way method self args false x o is) v).does s
    hook_plain x None is v m k h s = h s
    hook_plain x (Some b) is v m k h s = hook_run ((invoke w call way method x b self args).does s) m k (all_plain is v) h

    hooks_plain : (ks : List ClassKey) (is : List Invocation) (v : Value) (k : Act Value) → ((s : State) → k.does s ≡ (all_plain is v).does s)
        → (s : State) → (each ks >>= λ _. k).does s ≡ (all_plain (with_hooks w way method self args ks is) v).does s
    hooks_plain [] is v k h s = h s
    hooks_plain (x ∷ ks) is v k h s = hook_plain x (w.held x method) (with_hooks w way method self args ks is) v (each ks) k (hooks_plain ks is v k h) s

  method_run : (r : Ran Value) (k : Value → Act Value) (is : List Invocation) → ((v : Value) (s : State) → (k v).does s ≡ (all_plain is v).does s) → follow r (λ v. (k v).does) ≡ follow r (λ v. (all_plain is v).does)
  method_run (Goes v t) k is h = h v t
  method_run (Ends c t) k is h = refl

  held_plain : (q : Request) (x : ClassKey) (o : Option Held) (is : List Invocation) (k : Value → Act Value) → ((v : Value) (s : State) → (k v).does s ≡ (all_plain is v).does s)
      → (s : State) → (invoke_held w call q.way q.method x o q.self q.args >>= k).does s ≡ (all_plain (with_held q.way q.method q.self q.args true x o is) Nil).does s
  held_plain q x None is k h s = h Nil s
  held_plain q x (Some b) is k h s = method_run ((invoke w call q.way q.method x b q.self q.args).does s) k is h

  method_plain : (q : Request) (o : Option ClassKey) (is : List Invocation) (k : Value → Act Value) → ((v : Value) (s : State) → (k v).does s ≡ (all_plain is v).does s)
      → (s : State) → (invoke_in w call q.way q.method o q.self q.args >>= k).does s ≡ (all_plain (with_method w q o is) Nil).does s
  method_plain q None is k h s = h Nil s
  method_plain q (Some x) is k h s = held_plain q x (w.held x q.method) is k h s

  pub bodies_plain : (x : ClassKey) (q : Request) (s : State) → (bodies w call x q).does s ≡ (all_plain (call_bodies w x q) Nil).does s
  bodies_plain x q s =
      let seen : List Value = To q.self ∷ Str q.method.name ∷ [] in
      let hooks : List ClassKey = hooks_of w x q in
      let after : List Invocation = with_hooks w After after_method (ClassObject x) seen (reverse hooks) [] in
      let last : Value → Act Value = λ v. each_hook w call After after_method (reverse hooks) (ClassObject x) seen >>= λ _. pure v in
      hooks_plain Before before_method (ClassObject x) seen hooks (with_method w q (body_class w x q) after) Nil (invoke_in w call q.way q.method (body_class w x q) q.self q.args >>= last)
      (method_plain q (body_class w x q) after last (λ v t. hooks_plain After after_method (ClassObject x) seen (reverse hooks) [] v (pure v) (λ u. refl) t)) s
