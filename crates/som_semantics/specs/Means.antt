-- What a program means.
use Rattle.std.specs.Prelude.{ℕ, zero, suc, List, [], ◌∷◌, reverse, Option, Some, None, if◌then◌else◌}
use Rattle.som_model.specs.declared.key.ClassKey.{ClassKey}
use Rattle.som_model.specs.declared.syntax.Block.{Block}
use Rattle.som_model.specs.declared.key.MethodRef.{MethodRef}
use Rattle.som_model.specs.declared.program.Fault.TheVariants as faults
use Rattle.som_model.specs.declared.program.Release.{Release}
use Rattle.som_model.specs.declared.program.ClientProgram.{ClientProgram}
use Rattle.som_model.specs.declared.limits.TheConstants.{MAX_DEPTH}
use Rattle.som_model.specs.Kernel.{before_method, after_method}
use Rattle.som_model.specs.Classes.{classes}
use Rattle.som_model.specs.Implementation.{Held, is_kernel}
use Rattle.som_semantics.specs.World.{World, world}
use Rattle.som_semantics.specs.State.{Value, Str, Nil, To, Ref, ClassObject, Heap, State, InMain, Manner, Before, After, Called, class_of, zeros}
use Rattle.som_semantics.specs.Runs.{Ran, Act, Out, Adds, Kept}
use Rattle.som_semantics.specs.Acts.{◌>>=◌, ◌>>◌, pure, fault, take_unit, emit, reading}
use Rattle.som_semantics.specs.Calls.{Calls, Request}
use Rattle.som_semantics.specs.Statements.{run_block}
use Rattle.som_semantics.specs.Invoked.{body_does}

-- the class whose body a call runs
abbrev pub body_class : World → ClassKey → Request → Option ClassKey
body_class w x q = elim q.parent [ None ↦ w.impl x q.method | Some p ↦ w.impl p q.method ]

-- the hooks of a call on an object of class x: none in a parent call, and none where the kernel owns the method
abbrev pub hooks_of : World → ClassKey → Request → List ClassKey
hooks_of w x q = elim q.parent [ None ↦ if is_kernel q.method.class then [] else w.hooks (w.meta x) | Some p ↦ [] ]

module _ (w : World) where
  -- one body is invoked: a unit, an event, and what it does
  abbrev pub invoke : Calls → Manner → MethodRef → ClassKey → Held → Ref → List Value → Act Value
  invoke call way method x body self args = do
    take_unit
    emit (Called method way x)
    body_does w call body x method self args

  -- the body that a class has for the method of a call; none comes in no program that conforms, and the call answers nil there
  abbrev pub invoke_held : Calls → Manner → MethodRef → ClassKey → Option Held → Ref → List Value → Act Value
  invoke_held call way method x None self args = pure Nil
  invoke_held call way method x (Some body) self args = invoke call way method x body self args

  abbrev pub invoke_in : Calls → Manner → MethodRef → Option ClassKey → Ref → List Value → Act Value
  invoke_in call way method None self args = pure Nil
  invoke_in call way method (Some x) self args = invoke_held call way method x (w.held x method) self args

  -- a hook that has no body of its own for one of the two methods runs nothing there
  abbrev pub invoke_hook : Calls → Manner → MethodRef → ClassKey → Option Held → Ref → List Value → Act (Unit {0})
  invoke_hook call way method x None self args = pure tt
  invoke_hook call way method x (Some body) self args = invoke call way method x body self args >> pure tt

  -- the bodies of their own that the hooks have for a method, on the class object
  abbrev pub each_hook : Calls → Manner → MethodRef → List ClassKey → Ref → List Value → Act (Unit {0})
  each_hook call way method [] self args = pure tt
  each_hook call way method (k ∷ ks) self args = invoke_hook call way method k (w.held k method) self args >> each_hook call way method ks self args

  -- the bodies of a call: before, the method's, and after in reverse order
  abbrev pub bodies : Calls → ClassKey → Request → Act Value
  bodies call x q =
      let seen : List Value = To q.self ∷ Str q.method.name ∷ [] in do
        each_hook call Before before_method (hooks_of w x q) (ClassObject x) seen
        v ← invoke_in call q.way q.method (body_class w x q) q.self q.args
        each_hook call After after_method (reverse (hooks_of w x q)) (ClassObject x) seen
        pure v

  -- a call where so many levels are left
  unfoldable pub calls : ℕ → Calls
  calls zero q = fault faults.Depth q.from
  calls (suc levels) q = reading (λ h. bodies (calls levels) (class_of w h q.self) q)

  -- main, where calls may go so many levels deep; that it came to its end is all that it answers
  abbrev pub main_from : ℕ → Block → Act (Unit {0})
  main_from levels main = run_block w (calls levels) (record { me = Nil; place = InMain }) main [] >>= λ flow. pure tt

-- no objects yet, and the variables of each class object at zero
abbrev pub nothing_yet : World → Heap
nothing_yet w = record { objects = []; statics = λ k. zeros w }

-- where a run begins
abbrev pub beginning : World → ℕ → State
beginning w fuel = record { fuel = fuel; events = []; heap = nothing_yet w }

-- main of a client among these classes
abbrev pub main_act : World → Block → Act (Unit {0})
main_act w main = main_from w MAX_DEPTH main

-- what main does from the beginning, with so much fuel, among these classes
abbrev pub means_in : World → Block → ℕ → Ran (Unit {0})
means_in w main fuel = (main_act w main).does (beginning w fuel)

-- what main does from the beginning, before a sink that keeps events so, after what the sink has kept before
abbrev pub told_in : World → Block → ℕ → Adds → Out → Kept (Unit {0})
told_in w main fuel add out = (main_act w main).told add (record { fuel = fuel; out = out; heap = nothing_yet w })

-- what a client program means among the classes of a release
abbrev pub means : Release → ClientProgram → ℕ → Ran (Unit {0})
means r p fuel = means_in (world (classes r p)) p.main fuel
