-- Typed code keeps the objects typed, among classes that can be loaded.
use Rattle.std.proofs.Common.{◌≡◌, ℕ, Bool, true, List, ◌++◌, Option, Some, None, IsSome, refl, sym, ap, ◌∙◌, subst}
use Rattle.som_model.specs.declared.key.ClassKey.{ClassKey}
use Rattle.som_model.specs.declared.key.MethodRef.{MethodRef}
use Rattle.som_model.specs.declared.key.ValueType.TheVariants as types
use Rattle.som_model.specs.declared.syntax.Block.{Block}
use Rattle.som_model.specs.Lists.{Mem}
use Rattle.som_model.specs.Resolution.{byname}
use Rattle.som_model.specs.Ancestors.{anc}
use Rattle.som_model.specs.Class.{Class}
use Rattle.som_model.specs.Kernel.{kernel}
use Rattle.som_model.specs.Classes.{hierarchy}
use Rattle.som_model.specs.Owner.{introduces}
use Rattle.som_semantics.specs.World.{World, world, reference}
use Rattle.som_semantics.specs.State.{Value, Nil, Long, Boolean, Str, To, Ref, Heap}
use Rattle.som_semantics.specs.Runs.{Act, end_of}
use Rattle.som_semantics.specs.Acts.{pure, later_self}
use Rattle.som_semantics.specs.Calls.{Here}
use Rattle.som_semantics.specs.Means.{calls, means_in}
use Rattle.som_semantics.proofs.WorldLaws.{answers_are}
use Rattle.som_model.specs.Typing.{ClassFacts, expr_type}
use Rattle.som_model.specs.TypedBlocks.{block_scope, stmt_scope}
use Rattle.som_model.specs.Loads.{Loads}
use Rattle.som_model.proofs.KeyLaws.{both}
use Rattle.som_model_laws.proofs.Members.{mem_right}
use Rattle.som_model_laws.proofs.Lists.{find_mem}
use Rattle.som_model_laws.proofs.Standing.{found}
use Rattle.som_type_soundness.specs.Values.{has_type, is_reference}
use Rattle.som_type_soundness.specs.Heaps.{AreTyped}
use Rattle.som_type_soundness.specs.Checked.{checked_calls, checked_in}
use Rattle.som_type_soundness.specs.Preserving.{BlocksKeepTypes, ExpressionsKeepTypes, IsInPlace, StatementsKeepTypes}
use Rattle.som_type_soundness.proofs.Facts.{InClass, IsClass}
use Rattle.som_type_soundness.proofs.Expressions.{expr_keeps}
use Rattle.som_type_soundness.proofs.Statements.{block_keeps, stmt_keeps}
use Rattle.som_type_soundness.proofs.Runs.{all_calls_keep, checked_means, objects_typed}
use Rattle.som_type_soundness.proofs.Fitting.{a_class_here, known_in}
use Rattle.som_type_soundness.proofs.Loading.{facts_are, main_scope, sound_world}

referred : (v : Value) → is_reference v ≡ true → (r : Ref) × (v ≡ To r)
referred (To r) e = (r, refl)
referred Nil e = absurd (let z = e in cc)
referred (Long z) e = absurd (let z = e in cc)
referred (Boolean z) e = absurd (let z = e in cc)
referred (Str z) e = absurd (let z = e in cc)

module _ (cs : List Class) (main : Block) (l : Loads cs main) where
  abbrev all : List Class
  all = kernel ++ cs

  abbrev W : World
  W = world all

  abbrev K : ClassKey → Bool
  K = known_in all

  class_here_is : (c : Class) → Mem c cs → IsClass W c
  class_here_is c m = subst (λ w. IsClass w c) (answers_are all) (a_class_here cs main l c.key c (found cs l.faces.ordered c c.key (mem_right c kernel cs m) refl) refl)

  in_class : (o : Option Class) (here : Here) (h : Heap) → IsInPlace W cs o here h → InClass W o here h
  in_class None here h i = tt
  in_class (Some c) here h (m, k, s) =
      let p = both (is_reference here.me) (has_type W h (types.Class c.key) here.me) s in
      (class_here_is c m, k, p.1, referred here.me p.0)

  pub expressions_keep : ExpressionsKeepTypes cs
  expressions_keep at here scope e t f levels frame s b =
      (expr_keeps W K (sound_world cs main l) (pure tt) (calls W levels) (checked_calls (pure tt) W levels) (all_calls_keep W K (sound_world cs main l) (pure tt) levels) here at scope e t
      (ap (λ (c : ClassFacts). expr_type c at scope e) (sym (facts_are cs main l)) ∙ f) s.heap frame (in_class at.class here s.heap b.place) b.locals).left s (later_self s.heap) b.objects

  pub statements_keep : StatementsKeepTypes cs
  statements_keep at here scope after x f levels frame s b =
      ((stmt_keeps W K (sound_world cs main l) (pure tt) (calls W levels) (checked_calls (pure tt) W levels) (all_calls_keep W K (sound_world cs main l) (pure tt) levels) here at x scope after
      (ap (λ (c : ClassFacts). stmt_scope c at x scope) (sym (facts_are cs main l)) ∙ f)).1 s.heap frame (in_class at.class here s.heap b.place) b.locals).left s (later_self s.heap) b.objects

  pub blocks_keep : BlocksKeepTypes cs
  blocks_keep at here scope after x f levels frame s b =
      (block_keeps W K (sound_world cs main l) (pure tt) (calls W levels) (checked_calls (pure tt) W levels) (all_calls_keep W K (sound_world cs main l) (pure tt) levels) here at x scope after
      (ap (λ (c : ClassFacts). block_scope c at x scope) (sym (facts_are cs main l)) ∙ f) s.heap frame (in_class at.class here s.heap b.place) b.locals).left s (later_self s.heap) b.objects

  -- main does the same with tests in front of its steps, and leaves typed objects
  pub main_same : (otherwise : Act (Unit {0})) (fuel : ℕ) → checked_in otherwise W main fuel ≡ means_in W main fuel
  main_same otherwise fuel = let after = main_scope cs main l in checked_means W K (sound_world cs main l) otherwise main after.0 after.1 fuel

  pub main_objects : (fuel : ℕ) → AreTyped W (end_of (means_in W main fuel)).heap
  main_objects fuel = let after = main_scope cs main l in objects_typed W K (sound_world cs main l) (pure tt) main after.0 after.1 fuel

-- a method that a name means has a signature
pub name_signed : (cs : List Class) (k : ClassKey) (name : List ℕ) (r : MethodRef) → (world cs).byname k name ≡ Some r → IsSome ((world cs).sig r)
unfolding world
name_signed cs k name r e = by (byname (hierarchy cs) (introduces cs name) k) refl e
  where
    by : (q : Option ClassKey) → byname (hierarchy cs) (introduces cs name) k ≡ q → reference name q ≡ Some r → IsSome ((world cs).sig r)
    by None f g = absurd (let z = g in cc)
    by (Some a) f g =
        let is : record { class = a; name = name } ≡ r = (let z = g in cc) in
        subst (λ (z : MethodRef). IsSome ((world cs).sig z)) is (find_mem (introduces cs name) (anc (hierarchy cs) k) a f).1
