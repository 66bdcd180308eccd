-- When the objects of a run are well typed.
use Rattle.std.specs.Prelude.{◌≡◌, ℕ, true, Some, slice_get}
use Rattle.som_model.specs.declared.key.ClassKey.{ClassKey}
use Rattle.som_model.specs.declared.key.ClassKey.TheVariants as keys
use Rattle.som_model.specs.declared.key.ValueType.TheVariants as types
use Rattle.som_model.specs.Kernel.{som_object}
use Rattle.som_semantics.specs.World.{World}
use Rattle.som_semantics.specs.State.{Heap, Instance}
use Rattle.som_type_soundness.specs.Values.{has_type}

pub record AreTyped (w : World) (h : Heap) : Type 0 where
  -- the class of each object descends from SOMObject
  pub classes : (i : ℕ) (t : Instance) → slice_get h.objects i ≡ Some t → w.is_a t.class som_object ≡ true
  -- each variable of each object is of its type
  pub variables : (i : ℕ) (t : Instance) (k : ClassKey) (n : ℕ) → slice_get h.objects i ≡ Some t → has_type w h (w.variable k n) (t.variables k n) ≡ true
  -- each variable of each class object is of its type
  pub statics : (c k : ClassKey) (n : ℕ) → has_type w h (w.variable k n) (h.statics c k n) ≡ true
  -- the target of a proxy is of the class that it is a proxy of
  pub targets : (i : ℕ) (t : Instance) (k : ClassKey) → slice_get h.objects i ≡ Some t → w.is_a t.class (keys.Proxy k) ≡ true → has_type w h (types.Class k) t.target ≡ true
