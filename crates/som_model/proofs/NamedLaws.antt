-- What declared classes compute to: whether two are one, and their heights, ranks and parents.
use Rattle.std.proofs.Common.{◌≡◌, ℕ, Bool, true, ◌&&◌, List, refl, sym, ap, ◌∙◌}
use Rattle.std.specs.Str.{bytes_eq}
use Rattle.som_model.specs.declared.key.Module.{Module}
use Rattle.som_model.specs.declared.key.ClassKey.{ClassKey, out-ClassKey, fold-roll-ClassKey, out-roll-ClassKey}
use Rattle.som_model.specs.declared.key.ClassKey.TheVariants as keys
use Rattle.som_model.specs.declared.key.ClassKey.TheVariants.{rolls-Named}
use Rattle.som_model.specs.declared.key.ClassKey.TheOpen.{ClassKey-F}
use Rattle.som_model.specs.Keys.{same_module, same_step, same_key}
use Rattle.som_model.specs.Class.{Class}
use Rattle.som_model.specs.declared.key.Module.TheVariants as modules
use Rattle.som_model.specs.declared.key.MethodRef.{MethodRef}
use Rattle.som_model.specs.Classes.{hierarchy, height_step, place_of, parents_of, parents_in, parents_by, class_at}
use Rattle.som_model.specs.Implementation.{is_kernel, is_kernel_layer, held, held_by, declared_held}
use Rattle.som_model.specs.Metaclass.{rank, rank_step}
use Rattle.som_model.proofs.KeyLaws.{exact_bytes}

pub out_named : (m : Module) (x : List ℕ) → out-ClassKey (keys.Named m x) ≡ ClassKey-F.Named m x
out_named m x = ap out-ClassKey (sym (rolls-Named m x)) ∙ out-roll-ClassKey (ClassKey-F.Named m x)

pub same_named : (m n : Module) (x y : List ℕ) → same_key (keys.Named m x) (keys.Named n y) ≡ (same_module m n && bytes_eq x y)
same_named m n x y =
    ap (λ (f : ClassKey → Bool). f (keys.Named n y)) (ap same_key (sym (rolls-Named m x)) ∙ fold-roll-ClassKey (ClassKey → Bool) (λ z k. same_step z (out-ClassKey k)) (ClassKey-F.Named m x))
    ∙ ap (same_step (ClassKey-F.Named m x)) (out_named n y)

pub bytes_self : (x : List ℕ) → bytes_eq x x ≡ true
bytes_self x = exact_bytes.one x

pub height_named : (cs : List Class) (m : Module) (x : List ℕ) → (hierarchy cs).height (keys.Named m x) ≡ place_of 1 cs (keys.Named m x)
unfolding hierarchy
height_named cs m x = ap (hierarchy cs).height (sym (rolls-Named m x)) ∙ fold-roll-ClassKey ℕ (height_step cs) (ClassKey-F.Named m x)

pub rank_named : (cs : List Class) (m : Module) (x : List ℕ) → rank cs (keys.Named m x) ≡ place_of 0 cs (keys.Named m x)
rank_named cs m x = ap (rank cs) (sym (rolls-Named m x)) ∙ fold-roll-ClassKey ℕ (rank_step cs) (ClassKey-F.Named m x)

pub hierarchy_parents : (cs : List Class) (k : ClassKey) → (hierarchy cs).parents k ≡ parents_of cs k
unfolding hierarchy
hierarchy_parents cs k = refl

pub hierarchy_same : (cs : List Class) (a b : ClassKey) → (hierarchy cs).same a b ≡ same_key a b
unfolding hierarchy
hierarchy_same cs a b = refl

pub parents_named : (cs : List Class) (m : Module) (x : List ℕ) → parents_of cs (keys.Named m x) ≡ parents_in (class_at cs (keys.Named m x))
parents_named cs m x = ap (λ (layer : ClassKey-F ClassKey). parents_by cs layer (keys.Named m x)) (out_named m x)

pub kernel_named : (m : Module) (x : List ℕ) → is_kernel (keys.Named m x) ≡ same_module m modules.Kernel
kernel_named m x = ap is_kernel_layer (out_named m x)

pub held_named : (cs : List Class) (m : Module) (x : List ℕ) (r : MethodRef) → held cs (keys.Named m x) r ≡ declared_held cs (class_at cs (keys.Named m x)) r
held_named cs m x r = ap (λ (layer : ClassKey-F ClassKey). held_by cs layer (keys.Named m x) r) (out_named m x)
