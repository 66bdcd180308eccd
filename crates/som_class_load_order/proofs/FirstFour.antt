-- The kernel's classes are closed under parents and metaclasses.
use Rattle.std.proofs.Common.{◌≡◌, ℕ, zero, suc, ◌<◌, inl, inr, true, List, ◌++◌, Some, slice_get, refl, sym, ap, ◌∙◌, subst, arith}
use Rattle.som_model.specs.declared.key.ClassKey.{ClassKey}
use Rattle.som_model.specs.Lists.{Mem}
use Rattle.som_model.specs.Class.{Class}
use Rattle.som_model.specs.Classes.{hierarchy, parents_of}
use Rattle.som_model.specs.Kernel.{kernel}
use Rattle.som_model.specs.Loads.{IsOrdered}
use Rattle.som_model.specs.Metaclass.{is_low, meta}
use Rattle.som_model.proofs.NamedLaws.{hierarchy_parents}
use Rattle.som_model_laws.proofs.Members.{mem_left}
use Rattle.som_model_laws.proofs.Lists.{get_mem, mem_get}
use Rattle.som_model_laws.proofs.Standing.{found, parents_known}
use Rattle.som_model_laws.proofs.Metas.{in_four, kernel_low}
use Rattle.som_model_laws.proofs.Keeping.{kernel_parent}
use Rattle.som_meta.specs.Numbering.{IsNumbered, Numbering, key_at}
use Rattle.som_class_table.specs.Loaded.{AreLoaded}
use Rattle.som_class_load_order.proofs.Choosing.{low_meta, second_key, second_numbered}
use Rattle.som_class_table.specs.Making.{HaveNeeds}

class_of : (n : ℕ) → n < 4 → (c : Class) × (slice_get kernel n ≡ Some c)
class_of zero lt = (_, refl)
class_of (suc zero) lt = (_, refl)
class_of (suc (suc zero)) lt = (_, refl)
class_of (suc (suc (suc zero))) lt = (_, refl)
class_of (suc (suc (suc (suc n)))) lt = absurd (omega (arith, lt))

-- what the hierarchy says of the kernel's classes
module _ (all cs : List Class) (is : all ≡ kernel ++ cs) (o : IsOrdered cs) where
  parents_here : (c : Class) (p : ClassKey) → Mem c kernel → Mem p ((hierarchy (kernel ++ cs)).parents c.key) → (d : Class) × Mem d kernel × (d.key ≡ p)
  parents_here c p m n = kernel_parent cs o c p m (subst (λ z. Mem p z) (parents_known cs o c.key c (found cs o c c.key (mem_left c kernel cs m) refl)) n)

  pub parent_in : (c : Class) (p : ClassKey) → Mem c kernel → Mem p ((hierarchy all).parents c.key) → (d : Class) × Mem d kernel × (d.key ≡ p)
  parent_in = subst (λ (z : List Class). (c : Class) (p : ClassKey) → Mem c kernel → Mem p ((hierarchy z).parents c.key) → (d : Class) × Mem d kernel × (d.key ≡ p)) (sym is) parents_here

  pub is_low_class : (c : Class) → Mem c kernel → is_low all c.key ≡ true
  is_low_class = subst (λ (z : List Class). (c : Class) → Mem c kernel → is_low z c.key ≡ true) (sym is) (λ c m. kernel_low cs o c c.key m refl)

  pub stands_at : (i : ℕ) (c : Class) → slice_get kernel i ≡ Some c → (i < 4) × (slice_get all i ≡ Some c)
  stands_at = subst (λ (z : List Class). (i : ℕ) (c : Class) → slice_get kernel i ≡ Some c → (i < 4) × (slice_get z i ≡ Some c)) (sym is) (in_four cs)

module _ (k : Numbering) (l : AreLoaded k) where
  abbrev ordered : IsOrdered l.others
  ordered = l.loads.faces.ordered

  -- the number of one of the kernel's classes
  number_in : (m : ℕ) (d : Class) → IsNumbered k m → Mem d kernel → key_at k m ≡ d.key → m < 4
  number_in m d im there e =
      let j = mem_get kernel d there in
      let at = stands_at k.classes l.others l.is ordered j.0 d j.1 in
      let same = l.apart m j.0 im (l.first.numbered j.0 d at.1) (e ∙ sym (l.first.key j.0 d at.1)) in
      let lt = at.0 in
      omega (arith, same, lt)

  pub kernel_needs : HaveNeeds k (λ n. n < 4)
  kernel_needs n m lt h =
      let c = class_of n lt in
      let there = get_mem kernel n c.0 c.1 in
      let key : key_at k n ≡ c.0.key = l.first.key n c.0 (stands_at k.classes l.others l.is ordered n c.0 c.1).1 in
      elim h.1 [
        | inl p ↦ (
            let at : Mem (key_at k m) ((hierarchy k.classes).parents c.0.key) =
            subst (λ z. Mem (key_at k m) z) (sym (hierarchy_parents k.classes c.0.key)) (subst (λ z. Mem (key_at k m) (parents_of k.classes z)) key p) in
            let d = parent_in k.classes l.others l.is ordered c.0 (key_at k m) there at in
            number_in m d.0 h.0 d.1 (sym d.2))
        | inr e ↦ (
            let low = is_low_class k.classes l.others l.is ordered c.0 there in
            let som : key_at k m ≡ key_at k 1 = e ∙ ap (meta k.classes) key ∙ low_meta k.classes l.others l.is ordered c.0.key low ∙ sym (second_key k l) in
            let one = l.apart m 1 h.0 (second_numbered k l) som in
            omega (arith, one))
      ]
