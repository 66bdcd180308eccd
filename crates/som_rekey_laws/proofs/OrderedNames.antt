-- The keys of classes in order are names enough for all that their faces name.
use Rattle.std.proofs.Common.{◌≡◌, inl, inr, ℕ, true, List, ◌++◌, take, Some, is_some, refl, sym, ap, ◌∙◌}
use Rattle.som_model.specs.declared.key.ClassKey.{ClassKey}
use Rattle.som_model.specs.declared.key.ClassKey.TheVariants as keys
use Rattle.som_model.specs.Lists.{Mem}
use Rattle.som_model.specs.declared.class.ClassFace.{ClassFace}
use Rattle.som_model.specs.declared.key.Module.TheVariants as modules
use Rattle.som_model.specs.Class.{Class, bare, class_in}
use Rattle.som_model.specs.Classes.{class_at}
use Rattle.som_model.specs.Kernel.{kernel, kernel_interface}
use Rattle.som_model.specs.Loads.{IsOrdered, keys_of}
use Rattle.som_model_laws.proofs.Members.{mem_left, mem_split}
use Rattle.som_model_laws.proofs.Lists.{get_mem, mem_get, mem_map}
use Rattle.som_model_laws.proofs.Standing.{keyed, found, found_is, earlier_at, stands}
use Rattle.som_model_laws.proofs.Owners.{kernel_unmoved}
use Rattle.som_model_laws.proofs.Metas.{kernel_none}
use Rattle.som_rekey_laws.specs.Apart.{names_of, is_named, AreNamed, AreTargetsNamed, AreMetaclassesNamed}
use Rattle.som_rekey_laws.proofs.Places.{is_named_at}

module _ (cs : List Class) (o : IsOrdered cs) where
  abbrev all : List Class
  all = kernel ++ cs

  pub class_named : (k : ClassKey) (c : Class) → class_at all k ≡ Some c → is_named (names_of all) k ≡ true
  class_named k c e =
      let r = found_is cs o k c e in
      let n = keyed cs o c r.0 in
      let is : k ≡ keys.Named n.0 n.1 = sym r.1 ∙ n.2 in
      ap (is_named (names_of all)) is ∙ is_named_at (names_of all) n.0 n.1 ∙ ap (λ z. is_some (class_at all z)) (sym is) ∙ ap is_some e

  earlier_named : (i : ℕ) (k : ClassKey) → Mem k (keys_of (kernel ++ take i cs)) → is_named (names_of all) k ≡ true
  earlier_named i k m =
      let r = earlier_at cs o i k m in
      class_named k r.1 (found cs o r.1 k (get_mem all r.0 r.1 r.3) r.4)

  pub ordered_named : AreNamed (names_of all) all
  ordered_named = record {
    keys = λ c m. class_named c.key c (found cs o c c.key m refl);
    parents = λ c k m i. let s = stands cs o c.key c k (found cs o c c.key m refl) i in class_named k s.0 s.1;
  }

  pub ordered_targets : AreTargetsNamed (names_of all) all
  ordered_targets c name to m n = elim (mem_split c kernel cs m) [
    | inl k ↦ absurd (kernel_unmoved c name to k n)
    | inr k ↦ (let g = mem_get cs c k in earlier_named g.0 to (o.targets g.0 c name to g.1 n))
  ]

  pub ordered_metaclasses : AreMetaclassesNamed (names_of all) all
  ordered_metaclasses c k m e = elim (mem_split c kernel cs m) [
    | inl i ↦ absurd (kernel_none c k i e)
    | inr i ↦ (let g = mem_get cs c i in earlier_named g.0 k (o.metaclasses g.0 c k g.1 e))
  ]

  pub ordered_kernel : (face : ClassFace) → Mem face kernel_interface.classes → names_of all modules.Kernel face.name ≡ true
  ordered_kernel face m =
      let c = class_in modules.Kernel (bare face) in
      let there : Mem c all = mem_left c kernel cs (mem_map (λ (g : ClassFace). class_in modules.Kernel (bare g)) face kernel_interface.classes m) in
      ap is_some (found cs o c c.key there refl)
