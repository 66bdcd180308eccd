-- The flat interface is a change of modules, which keeps the names of the levels apart where no two classes have one name.
use Rattle.std.proofs.Common.{◌≡◌, ◌⊎◌, ℕ, zero, suc, inl, inr, true, List, [], ◌++◌, map, flat_map, refl, sym, ap, ◌∙◌, subst}
use Rattle.som_model.specs.declared.key.Module.{Module}
use Rattle.som_model.specs.declared.key.Module.TheVariants as modules
use Rattle.som_model.specs.declared.key.ClassKey.{ClassKey}
use Rattle.som_model.specs.declared.key.ClassKey.TheVariants as keys
use Rattle.som_model.specs.declared.class.Entry.{Entry}
use Rattle.som_model.specs.declared.class.Entry.TheVariants as entries
use Rattle.som_model.specs.declared.class.ClassFace.{ClassFace}
use Rattle.som_model.specs.declared.program.Interface.{Interface}
use Rattle.som_model.specs.Lists.{Mem, option_list}
use Rattle.som_model.specs.Class.{Class, bare, class_in}
use Rattle.som_model.specs.Classes.{class_at, interface_classes}
use Rattle.som_model.specs.Kernel.{kernel}
use Rattle.som_model.specs.Named.{AClass, entry_names, face_names}
use Rattle.som_model.specs.Owner.{owner}
use Rattle.som_model.specs.Rules.{name_of}
use Rattle.som_model.specs.Loads.{FacesLoad, IsOrdered}
use Rattle.som_model_laws.proofs.Lists.{flat_mem, map_mem, mem_flat}
use Rattle.som_model_laws.proofs.Members.{Apart, map_on, mem_left, mem_right, mem_split}
use Rattle.som_model_laws.proofs.Standing.{kernel_key, known_above, named_one}
use Rattle.som_verify_classes.proofs.Before.{known_mem}
use Rattle.som_release_laws.proofs.FaceNames.{faces_named, known_facts}
use Rattle.som_rekey_laws.specs.Apart.{IsApart, KeepsKernel, Names, is_named, names_of}
use Rattle.som_rekey_laws.specs.Rekeying.{rekey, rekey_class, rekey_classes, rekey_decl, rekey_face}
use Rattle.som_rekey_laws.proofs.Lists.{map_twice}
use Rattle.som_rekey_laws.proofs.OrderedNames.{class_named, ordered_kernel}
use Rattle.som_rekey_laws.proofs.Places.{rekey_named}
use Rattle.som_rekey_rules.specs.NamesAlone.{AreClassesNamed, AreOf, IsClassNamed}
use Rattle.som_level_laws.specs.Levels.{level_classes, level_module}
use Rattle.som_level_laws.proofs.Levels.{stands_at}
use Rattle.som_flat_laws.specs.Flat.{flat_interface, flat_module, class_by_owners, entry_by_owner, levels_by_owners}
use Rattle.som_flat_laws.proofs.Lists.{has_one, one_of}
use Rattle.som_flat_laws.proofs.ByOwners.{here, owned, ref}

-- ---- the change of modules

pub kernel_or : (m : Module) → (m ≡ modules.Kernel) ⊎ (m ≡ modules.Kernel → ⊥)
kernel_or modules.Kernel = inl refl
kernel_or modules.Library = inr (λ e. absurd (cc))
kernel_or (modules.Upper k) = inr (λ e. absurd (cc))
kernel_or modules.Client = inr (λ e. absurd (cc))

outside : (m : Module) (name : List ℕ) → flat_module m name ≡ modules.Kernel → m ≡ modules.Kernel
outside modules.Kernel name e = refl
outside modules.Library name e = absurd (cc)
outside (modules.Upper k) name e = absurd (cc)
outside modules.Client name e = absurd (cc)

pub level_flat : (k : ℕ) (name : List ℕ) → flat_module (level_module k) name ≡ modules.Library
level_flat zero name = refl
level_flat (suc k) name = refl

module _ (cs : List Class) (o : IsOrdered cs) where
  abbrev all : List Class
  all = kernel ++ cs

  pub keeps_kernel : KeepsKernel flat_module (names_of all)
  keeps_kernel = record {
    stays = λ name n. refl;
    outside = λ m name n e. outside m name e;
    here = ordered_kernel cs o;
  }

  -- a class outside the kernel with this key
  pub own_class : (m : Module) (name : List ℕ) → (m ≡ modules.Kernel → ⊥) → names_of all m name ≡ true → (c : Class) × Mem c cs × (name_of c ≡ name) × (c.key ≡ keys.Named m name)
  own_class m name other n =
      let r = known_mem all (keys.Named m name) n in
      elim (mem_split r.0 kernel cs r.1) [
        | inl k ↦ (let q = kernel_key r.0 k in absurd (other (sym (named_one modules.Kernel m q.0 name (sym q.1 ∙ r.2)).0)))
        | inr k ↦ (let q = o.own r.0 k in (r.0, k, (named_one q.module_ m (name_of r.0) name (sym q.is ∙ r.2)).1, r.2))
      ]

  -- where no two classes have one name, no two names become one
  pub keeps_apart : Apart (map name_of cs) → IsApart flat_module (names_of all)
  keeps_apart p = record {
    apart = λ m n name a b e. elim (kernel_or m) [
      | inl k ↦ k ∙ sym (outside n name (sym e ∙ ap (λ z. flat_module z name) k))
      | inr h ↦ (
          let g : n ≡ modules.Kernel → ⊥ = λ k. h (outside m name (e ∙ ap (λ z. flat_module z name) k)) in
          let c = own_class m name h a in
          let d = own_class n name g b in
          let same : c.0 ≡ d.0 = one_of name_of cs c.0 d.0 p c.1 d.1 (c.2 ∙ sym d.2) in
          (named_one m n name name (sym c.3 ∙ ap (λ (z : Class). z.key) same ∙ d.3)).0)
    ];
  }

-- ---- what classes by owners name

module _ (cs : List Class) (f : FacesLoad cs) where
  abbrev every : List Class
  every = kernel ++ cs

  abbrev names : Names
  names = names_of every

  face_is_named : (c : Class) → Mem c cs → AreOf names (face_names c.decl.face)
  face_is_named c m k n =
      let e = (faces_named cs f.ordered c m (f.types c m)).classes k n in
      let d = has_one (class_at every k) (known_facts every k e) in
      class_named cs f.ordered k d.0 d.1

  owner_is_named : (c : Class) (name : List ℕ) (to : ClassKey) → Mem c cs → Mem (entries.Moved name to) c.decl.face.entries → is_named names (owner every (ref cs f c.key name)).class ≡ true
  owner_is_named c name to m n =
      let d = known_above cs f.ordered c.key (owner every (ref cs f c.key name)).class c (here cs f c m) (owned cs f c name to m n).above in
      class_named cs f.ordered (owner every (ref cs f c.key name)).class d.0 d.1

  entry_is_named : (c : Class) (e : Entry) → Mem c cs → Mem e c.decl.face.entries → AreOf names (entry_names e) → AreOf names (entry_names (entry_by_owner every c.key e))
  entry_is_named c (entries.Introduced name sig way) m n h k i = h k i
  entry_is_named c (entries.Moved name to) m n h k (inl e) =
      let same : k ≡ (owner every (ref cs f c.key name)).class = cc in
      ap (is_named names) same ∙ owner_is_named c name to m n
  entry_is_named c (entries.Moved name to) m n h k (inr x) = absurd x

  entries_are_named : (c : Class) → Mem c cs → AreOf names (flat_map entry_names c.decl.face.entries) → AreOf names (flat_map entry_names (map (entry_by_owner every c.key) c.decl.face.entries))
  entries_are_named c m h k n =
      let r = flat_mem entry_names (AClass k) (map (entry_by_owner every c.key) c.decl.face.entries) n in
      let q = map_mem (entry_by_owner every c.key) r.0 c.decl.face.entries r.1 in
      entry_is_named c q.0 m q.1 (λ z i. h z (mem_flat entry_names (AClass z) q.0 c.decl.face.entries q.1 i)) k (subst (λ z. Mem (AClass k) (entry_names z)) q.2 r.2)

  class_is_named : (c : Class) → Mem c cs → IsClassNamed names (class_by_owners every c)
  class_is_named c m =
      let parents = map AClass c.decl.face.parents in
      let metaclass = map AClass (option_list c.decl.face.metaclass) in
      let old = flat_map entry_names c.decl.face.entries in
      let new = flat_map entry_names (map (entry_by_owner every c.key) c.decl.face.entries) in
      let h = face_is_named c m in
      let rest : AreOf names (metaclass ++ old) = λ k n. h k (mem_right (AClass k) parents (metaclass ++ old) n) in
      record {
        key = class_named cs f.ordered c.key c (here cs f c m);
        named = λ k n. elim (mem_split (AClass k) (parents ++ (metaclass ++ new)) [] n) [
          | inr x ↦ absurd x
          | inl x ↦ elim (mem_split (AClass k) parents (metaclass ++ new) x) [
            | inl y ↦ h k (mem_left (AClass k) parents (metaclass ++ old) y)
            | inr y ↦ elim (mem_split (AClass k) metaclass new y) [
              | inl z ↦ rest k (mem_left (AClass k) metaclass old z)
              | inr z ↦ entries_are_named c m (λ x i. rest x (mem_right (AClass x) metaclass old i)) k z
            ]
          ]
        ];
      }

  pub named_by_owners : AreClassesNamed names (map (class_by_owners every) cs)
  named_by_owners x m = let r = map_mem (class_by_owners every) x cs m in subst (IsClassNamed names) (sym r.2) (class_is_named r.0 r.1)

-- ---- the flat interface

-- its classes are those of the levels by owners under new keys
pub flat_classes : (is : List Interface) → interface_classes (flat_interface is) ≡ rekey_classes flat_module (levels_by_owners is)
flat_classes is =
    let cs = level_classes is in
    let S = class_by_owners (kernel ++ cs) in
    map_twice (λ (f : ClassFace). class_in modules.Library (bare f)) (λ (c : Class). rekey_face flat_module c.decl.face) (map S cs)
    ∙ map_twice (λ (c : Class). class_in modules.Library (bare (rekey_face flat_module c.decl.face))) S cs
    ∙ map_on (λ (c : Class). class_in modules.Library (bare (rekey_face flat_module (S c).decl.face))) (λ (c : Class). rekey_class flat_module (S c)) cs
    (λ c m. let r = stands_at 0 is c m in
    ap (λ k. record { key = k; decl = rekey_decl flat_module (S c).decl })
    (sym (ap (rekey flat_module) r.is ∙ rekey_named flat_module (level_module r.level) (name_of c) ∙ ap (λ z. keys.Named z (name_of c)) (level_flat r.level (name_of c)))))
    ∙ sym (map_twice (rekey_class flat_module) S cs)
