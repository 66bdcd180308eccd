-- The class of a name in an interface, and how it is found by its key.
use Rattle.std.proofs.Common.{◌≡◌, ℕ, inl, inr, List, [], ◌∷◌, ◌++◌, map, Option, Some, None, refl, sym, ap, ◌∙◌, subst}
use Rattle.som_model.specs.declared.key.Module.TheVariants as modules
use Rattle.som_model.specs.declared.key.ClassKey.{ClassKey}
use Rattle.som_model.specs.declared.key.ClassKey.TheVariants as keys
use Rattle.som_model.specs.declared.class.ClassFace.{ClassFace}
use Rattle.som_model.specs.declared.program.Interface.{Interface}
use Rattle.som_model.specs.Lists.{Mem}
use Rattle.som_model.specs.Keys.{same_key}
use Rattle.som_model.specs.Class.{Class, bare, class_in}
use Rattle.som_model.specs.Classes.{class_at, interface_classes}
use Rattle.som_model.specs.Kernel.{kernel}
use Rattle.som_model.specs.Loads.{IsOrdered}
use Rattle.som_model.specs.Compatible.{release_of}
use Rattle.som_model.proofs.KeyLaws.{exact_keys}
use Rattle.som_model_laws.proofs.Lists.{find_mem, map_mem}
use Rattle.som_model_laws.proofs.Members.{mem_right, mem_split}
use Rattle.som_model_laws.proofs.Standing.{found, kernel_key, named_one}
use Rattle.som_breach_laws.specs.Breaking.{IsNew}

-- a class of an interface is the library's, by its name
pub library_key : (i : Interface) (c : Class) → Mem c (interface_classes i) → c.key ≡ keys.Named modules.Library c.decl.face.name
library_key i c m =
    let f = map_mem (λ (f : ClassFace). class_in modules.Library (bare f)) c i.classes m in
    subst (λ (z : Class). z.key ≡ keys.Named modules.Library z.decl.face.name) (sym f.2) refl

-- the class of its name in another interface has its key
pub new_key : (old new : Interface) (c n : Class) → Mem c (interface_classes old) → IsNew new c n → n.key ≡ c.key
new_key old new c n m is = library_key new n is.there ∙ ap (keys.Named modules.Library) is.named ∙ sym (library_key old c m)

module _ (old new : Interface) (on : IsOrdered (interface_classes new)) where
  abbrev N : List Class
  N = release_of new

  pub new_at : (c n : Class) → Mem c (interface_classes old) → class_at N c.key ≡ Some n → IsNew new c n
  new_at c n m e =
      let r = find_mem (λ (z : Class). same_key z.key c.key) N n e in
      let key = exact_keys.two n.key c.key r.1 in
      let mine = library_key old c m in
      elim (mem_split n kernel (interface_classes new) r.0) [
        | inl a ↦ (
            let k = kernel_key n a in
            let is = named_one modules.Kernel modules.Library k.0 c.decl.face.name (sym k.1 ∙ key ∙ mine) in
            absurd (let e = is.0 in cc))
        | inr a ↦ record { there = a; named = (named_one modules.Library modules.Library n.decl.face.name c.decl.face.name (sym (library_key new n a) ∙ key ∙ mine)).1 }
      ]

  pub at_new : (c n : Class) → Mem c (interface_classes old) → IsNew new c n → class_at N c.key ≡ Some n
  at_new c n m is = found (interface_classes new) on n c.key (mem_right n kernel (interface_classes new) is.there) (new_key old new c n m is)
