-- The kernel's classes speak of the kernel's names alone.
use Rattle.std.proofs.Common.{◌≡◌, inl, inr, true, List, [], ◌∷◌, ◌++◌, refl, ap, sym, subst, ◌∙◌}
use Rattle.std.specs.Prelude.{⊤}
use Rattle.som_model.specs.declared.key.Module.TheVariants as modules
use Rattle.som_model.specs.declared.class.ClassFace.{ClassFace}
use Rattle.som_model.specs.Lists.{Mem}
use Rattle.som_model.specs.Class.{Class, bare, class_in}
use Rattle.som_model.specs.Kernel.{kernel, kernel_interface, object_face, class_face, class_mgr_face, before_after_face}
use Rattle.som_model.specs.Named.{Named, AClass, AMethod, AProxy, decl_names}
use Rattle.som_model_laws.proofs.Members.{mem_split}
use Rattle.som_rekey_laws.specs.Rekeying.{ModuleChange}
use Rattle.som_rekey_laws.specs.Apart.{Names, is_named, KeepsKernel}
use Rattle.som_rekey_laws.proofs.BodiesKept.{kernel_is_named, object_named, class_named}
use Rattle.som_rekey_rules.proofs.ClassesNamed.{faces_of}
use Rattle.som_rekey_rules.specs.NamesAlone.{AreOf, IsClassNamed, AreFacesNamed, AreClassesNamed}

pub both_faces : (names : Names) (cs ds : List Class) → AreFacesNamed names cs → AreFacesNamed names ds → AreFacesNamed names (cs ++ ds)
both_faces names cs ds a b c m = elim (mem_split c cs ds m) [ inl k ↦ a c k | inr k ↦ b c k ]

pub both_classes : (names : Names) (cs ds : List Class) → AreClassesNamed names cs → AreClassesNamed names ds → AreClassesNamed names (cs ++ ds)
both_classes names cs ds a b c m = elim (mem_split c cs ds m) [ inl k ↦ a c k | inr k ↦ b c k ]

module _ (f : ModuleChange) (names : Names) (kk : KeepsKernel f names) where
  abbrev EachOf : List Named → Type 0
  EachOf [] = ⊤
  EachOf (AClass k ∷ ns) = (is_named names k ≡ true) × EachOf ns
  EachOf (AMethod r ∷ ns) = EachOf ns
  EachOf (AProxy k ∷ ns) = EachOf ns

  each : (ns : List Named) → EachOf ns → AreOf names ns
  each [] all q m = absurd m
  each (AClass k ∷ ns) all q (inl e) = let z : q ≡ k = cc in ap (is_named names) z ∙ all.0
  each (AClass k ∷ ns) all q (inr m) = each ns all.1 q m
  each (AMethod r ∷ ns) all q (inl e) = absurd (let z = e in cc)
  each (AMethod r ∷ ns) all q (inr m) = each ns all q m
  each (AProxy k ∷ ns) all q (inl e) = absurd (let z = e in cc)
  each (AProxy k ∷ ns) all q (inr m) = each ns all q m

  of_face : (face : ClassFace) → Mem face kernel_interface.classes → EachOf (decl_names (bare face)) → (c : Class) → c ≡ class_in modules.Kernel (bare face) → IsClassNamed names c
  of_face face m all c is = subst (IsClassNamed names) (sym is) (record {
    key = kernel_is_named f names kk face.name (kk.here face m);
    named = each (decl_names (bare face)) all;
  })

  pub kernel_named : AreClassesNamed names kernel
  kernel_named c (inl e) =
      let k = class_named f names kk in
      of_face object_face (inl refl) (k, (k, (k, tt))) c e
  kernel_named c (inr (inl e)) =
      let o = object_named f names kk in
      of_face class_face (inr (inl refl)) (o, (o, (o, (class_named f names kk, tt)))) c e
  kernel_named c (inr (inr (inl e))) = of_face class_mgr_face (inr (inr (inl refl))) (object_named f names kk, (class_named f names kk, tt)) c e
  kernel_named c (inr (inr (inr (inl e)))) =
      let o = object_named f names kk in
      of_face before_after_face (inr (inr (inr (inl refl)))) (class_named f names kk, (o, (o, tt))) c e
  kernel_named c (inr (inr (inr (inr m)))) = absurd m

  pub with_kernel_named : (cs : List Class) → AreFacesNamed names cs → AreFacesNamed names (kernel ++ cs)
  with_kernel_named cs are = both_faces names kernel cs (faces_of names kernel kernel_named) are
