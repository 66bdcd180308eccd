-- The flat interface says of its classes what the levels say, under flat keys.
use Rattle.std.proofs.Common.{◌≡◌, ℕ, true, List, ◌++◌, flat_map, map, None, refl, sym, ap, ◌∙◌}
use Rattle.std.specs.Option.{option_map}
use Rattle.som_model.specs.declared.key.ClassKey.{ClassKey}
use Rattle.som_model.specs.declared.key.MethodRef.{MethodRef}
use Rattle.som_model.specs.declared.program.Interface.{Interface}
use Rattle.som_model.specs.Lists.{Mem, first, or_else}
use Rattle.som_model.specs.Hierarchy.{Hierarchy}
use Rattle.som_model.specs.Ancestors.{anc}
use Rattle.som_model.specs.Class.{Class}
use Rattle.som_model.specs.Classes.{ancestors, interface_classes}
use Rattle.som_model.specs.Compatible.{release_of, signature}
use Rattle.som_model.specs.Kernel.{kernel}
use Rattle.som_model.specs.Owner.{owner}
use Rattle.som_model.specs.Rules.{name_of, s5}
use Rattle.som_model.specs.Conforming.{faces_breach, first_of_members, first_of_names}
use Rattle.som_model.specs.Loads.{FacesLoad}
use Rattle.som_model_laws.proofs.Members.{Apart}
use Rattle.som_model_laws.proofs.Standing.{found}
use Rattle.som_verify_classes.proofs.Conformity.{or_none}
use Rattle.som_verify_classes.proofs.Unbroken.{names_apart}
use Rattle.som_rekey_laws.specs.Apart.{AreNamed, AreTargetsNamed, IsApart, KeepsKernel, Names, is_named, names_of}
use Rattle.som_rekey_laws.specs.Rekeying.{rekey, rekey_classes, rekey_method, rekey_sig}
use Rattle.som_rekey_laws.proofs.KernelKept.{with_kernel}
use Rattle.som_rekey_laws.proofs.OrderedNames.{class_named}
use Rattle.som_rekey_laws.proofs.OwnersKept.{owner_kept, owner_signature_kept}
use Rattle.som_rekey_laws.proofs.Places.{ancestors_kept}
use Rattle.som_rekey_rules.specs.NamesAlone.{AreFacesNamed}
use Rattle.som_rekey_rules.proofs.ClassesNamed.{all_named, all_targets, faces_of}
use Rattle.som_rekey_rules.proofs.KernelNamed.{with_kernel_named}
use Rattle.som_level_laws.specs.Levels.{level_classes}
use Rattle.som_flat_laws.specs.Flat.{class_by_owners, flat_interface, flat_module}
use Rattle.som_flat_laws.proofs.Breaches.{apart_names}
use Rattle.som_flat_laws.proofs.Flattening.{flat_classes, keeps_apart, keeps_kernel, named_by_owners}
use Rattle.som_flat_laws.proofs.Kept.{owner_same, same_hierarchy, signature_same}

-- no two classes have one name, where the flat interface breaks no rule
pub names_differ : (is : List Interface) → faces_breach (interface_classes (flat_interface is)) ≡ None → Apart (map name_of (level_classes is))
names_differ is e =
    let cs = level_classes is in
    let X = rekey_classes flat_module (map (class_by_owners (kernel ++ cs)) cs) in
    let a = or_none (first_of_names kernel X) (or_else (first (flat_map (s5 (kernel ++ X)) X)) (first_of_members kernel X)) (ap faces_breach (sym (flat_classes is)) ∙ e) in
    apart_names cs (names_apart X a.0)

module _ (is : List Interface) (f : FacesLoad (level_classes is)) (e : faces_breach (interface_classes (flat_interface is)) ≡ None) where
  abbrev cs : List Class
  cs = level_classes is

  abbrev all : List Class
  all = kernel ++ cs

  abbrev T : List Class
  T = map (class_by_owners all) cs

  abbrev names : Names
  names = names_of all

  abbrev ref : ClassKey → List ℕ → MethodRef
  ref k name = record { class = k; name = name }

  keeps : KeepsKernel flat_module names
  keeps = keeps_kernel cs f.ordered

  apart : IsApart flat_module names
  apart = keeps_apart cs f.ordered (names_differ is e)

  faces : AreFacesNamed names (kernel ++ T)
  faces = with_kernel_named flat_module names keeps T (faces_of names T (named_by_owners cs f))

  are_named : AreNamed names (kernel ++ T)
  are_named = all_named names (kernel ++ T) faces

  targets_named : AreTargetsNamed names (kernel ++ T)
  targets_named = all_targets names (kernel ++ T) faces

  flat_all : release_of (flat_interface is) ≡ rekey_classes flat_module (kernel ++ T)
  flat_all = ap (λ (z : List Class). kernel ++ z) (flat_classes is) ∙ sym (with_kernel flat_module names keeps T)

  key_named : (c : Class) → Mem c all → is_named names c.key ≡ true
  key_named c m = class_named cs f.ordered c.key c (found cs f.ordered c c.key m refl)

  pub flat_ancestors : (c : Class) → Mem c all → ancestors (release_of (flat_interface is)) (rekey flat_module c.key) ≡ map (rekey flat_module) (ancestors all c.key)
  flat_ancestors c m =
      ap (λ (z : List Class). ancestors z (rekey flat_module c.key)) flat_all
      ∙ ancestors_kept flat_module names (kernel ++ T) apart are_named c.key (key_named c m)
      ∙ ap (λ (h : Hierarchy ClassKey). map (rekey flat_module) (anc h c.key)) (same_hierarchy cs f)

  pub flat_owner : (c : Class) (name : List ℕ) → Mem c all → owner (release_of (flat_interface is)) (rekey_method flat_module (ref c.key name)) ≡ rekey_method flat_module (owner all (ref c.key name))
  flat_owner c name m =
      ap (λ (z : List Class). owner z (rekey_method flat_module (ref c.key name))) flat_all
      ∙ owner_kept flat_module names (kernel ++ T) apart are_named targets_named (ref c.key name) (key_named c m)
      ∙ ap (rekey_method flat_module) (owner_same cs f (ref c.key name))

  pub flat_signature : (c : Class) (name : List ℕ) → Mem c all → signature (release_of (flat_interface is)) (rekey flat_module c.key) name ≡ option_map (rekey_sig flat_module) (signature all c.key name)
  flat_signature c name m =
      ap (λ (z : List Class). signature z (rekey flat_module c.key) name) flat_all
      ∙ owner_signature_kept flat_module names (kernel ++ T) apart are_named targets_named (ref c.key name) (key_named c m)
      ∙ ap (option_map (rekey_sig flat_module)) (signature_same cs f c.key name)
