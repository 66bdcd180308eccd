-- Methods of faces that have room in an image have no more parameters than they may have.
use Rattle.std.proofs.Common.{◌≡◌, ℕ, ◌≤◌, inl, inr, List, [], ◌∷◌, length, map, All, sym, subst}
use Rattle.std.specs.List.{AllByRecursion}
use Rattle.std.proofs.lemmas.List.Elements.{recursion_from_All}
use Rattle.som_model.specs.declared.key.Module.TheVariants as modules
use Rattle.som_model.specs.declared.class.Sig.{Sig}
use Rattle.som_model.specs.declared.class.Way.{Way}
use Rattle.som_model.specs.declared.class.Entry.{Entry}
use Rattle.som_model.specs.declared.class.Entry.TheVariants as entries
use Rattle.som_model.specs.declared.class.ClassFace.{ClassFace}
use Rattle.som_model.specs.declared.program.Interface.{Interface}
use Rattle.som_model.specs.declared.limits.TheConstants.{MAX_PARAMETERS}
use Rattle.som_model.specs.Lists.{Mem}
use Rattle.som_model.specs.Class.{Class, class_in, bare}
use Rattle.som_model.specs.Classes.{interface_classes}
use Rattle.som_image_classes.specs.ClassLimits.{EntryWithin, FaceWithin}
use Rattle.som_elab.specs.Contexts.{FewParameters}

entry_few : (es : List Entry) → AllByRecursion EntryWithin es → (name : List ℕ) (sig : Sig) (way : Way) → Mem (entries.Introduced name sig way) es → length sig.params ≤ MAX_PARAMETERS
entry_few [] p name sig way m = absurd m
entry_few (e ∷ es) p name sig way (inl is) = (subst EntryWithin (sym is) p.0).1
entry_few (e ∷ es) p name sig way (inr m) = entry_few es p.1 name sig way m

faces_few : (fs : List ClassFace) → AllByRecursion FaceWithin fs → (c : Class) (name : List ℕ) (sig : Sig) (way : Way)
    → Mem c (map (λ (f : ClassFace). class_in modules.Library (bare f)) fs) → Mem (entries.Introduced name sig way) c.decl.face.entries → length sig.params ≤ MAX_PARAMETERS
faces_few [] p c name sig way m e = absurd m
faces_few (f ∷ fs) p c name sig way (inl is) e =
    entry_few f.entries (recursion_from_All EntryWithin f.entries p.0.each_entry) name sig way (subst (λ (x : Class). Mem (entries.Introduced name sig way) x.decl.face.entries) is e)
faces_few (f ∷ fs) p c name sig way (inr m) e = faces_few fs p.1 c name sig way m e

pub few_parameters : (base : Interface) → All FaceWithin base.classes → FewParameters (interface_classes base)
few_parameters base faces = record {
  by = λ c name sig way m e. faces_few base.classes (recursion_from_All FaceWithin base.classes faces) c name sig way m e;
}
