-- A release, by its interface: its classes are as ordered as the faces, and have the same descent, signatures, metaclasses and slots.
use Rattle.std.proofs.Common.{◌≡◌, ℕ, zero, suc, List, [], ◌∷◌, ◌++◌, map, take, Option, Some, None, refl, sym, ap, ◌∙◌, subst}
use Rattle.som_model.specs.declared.key.Module.TheVariants as modules
use Rattle.som_model.specs.declared.key.ClassKey.{ClassKey}
use Rattle.som_model.specs.declared.class.ClassFace.{ClassFace}
use Rattle.som_model.specs.declared.class.ClassDecl.{ClassDecl}
use Rattle.som_model.specs.declared.program.Interface.{Interface}
use Rattle.som_model.specs.declared.program.Release.{Release}
use Rattle.som_model.specs.Lists.{Mem, doubles}
use Rattle.som_model.specs.Keys.{same_key}
use Rattle.som_model.specs.Ancestors.{Descends}
use Rattle.som_model.specs.Class.{Class, bare, class_in, interface_of}
use Rattle.som_model.specs.Classes.{class_at, hierarchy, interface_classes, is_a, library_classes}
use Rattle.som_model.specs.Kernel.{kernel}
use Rattle.som_model.specs.Metaclass.{meta}
use Rattle.som_model.specs.Loads.{IsOrdered, keys_of}
use Rattle.som_model.specs.Compatible.{release_of, signature}
use Rattle.som_model.proofs.ListLaws.{get_map}
use Rattle.som_model_laws.proofs.Lists.{mem_map}
use Rattle.som_verify_classes.proofs.FacesOnly.{face_only, is_a_faces}
use Rattle.som_release_laws.proofs.FacesAlone.{faces_at, meta_faces, signature_faces}
use Rattle.som_release_laws.proofs.Facing.{tested, tests}

shown : (ds : List ClassDecl) → map face_only (map (class_in modules.Library) ds) ≡ map (λ (f : ClassFace). class_in modules.Library (bare f)) (map (λ (d : ClassDecl). d.face) ds)
shown [] = refl
shown (d ∷ ds) = ap (λ (l : List Class). class_in modules.Library (bare d.face) ∷ l) (shown ds)

same_keys : (cs : List Class) → keys_of (map face_only cs) ≡ keys_of cs
same_keys [] = refl
same_keys (c ∷ cs) = ap (λ z. c.key ∷ z) (same_keys cs)

map_take : (i : ℕ) (cs : List Class) → take i (map face_only cs) ≡ map face_only (take i cs)
map_take zero cs = refl
map_take (suc i) [] = refl
map_take (suc i) (c ∷ cs) = ap (λ (z : List Class). face_only c ∷ z) (map_take i cs)

keys_before : (cs : List Class) (i : ℕ) (k : ClassKey) → Mem k (keys_of (kernel ++ take i (map face_only cs))) → Mem k (keys_of (kernel ++ take i cs))
keys_before cs i k m = subst (λ z. Mem k z) (ap (λ (z : List Class). keys_of (kernel ++ z)) (map_take i cs) ∙ ap (λ z. keys_of kernel ++ z) (same_keys (take i cs))) m

-- classes are ordered where their faces are
pub ordered_by_faces : (cs : List Class) → IsOrdered (map face_only cs) → IsOrdered cs
ordered_by_faces cs o = record {
  own = λ c m. (let k = o.own (face_only c) (mem_map face_only c cs m) in record { module_ = k.module_; outside = k.outside; is = k.is });
  differ = sym (ap (doubles same_key []) (same_keys cs)) ∙ o.differ;
  parents = λ i c k e m. keys_before cs i k (o.parents i (face_only c) k (get_map face_only cs i c e) m);
  metaclasses = λ i c k e is. keys_before cs i k (o.metaclasses i (face_only c) k (get_map face_only cs i c e) is);
  targets = λ i c name to e m. keys_before cs i to (o.targets i (face_only c) name to (get_map face_only cs i c e) m);
}

abbrev in_face : Option Class → Option Class
in_face None = None
in_face (Some c) = Some (face_only c)

-- a class of which this is the face
pub record WithFace (cs : List Class) (k : ClassKey) (n : Class) : Type 0 where
  pub class : Class
  pub at : class_at cs k ≡ Some class
  pub face : class.decl.face ≡ n.decl.face

module _ (new : Interface) (r : Release) (is : interface_of r ≡ new) (on : IsOrdered (interface_classes new)) where
  abbrev news : List Class
  news = library_classes r

  abbrev N : List Class
  N = kernel ++ news

  abbrev F : List Class
  F = release_of new

  pub faces : map face_only news ≡ interface_classes new
  faces = shown r.classes ∙ ap interface_classes is

  pub ordered : IsOrdered news
  ordered = ordered_by_faces news (subst IsOrdered (sym faces) on)

  pub same_is_a : (k a : ClassKey) → is_a N k a ≡ is_a F k a
  same_is_a k a = sym (is_a_faces N k a) ∙ ap (λ (z : List Class). is_a (kernel ++ z) k a) faces

  pub same_signature : (k : ClassKey) (name : List ℕ) → signature N k name ≡ signature F k name
  same_signature k name = sym (signature_faces N k name) ∙ ap (λ (z : List Class). signature (kernel ++ z) k name) faces

  pub same_meta : (k : ClassKey) → meta N k ≡ meta F k
  same_meta k = sym (meta_faces N k) ∙ ap (λ (z : List Class). meta (kernel ++ z) k) faces

  pub same_descent : (k a : ClassKey) → Descends (hierarchy N) k a → Descends (hierarchy F) k a
  same_descent k a d = tested (interface_classes new) on k a (sym (same_is_a k a) ∙ tests news ordered k a d)

  -- the class of a key has the face that the interface has for it
  pub class_there : (k : ClassKey) (n : Class) → class_at F k ≡ Some n → WithFace N k n
  class_there k n e = by (class_at N k) refl (sym (ap (λ (z : List Class). class_at (kernel ++ z) k) (sym faces) ∙ faces_at N k) ∙ e)
    where
      by : (o : Option Class) → class_at N k ≡ o → in_face o ≡ Some n → WithFace N k n
      by None f g = absurd (cc)
      by (Some z) f g = record { class = z; at = f; face = (let h : face_only z ≡ n = cc in ap (λ (x : Class). x.decl.face) h) }

  -- a class that is found among the library's alone is one of the interface
  pub class_shown : (c : Class) → Mem c news → Mem (face_only c) (interface_classes new)
  class_shown c m = subst (λ z. Mem (face_only c) z) faces (mem_map face_only c news m)
