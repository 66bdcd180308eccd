-- Entries, faces and interfaces as the flat interface has them.
use Rattle.std.proofs.Common.{◌≡◌, ℕ, ◌<◌, List, [], map, drop, length, Option, Some, slice_get, slice_index_or, sym, ap, ◌∙◌, subst, arith}
use Rattle.std.specs.Option.{option_map}
use Rattle.som_model.specs.declared.key.ClassKey.{ClassKey}
use Rattle.som_model.specs.declared.class.Entry.{Entry}
use Rattle.som_model.specs.declared.class.ClassFace.{ClassFace}
use Rattle.som_model.specs.declared.program.Interface.{Interface}
use Rattle.som_model.specs.Class.{Class}
use Rattle.som_rekey_laws.specs.Rekeying.{rekey, rekey_entry, rekey_face}
use Rattle.som_rekey_laws.proofs.Lists.{map_twice}
use Rattle.som_verify_classes.specs.Places.{class_of_place, face_at, key_at}
use Rattle.som_level_laws.specs.Levels.{all_levels, level_classes}
use Rattle.som_compat_levels.specs.declared.owners.Slot.{Slot}
use Rattle.som_compat_levels.specs.Owners.{AreOwners, IsOwner}
use Rattle.som_flat_laws.specs.Flat.{class_by_owners, entry_by_owner, flat_interface, flat_module}
use Rattle.som_flat.specs.FlatFaces.{flat_entry_of, flat_face_of}

-- where the owners of a class's entries stand
module _ (cs : List Class) (owners : List (List Slot)) (place : ℕ) (a : AreOwners cs (length cs) owners) (lt : place < length cs) where
  pub owner_is : (number : ℕ) (e : Entry) (s : Slot) → slice_get (face_at cs place).entries number ≡ Some e → s ≡ slice_index_or (slice_index_or owners place []) number s → IsOwner cs place e s
  owner_is number e s at is = subst (IsOwner cs place e) (sym is) ((a.by place lt).by number e s at)

  pub owner_stands : (e : Entry) (s : Slot) → IsOwner cs place e s → s.class < length cs
  owner_stands e s o = let low = o.low in omega (arith, low, lt)

abbrev made : ClassFace → List ℕ → List ClassKey → Option ClassKey → List Entry → ClassFace
made f name ks m es = record { name = name; major = f.major; minor = f.minor; parents = ks; metaclass = m; entries = es }

-- the face of a class, part by part
pub face_is : (cs : List Class) (place : ℕ) (f : ClassFace) (name : List ℕ) (ks : List ClassKey) (m : Option ClassKey) (es : List Entry) → f ≡ face_at cs place → name ≡ f.name
    → ks ≡ map (rekey flat_module) f.parents → m ≡ option_map (rekey flat_module) f.metaclass → es ≡ map (flat_entry_of cs (key_at cs place)) (face_at cs place).entries
    → made f name ks m es ≡ flat_face_of cs (class_of_place cs place)
face_is cs place f name ks m es e a b c d =
    let F = face_at cs place in
    let parents = map (rekey flat_module) F.parents in
    let metaclass = option_map (rekey flat_module) F.metaclass in
    ap (λ (z : ClassFace). made z name ks m es) e
    ∙ ap (λ (z : List ℕ). made F z ks m es) (a ∙ ap (λ (z : ClassFace). z.name) e)
    ∙ ap (λ (z : List ClassKey). made F F.name z m es) (b ∙ ap (λ (z : ClassFace). map (rekey flat_module) z.parents) e)
    ∙ ap (λ (z : Option ClassKey). made F F.name parents z es) (c ∙ ap (λ (z : ClassFace). option_map (rekey flat_module) z.metaclass) e)
    ∙ ap (λ (z : List Entry). made F F.name parents metaclass z) (d ∙ sym (map_twice (rekey_entry flat_module) (entry_by_owner cs (key_at cs place)) F.entries))

-- the faces of all levels are those of the flat interface
flat_is : (is : List Interface) (cs : List Class) → cs ≡ all_levels is → map (flat_face_of cs) (drop 4 cs) ≡ (flat_interface is).classes
flat_is is cs e = subst (λ z. map (flat_face_of z) (drop 4 z) ≡ (flat_interface is).classes) (sym e)
    (sym (map_twice (λ (c : Class). rekey_face flat_module c.decl.face) (class_by_owners (all_levels is)) (level_classes is)))

abbrev of_faces : List ClassFace → Interface
of_faces fs = record { classes = fs }

pub flat_made : (is : List Interface) (cs : List Class) (fs : List ClassFace) → cs ≡ all_levels is → fs ≡ map (flat_face_of cs) (drop 4 cs) → of_faces fs ≡ flat_interface is
flat_made is cs fs e f = ap of_faces (f ∙ flat_is is cs e)
