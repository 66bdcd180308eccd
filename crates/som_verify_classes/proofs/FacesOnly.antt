-- Classes of which the faces alone are left: which of them descend from which, and what they introduce, stays as it was.
use Rattle.std.proofs.Common.{◌≡◌, ℕ, Bool, true, false, if◌then◌else◌, List, [], ◌∷◌, map, Option, Some, None, is_some, refl, ap, ◌∙◌}
use Rattle.som_model.specs.declared.key.ClassKey.{ClassKey}
use Rattle.som_model.specs.Keys.{same_key}
use Rattle.som_model.specs.Hierarchy.{Hierarchy}
use Rattle.som_model.specs.Ancestors.{anc}
use Rattle.som_model.specs.Class.{Class, bare}
use Rattle.som_model.specs.Classes.{ancestors, class_at, is_a}
use Rattle.som_model.specs.Owner.{introduces}
use Rattle.som_model.specs.Rules.{introduced_by, is_known, is_value_type, name_of}
use Rattle.som_model.specs.declared.key.ValueType.{ValueType}
use Rattle.som_model.specs.declared.key.ValueType.TheVariants as types
use Rattle.som_verify_classes.proofs.Outlines.{outline, same_descent, same_hierarchy, same_known}

-- a class of which the face alone is left
abbrev pub face_only : Class → Class
face_only c = record { key = c.key; decl = bare c.decl.face }

abbrev in_face : Option Class → Option Class
in_face None = None
in_face (Some c) = Some (face_only c)

faces_at : (cs : List Class) (k : ClassKey) → class_at (map face_only cs) k ≡ in_face (class_at cs k)
faces_at [] k = refl
faces_at (c ∷ cs) k = by (same_key c.key k) (class_at (map face_only cs) k) (class_at cs k) (faces_at cs k)
  where
    by : (b : Bool) (o p : Option Class) → o ≡ in_face p → (if b then Some (face_only c) else o) ≡ in_face (if b then Some c else p)
    by true o p e = refl
    by false o p e = e

-- a face has the outline of its class
outline_faces : (cs : List Class) → map outline (map face_only cs) ≡ map outline cs
outline_faces [] = refl
outline_faces (c ∷ cs) = ap (λ z. outline c ∷ z) (outline_faces cs)

-- names, descent, and what is introduced and known

pub names_faces : (cs : List Class) → map name_of (map face_only cs) ≡ map name_of cs
names_faces [] = refl
names_faces (c ∷ cs) = ap (λ z. name_of c ∷ z) (names_faces cs)

pub ancestors_faces : (cs : List Class) (k : ClassKey) → ancestors (map face_only cs) k ≡ ancestors cs k
ancestors_faces cs k = ap (λ (h : Hierarchy ClassKey). anc h k) (same_hierarchy (map face_only cs) cs (outline_faces cs))

pub is_a_faces : (cs : List Class) (k a : ClassKey) → is_a (map face_only cs) k a ≡ is_a cs k a
is_a_faces cs = same_descent (map face_only cs) cs (outline_faces cs)

pub known_faces : (cs : List Class) (k : ClassKey) → is_some (class_at (map face_only cs) k) ≡ is_some (class_at cs k)
known_faces cs = same_known (map face_only cs) cs (outline_faces cs)

pub introduced_faces : (cs : List Class) (k : ClassKey) → introduced_by (map face_only cs) k ≡ introduced_by cs k
introduced_faces cs k = by (class_at (map face_only cs) k) (class_at cs k) refl refl (faces_at cs k)
  where
    by : (o p : Option Class) → class_at (map face_only cs) k ≡ o → class_at cs k ≡ p → o ≡ in_face p → introduced_by (map face_only cs) k ≡ introduced_by cs k
    by o None e f g = let h = e ∙ g in rw (h, f) refl
    by o (Some c) e f g = let h = e ∙ g in rw (h, f) refl

pub introduces_faces : (cs : List Class) (name : List ℕ) (k : ClassKey) → introduces (map face_only cs) name k ≡ introduces cs name k
introduces_faces cs name k = by (class_at (map face_only cs) k) (class_at cs k) refl refl (faces_at cs k)
  where
    by : (o p : Option Class) → class_at (map face_only cs) k ≡ o → class_at cs k ≡ p → o ≡ in_face p → introduces (map face_only cs) name k ≡ introduces cs name k
    by o None e f g = let h = e ∙ g in rw (h, f) refl
    by o (Some c) e f g = let h = e ∙ g in rw (h, f) refl

pub type_faces : (cs : List Class) (t : ValueType) → is_known (map face_only cs) t ≡ is_known cs t
type_faces cs types.Void = refl
type_faces cs types.Long = refl
type_faces cs types.Boolean = refl
type_faces cs types.Str = refl
type_faces cs (types.Class k) = known_faces cs k

pub value_faces : (cs : List Class) (t : ValueType) → is_value_type (map face_only cs) t ≡ is_value_type cs t
value_faces cs types.Void = refl
value_faces cs types.Long = refl
value_faces cs types.Boolean = refl
value_faces cs types.Str = refl
value_faces cs (types.Class k) = known_faces cs k
