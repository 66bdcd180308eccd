-- Classes of the same faces have the same methods.
use Rattle.std.proofs.Common.{◌≡◌, ℕ, Bool, if◌then◌else◌, List, [], ◌∷◌, map, Some, refl, sym, ap, ◌∙◌}
use Rattle.som_model.specs.declared.key.ClassKey.{ClassKey}
use Rattle.som_model.specs.declared.key.Module.{Module}
use Rattle.som_model.specs.declared.class.Entry.{Entry}
use Rattle.som_model.specs.declared.class.Entry.TheVariants as entries
use Rattle.som_model.specs.declared.class.ClassFace.{ClassFace}
use Rattle.som_model.specs.Class.{Class}
use Rattle.som_model.specs.Classes.{ancestors, hierarchy}
use Rattle.som_model.specs.Lists.{find}
use Rattle.som_model.specs.Owner.{introduces}
use Rattle.som_model.specs.Resolution.{byname}
use Rattle.som_ast.specs.declared.interface.IdlInterface.{IdlInterface}
use Rattle.som_verify_classes.proofs.FacesOnly.{ancestors_faces, face_only, introduces_faces}
use Rattle.som_sema_laws.specs.Faces.{EntrySays, FaceSays, a_declared_entry, a_moved_entry, class_of}

find_so : {A : Type 0} (f g : A → Bool) (xs : List A) → ((a : A) → f a ≡ g a) → find f xs ≡ find g xs
find_so f g [] e = refl
find_so f g (x ∷ xs) e = ap (λ (b : Bool). if b then Some x else find f xs) (e x) ∙ ap (λ o. if g x then Some x else o) (find_so f g xs e)

-- the first of the ancestors that introduces a name
pub byname_faces : (cs : List Class) (name : List ℕ) (k : ClassKey) → byname (hierarchy (map face_only cs)) (introduces (map face_only cs) name) k ≡ byname (hierarchy cs) (introduces cs name) k
byname_faces cs name k =
    find_so (introduces (map face_only cs) name) (introduces cs name) (ancestors (map face_only cs) k) (λ a. introduces_faces cs name a)
    ∙ ap (find (introduces cs name)) (ancestors_faces cs k)

pub byname_other : (cs ds : List Class) → map face_only cs ≡ map face_only ds → (name : List ℕ) (k : ClassKey) → byname (hierarchy cs) (introduces cs name) k ≡ byname (hierarchy ds) (introduces ds name) k
byname_other cs ds same name k =
    sym (byname_faces cs name k)
    ∙ ap (λ (z : List Class). byname (hierarchy z) (introduces z name) k) same
    ∙ byname_faces ds name k

module _ (module_of : List ℕ → Module) (cs ds : List Class) (same : map face_only cs ≡ map face_only ds) (i : IdlInterface) where
  entry_other : (e : Entry) → EntrySays module_of i cs e → EntrySays module_of i ds e
  entry_other (entries.Introduced name sig way) (a_declared_entry p w) = a_declared_entry p w
  entry_other (entries.Moved name to) (a_moved_entry f p) = a_moved_entry f (sym (byname_other cs ds same name (class_of module_of i.name)) ∙ p)

  -- what is said of a face among some is said among the others
  pub face_other : (f : ClassFace) → FaceSays module_of cs i f → FaceSays module_of ds i f
  face_other f p = record {
    name = p.name;
    major = p.major;
    minor = p.minor;
    parents = p.parents;
    metaclass = p.metaclass;
    order = p.order;
    entries = λ e m. entry_other e (p.entries e m);
  }
