-- The classes of a library and of a client with their keys, one more.
use Rattle.std.proofs.Common.{◌≡◌, ℕ, ◌+◌, ◌<◌, List, [], ◌∷◌, ◌++◌, append_assoc, get_or, length, map, take, refl, sym, ap, ◌∙◌}
use Rattle.std.proofs.lemmas.List.{take_more}
use Rattle.som_model.specs.declared.key.Module.{Module}
use Rattle.som_model.specs.declared.class.ClassDecl.{ClassDecl}
use Rattle.som_model.specs.Class.{Class, class_in}
use Rattle.som_class_ids.specs.declared.keyed.Keyed.{Keyed}
use Rattle.som_class_ids.specs.Classes.{class_of, classes_of}

map_end : {A B : Type 0} (f : A → B) (xs : List A) (x : A) → map f (xs ++ x ∷ []) ≡ map f xs ++ f x ∷ []
map_end f [] x = refl
map_end f (y ∷ ys) x = ap (λ z. f y ∷ z) (map_end f ys x)

pub classes_more : (m : Module) (start : List Class) (all : List Keyed) (decls : List ClassDecl) (i : ℕ) (d : ClassDecl) (x : Keyed) → i < length decls → d ≡ get_or decls i d → class_of x ≡ class_in m d
    → classes_of all ≡ start ++ map (class_in m) (take i decls) → classes_of (all ++ x ∷ []) ≡ start ++ map (class_in m) (take (i + 1) decls)
classes_more m start all decls i d x lt at is so =
    let next : map (class_in m) (take i decls) ++ class_in m d ∷ [] ≡ map (class_in m) (take (i + 1) decls) =
    sym (map_end (class_in m) (take i decls) d) ∙ ap (λ z. map (class_in m) (take i decls ++ z ∷ [])) at ∙ ap (map (class_in m)) (sym (take_more decls i d lt)) in
    map_end class_of all x ∙ ap (λ z. z ++ class_of x ∷ []) so ∙ ap (λ z. (start ++ map (class_in m) (take i decls)) ++ z ∷ []) is
    ∙ append_assoc start (map (class_in m) (take i decls)) (class_in m d ∷ []) ∙ ap (λ z. start ++ z) next
