-- A program's own classes with their keys, one more.
use Rattle.std.proofs.Common.{◌≡◌, ℕ, ◌+◌, ◌<◌, List, [], ◌∷◌, ◌++◌, append_assoc, get_or, length, map, take, refl, sym, ap, ◌∙◌}
use Rattle.std.proofs.lemmas.List.{take_more}
use Rattle.som_model.specs.declared.class.ClassDecl.{ClassDecl}
use Rattle.som_model.specs.Class.{Class}
use Rattle.som_class_ids.specs.declared.keyed.Keyed.{Keyed}
use Rattle.som_class_ids.specs.Classes.{class_of, classes_of}

map_end : {A B : Type 0} (f : A → B) (xs : List A) (x : A) → map f (xs ++ x ∷ []) ≡ map f xs ++ f x ∷ []
map_end f [] x = refl
map_end f (y ∷ ys) x = ap (λ z. f y ∷ z) (map_end f ys x)

pub classes_more : (f : ClassDecl → Class) (start : List Class) (all : List Keyed) (decls : List ClassDecl) (i : ℕ) (d : ClassDecl) (x : Keyed) → i < length decls → d ≡ get_or decls i d → class_of x ≡ f d
    → classes_of all ≡ start ++ map f (take i decls) → classes_of (all ++ x ∷ []) ≡ start ++ map f (take (i + 1) decls)
classes_more f start all decls i d x lt at is so =
    let next : map f (take i decls) ++ f d ∷ [] ≡ map f (take (i + 1) decls) =
    sym (map_end f (take i decls) d) ∙ ap (λ z. map f (take i decls ++ z ∷ [])) at ∙ ap (map f) (sym (take_more decls i d lt)) in
    map_end class_of all x ∙ ap (λ z. z ++ class_of x ∷ []) so ∙ ap (λ z. (start ++ map f (take i decls)) ++ z ∷ []) is
    ∙ append_assoc start (map f (take i decls)) (f d ∷ []) ∙ ap (λ z. start ++ z) next
