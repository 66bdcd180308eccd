-- Classes of a module that are declared one after the other.
use Rattle.std.proofs.Common.{◌≡◌, ℕ, zero, suc, ◌+◌, ◌<◌, ◌≤◌, List, [], ◌∷◌, ◌++◌, map, length, drop, slice_index_or, sym, ap, ◌∙◌, arith, append_assoc}
use Rattle.std.proofs.lemmas.List.{append-nil, map-append}
use Rattle.som_model.specs.Class.{Class, class_in}
use Rattle.som_model.specs.declared.key.Module.{Module}
use Rattle.som_model.specs.declared.class.ClassDecl.{ClassDecl}
use Rattle.som_verify_classes.specs.declared.types.Declared.{Declared}
use Rattle.som_verify_classes.specs.Modules.{class_of, classes_of}
use Rattle.som_verify_classes.proofs.ClassTable.{drop_end}

map_drop : {A B : Type 0} (f : A → B) (xs : List A) (i : ℕ) (d : A) → i < length xs → d ≡ slice_index_or xs i d → map f (drop i xs) ≡ f d ∷ map f (drop (i + 1) xs)
map_drop f [] i d lt is = absurd (omega arith)
map_drop f (x ∷ xs) zero d lt is = ap (λ z. f z ∷ map f xs) (sym is)
map_drop f (x ∷ xs) (suc i) d lt is = let e : suc i + 1 ≡ suc (i + 1) = omega arith in rw e (map_drop f xs i d (omega arith) is)

-- one class more
pub declared_more : (home : Module) (ds : List Declared) (x : Declared) (all : List ClassDecl) (i : ℕ) (d : ClassDecl) (whole : List Class)
    → i < length all → d ≡ slice_index_or all i d → class_of x ≡ class_in home d
    → classes_of ds ++ map (class_in home) (drop i all) ≡ whole → classes_of (ds ++ x ∷ []) ++ map (class_in home) (drop (i + 1) all) ≡ whole
declared_more home ds x all i d whole lt is same so =
    ap (λ z. z ++ map (class_in home) (drop (i + 1) all)) (map-append class_of ds (x ∷ []) ∙ ap (λ z. classes_of ds ++ z ∷ []) same)
    ∙ append_assoc (classes_of ds) (class_in home d ∷ []) (map (class_in home) (drop (i + 1) all))
    ∙ ap (λ z. classes_of ds ++ z) (sym (map_drop (class_in home) all i d lt is))
    ∙ so

-- all are declared
pub declared_all : (home : Module) (ds : List Declared) (all : List ClassDecl) (i : ℕ) (whole : List Class)
    → length all ≤ i → classes_of ds ++ map (class_in home) (drop i all) ≡ whole → classes_of ds ≡ whole
declared_all home ds all i whole le so = sym (append-nil (classes_of ds)) ∙ ap (λ z. classes_of ds ++ map (class_in home) z) (sym (drop_end all i le)) ∙ so
