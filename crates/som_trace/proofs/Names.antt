-- The pieces of a name, one after the other, are the name.
use Rattle.std.proofs.Common.{◌≡◌, ℕ, List, [], ◌∷◌, ◌++◌, map, codes, refl, sym, ap, ◌∙◌, subst, append_assoc}
use Rattle.std.specs.List.{concat}
use Rattle.std.proofs.lemmas.List.{append-nil}
use Rattle.std.proofs.lemmas.List.Folds.{concat-append}
use Rattle.som_model.specs.declared.key.ClassKey.{ClassKey, roll-ClassKey, ind-ClassKey, fold-roll-ClassKey, map-ClassKey}
use Rattle.som_model.specs.declared.key.ClassKey.TheOpen.{ClassKey-F}
use Rattle.som_model.specs.declared.key.ClassKey.TheVariants as keys
use Rattle.som_model.specs.declared.key.ClassKey.TheVariants.{rolls-Named, rolls-Derived, rolls-Proxy}
use Rattle.som_model.specs.ClassNames.{class_name, name_list}
use Rattle.som_trace.specs.Pieces.{name_pieces, pieces_step, list_of}

-- the step of the definition of names
abbrev name_step : ClassKey-F (List ℕ) → List ℕ
name_step (ClassKey-F.Named m name) = name
name_step (ClassKey-F.Derived names) = codes "Derived(" ++ name_list names ++ codes ")"
name_step (ClassKey-F.Proxy name) = codes "Proxy(" ++ name ++ codes ")"

-- the pieces of a key by those of what it is made of
pub named_pieces : (m : _) (n : List ℕ) → name_pieces (keys.Named m n) ≡ n ∷ []
named_pieces m n = ap name_pieces (sym (rolls-Named m n)) ∙ fold-roll-ClassKey (List (List ℕ)) pieces_step (ClassKey-F.Named m n)

pub derived_pieces : (ks : List ClassKey) → name_pieces (keys.Derived ks) ≡ codes "Derived(" ∷ list_of (map name_pieces ks)
derived_pieces ks = ap name_pieces (sym (rolls-Derived ks)) ∙ fold-roll-ClassKey (List (List ℕ)) pieces_step (ClassKey-F.Derived ks)

pub proxy_pieces : (k : ClassKey) → name_pieces (keys.Proxy k) ≡ codes "Proxy(" ∷ list_of (name_pieces k ∷ [])
proxy_pieces k = ap name_pieces (sym (rolls-Proxy k)) ∙ fold-roll-ClassKey (List (List ℕ)) pieces_step (ClassKey-F.Proxy k)

-- the pieces of a key are its name
abbrev IsNamed : ClassKey → Type 0
IsNamed k = concat (name_pieces k) ≡ class_name k

abbrev Kept : Type 0
Kept = (k : ClassKey) × IsNamed k

abbrev keys_of : List Kept → List ClassKey
keys_of ps = map (λ (p : Kept). p.0) ps

abbrev pieces_kept : List Kept → List (List (List ℕ))
pieces_kept ps = map name_pieces (keys_of ps)

abbrev names_kept : List Kept → List (List ℕ)
names_kept ps = map class_name (keys_of ps)

listed : (ps : List Kept) → concat (list_of (pieces_kept ps)) ≡ name_list (names_kept ps) ++ codes ")"
listed [] = refl
listed (p ∷ []) = concat-append (name_pieces p.0) (codes ")" ∷ []) ∙ ap (λ (x : List ℕ). x ++ codes ")") p.1
listed (p ∷ q ∷ ps) =
    concat-append (name_pieces p.0) (codes "," ∷ list_of (pieces_kept (q ∷ ps)))
    ∙ ap (λ (x : List ℕ). x ++ (codes "," ++ concat (list_of (pieces_kept (q ∷ ps))))) p.1
    ∙ ap (λ (x : List ℕ). class_name p.0 ++ (codes "," ++ x)) (listed (q ∷ ps))
    ∙ sym (append_assoc (class_name p.0) (codes "," ++ name_list (names_kept (q ∷ ps))) (codes ")"))
    ∙ ap (λ (x : List ℕ). x ++ codes ")") (sym (append_assoc (class_name p.0) (codes ",") (name_list (names_kept (q ∷ ps)))))

abbrev bare : ClassKey-F Kept → ClassKey-F ClassKey
bare = map-ClassKey Kept ClassKey (λ e. e.0)

layer_is : (y : ClassKey-F Kept) → concat (pieces_step (map-ClassKey ClassKey (List (List ℕ)) name_pieces (bare y))) ≡ name_step (map-ClassKey ClassKey (List ℕ) class_name (bare y))
layer_is (ClassKey-F.Named m name) = append-nil name
layer_is (ClassKey-F.Derived ps) = ap (λ (x : List ℕ). codes "Derived(" ++ x) (listed ps)
layer_is (ClassKey-F.Proxy p) = ap (λ (x : List ℕ). codes "Proxy(" ++ x) (listed (p ∷ []))

layer_named : (y : ClassKey-F Kept) → IsNamed (roll-ClassKey (bare y))
layer_named y =
    ap concat (fold-roll-ClassKey (List (List ℕ)) pieces_step (bare y))
    ∙ layer_is y
    ∙ sym (fold-roll-ClassKey (List ℕ) name_step (bare y))

pub name_is : (k : ClassKey) → concat (name_pieces k) ≡ class_name k
name_is = ind-ClassKey IsNamed (λ x y is. subst (λ z. IsNamed (roll-ClassKey z)) is (layer_named y))

-- the name of a declared class
pub named_is : (m : _) (n : List ℕ) → class_name (keys.Named m n) ≡ n
named_is m n = sym (name_is (keys.Named m n)) ∙ ap concat (named_pieces m n) ∙ append-nil n
