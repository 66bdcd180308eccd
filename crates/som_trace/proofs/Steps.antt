-- What a step of the walk over a name leaves.
use Rattle.std.proofs.Common.{◌≡◌, ℕ, List, [], ◌∷◌, ◌++◌, map, length, codes, Option, Some, None, refl, sym, ap, ◌∙◌, subst, append_assoc}
use Rattle.std.specs.List.{concat}
use Rattle.std.proofs.lemmas.List.{append-nil, nil_from_length}
use Rattle.som_model.specs.ClassNames.{class_name}
use Rattle.som_model.specs.declared.key.ClassKey.{ClassKey}
use Rattle.som_model.specs.declared.key.ClassKey.TheVariants as keys
use Rattle.som_meta.specs.Numbering.{Numbering, key_at}
use Rattle.som_trace.specs.declared.pieces.Part.{Part}
use Rattle.som_trace.specs.declared.pieces.Part.TheVariants as parts
use Rattle.som_trace.specs.Pieces.{name_pieces, part_pieces, pieces_left, pieces_of, list_pieces, rest_pieces, list_of, IsNext}
use Rattle.som_trace.proofs.Names.{named_pieces, derived_pieces, proxy_pieces, name_is}
use Rattle.som_trace.proofs.Parts.{pushed}
use denote.Ref.{Bor}

-- a name that comes before names with commas, both put on what is left
two_pushed : (k : Numbering) (ls ls1 ls2 : List Part) (n : ℕ) (p : Part) → ls1 ≡ ls ++ p ∷ [] → ls2 ≡ ls1 ++ parts.Name n ∷ [] → pieces_left k ls2 ≡ name_pieces (key_at k n) ++ (part_pieces k p ++ pieces_left k ls)
two_pushed k ls ls1 ls2 n p e f =
    ap (pieces_left k) f ∙ pushed k ls1 (parts.Name n)
    ∙ ap (λ (x : List (List ℕ)). name_pieces (key_at k n) ++ x) (ap (pieces_left k) e ∙ pushed k ls p)

-- lists of names

pub list_none : (k : Numbering) (ls ls' : List Part) (cs : List ℕ) → length cs ≡ 0 → ls' ≡ ls ++ parts.End ∷ [] → pieces_left k ls' ≡ list_pieces k cs ++ pieces_left k ls
list_none k ls ls' cs z e =
    ap (pieces_left k) e ∙ pushed k ls parts.End
    ∙ ap (λ (x : List ℕ). list_pieces k x ++ pieces_left k ls) (sym (nil_from_length cs z))

pub list_some : (k : Numbering) (ls ls1 ls2 : List Part) (cs : List ℕ) (n : ℕ) (others : Bor (List ℕ)) → cs ≡ n ∷ others.now → ls1 ≡ ls ++ parts.Rest others ∷ [] → ls2 ≡ ls1 ++ parts.Name n ∷ [] → pieces_left k ls2 ≡ list_pieces k cs ++ pieces_left k ls
list_some k ls ls1 ls2 cs n others c e f =
    two_pushed k ls ls1 ls2 n (parts.Rest others) e f
    ∙ sym (append_assoc (name_pieces (key_at k n)) (rest_pieces k others.now) (pieces_left k ls))
    ∙ ap (λ (x : List ℕ). list_pieces k x ++ pieces_left k ls) (sym c)

pub rest_some : (k : Numbering) (ls ls1 ls2 : List Part) (cs : List ℕ) (n : ℕ) (others : Bor (List ℕ)) → cs ≡ n ∷ others.now → ls1 ≡ ls ++ parts.Rest others ∷ [] → ls2 ≡ ls1 ++ parts.Name n ∷ [] → rest_pieces k cs ++ pieces_left k ls ≡ codes "," ∷ pieces_left k ls2
rest_some k ls ls1 ls2 cs n others c e f =
    ap (λ (x : List ℕ). rest_pieces k x ++ pieces_left k ls) c
    ∙ ap (λ (x : List (List ℕ)). codes "," ∷ x) (append_assoc (name_pieces (key_at k n)) (rest_pieces k others.now) (pieces_left k ls) ∙ sym (two_pushed k ls ls1 ls2 n (parts.Rest others) e f))

-- names of classes

pub named_next : (k : Numbering) (ls : List Part) (key : ClassKey) (m : _) (n : List ℕ) → key ≡ keys.Named m n → name_pieces key ++ pieces_left k ls ≡ n ∷ pieces_left k ls
named_next k ls key m n e = ap (λ (x : List (List ℕ)). x ++ pieces_left k ls) (ap name_pieces e ∙ named_pieces m n)

mapped : (k : Numbering) (cs : List ℕ) → map name_pieces (map (key_at k) cs) ≡ pieces_of k cs
mapped k [] = refl
mapped k (c ∷ cs) = ap (λ (x : List (List (List ℕ))). name_pieces (key_at k c) ∷ x) (mapped k cs)

pub derived_next : (k : Numbering) (ls ls' : List Part) (key : ClassKey) (cs : List ℕ) → key ≡ keys.Derived (map (key_at k) cs) → pieces_left k ls' ≡ list_pieces k cs ++ pieces_left k ls → name_pieces key ++ pieces_left k ls ≡ codes "Derived(" ∷ pieces_left k ls'
derived_next k ls ls' key cs e f =
    ap (λ (x : List (List ℕ)). x ++ pieces_left k ls) (ap name_pieces e ∙ derived_pieces (map (key_at k) cs) ∙ ap (λ (x : List (List (List ℕ))). codes "Derived(" ∷ list_of x) (mapped k cs))
    ∙ ap (λ (x : List (List ℕ)). codes "Derived(" ∷ x) (sym f)

pub proxy_next : (k : Numbering) (ls ls1 ls2 : List Part) (key : ClassKey) (t : ℕ) → key ≡ keys.Proxy (key_at k t) → ls1 ≡ ls ++ parts.End ∷ [] → ls2 ≡ ls1 ++ parts.Name t ∷ [] → name_pieces key ++ pieces_left k ls ≡ codes "Proxy(" ∷ pieces_left k ls2
proxy_next k ls ls1 ls2 key t e f g =
    ap (λ (x : List (List ℕ)). x ++ pieces_left k ls) (ap name_pieces e ∙ proxy_pieces (key_at k t))
    ∙ ap (λ (x : List (List ℕ)). codes "Proxy(" ∷ x) (append_assoc (name_pieces (key_at k t)) (codes ")" ∷ []) (pieces_left k ls) ∙ sym (two_pushed k ls ls1 ls2 t parts.End f g))

-- the part that is taken off
pub taken : (k : Numbering) (ls ls' : List Part) (p : Part) (pieces : List (List ℕ)) → ls ≡ ls' ++ p ∷ [] → part_pieces k p ++ pieces_left k ls' ≡ pieces → pieces_left k ls ≡ pieces
taken k ls ls' p pieces e f = ap (pieces_left k) e ∙ pushed k ls' p ∙ f

-- a whole name

pub whole_is : (k : Numbering) (ls : List Part) (n : ℕ) → ls ≡ parts.Name n ∷ [] → concat (pieces_left k ls) ≡ class_name (key_at k n)
whole_is k ls n e = ap (λ (l : List Part). concat (pieces_left k l)) e ∙ ap concat (append-nil (name_pieces (key_at k n))) ∙ name_is (key_at k n)

-- the next piece, and none

pub next_text : (pieces left : List (List ℕ)) (o : Option (Bor (List ℕ))) (piece : Bor (List ℕ)) → IsNext pieces o left → o ≡ Some piece → concat pieces ≡ piece.now ++ concat left
next_text pieces left o piece a e = ap concat (subst (λ (x : Option (Bor (List ℕ))). IsNext pieces x left) e a)

pub no_text : (pieces left : List (List ℕ)) (o : Option (Bor (List ℕ))) → IsNext pieces o left → o ≡ None → concat pieces ≡ []
no_text pieces left o a e = ap concat (subst (λ (x : Option (Bor (List ℕ))). IsNext pieces x left) e a)
