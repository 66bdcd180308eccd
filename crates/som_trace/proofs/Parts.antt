-- The pieces of parts that are put on others, and taken off.
use Rattle.std.proofs.Common.{◌≡◌, ℕ, List, [], ◌∷◌, ◌++◌, reverse, refl, sym, ap, ◌∙◌, subst}
use Rattle.std.specs.List.{flat_map}
use Rattle.std.proofs.lemmas.List.{reverse-append}
use Rattle.std.proofs.lemmas.List.Elements.{recursion_from_All, All-from_recursion}
use Rattle.som_meta.specs.Numbering.{Numbering, IsNumbered, AreNumbered}
use Rattle.som_trace.specs.declared.pieces.Part.{Part}
use Rattle.som_trace.specs.declared.pieces.Part.TheVariants as parts
use Rattle.som_trace.specs.Pieces.{part_pieces, pieces_before, pieces_left, IsPart, AreParts}
use denote.Ref.{Bor}

-- the last part comes first
before_pushed : (k : Numbering) (others : List (List ℕ)) (ps : List Part) (p : Part) → pieces_before k others (ps ++ p ∷ []) ≡ part_pieces k p ++ pieces_before k others ps
before_pushed k others [] p = refl
before_pushed k others (q ∷ ps) p = before_pushed k (part_pieces k q ++ others) ps p

pub pushed : (k : Numbering) (ps : List Part) (p : Part) → pieces_left k (ps ++ p ∷ []) ≡ part_pieces k p ++ pieces_left k ps
pushed k ps p = before_pushed k [] ps p

-- parts that are turned round are the last first
pub turned : (k : Numbering) (ps : List Part) → pieces_left k (reverse ps) ≡ flat_map (part_pieces k) ps
turned k [] = refl
turned k (p ∷ ps) = ap (pieces_left k) (reverse-append (p ∷ []) ps) ∙ pushed k (reverse ps) p ∙ ap (λ (x : List (List ℕ)). part_pieces k p ++ x) (turned k ps)

-- one part more, and one less
pub parts_pushed : (k : Numbering) (ps : List Part) (p : Part) → IsPart k p → AreParts k ps → AreParts k (ps ++ p ∷ [])
parts_pushed k [] p a b = (a, tt)
parts_pushed k (q ∷ ps) p a b = (b.0, parts_pushed k ps p a b.1)

pub parts_popped : (k : Numbering) (ps : List Part) (p : Part) → AreParts k (ps ++ p ∷ []) → IsPart k p × AreParts k ps
parts_popped k [] p a = (a.0, tt)
parts_popped k (q ∷ ps) p a = let b = parts_popped k ps p a.1 in (b.0, (a.0, b.1))

pub parts_turned : (k : Numbering) (ps : List Part) → AreParts k ps → AreParts k (reverse ps)
parts_turned k [] a = tt
parts_turned k (p ∷ ps) a = subst (AreParts k) (sym (reverse-append (p ∷ []) ps)) (parts_pushed k (reverse ps) p a.0 (parts_turned k ps a.1))

-- the first of numbered classes, and those after it
pub numbered_parts : (k : Numbering) (n : ℕ) (ns : List ℕ) → AreNumbered k (n ∷ ns) → IsNumbered k n × AreNumbered k ns
numbered_parts k n ns a = let b = recursion_from_All (IsNumbered k) (n ∷ ns) a in (b.0, All-from_recursion (IsNumbered k) ns b.1)

-- the first of numbered classes, and those after it, put on parts
pub first_parts : (k : Numbering) (ls ls1 ls2 : List Part) (cs : List ℕ) (n : ℕ) (others : Bor (List ℕ)) → cs ≡ n ∷ others.now → ls1 ≡ ls ++ parts.Rest others ∷ [] → ls2 ≡ ls1 ++ parts.Name n ∷ [] → AreNumbered k cs → AreParts k ls → AreParts k ls2
first_parts k ls ls1 ls2 cs n others c e f a b =
    let p = numbered_parts k n others.now (subst (AreNumbered k) c a) in
    let one = subst (AreParts k) (sym e) (parts_pushed k ls (parts.Rest others) p.1 b) in
    subst (AreParts k) (sym f) (parts_pushed k ls1 (parts.Name n) p.0 one)
