-- Pieces that stay apart are the tokens of their text.
use Rattle.std.proofs.Common.{◌≡◌, ℕ, ◌+◌, true, List, [], ◌∷◌, ◌++◌, length, drop, refl, sym, subst, append_assoc, append-nil, length-append, drop_at}
use Rattle.som_lex.specs.Line.{is_fresh}
use Rattle.som_lex.specs.Front.{IsGap, IsToken, a_blank}
use Rattle.som_lex.specs.Cut.{IsCut, ended, a_gap, a_token}
use Rattle.som_lex.specs.Spans.{AreTokens}
use Rattle.som_lex_laws.specs.Pieces.{Piece, Space, Bytes, ArePieces, all_apart, apart_after, are_apart, text_of_pieces, tokens_at, tokens_of}
use Rattle.som_lex_laws.proofs.FirstToken.{both, first_token}

-- what holds of a text and the place behind two parts of it
pub onwards : (P : List ℕ → ℕ → Type 0) (front bs rest : List ℕ) → P ((front ++ bs) ++ rest) (length (front ++ bs)) → P (front ++ (bs ++ rest)) (length front + length bs)
onwards P front bs rest h = subst (λ n. P (front ++ (bs ++ rest)) n) (length-append front bs) (subst (λ s. P s (length (front ++ bs))) (append_assoc front bs rest) h)

cut_from : (front : List ℕ) (before : Piece) (ps : List Piece) → ArePieces ps → apart_after before ps ≡ true → IsCut (front ++ text_of_pieces ps) (length front) (tokens_at (length front) ps)
cut_from front before [] h a = subst (λ s. IsCut s (length front) []) (sym (append-nil front)) ended
cut_from front before (Space ∷ ps) h a =
    let rest = text_of_pieces ps in
    let gap : IsGap (drop (length front) (front ++ (32 ∷ rest))) 1 = subst (λ left. IsGap left 1) (sym (drop_at front (32 ∷ rest) (length front) refl)) (a_blank refl) in
    let later = cut_from (front ++ 32 ∷ []) Space ps h.1 (both (are_apart before Space) (apart_after Space ps) a).1 in
    a_gap gap (onwards (λ s n. IsCut s n (tokens_at n ps)) front (32 ∷ []) rest later)
cut_from front before (Bytes kind bs ∷ ps) h a =
    let rest = text_of_pieces ps in
    let source = front ++ (bs ++ rest) in
    let apart = (both (are_apart before (Bytes kind bs)) (apart_after (Bytes kind bs) ps) a).1 in
    let fresh = is_fresh source (length front) in
    let first : IsToken fresh (drop (length front) source) kind (length bs) =
    subst (λ left. IsToken fresh left kind (length bs)) (sym (drop_at front (bs ++ rest) (length front) refl)) (first_token fresh kind bs ps h.0 apart h.1) in
    let later = cut_from (front ++ bs) (Bytes kind bs) ps h.1 apart in
    a_token first (onwards (λ s n. IsCut s n (tokens_at n ps)) front bs rest later)

pub cut : (ps : List Piece) → ArePieces ps → all_apart ps ≡ true → AreTokens (tokens_of ps)
cut ps h a = cut_from [] Space ps h a
