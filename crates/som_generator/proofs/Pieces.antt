-- Text that is written piece by piece, and lines that are written number by number.
use Rattle.std.proofs.Common.{◌≡◌, ℕ, zero, suc, ◌+◌, List, [], ◌∷◌, ◌++◌, flat_map, refl, sym, ap, ◌∙◌, arith, append_assoc}
use Rattle.std.specs.List.{range_with_len}
use Rattle.std.proofs.lemmas.List.Concat.{flat_map-append}
use Rattle.std.proofs.lemmas.List.{append-nil}
use Rattle.som_generator.specs.Generated.{adding_lines, main_back, main_front, main_text, numbers}

-- a piece more
joined : (old a b now then : List ℕ) → now ≡ old ++ a → then ≡ now ++ b → then ≡ old ++ (a ++ b)
joined old a b now then e f = f ∙ ap (λ (l : List ℕ). l ++ b) e ∙ append_assoc old a b

-- five pieces
pub joined_five : (old a b c d e t u v w x : List ℕ) → t ≡ old ++ a → u ≡ t ++ b → v ≡ u ++ c → w ≡ v ++ d → x ≡ w ++ e → x ≡ old ++ (a ++ b ++ c ++ d ++ e)
joined_five old a b c d e t u v w x p q r s y =
    joined old (a ++ b ++ c ++ d) e w x (joined old (a ++ b ++ c) d v w (joined old (a ++ b) c u v (joined old a b t u p q) r) s) y

-- three more, the last of two parts
pub joined_three : (old a b c d e t u v w : List ℕ) → t ≡ old ++ a → u ≡ t ++ b → v ≡ u ++ c → w ≡ v ++ (d ++ e) → w ≡ old ++ (a ++ b ++ c ++ d ++ e)
joined_three old a b c d e t u v w p q r s =
    joined old (a ++ b ++ c) (d ++ e) v w (joined old (a ++ b) c u v (joined old a b t u p q) r) s ∙ ap (λ (l : List ℕ). old ++ l) (sym (append_assoc (a ++ b ++ c) d e))

last_of : (a n : ℕ) → range_with_len a (suc n) ≡ range_with_len a n ++ (a + n) ∷ []
last_of a zero = let e : a ≡ a + 0 = omega arith in ap (λ (k : ℕ). k ∷ []) e
last_of a (suc n) =
    let e : (a + 1) + n ≡ a + suc n = omega arith in
    ap (λ (l : List ℕ). a ∷ l) (last_of (a + 1) n ∙ ap (λ (k : ℕ). range_with_len (a + 1) n ++ k ∷ []) e)

-- one number more
pub numbers_more : (n : ℕ) → numbers (n + 1) ≡ numbers n ++ n ∷ []
numbers_more n =
    let one : n + 1 ≡ suc n = omega arith in
    let from : 0 + n ≡ n = omega arith in
    ap (range_with_len 0) one ∙ last_of 0 n ∙ ap (λ (k : ℕ). numbers n ++ k ∷ []) from

-- the lines of one number more
pub lines_more : (line : ℕ → List ℕ) (n : ℕ) (old now then : List ℕ) → now ≡ old ++ flat_map line (numbers n) → then ≡ now ++ line n → then ≡ old ++ flat_map line (numbers (n + 1))
lines_more line n old now then so more =
    more
    ∙ ap (λ (l : List ℕ). l ++ line n) so
    ∙ append_assoc old (flat_map line (numbers n)) (line n)
    ∙ ap (λ (l : List ℕ). old ++ (flat_map line (numbers n) ++ l)) (sym (append-nil (line n)))
    ∙ ap (λ (l : List ℕ). old ++ l) (sym (flat_map-append line (numbers n) (n ∷ [])))
    ∙ ap (λ (l : List ℕ). old ++ flat_map line l) (sym (numbers_more n))

-- the main with its front and its back
pub main_done : (n k : ℕ) (empty first now last : List ℕ) → empty ≡ [] → first ≡ empty ++ main_front → now ≡ first ++ flat_map adding_lines (numbers k) → k ≡ n → last ≡ now ++ main_back → last ≡ main_text n
main_done n k empty first now last none begun so same ended =
    ended
    ∙ ap (λ (l : List ℕ). l ++ main_back) so
    ∙ ap (λ (l : List ℕ). l ++ flat_map adding_lines (numbers k) ++ main_back) (begun ∙ ap (λ (l : List ℕ). l ++ main_front) none)
    ∙ ap (λ (m : ℕ). main_front ++ flat_map adding_lines (numbers m) ++ main_back) same
