-- Bytes that are a word by themselves spell one, and no others do.
use Rattle.std.proofs.Common.{◌≡◌, ℕ, suc, ◌≤◌, nat_le, nat_eq, ◌+◌, Bool, true, false, ◌&&◌, if◌then◌else◌, List, [], ◌∷◌, length, refl, sym, ap, ◌∙◌, subst, arith}
use Rattle.std.specs.Prelude.{◌↔◌}
use Rattle.std.specs.List.{list_all, prefix_len}
use Rattle.som_model.specs.declared.limits.TheConstants.{MAX_NAME}
use Rattle.som_lex.specs.declared.token.TokenKind.TheVariants as kinds
use Rattle.som_lex.specs.Alphabet.{is_letter, is_word_byte}
use Rattle.som_lex.specs.Spelling.{FitsLimit, Spells, a_word, is_word}

both : (x y : Bool) → (x && y) ≡ true → (x ≡ true) × (y ≡ true)
both true y e = (refl, e)
both false y e = absurd (cc)

all : (x y z : Bool) → x ≡ true → y ≡ true → z ≡ true → (x && y && z) ≡ true
all x y z e f g = rw (e, f, g) refl

within : (n m : ℕ) → nat_le n m ≡ true → n ≤ m
within n m e = grind (arith, e)

kept : (n m : ℕ) → n ≤ m → nat_le n m ≡ true
kept n m e = grind (arith, e)

spelled : (w : List ℕ) → is_word w ≡ true → Spells kinds.Word w × FitsLimit kinds.Word w
spelled [] e = absurd (cc)
spelled (b ∷ u) e =
    let r = both (is_letter b && list_all is_word_byte u) (nat_le (length (b ∷ u)) MAX_NAME) e in
    let s = both (is_letter b) (list_all is_word_byte u) r.0 in
    (a_word s.0 s.1, within (length (b ∷ u)) MAX_NAME r.1)

is_one : (w : List ℕ) → Spells kinds.Word w → length w ≤ MAX_NAME → is_word w ≡ true
is_one w (a_word {b = b} {u = u} letter others) le = all (is_letter b) (list_all is_word_byte u) (nat_le (length (b ∷ u)) MAX_NAME) letter others (kept (length (b ∷ u)) MAX_NAME le)

pub word_spelled : (w : List ℕ) → (is_word w ≡ true) ↔ (Spells kinds.Word w × FitsLimit kinds.Word w)
word_spelled w = (spelled w, λ p. is_one w p.0 p.1)

one_more : (b : Bool) (n m : ℕ) (r : Bool) → nat_eq n m ≡ r → nat_eq (if b then 1 + n else 0) (suc m) ≡ (b && r)
one_more true n m r e = grind (arith, e)
one_more false n m r e = grind arith

-- all bytes pass where as many pass in front as there are
pub whole : (p : ℕ → Bool) (bs : List ℕ) → nat_eq (prefix_len p bs) (length bs) ≡ list_all p bs
whole p [] = refl
whole p (b ∷ bs) = one_more (p b) (prefix_len p bs) (length bs) (list_all p bs) (whole p bs)
