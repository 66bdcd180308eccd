-- The first byte of a token tells its kind.
use Rattle.std.proofs.Common.{◌≡◌, ℕ, zero, suc, ◌<◌, Bool, true, false, if◌then◌else◌, ◌==◌, nat_le, List, [], ◌∷◌, take, refl, sym, ◌∙◌, arith}
use Rattle.std.proofs.lemmas.Grind.{common_steps}
use Rattle.std.proofs.lemmas.Bool.{leb-true, leb-false}
use Rattle.som_lex.specs.declared.token.TokenKind.{TokenKind}
use Rattle.som_lex.specs.declared.token.TokenKind.TheVariants as kinds
use Rattle.som_lex.specs.Alphabet.{quote, hash, is_letter, is_digit, is_blank, is_single, is_double}
use Rattle.som_lex.specs.Spelling.{Spells, a_word, a_zero, a_number, a_literal, a_sign, a_double, a_directive}
use Rattle.som_lex.specs.Front.{IsLongest}
use Rattle.som_lex.proofs.Classes.{blank_single, blank_letter}

-- the kind of a token that begins with this byte
abbrev pub kind_of : ℕ → TokenKind
kind_of b = if is_letter b then kinds.Word else (if is_digit b then kinds.Number else (if b == quote then kinds.Literal else (if b == hash then kinds.Directive else kinds.Sign)))

by_tests : (l d q h : Bool) → l ≡ false → d ≡ false → q ≡ false → h ≡ false
    → kinds.Sign ≡ (if l then kinds.Word else (if d then kinds.Number else (if q then kinds.Literal else (if h then kinds.Directive else kinds.Sign))))
by_tests l d q h e f g i = rw (e, f, g, i) refl

by_digit : (l d q h : Bool) → l ≡ false → d ≡ true
    → kinds.Number ≡ (if l then kinds.Word else (if d then kinds.Number else (if q then kinds.Literal else (if h then kinds.Directive else kinds.Sign))))
by_digit l d q h e f = rw (e, f) refl

by_letter : (l d q h : Bool) → l ≡ true
    → kinds.Word ≡ (if l then kinds.Word else (if d then kinds.Number else (if q then kinds.Literal else (if h then kinds.Directive else kinds.Sign))))
by_letter l d q h e = rw e refl

digit_letter : (b : ℕ) → is_digit b ≡ true → is_letter b ≡ false
digit_letter b d = grind (arith, common_steps)

single_letter : (b : ℕ) → is_single b ≡ true → is_letter b ≡ false
single_letter b s = grind (arith, common_steps)

single_digit : (b : ℕ) → is_single b ≡ true → is_digit b ≡ false
single_digit b s = grind (arith, common_steps)

single_quote : (b : ℕ) → is_single b ≡ true → (b == quote) ≡ false
single_quote b s = grind (arith, common_steps)

single_hash : (b : ℕ) → is_single b ≡ true → (b == hash) ≡ false
single_hash b s = grind (arith, common_steps)

double_letter : (b c : ℕ) → is_double b c ≡ true → is_letter b ≡ false
double_letter b c s = grind (arith, common_steps)

double_digit : (b c : ℕ) → is_double b c ≡ true → is_digit b ≡ false
double_digit b c s = grind (arith, common_steps)

double_quote : (b c : ℕ) → is_double b c ≡ true → (b == quote) ≡ false
double_quote b c s = grind (arith, common_steps)

double_hash : (b c : ℕ) → is_double b c ≡ true → (b == hash) ≡ false
double_hash b c s = grind (arith, common_steps)

pub kind_is : (b : ℕ) (u : List ℕ) (kind : TokenKind) → Spells kind (b ∷ u) → kind ≡ kind_of b
kind_is b u _ (a_word l _) = by_letter (is_letter b) (is_digit b) (b == quote) (b == hash) l
kind_is _ u _ a_zero = refl
kind_is b u _ (a_number d _ _) = by_digit (is_letter b) (is_digit b) (b == quote) (b == hash) (digit_letter b d) d
kind_is _ _ _ (a_literal _ _ _) = refl
kind_is b _ _ (a_sign s) = by_tests (is_letter b) (is_digit b) (b == quote) (b == hash) (single_letter b s) (single_digit b s) (single_quote b s) (single_hash b s)
kind_is b _ _ (a_double {c = c} s) = by_tests (is_letter b) (is_digit b) (b == quote) (b == hash) (double_letter b c s) (double_digit b c s) (double_quote b c s) (double_hash b c s)
kind_is _ _ _ (a_directive _) = refl

-- no bytes spell tokens of two kinds
pub one_kind : (u : List ℕ) (kind other : TokenKind) → Spells kind u → Spells other u → kind ≡ other
one_kind [] kind other s t = elim s [ ]
one_kind (b ∷ u) kind other s t = kind_is b u kind s ∙ sym (kind_is b u other t)

neither_less : (n m : ℕ) (v w : Bool) → nat_le n m ≡ v → nat_le m n ≡ w → (n < m → ⊥) → (m < n → ⊥) → n ≡ m
neither_less n m true true e f less more = let h = leb-true n m e in let k = leb-true m n f in omega arith
neither_less n m false w e f less more = absurd (more (leb-false n m e))
neither_less n m true false e f less more = absurd (less (leb-false m n f))

-- there is one longest token
pub one_length : (fresh : Bool) (left : List ℕ) (kind other : TokenKind) (n m : ℕ) → IsLongest fresh left kind n → IsLongest fresh left other m → n ≡ m
one_length fresh left kind other n m l k = neither_less n m (nat_le n m) (nat_le m n) refl refl (λ lt. l.longest other m lt k.stands) (λ lt. k.longest kind n lt l.stands)

blank_kind : (b : ℕ) → is_blank b ≡ true → (kind : TokenKind) (u : List ℕ) → Spells kind (b ∷ u) → ⊥
blank_kind b e _ u (a_word l _) = blank_letter b e l
blank_kind b e _ u a_zero = cc
blank_kind b e _ u (a_number d _ _) = grind (arith, common_steps)
blank_kind b e _ _ (a_literal _ _ _) = cc
blank_kind b e _ _ (a_sign s) = blank_single b e s
blank_kind b e _ _ (a_double {c = c} s) = grind (arith, common_steps)
blank_kind b e _ _ (a_directive _) = cc

-- no token begins with a blank
pub blank_none : (b : ℕ) (bs : List ℕ) (kind : TokenKind) (n : ℕ) → is_blank b ≡ true → Spells kind (take n (b ∷ bs)) → ⊥
blank_none b bs kind zero e s = elim s [ ]
blank_none b bs kind (suc n) e s = blank_kind b e kind (take n bs) s

-- the first byte tells the kind also of a front
pub kind_first : (b : ℕ) (bs : List ℕ) (kind : TokenKind) (n : ℕ) → Spells kind (take n (b ∷ bs)) → kind ≡ kind_of b
kind_first b bs kind zero s = elim s [ ]
kind_first b bs kind (suc n) s = kind_is b (take n bs) kind s
