-- The bytes of a piece that stays apart from the next one are the token that stands first.
use Rattle.std.proofs.Common.{◌≡◌, ℕ, suc, ◌+◌, ◌≤◌, Bool, true, false, not, ◌||◌, ◌&&◌, ◌==◌, nat_lt, List, [], ◌∷◌, ◌++◌, length, Result, refl, sym, ap, subst, ◌∙◌, append_assoc, length-append, take_at, arith}
use Rattle.std.specs.Prelude.{codes}
use Rattle.std.specs.List.{list_all, list_any, prefix_len}
use Rattle.std.proofs.lemmas.Grind.{common_steps}
use Rattle.som_model.specs.declared.limits.TheConstants.{MAX_NAME, MAX_TEXT}
use Rattle.som_lex.specs.declared.lexeme.TheConstants.{MAX_NUMBER}
use Rattle.som_lex.specs.declared.lexeme.Lexeme.{Lexeme}
use Rattle.som_lex.specs.declared.token.TokenKind.{TokenKind}
use Rattle.som_lex.specs.declared.token.TokenKind.TheVariants as kinds
use Rattle.som_lex.specs.declared.fault.LexFault.{LexFault}
use Rattle.som_lex.specs.Alphabet.{quote, backslash, line_feed, hash, slash, star, zero_digit, is_digit, is_letter, is_word_byte, is_blank, is_plain, is_escape, is_single, is_double}
use Rattle.som_lex.specs.Values.{number_of, text_of}
use Rattle.som_lex.specs.Lexeme.{token, sign_at, starts_double, literal_at}
use Rattle.som_lex.specs.Spelling.{Spells, Means, nothing, a_plain, an_escape, a_word, a_zero, a_number, a_literal, a_sign, a_double, a_directive}
use Rattle.som_lex.specs.Front.{IsToken, IsLongest, opens_comment, starts_with_digit}
use Rattle.som_lex.proofs.Longest.{Told, word_longest, number_longest, zero_longest}
use Rattle.som_lex.proofs.Literals.{inside_means, literal_told}
use Rattle.som_lex.proofs.Signs.{IsOther, sign_told}
use Rattle.som_lex_laws.specs.Pieces.{Piece, Space, Bytes, IsPiece, ArePieces, apart_after, are_apart, bytes_of_piece, is_run, joins, text_of_pieces}

pub both : (x y : Bool) → (x && y) ≡ true → (x ≡ true) × (y ≡ true)
both true y e = (refl, e)
both false y e = absurd (cc)

neither : (x y : Bool) → (x || y) ≡ false → (x ≡ false) × (y ≡ false)
neither true y e = absurd (cc)
neither false y e = (refl, e)

and_no : (x : Bool) → (x && false) ≡ false
and_no true = refl
and_no false = refl

pub is_no : (x : Bool) → not x ≡ true → x ≡ false
is_no true e = absurd (cc)
is_no false e = refl

-- whether the first byte passes a test
abbrev pub next_passes : (ℕ → Bool) → List ℕ → Bool
next_passes p [] = false
next_passes p (b ∷ bs) = p b

run_len : (p : ℕ → Bool) (u rest : List ℕ) → list_all p u ≡ true → next_passes p rest ≡ false → prefix_len p (u ++ rest) ≡ length u
run_len p [] [] a e = refl
run_len p [] (b ∷ bs) a e = rw e refl
run_len p (x ∷ u) rest a e =
    let h = both (p x) (list_all p u) a in
    let k = run_len p u rest h.1 e in
    rw h.0 (omega (arith, k))

-- ---- words

letter_slash : (b : ℕ) → is_letter b ≡ true → (b == slash) ≡ false
letter_slash b l = grind (arith, common_steps)

letter_zero : (b : ℕ) → is_letter b ≡ true → (b == zero_digit) ≡ false
letter_zero b l = grind (arith, common_steps)

word_first : (fresh : Bool) (w rest : List ℕ) → Spells kinds.Word w → length w ≤ MAX_NAME → next_passes is_word_byte rest ≡ false → IsToken fresh (w ++ rest) kinds.Word (length w)
word_first fresh _ rest (a_word {b = b} {u = u} l all) few ends = record {
  longest = subst (λ n. IsLongest fresh (b ∷ (u ++ rest)) kinds.Word (suc n)) (run_len is_word_byte u rest all ends) (word_longest fresh b (u ++ rest) l);
  fits = subst (λ (bs : List ℕ). length bs ≤ MAX_NAME) (sym (take_at (b ∷ u) rest (suc (length u)) refl)) few;
  no_comment = rw (letter_slash b l) refl;
  no_digit = rw (letter_zero b l) refl;
}

-- ---- numbers

digit_slash : (b : ℕ) → is_digit b ≡ true → (b == slash) ≡ false
digit_slash b d = grind (arith, common_steps)

no_digit_first : (rest : List ℕ) → next_passes is_digit rest ≡ false → starts_with_digit rest ≡ false
no_digit_first [] e = refl
no_digit_first (b ∷ bs) e = e

number_first : (fresh : Bool) (w rest : List ℕ) → Spells kinds.Number w → number_of w ≤ MAX_NUMBER → next_passes is_digit rest ≡ false → IsToken fresh (w ++ rest) kinds.Number (length w)
number_first fresh _ rest a_zero few ends = record { longest = zero_longest fresh rest; fits = few; no_comment = refl; no_digit = no_digit_first rest ends }
number_first fresh _ rest (a_number {b = b} {u = u} d z all) few ends = record {
  longest = subst (λ n. IsLongest fresh (b ∷ (u ++ rest)) kinds.Number (suc n)) (run_len is_digit u rest all ends) (number_longest fresh b (u ++ rest) d z);
  fits = subst (λ (bs : List ℕ). number_of bs ≤ MAX_NUMBER) (sym (take_at (b ∷ u) rest (suc (length u)) refl)) few;
  no_comment = rw (digit_slash b d) refl;
  no_digit = rw z refl;
}

-- ---- what the code reads

-- a token that was read is the one that stands first
to_token : (fresh : Bool) (left : List ℕ) (kind : TokenKind) (n : ℕ) → Told fresh 0 left (token kind n) → IsToken fresh left kind n
to_token fresh left kind n t = let e : t.0 ≡ n = omega (arith, t.1) in subst (λ m. IsToken fresh left kind m) e t.2

by_read : (fresh : Bool) (left : List ℕ) (kind : TokenKind) (n : ℕ) (r : Result Lexeme LexFault) → Told fresh 0 left r → r ≡ token kind n → IsToken fresh left kind n
by_read fresh left kind n r t e = to_token fresh left kind n (subst (λ s. Told fresh 0 left s) e t)

-- ---- literals

plain_quote : (b : ℕ) → is_plain b ≡ true → (b == quote) ≡ false
plain_quote b p = grind (arith, common_steps)

plain_feed : (b : ℕ) → is_plain b ≡ true → (b == line_feed) ≡ false
plain_feed b p = grind (arith, common_steps)

plain_backslash : (b : ℕ) → is_plain b ≡ true → (b == backslash) ≡ false
plain_backslash b p = grind (arith, common_steps)

escape_feed : (b : ℕ) → is_escape b ≡ true → (b == line_feed) ≡ false
escape_feed b p = grind (arith, common_steps)

less : (n m : ℕ) → suc n ≤ m → nat_lt n m ≡ true
less n m le = grind (arith, common_steps)

literal_read : (start n at : ℕ) (u v rest : List ℕ) → Means u v → n + length v ≤ MAX_TEXT → literal_at start false n at (u ++ quote ∷ rest) ≡ token kinds.Literal (at + length u + 1)
unfolding literal_at
literal_read start n at _ _ rest nothing few = let e : at + 1 ≡ at + 0 + 1 = omega arith in ap (λ k. token kinds.Literal k) e
literal_read start n at _ _ rest (a_plain {b = b} {u = u} {v = v} p m) few =
    let lt = less n MAX_TEXT (omega (arith, few)) in
    let e : at + 1 + length u + 1 ≡ at + suc (length u) + 1 = omega arith in
    rw (p, plain_quote b p, plain_feed b p, plain_backslash b p, lt) (literal_read start (n + 1) (at + 1) u v rest m (omega (arith, few)) ∙ ap (λ k. token kinds.Literal k) e)
literal_read start n at _ _ rest (an_escape {b = b} {u = u} {v = v} p m) few =
    let lt = less n MAX_TEXT (omega (arith, few)) in
    let e : at + 1 + 1 + length u + 1 ≡ at + suc (suc (length u)) + 1 = omega arith in
    rw (escape_feed b p, p, lt) (literal_read start (n + 1) (at + 1 + 1) u v rest m (omega (arith, few)) ∙ ap (λ k. token kinds.Literal k) e)

literal_first : (fresh : Bool) (w rest : List ℕ) → Spells kinds.Literal w → length (text_of w) ≤ MAX_TEXT → IsToken fresh (w ++ rest) kinds.Literal (length w)
literal_first fresh _ rest (a_literal u v m) few =
    let short : length v ≤ MAX_TEXT = subst (λ (t : List ℕ). length t ≤ MAX_TEXT) (inside_means u v [] m) few in
    let read = literal_read 0 0 1 u v rest m (omega (arith, short)) in
    let size : 1 + length u + 1 ≡ length (quote ∷ (u ++ quote ∷ [])) = (let e = length-append u (quote ∷ []) in omega (arith, e)) in
    let whole = by_read fresh (quote ∷ (u ++ quote ∷ rest)) kinds.Literal (1 + length u + 1) (literal_at 0 false 0 1 (u ++ quote ∷ rest)) (literal_told fresh 0 (u ++ quote ∷ rest)) read in
    subst (λ (t : List ℕ). IsToken fresh (quote ∷ t) kinds.Literal (length (quote ∷ (u ++ quote ∷ [])))) (sym (append_assoc u (quote ∷ []) rest))
    (subst (λ n. IsToken fresh (quote ∷ (u ++ quote ∷ rest)) kinds.Literal n) size whole)

-- ---- signs

single_blank : (b : ℕ) → is_single b ≡ true → is_blank b ≡ false
single_blank b s = grind (arith, common_steps)

single_letter : (b : ℕ) → is_single b ≡ true → is_letter b ≡ false
single_letter b s = grind (arith, common_steps)

single_digit : (b : ℕ) → is_single b ≡ true → is_digit b ≡ false
single_digit b s = grind (arith, common_steps)

single_quote : (b : ℕ) → is_single b ≡ true → (b == quote) ≡ false
single_quote b s = grind (arith, common_steps)

single_hash : (b : ℕ) → is_single b ≡ true → (b == hash) ≡ false
single_hash b s = grind (arith, common_steps)

double_blank : (b c : ℕ) → is_double b c ≡ true → is_blank b ≡ false
double_blank b c s = grind (arith, common_steps)

double_letter : (b c : ℕ) → is_double b c ≡ true → is_letter b ≡ false
double_letter b c s = grind (arith, common_steps)

double_digit : (b c : ℕ) → is_double b c ≡ true → is_digit b ≡ false
double_digit b c s = grind (arith, common_steps)

double_quote : (b c : ℕ) → is_double b c ≡ true → (b == quote) ≡ false
double_quote b c s = grind (arith, common_steps)

double_hash : (b c : ℕ) → is_double b c ≡ true → (b == hash) ≡ false
double_hash b c s = grind (arith, common_steps)

double_slash : (b c : ℕ) → is_double b c ≡ true → (b == slash) ≡ false
double_slash b c s = grind (arith, common_steps)

no_hash : (fresh v : Bool) → v ≡ false → (fresh && v) ≡ false
no_hash fresh v e = rw e (and_no fresh)

-- the bytes after a sign of one byte make it no longer, and open no comment with it
abbrev pub Ends : ℕ → List ℕ → Type 0
Ends b rest = (starts_double b rest ≡ false) × (opens_comment (b ∷ rest) ≡ false)

one_read : (b : ℕ) (rest : List ℕ) → is_single b ≡ true → starts_double b rest ≡ false → sign_at 0 b rest ≡ token kinds.Sign 1
unfolding sign_at
one_read b rest s d = rw (d, s) refl

two_read : (b c : ℕ) (rest : List ℕ) → is_double b c ≡ true → sign_at 0 b (c ∷ rest) ≡ token kinds.Sign 2
unfolding sign_at
two_read b c rest s = rw s refl

one_first : (fresh : Bool) (b : ℕ) (rest : List ℕ) → is_single b ≡ true → Ends b rest → IsToken fresh (b ∷ rest) kinds.Sign 1
one_first fresh b rest s ends =
    let o : IsOther fresh b rest = record {
      blank = single_blank b s;
      letter = single_letter b s;
      digit = single_digit b s;
      quoted = single_quote b s;
      comment = ends.1;
      directive = no_hash fresh (b == hash) (single_hash b s);
    } in
    by_read fresh (b ∷ rest) kinds.Sign 1 (sign_at 0 b rest) (sign_told fresh 0 b rest o) (one_read b rest s ends.0)

two_first : (fresh : Bool) (b c : ℕ) (rest : List ℕ) → is_double b c ≡ true → IsToken fresh (b ∷ c ∷ rest) kinds.Sign 2
two_first fresh b c rest s =
    let o : IsOther fresh b (c ∷ rest) = record {
      blank = double_blank b c s;
      letter = double_letter b c s;
      digit = double_digit b c s;
      quoted = double_quote b c s;
      comment = rw (double_slash b c s) refl;
      directive = no_hash fresh (b == hash) (double_hash b c s);
    } in
    by_read fresh (b ∷ c ∷ rest) kinds.Sign 2 (sign_at 0 b (c ∷ rest)) (sign_told fresh 0 b (c ∷ rest) o) (two_read b c rest s)

-- ---- the bytes that come next

single_no_word : (b : ℕ) → is_single b ≡ true → is_word_byte b ≡ false
single_no_word b s = rw (single_letter b s, single_digit b s) refl

double_no_word : (b c : ℕ) → is_double b c ≡ true → is_word_byte b ≡ false
double_no_word b c s = rw (double_letter b c s, double_digit b c s) refl

no_word_in : (kind : TokenKind) (bs rest : List ℕ) → not (is_run (Bytes kind bs)) ≡ true → Spells kind bs → next_passes is_word_byte (bs ++ rest) ≡ false
no_word_in _ _ rest a (a_word l all) = absurd (cc)
no_word_in _ _ rest a a_zero = absurd (cc)
no_word_in _ _ rest a (a_number d z all) = absurd (cc)
no_word_in _ _ rest a (a_literal u v m) = refl
no_word_in _ _ rest a (a_sign {b = b} s) = single_no_word b s
no_word_in _ _ rest a (a_double {b = b} {c = c} s) = double_no_word b c s
no_word_in _ _ rest a (a_directive all) = refl

-- what a piece spells, if it isn't a space
pub spelled : (kind : TokenKind) (bs : List ℕ) → IsPiece (Bytes kind bs) → Spells kind bs
spelled kinds.Word bs p = p.0
spelled kinds.Number bs p = p.0
spelled kinds.Literal bs p = p.0
spelled kinds.Sign bs p = p.0
spelled kinds.Directive bs p = absurd p

run_ends : (q : Piece) (rest : List ℕ) → not (is_run q) ≡ true → IsPiece q → next_passes is_word_byte (bytes_of_piece q ++ rest) ≡ false
run_ends Space rest a p = refl
run_ends (Bytes kind bs) rest a p = no_word_in kind bs rest a (spelled kind bs p)

word_rest : (bs : List ℕ) (ps : List Piece) → apart_after (Bytes kinds.Word bs) ps ≡ true → ArePieces ps → next_passes is_word_byte (text_of_pieces ps) ≡ false
word_rest bs [] a h = refl
word_rest bs (q ∷ qs) a h = run_ends q (text_of_pieces qs) (both (not (is_run q)) (apart_after q qs) a).0 h.0

no_digit_by : (b : ℕ) → is_word_byte b ≡ false → is_digit b ≡ false
no_digit_by b e = (neither (is_letter b) (is_digit b) e).1

no_digit_in : (bs : List ℕ) → next_passes is_word_byte bs ≡ false → next_passes is_digit bs ≡ false
no_digit_in [] e = refl
no_digit_in (b ∷ bs) e = no_digit_by b e

number_rest : (bs : List ℕ) (ps : List Piece) → apart_after (Bytes kinds.Number bs) ps ≡ true → ArePieces ps → next_passes is_digit (text_of_pieces ps) ≡ false
number_rest bs [] a h = refl
number_rest bs (q ∷ qs) a h = no_digit_in (bytes_of_piece q ++ text_of_pieces qs) (run_ends q (text_of_pieces qs) (both (not (is_run q)) (apart_after q qs) a).0 h.0)

no_pair : (x y z p q r s : Bool) → p ≡ false → q ≡ false → r ≡ false → s ≡ false → (((x && p) || (y && q)) || (z && (r || s))) ≡ false
no_pair x y z p q r s e f g h = rw (e, f, g, h, and_no x, and_no y, and_no z) refl

-- a byte that is neither `:`, `=`, `/` nor `*` joins no sign before it
apart_byte : (b c : ℕ) → (c == 58) ≡ false → (c == 61) ≡ false → (c == slash) ≡ false → (c == star) ≡ false → joins (b ∷ []) (c ∷ []) ≡ false
apart_byte b c e f g h = no_pair (b == 58) (list_any (λ s. s == b) (codes "=!<>")) (b == slash) (c == 58) (c == 61) (c == slash) (c == star) e f g h

joins_no : (b c : ℕ) (rest : List ℕ) → joins (b ∷ []) (c ∷ []) ≡ false → Ends b (c ∷ rest)
joins_no b c rest e = neither (is_double b c) (b == slash && (c == slash || c == star)) e

letter_colon : (b : ℕ) → is_letter b ≡ true → (b == 58) ≡ false
letter_colon b l = grind (arith, common_steps)

letter_equals : (b : ℕ) → is_letter b ≡ true → (b == 61) ≡ false
letter_equals b l = grind (arith, common_steps)

letter_star : (b : ℕ) → is_letter b ≡ true → (b == star) ≡ false
letter_star b l = grind (arith, common_steps)

digit_colon : (b : ℕ) → is_digit b ≡ true → (b == 58) ≡ false
digit_colon b l = grind (arith, common_steps)

digit_equals : (b : ℕ) → is_digit b ≡ true → (b == 61) ≡ false
digit_equals b l = grind (arith, common_steps)

digit_star : (b : ℕ) → is_digit b ≡ true → (b == star) ≡ false
digit_star b l = grind (arith, common_steps)

sign_ends_by : (b : ℕ) (kind : TokenKind) (bs rest : List ℕ) → are_apart (Bytes kinds.Sign (b ∷ [])) (Bytes kind bs) ≡ true → IsPiece (Bytes kind bs) → Spells kind bs → Ends b (bs ++ rest)
sign_ends_by b _ _ rest a p (a_word {b = c} {u = u} l all) = joins_no b c (u ++ rest) (apart_byte b c (letter_colon c l) (letter_equals c l) (letter_slash c l) (letter_star c l))
sign_ends_by b _ _ rest a p a_zero = joins_no b zero_digit rest (apart_byte b zero_digit refl refl refl refl)
sign_ends_by b _ _ rest a p (a_number {b = c} {u = u} d z all) = joins_no b c (u ++ rest) (apart_byte b c (digit_colon c d) (digit_equals c d) (digit_slash c d) (digit_star c d))
sign_ends_by b _ _ rest a p (a_literal u v m) = joins_no b quote ((u ++ quote ∷ []) ++ rest) (apart_byte b quote refl refl refl refl)
sign_ends_by b _ _ rest a p (a_sign {b = c} s) = joins_no b c rest (is_no (joins (b ∷ []) (c ∷ [])) a)
sign_ends_by b _ _ rest a p (a_double {b = c} {c = d} s) = joins_no b c (d ∷ rest) (is_no (joins (b ∷ []) (c ∷ d ∷ [])) a)
sign_ends_by b _ _ rest a p (a_directive all) = absurd p

sign_ends : (b : ℕ) (q : Piece) (rest : List ℕ) → are_apart (Bytes kinds.Sign (b ∷ [])) q ≡ true → IsPiece q → Ends b (bytes_of_piece q ++ rest)
sign_ends b Space rest a p = joins_no b 32 rest (apart_byte b 32 refl refl refl refl)
sign_ends b (Bytes kind bs) rest a p = sign_ends_by b kind bs rest a p (spelled kind bs p)

sign_rest : (b : ℕ) (ps : List Piece) → apart_after (Bytes kinds.Sign (b ∷ [])) ps ≡ true → ArePieces ps → Ends b (text_of_pieces ps)
sign_rest b [] a h = (refl, and_no (b == slash))
sign_rest b (q ∷ qs) a h = sign_ends b q (text_of_pieces qs) (both (are_apart (Bytes kinds.Sign (b ∷ [])) q) (apart_after q qs) a).0 h.0

sign_first : (fresh : Bool) (w : List ℕ) (ps : List Piece) → Spells kinds.Sign w → apart_after (Bytes kinds.Sign w) ps ≡ true → ArePieces ps → IsToken fresh (w ++ text_of_pieces ps) kinds.Sign (length w)
sign_first fresh _ ps (a_sign {b = b} s) a h = one_first fresh b (text_of_pieces ps) s (sign_rest b ps a h)
sign_first fresh _ ps (a_double {b = b} {c = c} s) a h = two_first fresh b c (text_of_pieces ps) s

-- the first piece, where it isn't a space, is the token that stands first
pub first_token : (fresh : Bool) (kind : TokenKind) (bs : List ℕ) (ps : List Piece) → IsPiece (Bytes kind bs) → apart_after (Bytes kind bs) ps ≡ true → ArePieces ps → IsToken fresh (bs ++ text_of_pieces ps) kind (length bs)
first_token fresh kinds.Word bs ps p a h = word_first fresh bs (text_of_pieces ps) p.0 p.1 (word_rest bs ps a h)
first_token fresh kinds.Number bs ps p a h = number_first fresh bs (text_of_pieces ps) p.0 p.1 (number_rest bs ps a h)
first_token fresh kinds.Literal bs ps p a h = literal_first fresh bs (text_of_pieces ps) p.0 p.1
first_token fresh kinds.Sign bs ps p a h = sign_first fresh bs ps p.0 a h
first_token fresh kinds.Directive bs ps p a h = absurd p
