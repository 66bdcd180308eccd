-- How many bytes the texts of a client that shows a breach have at most.
use Rattle.std.proofs.Common.{◌≡◌, ℕ, zero, suc, ◌+◌, ◌*◌, ◌<◌, ◌≤◌, ◌^◌, true, ◌&&◌, List, [], ◌∷◌, ◌++◌, length, refl, arith, codes}
use Rattle.std.specs.Prelude.{nat_le}
use Rattle.std.specs.Fmt.{decimal}
use Rattle.std.specs.List.{AllByRecursion, list_all}
use Rattle.std.proofs.lemmas.Fmt.{length-decimal-le}
use Rattle.std.proofs.lemmas.Grind.{common_steps}
use Rattle.std.proofs.lemmas.List.{length-append}
use Rattle.som_model.specs.declared.limits.TheConstants.{MAX_BYTES, MAX_NAME, MAX_PARAMETERS}
use Rattle.som_model.specs.declared.key.ClassKey.{ClassKey}
use Rattle.som_model.specs.declared.key.MethodRef.{MethodRef}
use Rattle.som_model.specs.declared.key.ValueType.{ValueType}
use Rattle.som_model.specs.declared.key.ValueType.TheVariants as types
use Rattle.som_model.proofs.KeyLaws.{both}
use Rattle.som_lex.specs.Alphabet.{is_letter, is_word_byte}
use Rattle.som_lex.specs.Spelling.{is_word}
use Rattle.som_sources.specs.Sources.{bytes_in, mains_in, names_of}
use Rattle.som_witness.specs.Program.{numbered_w}
use Rattle.som_witness.specs.Showings.{Showing, StandsBelow, KeepsObject, Overrides, CallsSlot, Calls, Passes, KeepsParameter, ReturnsNothing, ReturnsVariable, ReturnsAnswer, ReturnsClass}
use Rattle.som_witness.specs.Wording.{bodies_text, body_text, call_text, class_text, g_interface, g_text, idl_text, in_c, interface_text, listed, override_body, override_interface, override_text, parameters, section_text, texts_of, type_text, variable_text, zero_text, zero_texts, zero_texts_with}
use Rattle.som_witness.specs.declared.verdict.Texts.{Texts}
use Rattle.som_witness_texts.specs.Files.{bodies_files, file_of, files_of}
use Rattle.som_witness_texts.proofs.FinePieces.{AreWords}
use Rattle.som_witness_laws.proofs.Parameters.{HasFew}

-- ---- words

within : (n : ℕ) → nat_le n MAX_NAME ≡ true → n ≤ MAX_NAME
within n e = grind (arith, common_steps)

word_short : (bs : List ℕ) → is_word bs ≡ true → length bs ≤ 255
word_short [] e = omega arith
word_short (b ∷ u) e =
    let le = within (length (b ∷ u)) (both (is_letter b && list_all is_word_byte u) (nat_le (length (b ∷ u)) MAX_NAME) e).1 in
    omega (arith, le)

digits : (n : ℕ) → n < 2 ^ 64 → length (decimal n) ≤ 20
digits n lt = length-decimal-le 20 n (omega arith) (omega (arith, lt)) lt

w_short : (n : ℕ) → n < 2 ^ 64 → length (numbered_w n) ≤ 255
w_short n lt = omega (arith, length-append (codes "W") (decimal n), digits n lt)

-- ---- texts side by side

three : (a b c : List ℕ) → length (a ++ b ++ c) ≡ length a + length b + length c
three a b c = simp length-append

four : (a b c d : List ℕ) → length (a ++ b ++ c ++ d) ≡ length a + length b + length c + length d
four a b c d = simp length-append

five : (a b c d e : List ℕ) → length (a ++ b ++ c ++ d ++ e) ≡ length a + length b + length c + length d + length e
five a b c d e = simp length-append

seven : (a b c d e f g : List ℕ) → length (a ++ b ++ c ++ d ++ e ++ f ++ g) ≡ length a + length b + length c + length d + length e + length f + length g
seven a b c d e f g = simp length-append

eight : (a b c d e f g h : List ℕ) → length (a ++ b ++ c ++ d ++ e ++ f ++ g ++ h) ≡ length a + length b + length c + length d + length e + length f + length g + length h
eight a b c d e f g h = simp length-append

-- ---- lists

abbrev IsShort : List ℕ → Type 0
IsShort x = length x ≤ 21

listed_short : (xs : List (List ℕ)) → AllByRecursion IsShort xs → length (listed xs) ≤ 23 * length xs
listed_short [] h = omega arith
listed_short (x ∷ []) h = let le = h.0 in omega (arith, le)
listed_short (x ∷ y ∷ xs) h =
    let le = h.0 in
    let rest = listed_short (y ∷ xs) h.1 in
    omega (arith, le, rest, three x (codes ", ") (listed (y ∷ xs)))

zero_short : (t : ValueType) → length (zero_text t) ≤ 21
zero_short types.Void = omega arith
zero_short types.Long = omega arith
zero_short types.Boolean = omega arith
zero_short types.Str = omega arith
zero_short (types.Class k) = omega arith

zeros_short : (ts : List ValueType) → AllByRecursion IsShort (zero_texts ts)
zeros_short [] = tt
zeros_short (t ∷ ts) = (zero_short t, zeros_short ts)

zeros_many : (ts : List ValueType) → length (zero_texts ts) ≡ length ts
zeros_many [] = refl
zeros_many (t ∷ ts) = let e = zeros_many ts in omega (arith, e)

with_short : (n : ℕ) (ts : List ValueType) → AllByRecursion IsShort (zero_texts_with n ts)
with_short n [] = tt
with_short zero (t ∷ ts) = (omega arith, zeros_short ts)
with_short (suc n) (t ∷ ts) = (zero_short t, with_short n ts)

with_many : (n : ℕ) (ts : List ValueType) → length (zero_texts_with n ts) ≡ length ts
with_many n [] = refl
with_many zero (t ∷ ts) = let e = zeros_many ts in omega (arith, e)
with_many (suc n) (t ∷ ts) = let e = with_many n ts in omega (arith, e)

parameters_short : (n : ℕ) (ts : List ValueType) → n + length ts < 2 ^ 64 → AllByRecursion IsShort (parameters n ts)
parameters_short n [] lt = tt
parameters_short n (t ∷ ts) lt = (omega (arith, length-append (codes "p") (decimal n), digits n (omega (arith, lt))), parameters_short (suc n) ts (omega (arith, lt)))

parameters_many : (n : ℕ) (ts : List ValueType) → length (parameters n ts) ≡ length ts
parameters_many n [] = refl
parameters_many n (t ∷ ts) = let e = parameters_many (suc n) ts in omega (arith, e)

-- ---- the interface

in_c_short : (c : ClassKey) → length (class_text c) ≤ 255 → length (in_c c) ≤ 260
in_c_short c le = omega (arith, three (codes "in ") (class_text c) (codes " c"), le)

variable_short : (kind : ValueType) → length (type_text kind) ≤ 255 → length (variable_text kind) ≤ 259
variable_short kind le = omega (arith, three (codes " ") (type_text kind) (codes " v;"), le)

section_short : (items : List ℕ) → length (section_text items) ≤ length items + 20
section_short items = omega (arith, three (codes " implementation {") items (codes " };"))

interface_short : (w parent members : List ℕ) → length (interface_text w parent members) ≤ length w + length parent + length members + 18
interface_short w parent members = omega (arith, seven (codes "interface ") w (codes " : ") parent (codes " {") members (codes " };"))

over_short : (w : List ℕ) (m : MethodRef) (variables : List ℕ) → length w ≤ 255 → length (class_text m.class) ≤ 255 → length m.name ≤ 255 → length variables ≤ 259 → length (override_interface w m variables) ≤ 1500
over_short w m variables a b c d =
    omega (
      arith,
      interface_short w (class_text m.class) (section_text (override_text m.name ++ variables)),
      section_short (override_text m.name ++ variables),
      length-append (override_text m.name) variables,
      three (codes " ") m.name (codes ": override;"),
      a,
      b,
      c,
      d,
    )

g_short : (w result params section : List ℕ) → length w ≤ 255 → length result ≤ 255 → length params ≤ 600 → length section ≤ 300 → length (g_interface w result params section) ≤ 1500
g_short w result params section a b c d =
    omega (
      arith,
      interface_short w (codes "SOMObject") (g_text result params ++ section),
      length-append (g_text result params) section,
      five (codes " ") result (codes " g(") params (codes ");"),
      a,
      b,
      c,
      d,
    )

wider : (n : ℕ) → n ≤ 260 → n ≤ 600
wider n le = omega (arith, le)

no_bytes : (n : ℕ) → length {A = ℕ} [] ≤ n
no_bytes n = omega arith

idl_short : (w : List ℕ) (m : MethodRef) (s : Showing) → length w ≤ 255 → AreWords m s → length (idl_text w m s) ≤ 1500
idl_short w m StandsBelow a h = let c = word_short (class_text m.class) h in omega (arith, interface_short w (class_text m.class) [], a, c)
idl_short w m (KeepsObject k) a h =
    let c = in_c_short m.class (word_short (class_text m.class) h.0) in
    let v = variable_short (types.Class k) (word_short (class_text k) h.1) in
    g_short w (codes "void") (in_c m.class) (section_text (variable_text (types.Class k))) a (omega arith) (wider (length (in_c m.class)) c) (omega (arith, section_short (variable_text (types.Class k)), v))
idl_short w m (Overrides params) a h = over_short w m [] a (word_short (class_text m.class) h.0) (word_short m.name h.1) (no_bytes 259)
idl_short w m (CallsSlot params) a h = absurd h
idl_short w m (Calls params) a h = g_short w (codes "void") (in_c m.class) [] a (omega arith) (wider (length (in_c m.class)) (in_c_short m.class (word_short (class_text m.class) h.0))) (no_bytes 300)
idl_short w m (Passes params j kind) a h =
    let c = in_c_short m.class (word_short (class_text m.class) h.0) in
    let k = word_short (type_text kind) h.2 in
    g_short w (codes "void") (in_c m.class ++ codes ", in " ++ type_text kind ++ codes " x") [] a (omega arith) (omega (arith, four (in_c m.class) (codes ", in ") (type_text kind) (codes " x"), c, k)) (no_bytes 300)
idl_short w m (KeepsParameter params j kind) a h = over_short w m (variable_text kind) a (word_short (class_text m.class) h.0) (word_short m.name h.1) (variable_short kind (word_short (type_text kind) h.4))
idl_short w m (ReturnsNothing params) a h = over_short w m [] a (word_short (class_text m.class) h.0) (word_short m.name h.1) (no_bytes 259)
idl_short w m (ReturnsVariable params kind) a h = over_short w m (variable_text kind) a (word_short (class_text m.class) h.0) (word_short m.name h.1) (variable_short kind (word_short (type_text kind) h.3))
idl_short w m (ReturnsAnswer params kind) a h =
    g_short w (type_text kind) (in_c m.class) [] a (word_short (type_text kind) h.2) (wider (length (in_c m.class)) (in_c_short m.class (word_short (class_text m.class) h.0))) (no_bytes 300)
idl_short w m (ReturnsClass k) a h = g_short w (class_text k) [] [] a (word_short (class_text k) h.1) (no_bytes 600) (no_bytes 300)

-- ---- the body

body_short : (w m params statements : List ℕ) → length w ≤ 255 → length m ≤ 255 → length params ≤ 400 → length statements ≤ 700 → length (body_text w m params statements) ≤ 2000
body_short w m params statements a b c d = omega (arith, eight w (codes "::") m (codes "(") params (codes ") {") statements (codes " }"), a, b, c, d)

override_short : (w : List ℕ) (m : MethodRef) (params : List ValueType) (statements : List ℕ) → length w ≤ 255 → length m.name ≤ 255 → length params ≤ MAX_PARAMETERS → length statements ≤ 700
    → length (override_body w m params statements) ≤ 2000
override_short w m params statements a b few d =
    let many = parameters_many 0 params in
    let listed_few = listed_short (parameters 0 params) (parameters_short 0 params (omega (arith, few))) in
    body_short w m.name (listed (parameters 0 params)) statements a b (omega (arith, many, listed_few, few)) d

call_short : (m : List ℕ) (args : List (List ℕ)) → length m ≤ 255 → AllByRecursion IsShort args → length args ≤ MAX_PARAMETERS → length (call_text m args) ≤ 640
call_short m args a h few = omega (arith, five (codes "c.") m (codes "(") (listed args) (codes ");"), listed_short args h, a, few)

zeros_call : (m : List ℕ) (params : List ValueType) → length m ≤ 255 → length params ≤ MAX_PARAMETERS → length (call_text m (zero_texts params)) ≤ 640
zeros_call m params a few = let many = zeros_many params in call_short m (zero_texts params) a (zeros_short params) (omega (arith, many, few))

with_call : (m : List ℕ) (j : ℕ) (params : List ValueType) → length m ≤ 255 → length params ≤ MAX_PARAMETERS → length (call_text m (zero_texts_with j params)) ≤ 640
with_call m j params a few = let many = with_many j params in call_short m (zero_texts_with j params) a (with_short j params) (omega (arith, many, few))

bodies_short : (w : List ℕ) (m : MethodRef) (s : Showing) → length w ≤ 255 → AreWords m s → HasFew s → length (bodies_text w m s) ≤ 2000
bodies_short w m StandsBelow a h few = no_bytes 2000
bodies_short w m (KeepsObject k) a h few = body_short w (codes "g") (codes "c") (codes " somThis.v = c;") a (omega arith) (omega arith) (omega arith)
bodies_short w m (Overrides params) a h few = override_short w m params [] a (word_short m.name h.1) few (no_bytes 700)
bodies_short w m (CallsSlot params) a h few = absurd h
bodies_short w m (Calls params) a h few =
    let call = zeros_call m.name params (word_short m.name h.1) few in
    body_short w (codes "g") (codes "c") (codes " " ++ call_text m.name (zero_texts params)) a (omega arith) (omega arith) (omega (arith, length-append (codes " ") (call_text m.name (zero_texts params)), call))
bodies_short w m (Passes params j kind) a h few =
    let call = with_call m.name j params (word_short m.name h.1) few in
    body_short w (codes "g") (codes "c, x") (codes " " ++ call_text m.name (zero_texts_with j params)) a (omega arith) (omega arith) (omega (arith, length-append (codes " ") (call_text m.name (zero_texts_with j params)), call))
bodies_short w m (KeepsParameter params j kind) a h few =
    let few_digits = digits j h.3 in
    override_short w m params (codes " somThis.v = p" ++ decimal j ++ codes ";") a (word_short m.name h.1) few (omega (arith, three (codes " somThis.v = p") (decimal j) (codes ";"), few_digits))
bodies_short w m (ReturnsNothing params) a h few = override_short w m params (codes " return;") a (word_short m.name h.1) few (omega arith)
bodies_short w m (ReturnsVariable params kind) a h few = override_short w m params (codes " return somThis.v;") a (word_short m.name h.1) few (omega arith)
bodies_short w m (ReturnsAnswer params kind) a h few =
    let call = zeros_call m.name params (word_short m.name h.1) few in
    body_short w (codes "g") (codes "c") (codes " return " ++ call_text m.name (zero_texts params)) a (omega arith) (omega arith) (omega (arith, length-append (codes " return ") (call_text m.name (zero_texts params)), call))
bodies_short w m (ReturnsClass k) a h few =
    let c = word_short (class_text m.class) h.0 in
    body_short w (codes "g") [] (codes " return class " ++ class_text m.class ++ codes ";") a (omega arith) (no_bytes 400) (omega (arith, three (codes " return class ") (class_text m.class) (codes ";"), c))

-- ---- the files

files_bytes : (idl bodies main : List ℕ) → bytes_in (file_of (codes "w.idl") idl ∷ (bodies_files bodies ++ file_of (codes "w.main") main ∷ [])) ≤ length idl + length bodies + length main
files_bytes idl [] main = omega arith
files_bytes idl (b ∷ bs) main = omega arith

files_main : (idl bodies main : List ℕ) → mains_in (names_of (file_of (codes "w.idl") idl ∷ (bodies_files bodies ++ file_of (codes "w.main") main ∷ []))) ≡ 1
files_main idl [] main = refl
files_main idl (b ∷ bs) main = refl

-- one of the files is a main
pub one_main : (t : Texts) → mains_in (names_of (files_of t)) ≡ 1
one_main t = files_main t.idl t.bodies t.main

-- and they aren't too long
pub texts_short : (n : ℕ) → n < 2 ^ 64 → (m : MethodRef) (s : Showing) → AreWords m s → HasFew s → bytes_in (files_of (texts_of (numbered_w n) m s)) ≤ MAX_BYTES
texts_short n lt m s h few =
    let w = numbered_w n in
    let a = w_short n lt in
    omega (arith, files_bytes (idl_text w m s) (bodies_text w m s) (codes "main { }"), idl_short w m s a h, bodies_short w m s a h few)
