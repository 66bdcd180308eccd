-- The pieces of the texts spell tokens, and stay apart.
use Rattle.std.proofs.Common.{◌≡◌, ℕ, zero, suc, ◌+◌, ◌<◌, ◌≤◌, ◌^◌, true, ◌&&◌, List, [], ◌∷◌, ◌++◌, length, refl, sym, subst, append_assoc, arith}
use Rattle.std.specs.Prelude.{⊤, codes}
use Rattle.std.specs.Fmt.{decimal}
use Rattle.som_model.specs.declared.key.ClassKey.{ClassKey}
use Rattle.som_model.specs.declared.key.MethodRef.{MethodRef}
use Rattle.som_model.specs.declared.key.ValueType.{ValueType}
use Rattle.som_model.specs.declared.key.ValueType.TheVariants as types
use Rattle.som_lex.specs.Spelling.{is_word, nothing, a_zero, a_literal, a_sign, a_double}
use Rattle.som_lex.specs.Values.{inside_of, text_of}
use Rattle.som_model.specs.declared.limits.TheConstants.{MAX_TEXT}
use Rattle.som_lex.proofs.Words.{word_spelled}
use Rattle.som_lex_laws.specs.Pieces.{Piece, Space, IsPiece, ArePieces, all_apart, apart_after, are_apart}
use Rattle.som_lex_laws.proofs.Joined.{are_append}
use Rattle.som_witness.specs.Showings.{Showing, StandsBelow, KeepsObject, Overrides, CallsSlot, Calls, Passes, KeepsParameter, ReturnsNothing, ReturnsVariable, ReturnsAnswer, ReturnsClass}
use Rattle.som_witness.specs.Wording.{class_text, type_text}
use Rattle.som_witness_texts.proofs.Words.{numbered, two_true}
use Rattle.som_witness_texts.proofs.TextPieces.{word, sign, closing, interface_pieces, g_pieces, in_c_pieces, in_x_pieces, section_pieces, override_pieces, variable_pieces, g_interface, over_interface, idl_pieces, Item, piece_of, listed_pieces, word_item, parameter_items, zero_item, zero_items, zero_items_with, block_end, body_pieces, call_pieces, set_pieces, return_pieces, c_items, bodies_pieces, main_pieces}

-- ---- what pieces spell

word_fine : (bs : List ℕ) → is_word bs ≡ true → IsPiece (word bs)
word_fine bs e = (word_spelled bs).0 e

closing_fine : ArePieces closing
closing_fine = (tt, ((a_sign refl, tt), ((a_sign refl, tt), tt)))

interface_fine : (w parent : List ℕ) (members : List Piece) → is_word w ≡ true → is_word parent ≡ true → ArePieces members → ArePieces (interface_pieces w parent members)
interface_fine w parent members e f h =
    (word_fine (codes "interface") refl, (tt, (word_fine w e, (tt, ((a_sign refl, tt), (tt, (word_fine parent f, (tt, ((a_sign refl, tt), are_append members closing h closing_fine)))))))))

g_fine : (result : List ℕ) (params : List Piece) → is_word result ≡ true → ArePieces params → ArePieces (g_pieces result params)
g_fine result params e h =
    (tt, (word_fine result e, (tt, (word_fine (codes "g") refl, ((a_sign refl, tt), are_append params (sign (codes ")") ∷ sign (codes ";") ∷ []) h ((a_sign refl, tt), ((a_sign refl, tt), tt)))))))

c_fine : (c : ClassKey) → is_word (class_text c) ≡ true → ArePieces (in_c_pieces c)
c_fine c e = (word_fine (codes "in") refl, (tt, (word_fine (class_text c) e, (tt, (word_fine (codes "c") refl, tt)))))

x_fine : (kind : ValueType) → is_word (type_text kind) ≡ true → ArePieces (in_x_pieces kind)
x_fine kind e = ((a_sign refl, tt), (tt, (word_fine (codes "in") refl, (tt, (word_fine (type_text kind) e, (tt, (word_fine (codes "x") refl, tt)))))))

section_fine : (items : List Piece) → ArePieces items → ArePieces (section_pieces items)
section_fine items h = (tt, (word_fine (codes "implementation") refl, (tt, ((a_sign refl, tt), are_append items closing h closing_fine))))

override_fine : (m : List ℕ) → is_word m ≡ true → ArePieces (override_pieces m)
override_fine m e = (tt, (word_fine m e, ((a_sign refl, tt), (tt, (word_fine (codes "override") refl, ((a_sign refl, tt), tt))))))

variable_fine : (kind : ValueType) → is_word (type_text kind) ≡ true → ArePieces (variable_pieces kind)
variable_fine kind e = (tt, (word_fine (type_text kind) e, (tt, (word_fine (codes "v") refl, ((a_sign refl, tt), tt)))))

g_interface_fine : (w result : List ℕ) (params section : List Piece) → is_word w ≡ true → is_word result ≡ true → ArePieces params → ArePieces section → ArePieces (g_interface w result params section)
g_interface_fine w result params section e f h k = interface_fine w (codes "SOMObject") (g_pieces result params ++ section) e refl (are_append (g_pieces result params) section (g_fine result params f h) k)

over_interface_fine : (w : List ℕ) (m : MethodRef) (variables : List Piece) → is_word w ≡ true → is_word (class_text m.class) ≡ true → is_word m.name ≡ true → ArePieces variables → ArePieces (over_interface w m variables)
over_interface_fine w m variables e f g h =
    interface_fine w (class_text m.class) (section_pieces (override_pieces m.name ++ variables)) e f (section_fine (override_pieces m.name ++ variables) (are_append (override_pieces m.name) variables (override_fine m.name g) h))

-- what has to be a word, by how the breach is shown
abbrev pub AreWords : MethodRef → Showing → Type 0
AreWords m StandsBelow = is_word (class_text m.class) ≡ true
AreWords m (KeepsObject a) = (is_word (class_text m.class) ≡ true) × (is_word (class_text a) ≡ true)
AreWords m (Overrides params) = (is_word (class_text m.class) ≡ true) × (is_word m.name ≡ true) × (length params < 2 ^ 64)
AreWords m (CallsSlot params) = ⊥
AreWords m (Calls params) = (is_word (class_text m.class) ≡ true) × (is_word m.name ≡ true)
AreWords m (Passes params j kind) = (is_word (class_text m.class) ≡ true) × (is_word m.name ≡ true) × (is_word (type_text kind) ≡ true)
AreWords m (KeepsParameter params j kind) = (is_word (class_text m.class) ≡ true) × (is_word m.name ≡ true) × (length params < 2 ^ 64) × (j < 2 ^ 64) × (is_word (type_text kind) ≡ true)
AreWords m (ReturnsNothing params) = (is_word (class_text m.class) ≡ true) × (is_word m.name ≡ true) × (length params < 2 ^ 64)
AreWords m (ReturnsVariable params kind) = (is_word (class_text m.class) ≡ true) × (is_word m.name ≡ true) × (length params < 2 ^ 64) × (is_word (type_text kind) ≡ true)
AreWords m (ReturnsAnswer params kind) = (is_word (class_text m.class) ≡ true) × (is_word m.name ≡ true) × (is_word (type_text kind) ≡ true)
AreWords m (ReturnsClass k) = (is_word (class_text m.class) ≡ true) × (is_word (class_text k) ≡ true)

pub idl_fine : (w : List ℕ) (m : MethodRef) (s : Showing) → is_word w ≡ true → AreWords m s → ArePieces (idl_pieces w m s)
idl_fine w m StandsBelow e h = interface_fine w (class_text m.class) [] e h tt
idl_fine w m (KeepsObject a) e h = g_interface_fine w (codes "void") (in_c_pieces m.class) (section_pieces (variable_pieces (types.Class a))) e refl (c_fine m.class h.0) (section_fine (variable_pieces (types.Class a)) (variable_fine (types.Class a) h.1))
idl_fine w m (Overrides params) e h = over_interface_fine w m [] e h.0 h.1 tt
idl_fine w m (CallsSlot params) e h = absurd h
idl_fine w m (Calls params) e h = g_interface_fine w (codes "void") (in_c_pieces m.class) [] e refl (c_fine m.class h.0) tt
idl_fine w m (Passes params j kind) e h = g_interface_fine w (codes "void") (in_c_pieces m.class ++ in_x_pieces kind) [] e refl (are_append (in_c_pieces m.class) (in_x_pieces kind) (c_fine m.class h.0) (x_fine kind h.2)) tt
idl_fine w m (KeepsParameter params j kind) e h = over_interface_fine w m (variable_pieces kind) e h.0 h.1 (variable_fine kind h.4)
idl_fine w m (ReturnsNothing params) e h = over_interface_fine w m [] e h.0 h.1 tt
idl_fine w m (ReturnsVariable params kind) e h = over_interface_fine w m (variable_pieces kind) e h.0 h.1 (variable_fine kind h.3)
idl_fine w m (ReturnsAnswer params kind) e h = g_interface_fine w (type_text kind) (in_c_pieces m.class) [] e h.2 (c_fine m.class h.0) tt
idl_fine w m (ReturnsClass k) e h = g_interface_fine w (class_text k) [] [] e h.1 tt tt

pub idl_apart : (w : List ℕ) (m : MethodRef) (s : Showing) → all_apart (idl_pieces w m s) ≡ true
idl_apart w m StandsBelow = refl
idl_apart w m (KeepsObject a) = refl
idl_apart w m (Overrides params) = refl
idl_apart w m (CallsSlot params) = refl
idl_apart w m (Calls params) = refl
idl_apart w m (Passes params j kind) = refl
idl_apart w m (KeepsParameter params j kind) = refl
idl_apart w m (ReturnsNothing params) = refl
idl_apart w m (ReturnsVariable params kind) = refl
idl_apart w m (ReturnsAnswer params kind) = refl
idl_apart w m (ReturnsClass k) = refl

-- ---- lists

-- a piece that may stand in a list
pub record MayStand (x : Item) : Type 0 where
  pub spells : IsPiece (piece_of x)
  pub opens : are_apart (sign (codes "(")) (piece_of x) ≡ true
  pub comma : are_apart (piece_of x) (sign (codes ",")) ≡ true
  pub close : are_apart (piece_of x) (sign (codes ")")) ≡ true

abbrev pub AllStand : List Item → Type 0
AllStand [] = ⊤
AllStand (x ∷ xs) = MayStand x × AllStand xs

word_stands : (bs : List ℕ) → is_word bs ≡ true → MayStand (word_item bs)
word_stands bs e = record { spells = word_fine bs e; opens = refl; comma = refl; close = refl }

no_text : length (text_of (34 ∷ 34 ∷ [])) ≤ MAX_TEXT
unfolding inside_of
no_text = omega arith

zero_stands : (t : ValueType) → MayStand (zero_item t)
zero_stands types.Void = word_stands (codes "nil") refl
zero_stands types.Long = record { spells = (a_zero, omega arith); opens = refl; comma = refl; close = refl }
zero_stands types.Boolean = word_stands (codes "FALSE") refl
zero_stands types.Str = record { spells = (a_literal [] [] nothing, no_text); opens = refl; comma = refl; close = refl }
zero_stands (types.Class k) = word_stands (codes "nil") refl

pub zeros_stand : (ts : List ValueType) → AllStand (zero_items ts)
zeros_stand [] = tt
zeros_stand (t ∷ ts) = (zero_stands t, zeros_stand ts)

pub zeros_with_stand : (n : ℕ) (ts : List ValueType) → AllStand (zero_items_with n ts)
zeros_with_stand zero [] = tt
zeros_with_stand (suc n) [] = tt
zeros_with_stand zero (t ∷ ts) = (word_stands (codes "x") refl, zeros_stand ts)
zeros_with_stand (suc n) (t ∷ ts) = (zero_stands t, zeros_with_stand n ts)

pub parameters_stand : (n : ℕ) (ts : List ValueType) → n + length ts ≤ 2 ^ 64 → AllStand (parameter_items n ts)
parameters_stand n [] le = tt
parameters_stand n (t ∷ ts) le = (word_stands (codes "p" ++ decimal n) (numbered 112 n refl (omega (arith, le))), parameters_stand (suc n) ts (omega (arith, le)))

listed_fine : (xs : List Item) → AllStand xs → ArePieces (listed_pieces xs)
listed_fine [] h = tt
listed_fine (x ∷ []) h = (h.0.spells, tt)
listed_fine (x ∷ y ∷ xs) h = (h.0.spells, ((a_sign refl, tt), (tt, listed_fine (y ∷ xs) h.1)))

items_apart : (before : Piece) (x : Item) (xs : List Item) (rest : List Piece) → are_apart before (piece_of x) ≡ true → AllStand (x ∷ xs) → apart_after (sign (codes ")")) rest ≡ true → apart_after before (listed_pieces (x ∷ xs) ++ sign (codes ")") ∷ rest) ≡ true
items_apart before x [] rest e h k =
    two_true (are_apart before (piece_of x)) (are_apart (piece_of x) (sign (codes ")")) && apart_after (sign (codes ")")) rest) e
    (two_true (are_apart (piece_of x) (sign (codes ")"))) (apart_after (sign (codes ")")) rest) h.0.close k)
items_apart before x (y ∷ ys) rest e h k =
    let later = items_apart Space y ys rest refl h.1 k in
    two_true (are_apart before (piece_of x)) (are_apart (piece_of x) (sign (codes ",")) && apart_after Space (listed_pieces (y ∷ ys) ++ sign (codes ")") ∷ rest)) e
    (two_true (are_apart (piece_of x) (sign (codes ","))) (apart_after Space (listed_pieces (y ∷ ys) ++ sign (codes ")") ∷ rest)) h.0.comma later)

list_apart : (xs : List Item) (rest : List Piece) → AllStand xs → apart_after (sign (codes ")")) rest ≡ true → apart_after (sign (codes "(")) (listed_pieces xs ++ sign (codes ")") ∷ rest) ≡ true
list_apart [] rest h k = k
list_apart (x ∷ xs) rest h k = items_apart (sign (codes "(")) x xs rest h.0.opens h k

-- ---- bodies

block_end_fine : ArePieces block_end
block_end_fine = (tt, ((a_sign refl, tt), tt))

body_fine : (w m : List ℕ) (params : List Item) (statements : List Piece) → is_word w ≡ true → is_word m ≡ true → AllStand params → ArePieces statements → ArePieces (body_pieces w m params statements)
body_fine w m params statements e f h k =
    let tail = sign (codes ")") ∷ Space ∷ sign (codes "{") ∷ (statements ++ block_end) in
    let last : ArePieces tail = ((a_sign refl, tt), (tt, ((a_sign refl, tt), are_append statements block_end k block_end_fine))) in
    let rest = are_append (listed_pieces params) tail (listed_fine params h) last in
    (word_fine w e, ((a_double refl, tt), (word_fine m f, ((a_sign refl, tt), rest))))

call_fine : (m : List ℕ) (args : List Item) → is_word m ≡ true → AllStand args → ArePieces (call_pieces m args)
call_fine m args e h =
    let rest = are_append (listed_pieces args) (sign (codes ")") ∷ sign (codes ";") ∷ []) (listed_fine args h) ((a_sign refl, tt), ((a_sign refl, tt), tt)) in
    (word_fine (codes "c") refl, ((a_sign refl, tt), (word_fine m e, ((a_sign refl, tt), rest))))

set_fine : (bs : List ℕ) → is_word bs ≡ true → ArePieces (set_pieces bs)
set_fine bs e = (tt, (word_fine (codes "somThis") refl, ((a_sign refl, tt), (word_fine (codes "v") refl, (tt, ((a_sign refl, tt), (tt, (word_fine bs e, ((a_sign refl, tt), tt)))))))))

return_fine : (value : List Piece) → ArePieces value → ArePieces (return_pieces value)
return_fine value h = (tt, (word_fine (codes "return") refl, are_append value (sign (codes ";") ∷ []) h ((a_sign refl, tt), tt)))

c_stands : AllStand c_items
c_stands = (word_stands (codes "c") refl, tt)

c_x_stand : AllStand (word_item (codes "c") ∷ word_item (codes "x") ∷ [])
c_x_stand = (word_stands (codes "c") refl, (word_stands (codes "x") refl, tt))

params_stand : (params : List ValueType) → length params < 2 ^ 64 → AllStand (parameter_items 0 params)
params_stand params lt = parameters_stand 0 params (omega (arith, lt))

pub bodies_fine : (w : List ℕ) (m : MethodRef) (s : Showing) → is_word w ≡ true → AreWords m s → ArePieces (bodies_pieces w m s)
bodies_fine w m StandsBelow e h = tt
bodies_fine w m (KeepsObject a) e h = body_fine w (codes "g") c_items (set_pieces (codes "c")) e refl c_stands (set_fine (codes "c") refl)
bodies_fine w m (Overrides params) e h = body_fine w m.name (parameter_items 0 params) [] e h.1 (params_stand params h.2) tt
bodies_fine w m (CallsSlot params) e h = absurd h
bodies_fine w m (Calls params) e h = body_fine w (codes "g") c_items (Space ∷ call_pieces m.name (zero_items params)) e refl c_stands (tt, call_fine m.name (zero_items params) h.1 (zeros_stand params))
bodies_fine w m (Passes params j kind) e h =
    body_fine w (codes "g") (word_item (codes "c") ∷ word_item (codes "x") ∷ []) (Space ∷ call_pieces m.name (zero_items_with j params)) e refl c_x_stand (tt, call_fine m.name (zero_items_with j params) h.1 (zeros_with_stand j params))
bodies_fine w m (KeepsParameter params j kind) e h =
    body_fine w m.name (parameter_items 0 params) (set_pieces (codes "p" ++ decimal j)) e h.1 (params_stand params h.2) (set_fine (codes "p" ++ decimal j) (numbered 112 j refl h.3))
bodies_fine w m (ReturnsNothing params) e h = body_fine w m.name (parameter_items 0 params) (return_pieces []) e h.1 (params_stand params h.2) (return_fine [] tt)
bodies_fine w m (ReturnsVariable params kind) e h =
    body_fine w m.name (parameter_items 0 params) (return_pieces (Space ∷ word (codes "somThis") ∷ sign (codes ".") ∷ word (codes "v") ∷ [])) e h.1 (params_stand params h.2)
    (return_fine (Space ∷ word (codes "somThis") ∷ sign (codes ".") ∷ word (codes "v") ∷ []) (tt, (word_fine (codes "somThis") refl, ((a_sign refl, tt), (word_fine (codes "v") refl, tt)))))
bodies_fine w m (ReturnsAnswer params kind) e h =
    body_fine w (codes "g") c_items (Space ∷ word (codes "return") ∷ Space ∷ call_pieces m.name (zero_items params)) e refl c_stands
    (tt, (word_fine (codes "return") refl, (tt, call_fine m.name (zero_items params) h.1 (zeros_stand params))))
bodies_fine w m (ReturnsClass k) e h =
    body_fine w (codes "g") [] (return_pieces (Space ∷ word (codes "class") ∷ Space ∷ word (class_text m.class) ∷ [])) e refl tt
    (return_fine (Space ∷ word (codes "class") ∷ Space ∷ word (class_text m.class) ∷ []) (tt, (word_fine (codes "class") refl, (tt, (word_fine (class_text m.class) h.0, tt)))))

body_apart : (w m : List ℕ) (params : List Item) (statements : List Piece) → AllStand params → apart_after (sign (codes "{")) (statements ++ block_end) ≡ true → all_apart (body_pieces w m params statements) ≡ true
body_apart w m params statements h k = list_apart params (Space ∷ sign (codes "{") ∷ (statements ++ block_end)) h k

-- the pieces of a call, before the end of the block
call_apart : (m : List ℕ) (args : List Item) → AllStand args → apart_after Space (call_pieces m args ++ block_end) ≡ true
call_apart m args h =
    let last = sign (codes ")") ∷ sign (codes ";") ∷ [] in
    subst (λ ps. apart_after (sign (codes "(")) ps ≡ true) (sym (append_assoc (listed_pieces args) last block_end)) (list_apart args (sign (codes ";") ∷ block_end) h refl)

pub bodies_apart : (w : List ℕ) (m : MethodRef) (s : Showing) → AreWords m s → all_apart (bodies_pieces w m s) ≡ true
bodies_apart w m StandsBelow h = refl
bodies_apart w m (KeepsObject a) h = body_apart w (codes "g") c_items (set_pieces (codes "c")) c_stands refl
bodies_apart w m (Overrides params) h = body_apart w m.name (parameter_items 0 params) [] (params_stand params h.2) refl
bodies_apart w m (CallsSlot params) h = absurd h
bodies_apart w m (Calls params) h = body_apart w (codes "g") c_items (Space ∷ call_pieces m.name (zero_items params)) c_stands (call_apart m.name (zero_items params) (zeros_stand params))
bodies_apart w m (Passes params j kind) h =
    body_apart w (codes "g") (word_item (codes "c") ∷ word_item (codes "x") ∷ []) (Space ∷ call_pieces m.name (zero_items_with j params)) c_x_stand (call_apart m.name (zero_items_with j params) (zeros_with_stand j params))
bodies_apart w m (KeepsParameter params j kind) h = body_apart w m.name (parameter_items 0 params) (set_pieces (codes "p" ++ decimal j)) (params_stand params h.2) refl
bodies_apart w m (ReturnsNothing params) h = body_apart w m.name (parameter_items 0 params) (return_pieces []) (params_stand params h.2) refl
bodies_apart w m (ReturnsVariable params kind) h =
    body_apart w m.name (parameter_items 0 params) (return_pieces (Space ∷ word (codes "somThis") ∷ sign (codes ".") ∷ word (codes "v") ∷ [])) (params_stand params h.2) refl
bodies_apart w m (ReturnsAnswer params kind) h =
    body_apart w (codes "g") c_items (Space ∷ word (codes "return") ∷ Space ∷ call_pieces m.name (zero_items params)) c_stands (call_apart m.name (zero_items params) (zeros_stand params))
bodies_apart w m (ReturnsClass k) h = body_apart w (codes "g") [] (return_pieces (Space ∷ word (codes "class") ∷ Space ∷ word (class_text m.class) ∷ [])) tt refl

-- ---- the main

pub main_fine : ArePieces main_pieces
main_fine = (word_fine (codes "main") refl, (tt, ((a_sign refl, tt), (tt, ((a_sign refl, tt), tt)))))

pub main_apart : all_apart main_pieces ≡ true
main_apart = refl
