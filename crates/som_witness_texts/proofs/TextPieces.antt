-- The texts are put together of pieces.
use Rattle.std.proofs.Common.{◌≡◌, ℕ, zero, suc, List, [], ◌∷◌, ◌++◌, refl, ap, ap₂, ◌∙◌, append-nil, append_assoc}
use Rattle.std.specs.Prelude.{codes}
use Rattle.std.specs.Fmt.{decimal}
use Rattle.som_model.specs.declared.key.ClassKey.{ClassKey}
use Rattle.som_model.specs.declared.key.MethodRef.{MethodRef}
use Rattle.som_model.specs.declared.key.ValueType.{ValueType}
use Rattle.som_model.specs.declared.key.ValueType.TheVariants as types
use Rattle.som_lex.specs.declared.token.TokenKind.{TokenKind}
use Rattle.som_lex.specs.declared.token.TokenKind.TheVariants as kinds
use Rattle.som_lex_laws.specs.Pieces.{Piece, Space, Bytes, text_of_pieces}
use Rattle.som_lex_laws.proofs.Joined.{text_append}
use Rattle.som_witness.specs.Showings.{Showing, StandsBelow, KeepsObject, Overrides, CallsSlot, Calls, Passes, KeepsParameter, ReturnsNothing, ReturnsVariable, ReturnsAnswer, ReturnsClass}
use Rattle.som_witness.specs.Wording as says
use Rattle.som_witness.specs.Wording.{class_text, type_text, zero_text, zero_texts, zero_texts_with, parameters, listed}

abbrev pub word : List ℕ → Piece
word bs = Bytes kinds.Word bs

abbrev pub sign : List ℕ → Piece
sign bs = Bytes kinds.Sign bs

-- ---- parts of a text, from the right and from the left

three : (a b c : List ℕ) → a ++ (b ++ c) ≡ a ++ b ++ c
three a b c = simp append_assoc refl

five : (a b c d e : List ℕ) → a ++ (b ++ (c ++ (d ++ e))) ≡ a ++ b ++ c ++ d ++ e
five a b c d e = simp append_assoc refl

six : (a b c d e f : List ℕ) → a ++ (b ++ (c ++ (d ++ (e ++ f)))) ≡ a ++ b ++ c ++ d ++ e ++ f
six a b c d e f = simp append_assoc refl

seven : (a b c d e f g : List ℕ) → a ++ (b ++ (c ++ (d ++ (e ++ (f ++ g))))) ≡ a ++ b ++ c ++ d ++ e ++ f ++ g
seven a b c d e f g = simp append_assoc refl

eight : (a b c d e f g h : List ℕ) → a ++ (b ++ (c ++ (d ++ (e ++ (f ++ (g ++ h)))))) ≡ a ++ b ++ c ++ d ++ e ++ f ++ g ++ h
eight a b c d e f g h = simp append_assoc refl

-- ---- the interface

-- what ends an interface and a section
abbrev pub closing : List Piece
closing = Space ∷ sign (codes "}") ∷ sign (codes ";") ∷ []

abbrev pub interface_pieces : List ℕ → List ℕ → List Piece → List Piece
interface_pieces w parent members =
    word (codes "interface") ∷ Space ∷ word w ∷ Space ∷ sign (codes ":") ∷ Space ∷ word parent ∷ Space ∷ sign (codes "{") ∷ (members ++ closing)

abbrev pub g_pieces : List ℕ → List Piece → List Piece
g_pieces result params = Space ∷ word result ∷ Space ∷ word (codes "g") ∷ sign (codes "(") ∷ (params ++ sign (codes ")") ∷ sign (codes ";") ∷ [])

abbrev pub in_c_pieces : ClassKey → List Piece
in_c_pieces c = word (codes "in") ∷ Space ∷ word (class_text c) ∷ Space ∷ word (codes "c") ∷ []

-- and then the parameter x
abbrev pub in_x_pieces : ValueType → List Piece
in_x_pieces kind = sign (codes ",") ∷ Space ∷ word (codes "in") ∷ Space ∷ word (type_text kind) ∷ Space ∷ word (codes "x") ∷ []

abbrev pub section_pieces : List Piece → List Piece
section_pieces items = Space ∷ word (codes "implementation") ∷ Space ∷ sign (codes "{") ∷ (items ++ closing)

abbrev pub override_pieces : List ℕ → List Piece
override_pieces m = Space ∷ word m ∷ sign (codes ":") ∷ Space ∷ word (codes "override") ∷ sign (codes ";") ∷ []

abbrev pub variable_pieces : ValueType → List Piece
variable_pieces kind = Space ∷ word (type_text kind) ∷ Space ∷ word (codes "v") ∷ sign (codes ";") ∷ []

abbrev pub g_interface : List ℕ → List ℕ → List Piece → List Piece → List Piece
g_interface w result params section = interface_pieces w (codes "SOMObject") (g_pieces result params ++ section)

abbrev pub over_interface : List ℕ → MethodRef → List Piece → List Piece
over_interface w m variables = interface_pieces w (class_text m.class) (section_pieces (override_pieces m.name ++ variables))

abbrev pub idl_pieces : List ℕ → MethodRef → Showing → List Piece
idl_pieces w m StandsBelow = interface_pieces w (class_text m.class) []
idl_pieces w m (KeepsObject a) = g_interface w (codes "void") (in_c_pieces m.class) (section_pieces (variable_pieces (types.Class a)))
idl_pieces w m (Overrides params) = over_interface w m []
idl_pieces w m (CallsSlot params) = g_interface w (codes "void") (in_c_pieces m.class) []
idl_pieces w m (Calls params) = g_interface w (codes "void") (in_c_pieces m.class) []
idl_pieces w m (Passes params j kind) = g_interface w (codes "void") (in_c_pieces m.class ++ in_x_pieces kind) []
idl_pieces w m (KeepsParameter params j kind) = over_interface w m (variable_pieces kind)
idl_pieces w m (ReturnsNothing params) = over_interface w m []
idl_pieces w m (ReturnsVariable params kind) = over_interface w m (variable_pieces kind)
idl_pieces w m (ReturnsAnswer params kind) = g_interface w (type_text kind) (in_c_pieces m.class) []
idl_pieces w m (ReturnsClass k) = g_interface w (class_text k) [] []

interface_said : (w parent : List ℕ) (members : List Piece) → text_of_pieces (interface_pieces w parent members) ≡ says.interface_text w parent (text_of_pieces members)
interface_said w parent members =
    ap (λ (t : List ℕ). codes "interface " ++ (w ++ (codes " : " ++ (parent ++ (codes " {" ++ t))))) (text_append members closing)
    ∙ seven (codes "interface ") w (codes " : ") parent (codes " {") (text_of_pieces members) (codes " };")

g_said : (result : List ℕ) (params : List Piece) → text_of_pieces (g_pieces result params) ≡ says.g_text result (text_of_pieces params)
g_said result params =
    ap (λ (t : List ℕ). codes " " ++ (result ++ (codes " g(" ++ t))) (text_append params (sign (codes ")") ∷ sign (codes ";") ∷ []))
    ∙ five (codes " ") result (codes " g(") (text_of_pieces params) (codes ");")

section_said : (items : List Piece) → text_of_pieces (section_pieces items) ≡ says.section_text (text_of_pieces items)
section_said items = ap (λ (t : List ℕ). codes " implementation {" ++ t) (text_append items closing)

g_interface_said : (w result : List ℕ) (params section : List Piece) → text_of_pieces (g_interface w result params section) ≡ says.g_interface w result (text_of_pieces params) (text_of_pieces section)
g_interface_said w result params section =
    interface_said w (codes "SOMObject") (g_pieces result params ++ section)
    ∙ ap (λ (t : List ℕ). says.interface_text w (codes "SOMObject") t) (text_append (g_pieces result params) section ∙ ap (λ (t : List ℕ). t ++ text_of_pieces section) (g_said result params))

over_interface_said : (w : List ℕ) (m : MethodRef) (variables : List Piece) → text_of_pieces (over_interface w m variables) ≡ says.override_interface w m (text_of_pieces variables)
over_interface_said w m variables =
    interface_said w (class_text m.class) (section_pieces (override_pieces m.name ++ variables))
    ∙ ap (λ (t : List ℕ). says.interface_text w (class_text m.class) t)
    (section_said (override_pieces m.name ++ variables) ∙ ap (λ (t : List ℕ). says.section_text t) (text_append (override_pieces m.name) variables))

pub idl_said : (w : List ℕ) (m : MethodRef) (s : Showing) → text_of_pieces (idl_pieces w m s) ≡ says.idl_text w m s
idl_said w m StandsBelow = interface_said w (class_text m.class) []
idl_said w m (KeepsObject a) =
    g_interface_said w (codes "void") (in_c_pieces m.class) (section_pieces (variable_pieces (types.Class a)))
    ∙ ap (λ (t : List ℕ). says.g_interface w (codes "void") (says.in_c m.class) t) (section_said (variable_pieces (types.Class a)))
idl_said w m (Overrides params) = over_interface_said w m []
idl_said w m (CallsSlot params) = g_interface_said w (codes "void") (in_c_pieces m.class) []
idl_said w m (Calls params) = g_interface_said w (codes "void") (in_c_pieces m.class) []
idl_said w m (Passes params j kind) =
    g_interface_said w (codes "void") (in_c_pieces m.class ++ in_x_pieces kind) []
    ∙ ap (λ (t : List ℕ). says.g_interface w (codes "void") t []) (six (codes "in ") (class_text m.class) (codes " c") (codes ", in ") (type_text kind) (codes " x"))
idl_said w m (KeepsParameter params j kind) = over_interface_said w m (variable_pieces kind)
idl_said w m (ReturnsNothing params) = over_interface_said w m []
idl_said w m (ReturnsVariable params kind) = over_interface_said w m (variable_pieces kind)
idl_said w m (ReturnsAnswer params kind) = g_interface_said w (type_text kind) (in_c_pieces m.class) []
idl_said w m (ReturnsClass k) = g_interface_said w (class_text k) [] []

-- ---- lists of words and values

-- the kind and the bytes of a word, a number or a text literal
abbrev pub Item : Type 0
Item = TokenKind × List ℕ

abbrev pub piece_of : Item → Piece
piece_of x = Bytes x.0 x.1

abbrev pub listed_pieces : List Item → List Piece
listed_pieces [] = []
listed_pieces (x ∷ []) = piece_of x ∷ []
listed_pieces (x ∷ y ∷ xs) = piece_of x ∷ sign (codes ",") ∷ Space ∷ listed_pieces (y ∷ xs)

abbrev pub bytes_of_items : List Item → List (List ℕ)
bytes_of_items [] = []
bytes_of_items (x ∷ xs) = x.1 ∷ bytes_of_items xs

listed_said : (xs : List Item) → text_of_pieces (listed_pieces xs) ≡ listed (bytes_of_items xs)
listed_said [] = refl
listed_said (x ∷ []) = append-nil x.1
listed_said (x ∷ y ∷ xs) = ap (λ (t : List ℕ). x.1 ++ (codes ", " ++ t)) (listed_said (y ∷ xs)) ∙ three x.1 (codes ", ") (listed (bytes_of_items (y ∷ xs)))

abbrev pub word_item : List ℕ → Item
word_item bs = (kinds.Word, bs)

abbrev pub parameter_items : ℕ → List ValueType → List Item
parameter_items n [] = []
parameter_items n (t ∷ ts) = word_item (codes "p" ++ decimal n) ∷ parameter_items (suc n) ts

parameters_said : (n : ℕ) (ts : List ValueType) → bytes_of_items (parameter_items n ts) ≡ parameters n ts
parameters_said n [] = refl
parameters_said n (t ∷ ts) = ap (λ (xs : List (List ℕ)). (codes "p" ++ decimal n) ∷ xs) (parameters_said (suc n) ts)

abbrev pub zero_item : ValueType → Item
zero_item types.Void = word_item (codes "nil")
zero_item types.Long = (kinds.Number, codes "0")
zero_item types.Boolean = word_item (codes "FALSE")
zero_item types.Str = (kinds.Literal, 34 ∷ 34 ∷ [])
zero_item (types.Class k) = word_item (codes "nil")

abbrev pub zero_items : List ValueType → List Item
zero_items [] = []
zero_items (t ∷ ts) = zero_item t ∷ zero_items ts

-- and x in the place of the nth
abbrev pub zero_items_with : ℕ → List ValueType → List Item
zero_items_with n [] = []
zero_items_with zero (t ∷ ts) = word_item (codes "x") ∷ zero_items ts
zero_items_with (suc n) (t ∷ ts) = zero_item t ∷ zero_items_with n ts

zero_said : (t : ValueType) → (zero_item t).1 ≡ zero_text t
zero_said types.Void = refl
zero_said types.Long = refl
zero_said types.Boolean = refl
zero_said types.Str = refl
zero_said (types.Class k) = refl

zeros_said : (ts : List ValueType) → bytes_of_items (zero_items ts) ≡ zero_texts ts
zeros_said [] = refl
zeros_said (t ∷ ts) = ap₂ (λ (x : List ℕ) (xs : List (List ℕ)). x ∷ xs) (zero_said t) (zeros_said ts)

zeros_with_said : (n : ℕ) (ts : List ValueType) → bytes_of_items (zero_items_with n ts) ≡ zero_texts_with n ts
zeros_with_said zero [] = refl
zeros_with_said (suc n) [] = refl
zeros_with_said zero (t ∷ ts) = ap (λ (xs : List (List ℕ)). codes "x" ∷ xs) (zeros_said ts)
zeros_with_said (suc n) (t ∷ ts) = ap₂ (λ (x : List ℕ) (xs : List (List ℕ)). x ∷ xs) (zero_said t) (zeros_with_said n ts)

-- ---- the bodies

-- what ends a block
abbrev pub block_end : List Piece
block_end = Space ∷ sign (codes "}") ∷ []

abbrev pub body_pieces : List ℕ → List ℕ → List Item → List Piece → List Piece
body_pieces w m params statements =
    word w ∷ sign (codes "::") ∷ word m ∷ sign (codes "(") ∷ (listed_pieces params ++ sign (codes ")") ∷ Space ∷ sign (codes "{") ∷ (statements ++ block_end))

-- a call on c
abbrev pub call_pieces : List ℕ → List Item → List Piece
call_pieces m args = word (codes "c") ∷ sign (codes ".") ∷ word m ∷ sign (codes "(") ∷ (listed_pieces args ++ sign (codes ")") ∷ sign (codes ";") ∷ [])

-- the variable v takes the value of a word
abbrev pub set_pieces : List ℕ → List Piece
set_pieces bs = Space ∷ word (codes "somThis") ∷ sign (codes ".") ∷ word (codes "v") ∷ Space ∷ sign (codes "=") ∷ Space ∷ word bs ∷ sign (codes ";") ∷ []

abbrev pub return_pieces : List Piece → List Piece
return_pieces value = Space ∷ word (codes "return") ∷ (value ++ sign (codes ";") ∷ [])

abbrev pub c_items : List Item
c_items = word_item (codes "c") ∷ []

abbrev pub g_body : List ℕ → List Piece → List Piece
g_body w statements = body_pieces w (codes "g") c_items statements

abbrev pub over_body : List ℕ → MethodRef → List ValueType → List Piece → List Piece
over_body w m params statements = body_pieces w m.name (parameter_items 0 params) statements

abbrev pub bodies_pieces : List ℕ → MethodRef → Showing → List Piece
bodies_pieces w m StandsBelow = []
bodies_pieces w m (KeepsObject a) = g_body w (set_pieces (codes "c"))
bodies_pieces w m (Overrides params) = over_body w m params []
bodies_pieces w m (CallsSlot params) = []
bodies_pieces w m (Calls params) = g_body w (Space ∷ call_pieces m.name (zero_items params))
bodies_pieces w m (Passes params j kind) = body_pieces w (codes "g") (word_item (codes "c") ∷ word_item (codes "x") ∷ []) (Space ∷ call_pieces m.name (zero_items_with j params))
bodies_pieces w m (KeepsParameter params j kind) = over_body w m params (set_pieces (codes "p" ++ decimal j))
bodies_pieces w m (ReturnsNothing params) = over_body w m params (return_pieces [])
bodies_pieces w m (ReturnsVariable params kind) = over_body w m params (return_pieces (Space ∷ word (codes "somThis") ∷ sign (codes ".") ∷ word (codes "v") ∷ []))
bodies_pieces w m (ReturnsAnswer params kind) = g_body w (Space ∷ word (codes "return") ∷ Space ∷ call_pieces m.name (zero_items params))
bodies_pieces w m (ReturnsClass k) = body_pieces w (codes "g") [] (return_pieces (Space ∷ word (codes "class") ∷ Space ∷ word (class_text m.class) ∷ []))

body_said : (w m : List ℕ) (params : List Item) (statements : List Piece) → text_of_pieces (body_pieces w m params statements) ≡ says.body_text w m (listed (bytes_of_items params)) (text_of_pieces statements)
body_said w m params statements =
    ap (λ (t : List ℕ). w ++ (codes "::" ++ (m ++ (codes "(" ++ t))))
    (text_append (listed_pieces params) (sign (codes ")") ∷ Space ∷ sign (codes "{") ∷ (statements ++ block_end))
    ∙ ap₂ (λ (t u : List ℕ). t ++ (codes ") {" ++ u)) (listed_said params) (text_append statements block_end))
    ∙ eight w (codes "::") m (codes "(") (listed (bytes_of_items params)) (codes ") {") (text_of_pieces statements) (codes " }")

call_said : (m : List ℕ) (args : List Item) → text_of_pieces (call_pieces m args) ≡ says.call_text m (bytes_of_items args)
call_said m args =
    ap (λ (t : List ℕ). codes "c." ++ (m ++ (codes "(" ++ t)))
    (text_append (listed_pieces args) (sign (codes ")") ∷ sign (codes ";") ∷ []) ∙ ap (λ (t : List ℕ). t ++ codes ");") (listed_said args))
    ∙ five (codes "c.") m (codes "(") (listed (bytes_of_items args)) (codes ");")

over_said : (w : List ℕ) (m : MethodRef) (params : List ValueType) (statements : List Piece) → text_of_pieces (over_body w m params statements) ≡ says.override_body w m params (text_of_pieces statements)
over_said w m params statements =
    body_said w m.name (parameter_items 0 params) statements
    ∙ ap (λ (xs : List (List ℕ)). says.body_text w m.name (listed xs) (text_of_pieces statements)) (parameters_said 0 params)

-- a call in a statement that begins with these bytes
call_after : (front : List ℕ) (m : List ℕ) (args : List Item) (texts : List (List ℕ)) → bytes_of_items args ≡ texts → front ++ text_of_pieces (call_pieces m args) ≡ front ++ says.call_text m texts
call_after front m args texts e = ap (λ (t : List ℕ). front ++ t) (call_said m args ∙ ap (λ (xs : List (List ℕ)). says.call_text m xs) e)

g_body_said : (w : List ℕ) (statements : List Piece) (text : List ℕ) → text_of_pieces statements ≡ text → text_of_pieces (g_body w statements) ≡ says.body_text w (codes "g") (codes "c") text
g_body_said w statements text e = body_said w (codes "g") c_items statements ∙ ap (λ (t : List ℕ). says.body_text w (codes "g") (codes "c") t) e

pub bodies_said : (w : List ℕ) (m : MethodRef) (s : Showing) → text_of_pieces (bodies_pieces w m s) ≡ says.bodies_text w m s
bodies_said w m StandsBelow = refl
bodies_said w m (KeepsObject a) = g_body_said w (set_pieces (codes "c")) (codes " somThis.v = c;") refl
bodies_said w m (Overrides params) = over_said w m params []
bodies_said w m (CallsSlot params) = refl
bodies_said w m (Calls params) =
    g_body_said w (Space ∷ call_pieces m.name (zero_items params)) (codes " " ++ says.call_text m.name (zero_texts params)) (call_after (codes " ") m.name (zero_items params) (zero_texts params) (zeros_said params))
bodies_said w m (Passes params j kind) =
    body_said w (codes "g") (word_item (codes "c") ∷ word_item (codes "x") ∷ []) (Space ∷ call_pieces m.name (zero_items_with j params))
    ∙ ap (λ (t : List ℕ). says.body_text w (codes "g") (codes "c, x") t) (call_after (codes " ") m.name (zero_items_with j params) (zero_texts_with j params) (zeros_with_said j params))
bodies_said w m (KeepsParameter params j kind) = over_said w m params (set_pieces (codes "p" ++ decimal j))
bodies_said w m (ReturnsNothing params) = over_said w m params (return_pieces [])
bodies_said w m (ReturnsVariable params kind) = over_said w m params (return_pieces (Space ∷ word (codes "somThis") ∷ sign (codes ".") ∷ word (codes "v") ∷ []))
bodies_said w m (ReturnsAnswer params kind) =
    g_body_said w (Space ∷ word (codes "return") ∷ Space ∷ call_pieces m.name (zero_items params)) (codes " return " ++ says.call_text m.name (zero_texts params))
    (call_after (codes " return ") m.name (zero_items params) (zero_texts params) (zeros_said params))
bodies_said w m (ReturnsClass k) = body_said w (codes "g") [] (return_pieces (Space ∷ word (codes "class") ∷ Space ∷ word (class_text m.class) ∷ []))

-- ---- the main

abbrev pub main_pieces : List Piece
main_pieces = word (codes "main") ∷ Space ∷ sign (codes "{") ∷ Space ∷ sign (codes "}") ∷ []

pub main_said : text_of_pieces main_pieces ≡ codes "main { }"
main_said = refl
