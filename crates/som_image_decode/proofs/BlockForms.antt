-- How the fields of expressions and statements are spelled, and lists of them.
use Rattle.std.proofs.Common.{◌≡◌, ℕ, suc, ◌<◌, ◌≤◌, ◌^◌, ℤ, pos, negsuc, Bool, true, false, List, [], ◌∷◌, ◌++◌, length, map, Some, refl, sym, ap, ◌∙◌, arith}
use Rattle.std.specs.Prelude.{nat_le, nat_lt, FitsSigned}
use Rattle.std.specs.List.{flat_map}
use Rattle.std.specs.Int.{Width, w8, w16, w32, cast_unsigned}
use Rattle.std.proofs.lemmas.Bool.{le-leb, leb-true, lt-ltb, ltb-true}
use Rattle.std.proofs.lemmas.List.{length-map}
use Rattle.som_model.specs.declared.limits.TheConstants.{MAX_NESTING}
use Rattle.som_model.specs.declared.syntax.HostCode.{HostCode}
use Rattle.som_model.specs.declared.syntax.HostCode.TheVariants as hosts
use Rattle.som_model.specs.declared.syntax.Expr.TheOpen.{Expr-F}
use Rattle.som_model.specs.Class.{Class}
use Rattle.som_model.specs.Images as images
use Rattle.som_model.specs.Images.{Spelled, AtLevel, ◌then◌, each, tag, where_it_is, at_level, expr_step}
use Rattle.som_image_fields.specs.Spelling as wire
use Rattle.som_image_fields.proofs.NumberFields.{number-w8}
use Rattle.som_image_fields.specs.declared.syntax.WireExpr.{WireExpr}
use Rattle.som_image_fields.specs.SyntaxSpelling as spelling
use Rattle.som_image_fields.proofs.Forms.{flat_of}
use Rattle.som_image_decode.proofs.Spelled.{some_bytes, bytes_are, split, guarded}

-- a tag at a level, and what follows it
pub tagged : (level t : ℕ) (rest : Spelled) (bytes : List ℕ) → level ≤ MAX_NESTING → rest ≡ Some bytes → at_level level t rest ≡ Some (t ∷ bytes)
tagged level t rest bytes le e = ap (λ (b : Bool). where_it_is b (tag t then rest)) (le-leb level MAX_NESTING le) ∙ ap (λ (s : Spelled). tag t then s) e

-- two fields
pub two : (a b : Spelled) (x y : List ℕ) → a ≡ Some x → b ≡ Some y → (a then b) ≡ Some (x ++ y)
two a b x y p q = ap (λ (s : Spelled). s then b) p ∙ ap (λ (s : Spelled). Some x then s) q

-- a number of one byte
pub byte_is : (n : ℕ) → n < 2 ^ 8 → tag n ≡ Some (wire.number w8 n)
byte_is n lt = ap some_bytes (sym (number-w8 n lt))

-- the number of an operator
pub operator_is : (limit op : ℕ) → op < limit → limit ≤ 2 ^ 8 → where_it_is (nat_lt op limit) (tag op) ≡ Some (wire.number w8 op)
operator_is limit op lt small = ap (λ (b : Bool). where_it_is b (tag op)) (lt-ltb op limit lt) ∙ byte_is op (omega (arith, lt, small))

-- a number of one byte that may be any
pub byte_forth : (n : ℕ) → n < 2 ^ 8 → images.byte n ≡ Some (wire.number w8 n)
byte_forth n lt = operator_is (2 ^ 8) n lt (omega arith)

-- the place of a local
pub local_forth : (n : ℕ) → n < 2 ^ 16 → images.local n ≡ Some (wire.number w16 n)
local_forth n lt = ap (λ (b : Bool). where_it_is b (images.number w16 n)) (lt-ltb n (2 ^ 16) lt)

is_long_if : (z : ℤ) → FitsSigned w32 z → images.is_long z ≡ true
is_long_if (pos n) fits = lt-ltb n (2 ^ 31) fits.sfits
is_long_if (negsuc n) fits = lt-ltb n (2 ^ 31) fits.sfits

-- a number of the language
pub long_forth : (z : ℤ) → FitsSigned w32 z → images.long z ≡ Some (wire.number w32 (cast_unsigned w32 z))
long_forth z fits = ap (λ (b : Bool). where_it_is b (images.number w32 (cast_unsigned w32 z))) (is_long_if z fits)

pub truth_is : (b : Bool) → tag (spelling.truth b) ≡ Some (wire.number w8 (spelling.truth b))
truth_is true = byte_is 1 (omega arith)
truth_is false = byte_is 0 (omega arith)

pub host_code : (code : HostCode) → tag (spelling.host code) ≡ Some (wire.number w8 (spelling.host code))
host_code hosts.Min = byte_is 0 (omega arith)
host_code hosts.Max = byte_is 1 (omega arith)
host_code hosts.And = byte_is 2 (omega arith)
host_code hosts.Or = byte_is 3 (omega arith)
host_code hosts.Xor = byte_is 4 (omega arith)
host_code hosts.WrapAdd = byte_is 5 (omega arith)

module _ (cs : List Class) (level : ℕ) where
  pub boolean_is : (b : Bool) → expr_step cs (Expr-F.Boolean b) level ≡ at_level level 0x22 (tag (spelling.truth b))
  boolean_is true = refl
  boolean_is false = refl

  pub host_is : (code : HostCode) (a b : AtLevel) → expr_step cs (Expr-F.Host code a b) level ≡ at_level level 0x34 (tag (spelling.host code) then a (suc level) then b (suc level))
  host_is hosts.Min a b = refl
  host_is hosts.Max a b = refl
  host_is hosts.And a b = refl
  host_is hosts.Or a b = refl
  host_is hosts.Xor a b = refl
  host_is hosts.WrapAdd a b = refl

-- ---- and back

-- what follows a tag
pub record Opened (t : ℕ) (rest : Spelled) (bytes : List ℕ) : Type 0 where
  pub back : List ℕ
  pub second : rest ≡ Some back
  pub whole : t ∷ back ≡ bytes

pub opened : (level t : ℕ) (rest : Spelled) (bytes : List ℕ) → at_level level t rest ≡ Some bytes → Opened t rest bytes
opened level t rest bytes e =
    let g = guarded (nat_le level MAX_NESTING) (tag t then rest) bytes e in
    let s = split (tag t) rest bytes g.1 in
    record { back = s.back; second = s.second; whole = ap (λ (x : List ℕ). x ++ s.back) (bytes_are (t ∷ []) s.front s.first) ∙ s.whole }

pub join : (a b x y whole : List ℕ) → a ≡ x → b ≡ y → x ++ y ≡ whole → a ++ b ≡ whole
join a b x y whole p q r = ap (λ (z : List ℕ). z ++ b) p ∙ ap (λ (z : List ℕ). x ++ z) q ∙ r

pub number_back : (width : Width) (n : ℕ) (bytes : List ℕ) → images.number width n ≡ Some bytes → wire.number width n ≡ bytes
number_back width n bytes e = bytes_are (wire.number width n) bytes e

-- a number of one byte, after a tag or for one
pub tagged_back : (n : ℕ) (bytes : List ℕ) → tag n ≡ Some (wire.number w8 n) → tag n ≡ Some bytes → wire.number w8 n ≡ bytes
tagged_back n bytes is e = bytes_are (wire.number w8 n) bytes (sym is ∙ e)

one_byte_back : (n : ℕ) (bytes : List ℕ) → n < 2 ^ 8 → tag n ≡ Some bytes → wire.number w8 n ≡ bytes
one_byte_back n bytes lt e = tagged_back n bytes (byte_is n lt) e

pub operator_back : (limit op : ℕ) (bytes : List ℕ) → limit ≤ 2 ^ 8 → where_it_is (nat_lt op limit) (tag op) ≡ Some bytes → (wire.number w8 op ≡ bytes) × (op < limit)
operator_back limit op bytes small e =
    let g = guarded (nat_lt op limit) (tag op) bytes e in
    let lt : op < limit = ltb-true op limit g.0 in
    (one_byte_back op bytes (omega (arith, lt, small)) g.1, lt)

pub byte_back : (n : ℕ) (bytes : List ℕ) → images.byte n ≡ Some bytes → (wire.number w8 n ≡ bytes) × (n < 2 ^ 8)
byte_back n bytes e = operator_back (2 ^ 8) n bytes (omega arith) e

pub local_back : (n : ℕ) (bytes : List ℕ) → images.local n ≡ Some bytes → (wire.number w16 n ≡ bytes) × (n < 2 ^ 16)
local_back n bytes e =
    let g = guarded (nat_lt n (2 ^ 16)) (images.number w16 n) bytes e in
    (number_back w16 n bytes g.1, ltb-true n (2 ^ 16) g.0)

long_fits : (z : ℤ) → images.is_long z ≡ true → FitsSigned w32 z
long_fits (pos n) e = record { sfits = ltb-true n (2 ^ 31) e }
long_fits (negsuc n) e = record { sfits = ltb-true n (2 ^ 31) e }

pub long_back : (z : ℤ) (bytes : List ℕ) → images.long z ≡ Some bytes → (wire.number w32 (cast_unsigned w32 z) ≡ bytes) × FitsSigned w32 z
long_back z bytes e =
    let g = guarded (images.is_long z) (images.number w32 (cast_unsigned w32 z)) bytes e in
    (number_back w32 (cast_unsigned w32 z) bytes g.1, long_fits z g.0)

-- what stands at a level that is not too deep
pub reached : (level t : ℕ) (rest : Spelled) (bytes : List ℕ) → at_level level t rest ≡ Some bytes → level ≤ MAX_NESTING
reached level t rest bytes e = leb-true level MAX_NESTING (guarded (nat_le level MAX_NESTING) (tag t then rest) bytes e).0

-- ---- lists

-- each of a list, first made and then spelled
pub each_map : {A B : Type 0} (spell : B → Spelled) (f : A → B) (xs : List A) → each spell (map f xs) ≡ each (λ x. spell (f x)) xs
each_map spell f [] = refl
each_map spell f (x ∷ xs) = ap (λ (s : Spelled). spell (f x) then s) (each_map spell f xs)

pub counted_map : {A B : Type 0} (width : Width) (most : ℕ) (spell : B → Spelled) (f : A → B) (xs : List A) → images.counted width most spell (map f xs) ≡ images.counted width most (λ x. spell (f x)) xs
counted_map {A} {B} width most spell f xs =
    ap (λ (n : ℕ). where_it_is (nat_le n most) (images.number width n then each spell (map f xs))) (length-map xs f)
    ∙ ap (λ (s : Spelled). where_it_is (nat_le (length xs) most) (images.number width (length xs) then s)) (each_map spell f xs)

pub map_twice : {A B C : Type 0} (f : B → C) (g : A → B) (xs : List A) → map f (map g xs) ≡ map (λ x. f (g x)) xs
map_twice f g [] = refl
map_twice {A} {B} {C} f g (x ∷ xs) = ap (λ (ys : List C). f (g x) ∷ ys) (map_twice f g xs)

-- texts after their number are values after their number
pub args_are : (es : List WireExpr) → spelling.args (map spelling.expr es) ≡ wire.counted w8 spelling.expr es
args_are es =
    ap (λ (n : ℕ). wire.number w8 n ++ flat_map (λ (t : List ℕ). t) (map spelling.expr es)) (length-map es spelling.expr)
    ∙ ap (λ (t : List ℕ). wire.number w8 (length es) ++ t) (flat_of spelling.expr es)
