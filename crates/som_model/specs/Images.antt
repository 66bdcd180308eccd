-- The bytes that spell a release or a client program. A field that can't be spelled, because it passes its range or names nothing that is known, has no bytes.
use Rattle.std.specs.Prelude.{ℕ, suc, ◌==◌, ◌^◌, ℤ, pos, negsuc, Bool, true, false, not, if◌then◌else◌, nat_lt, nat_le, List, [], ◌∷◌, ◌++◌, length, map, filter, Option, Some, None, codes}
use Rattle.std.specs.Int.{Width, w8, w16, w32, to_be_bytes, cast_unsigned}
use Rattle.std.specs.Str.{bytes_eq}
use Rattle.som_model.specs.declared.key.Module.{Module}
use Rattle.som_model.specs.declared.key.Module.TheVariants as modules
use Rattle.som_model.specs.declared.key.ClassKey.{ClassKey}
use Rattle.som_model.specs.declared.key.MethodRef.{MethodRef}
use Rattle.som_model.specs.declared.key.ValueType.{ValueType}
use Rattle.som_model.specs.declared.key.ValueType.TheVariants as types
use Rattle.som_model.specs.declared.syntax.HostCode.{HostCode}
use Rattle.som_model.specs.declared.syntax.HostCode.TheVariants as hosts
use Rattle.som_model.specs.declared.syntax.Expr.{Expr, fold-Expr}
use Rattle.som_model.specs.declared.syntax.Expr.TheOpen.{Expr-F}
use Rattle.som_model.specs.declared.syntax.Stmt.TheOpen.{Stmt-F, Block-F}
use Rattle.som_model.specs.declared.syntax.Block.{Block, fold-Block}
use Rattle.som_model.specs.declared.class.Sig.{Sig}
use Rattle.som_model.specs.declared.class.Way.{Way}
use Rattle.som_model.specs.declared.class.Way.TheVariants as ways
use Rattle.som_model.specs.declared.class.Entry.{Entry}
use Rattle.som_model.specs.declared.class.Entry.TheVariants as entries
use Rattle.som_model.specs.declared.class.Body.{Body}
use Rattle.som_model.specs.declared.class.Body.TheVariants as bodies
use Rattle.som_model.specs.declared.class.Variable.{Variable}
use Rattle.som_model.specs.declared.class.Override.{Override}
use Rattle.som_model.specs.declared.class.Select.{Select}
use Rattle.som_model.specs.declared.class.ClassFace.{ClassFace}
use Rattle.som_model.specs.declared.class.ClassDecl.{ClassDecl}
use Rattle.som_model.specs.declared.program.Release.{Release}
use Rattle.som_model.specs.declared.program.ClientProgram.{ClientProgram}
use Rattle.som_model.specs.declared.limits.TheConstants.{MAX_TEXT, MAX_VERSION, MAX_PARAMETERS, MAX_PARENTS, MAX_ENTRIES, MAX_VARIABLES, MAX_OVERRIDES, MAX_SELECTS, MAX_NESTING, MAX_LIBRARY_CLASSES, MAX_CLIENT_CLASSES}
use Rattle.som_model.specs.Lists.{place_from, some}
use Rattle.som_model.specs.Keys.{same_key}
use Rattle.som_model.specs.Blocks.{is_call}
use Rattle.som_model.specs.Class.{Class, class_in, entry_name, introduced}
use Rattle.som_model.specs.Kernel.{kernel}
use Rattle.som_model.specs.Classes.{class_at, library_classes, interface_classes}

-- bytes, where there are any
abbrev pub Spelled : Type 0
Spelled = Option (List ℕ)

-- one field, and then another
infixl 20 ◌then◌
abbrev pub ◌then◌ : Spelled → Spelled → Spelled
(Some a) then (Some b) = Some (a ++ b)
(Some a) then None = None
None then b = None

-- fields one after the other
abbrev pub each : {A : Type 0} → (A → Spelled) → List A → Spelled
each spell [] = Some []
each spell (x ∷ xs) = spell x then each spell xs

-- a field that has to be in its range
abbrev pub where_it_is : Bool → Spelled → Spelled
where_it_is b s = if b then s else None

-- a tag, flag or operator
abbrev pub tag : ℕ → Spelled
tag n = Some (n ∷ [])

-- a number, its highest byte first
abbrev pub number : Width → ℕ → Spelled
number w n = Some (to_be_bytes w n)

-- a number of one byte that may be any
abbrev pub byte : ℕ → Spelled
byte n = where_it_is (nat_lt n (2 ^ 8)) (tag n)

-- the place of a local
abbrev pub local : ℕ → Spelled
local n = where_it_is (nat_lt n (2 ^ 16)) (number w16 n)

-- whether a number is one of the language: 32 bits with a sign
abbrev pub is_long : ℤ → Bool
is_long (pos n) = nat_lt n (2 ^ 31)
is_long (negsuc n) = nat_lt n (2 ^ 31)

-- a number of the language, in two's complement
abbrev pub long : ℤ → Spelled
long z = where_it_is (is_long z) (number w32 (cast_unsigned w32 z))

-- as many things as a count may say, after their count
abbrev pub counted : {A : Type 0} → Width → ℕ → (A → Spelled) → List A → Spelled
counted w most spell xs = where_it_is (nat_le (length xs) most) (number w (length xs) then each spell xs)

-- a length, and that many bytes
abbrev pub text : List ℕ → Spelled
text t = where_it_is (nat_le (length t) MAX_TEXT) (number w16 (length t) then Some t)

-- a version
abbrev pub version : ℕ → Spelled
version n = where_it_is (nat_le n MAX_VERSION) (number w32 n)

-- the number of a place, if there is one
abbrev pub numbered : Option ℕ → Spelled
numbered None = None
numbered (Some n) = number w16 n

-- a class goes by its number: its place among the kernel's classes, the library's and the client's
abbrev pub class : List Class → ClassKey → Spelled
class cs k = numbered (place_from 0 (λ (c : Class). same_key c.key k) cs)

-- the slot of a name among the entries of a class
abbrev pub slot_in : Option Class → List ℕ → Option ℕ
slot_in None name = None
slot_in (Some c) name = place_from 0 (λ e. bytes_eq (entry_name e) name) c.decl.face.entries

-- a method goes by its class, and its slot in that class's entries
abbrev pub method : List Class → MethodRef → Spelled
method cs r = class cs r.class then numbered (slot_in (class_at cs r.class) r.name)

abbrev pub kind : List Class → ValueType → Spelled
kind cs types.Void = tag 0
kind cs types.Long = tag 1
kind cs types.Boolean = tag 2
kind cs types.Str = tag 3
kind cs (types.Class k) = tag 4 then class cs k

-- the type of a value: any but void
abbrev pub value_kind : List Class → ValueType → Spelled
value_kind cs types.Void = None
value_kind cs t = kind cs t

abbrev pub sig : List Class → Sig → Spelled
sig cs s = kind cs s.result then counted w8 MAX_PARAMETERS (value_kind cs) s.params

abbrev pub way : Way → Spelled
way ways.Offset = tag 0
way ways.Lookup = tag 1

abbrev pub entry : List Class → Entry → Spelled
entry cs (entries.Introduced name s w) = text name then way w then sig cs s
entry cs (entries.Moved name to) = text name then tag 2 then class cs to

abbrev pub metaclass : List Class → Option ClassKey → Spelled
metaclass cs None = tag 0
metaclass cs (Some k) = tag 1 then class cs k

abbrev pub face : List Class → ClassFace → Spelled
face cs f =
    text f.name then version f.major then version f.minor
    then where_it_is (not (length f.parents == 0)) (counted w8 MAX_PARENTS (class cs) f.parents)
    then metaclass cs f.metaclass
    then counted w16 MAX_ENTRIES (entry cs) f.entries

-- ---- statements and expressions, at their levels

-- what stands at a level
abbrev pub AtLevel : Type 0
AtLevel = ℕ → Spelled

-- a tag at a level, and what follows it
abbrev pub at_level : ℕ → ℕ → Spelled → Spelled
at_level level t rest = where_it_is (nat_le level MAX_NESTING) (tag t then rest)

-- arguments, one level deeper
abbrev pub args : ℕ → List AtLevel → Spelled
args level es = counted w8 MAX_PARAMETERS (λ e. e (suc level)) es

abbrev truth : Bool → Spelled
truth true = tag 1
truth false = tag 0

abbrev host : HostCode → Spelled
host hosts.Min = tag 0
host hosts.Max = tag 1
host hosts.And = tag 2
host hosts.Or = tag 3
host hosts.Xor = tag 4
host hosts.WrapAdd = tag 5

-- an expression, by how its parts are spelled
abbrev pub expr_step : List Class → Expr-F AtLevel → AtLevel
expr_step cs (Expr-F.Long z) l = at_level l 0x20 (long z)
expr_step cs (Expr-F.Str t) l = at_level l 0x21 (text t)
expr_step cs (Expr-F.Boolean b) l = at_level l 0x22 (truth b)
expr_step cs Expr-F.Nil l = at_level l 0x23 (Some [])
expr_step cs (Expr-F.Local n) l = at_level l 0x24 (local n)
expr_step cs Expr-F.Me l = at_level l 0x25 (Some [])
expr_step cs (Expr-F.Variable n) l = at_level l 0x26 (byte n)
expr_step cs (Expr-F.Unary op e) l = at_level l 0x27 (where_it_is (nat_lt op 4) (tag op) then e (suc l))
expr_step cs (Expr-F.Binary op a b) l = at_level l 0x28 (where_it_is (nat_lt op 14) (tag op) then a (suc l) then b (suc l))
expr_step cs (Expr-F.New k) l = at_level l 0x29 (class cs k)
expr_step cs (Expr-F.Class k) l = at_level l 0x2a (class cs k)
expr_step cs Expr-F.Manager l = at_level l 0x2b (Some [])
expr_step cs (Expr-F.Cast k e) l = at_level l 0x2c (class cs k then e (suc l))
expr_step cs (Expr-F.Isa k e) l = at_level l 0x2d (class cs k then e (suc l))
expr_step cs (Expr-F.Proxy k e) l = at_level l 0x2e (class cs k then e (suc l))
expr_step cs (Expr-F.OffsetCall r e es) l = at_level l 0x2f (method cs r then e (suc l) then args l es)
expr_step cs (Expr-F.Lookup t name e es) l = at_level l 0x30 (kind cs t then text name then e (suc l) then args l es)
expr_step cs (Expr-F.Dispatch t name e es) l = at_level l 0x31 (kind cs t then text name then e (suc l) then args l es)
expr_step cs (Expr-F.ParentCall n r es) l = at_level l 0x32 (byte n then method cs r then args l es)
expr_step cs (Expr-F.ParentsCall r es) l = at_level l 0x33 (method cs r then args l es)
expr_step cs (Expr-F.Host code a b) l = at_level l 0x34 (host code then a (suc l) then b (suc l))

-- an expression at a level
abbrev pub expr : List Class → Expr → AtLevel
expr cs = fold-Expr AtLevel (expr_step cs)

-- statements, one after another at one level, after their number
abbrev pub block_step : Block-F AtLevel AtLevel → AtLevel
block_step b l = where_it_is (nat_lt (length b.statements) (2 ^ 32)) (number w32 (length b.statements) then each (λ s. s l) b.statements)

-- a statement, by how its blocks are spelled
abbrev pub stmt_step : List Class → Stmt-F AtLevel AtLevel → AtLevel
stmt_step cs (Stmt-F.Var t e) l = at_level l 0x01 (value_kind cs t then expr cs e (suc l))
stmt_step cs (Stmt-F.SetLocal n e) l = at_level l 0x02 (local n then expr cs e (suc l))
stmt_step cs (Stmt-F.SetVariable n e) l = at_level l 0x03 (byte n then expr cs e (suc l))
stmt_step cs (Stmt-F.If e a b) l = at_level l 0x04 (expr cs e (suc l) then a (suc l) then b (suc l))
stmt_step cs (Stmt-F.While e b) l = at_level l 0x05 (expr cs e (suc l) then b (suc l))
stmt_step cs Stmt-F.Return l = at_level l 0x06 (Some [])
stmt_step cs (Stmt-F.ReturnValue e) l = at_level l 0x07 (expr cs e (suc l))
stmt_step cs (Stmt-F.Print e) l = at_level l 0x08 (expr cs e (suc l))
stmt_step cs (Stmt-F.Free e) l = at_level l 0x09 (expr cs e (suc l))
stmt_step cs (Stmt-F.Call e) l = at_level l 0x0a (where_it_is (is_call e) (expr cs e (suc l)))

-- a block whose statements stand at a level
abbrev pub block : List Class → Block → AtLevel
block cs = fold-Block AtLevel AtLevel (stmt_step cs) block_step

-- ---- classes and images

abbrev variable : List Class → Variable → Spelled
variable cs v = text v.name then value_kind cs v.kind

-- a body of an introduced method
abbrev pub body : List Class → Body → Spelled
body cs (bodies.User b) = tag 0 then block cs b 1
body cs (bodies.Get n) = tag 1 then byte n
body cs (bodies.Set n) = tag 2 then byte n

abbrev overridden : List Class → Override → Spelled
overridden cs o = method cs o.method then block cs o.block 1

-- what a class has beside its face: a body for each introduced entry, with no count of their own
abbrev pub part : List Class → ClassDecl → Spelled
part cs c =
    counted w8 MAX_VARIABLES (variable cs) c.variables
    then where_it_is (length c.bodies == length (introduced c.face.entries)) (each (body cs) c.bodies)
    then counted w16 MAX_OVERRIDES (overridden cs) c.overrides

abbrev is_empty : {A : Type 0} → List A → Bool
is_empty [] = true
is_empty (x ∷ xs) = false

-- whether a class has selects
abbrev pub has_selects : ClassDecl → Bool
has_selects c = not (is_empty c.selects)

-- the version of an image of these classes: 2 where one has selects, and else 1
abbrev pub image_version : List ClassDecl → ℕ
image_version cs = if some has_selects cs then 2 else 1

abbrev pub select : List Class → Select → Spelled
select cs s = method cs s.method then byte s.parent

-- a field that stands there only in one case
abbrev pub only_where : Bool → Spelled → Spelled
only_where true s = s
only_where false s = Some []

-- of each class that has selects, its number and its selects; the classes are numbered from n
abbrev pub selects_each : List Class → ℕ → List ClassDecl → Spelled
selects_each cs n [] = Some []
selects_each cs n (c ∷ own) = only_where (has_selects c) (number w16 n then counted w16 MAX_SELECTS (select cs) c.selects) then selects_each cs (suc n) own

-- how many classes have selects, and these: nothing where there are none
abbrev pub selects : List Class → ℕ → List ClassDecl → Spelled
selects cs n own = only_where (some has_selects own) (number w16 (length (filter has_selects own)) then selects_each cs n own)

-- the one image of a release, if it has one
unfoldable pub library_image : Release → Spelled
library_image r =
    let cs = kernel ++ library_classes r in
    Some (codes "SOML") then tag (image_version r.classes)
    then counted w16 MAX_LIBRARY_CLASSES (λ c. face cs c.face) r.classes
    then each (part cs) r.classes
    then selects cs (length kernel) r.classes

-- the one image of a program over the classes of a base, whose faces name no class of the program; its own classes are of a module
abbrev pub program_image : List Class → Module → ClientProgram → Spelled
program_image below m p =
    let base = kernel ++ below in
    let cs = base ++ map (class_in m) p.classes in
    Some (codes "SOMC") then tag (image_version p.classes)
    then counted w16 MAX_LIBRARY_CLASSES (face base) p.base.classes
    then counted w16 MAX_CLIENT_CLASSES (λ c. face cs c.face) p.classes
    then each (part cs) p.classes
    then selects cs (length base) p.classes
    then block cs p.main 1

-- the one image of a client program, if it has one; the faces that it was compiled against are those of the library
unfoldable pub client_image : ClientProgram → Spelled
client_image p = program_image (interface_classes p.base) modules.Client p
