-- Which word is `releaseorder`.
use Rattle.std.proofs.Common.{◌≡◌, ◌≢◌, ℕ, Bool, true, false, not, ◌&&◌, if◌then◌else◌, List, [], ◌∷◌, refl, sym, ap, ◌∙◌, true≢false}
use Rattle.std.specs.Prelude.{codes}
use Rattle.std.specs.Str.{bytes_eq}
use Rattle.som_lex_laws.proofs.FirstToken.{both, is_no}
use Rattle.som_parse.specs.Words.{key_of, is_refused_word, interface_word, statement_word, expression_word, type_word}
use Rattle.som_parse.specs.declared.token.Key.{Key}
use Rattle.som_parse.specs.declared.token.Key.TheVariants as key

abbrev is_order : Key → Bool
is_order key.ReleaseOrder = true
is_order k = false

-- words and what they are
abbrev Table : Type 0
Table = List (List ℕ × Key)

-- what a word is by a table, or else this
abbrev by_table : Table → Key → List ℕ → Key
by_table [] d w = d
by_table (t ∷ ts) d w = if bytes_eq w t.0 then t.1 else by_table ts d w

-- no word of the table is `releaseorder`
abbrev has_none : Table → Bool
has_none [] = true
has_none (t ∷ ts) = not (is_order t.1) && has_none ts

skip : (b : Bool) (k r : Key) → is_order k ≡ false → is_order r ≡ false → is_order (if b then k else r) ≡ false
skip true k r e f = e
skip false k r e f = f

other : (ts : Table) (d : Key) (w : List ℕ) → has_none ts ≡ true → is_order d ≡ false → is_order (by_table ts d w) ≡ false
other [] d w e f = f
other (t ∷ ts) d w e f =
    let p = both (not (is_order t.1)) (has_none ts) e in
    skip (bytes_eq w t.0) t.1 (by_table ts d w) (is_no (is_order t.1) p.0) (other ts d w p.1 f)

order_other : (b : Bool) (r : Key) → b ≡ false → is_order r ≡ false → is_order (if b then key.ReleaseOrder else r) ≡ false
order_other true r e f = absurd (true≢false e)
order_other false r e f = f

abbrev expressions : Table
expressions = (codes "length", key.Length) ∷ (codes "text", key.TextOf) ∷ (codes "new", key.New) ∷ (codes "class", key.Class) ∷ (codes "isa", key.Isa) ∷ (codes "proxy", key.Proxy) ∷ (codes "lookup", key.Lookup) ∷ (codes "dispatch", key.Dispatch) ∷ (codes "parent", key.Parent) ∷ (codes "parents", key.Parents) ∷ (codes "host", key.Host) ∷ (codes "SOMClassMgrObject", key.Manager) ∷ (codes "min", key.Min) ∷ (codes "max", key.Max) ∷ (codes "xor", key.Xor) ∷ (codes "wrapadd", key.WrapAdd) ∷ []

abbrev statements : Table
statements = (codes "var", key.Var) ∷ (codes "if", key.If) ∷ (codes "else", key.Else) ∷ (codes "while", key.While) ∷ (codes "return", key.Return) ∷ (codes "print", key.Print) ∷ (codes "free", key.Free) ∷ (codes "and", key.And) ∷ (codes "or", key.Or) ∷ (codes "not", key.Not) ∷ (codes "as", key.As) ∷ (codes "self", key.Me) ∷ (codes "somThis", key.SomThis) ∷ (codes "nil", key.Nil) ∷ (codes "main", key.Main) ∷ []

abbrev interfaces : Table
interfaces = (codes "interface", key.Interface) ∷ (codes "attribute", key.Attribute) ∷ (codes "readonly", key.Readonly) ∷ (codes "in", key.In) ∷ (codes "implementation", key.Implementation) ∷ []

abbrev items : Table
items = (codes "metaclass", key.Metaclass) ∷ (codes "majorversion", key.MajorVersion) ∷ (codes "minorversion", key.MinorVersion) ∷ (codes "filestem", key.FileStem) ∷ (codes "dllname", key.DllName) ∷ (codes "functionprefix", key.FunctionPrefix) ∷ (codes "override", key.Override) ∷ (codes "namelookup", key.NameLookup) ∷ (codes "offset", key.Offset) ∷ (codes "select", key.Select) ∷ []

abbrev types : Table
types = (codes "void", key.Void) ∷ (codes "long", key.Long) ∷ (codes "boolean", key.Boolean) ∷ (codes "string", key.Str) ∷ (codes "TRUE", key.True) ∷ (codes "FALSE", key.False) ∷ []

expression_other : (w : List ℕ) → is_order (expression_word w) ≡ false
unfolding expression_word
expression_other w = other expressions key.Plain w refl refl

statement_other : (w : List ℕ) → is_order (statement_word w) ≡ false
unfolding statement_word
statement_other w = other statements (expression_word w) w refl (expression_other w)

interface_other : (w : List ℕ) → bytes_eq w (codes "releaseorder") ≡ false → is_order (interface_word w) ≡ false
unfolding interface_word
interface_other w e =
    let rest = by_table items (statement_word w) w in
    other interfaces (if bytes_eq w (codes "releaseorder") then key.ReleaseOrder else rest) w refl
    (order_other (bytes_eq w (codes "releaseorder")) rest e (other items (statement_word w) w refl (statement_other w)))

type_other : (w : List ℕ) → bytes_eq w (codes "releaseorder") ≡ false → is_order (type_word w) ≡ false
unfolding type_word
type_other w e = other types (interface_word w) w refl (interface_other w e)

pub not_order : (w : List ℕ) → bytes_eq w (codes "releaseorder") ≡ false → key_of w ≢ key.ReleaseOrder
not_order w e is = true≢false (sym (ap is_order is) ∙ skip (is_refused_word w) key.Refused (type_word w) refl (type_other w e))
