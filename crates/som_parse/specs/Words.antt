-- What words and signs are, by their texts.
use Rattle.std.specs.Prelude.{ℕ, Bool, ◌||◌, if◌then◌else◌, List, codes}
use Rattle.std.specs.Str.{bytes_eq}
use Rattle.som_parse.specs.declared.token.Key.{Key}
use Rattle.som_parse.specs.declared.token.Key.TheVariants as key
use Rattle.som_parse.specs.declared.token.Sign.{Sign}
use Rattle.som_parse.specs.declared.token.Sign.TheVariants as sign

-- the words that no interface file may have
unfoldable pub is_refused_declaration : List ℕ → Bool
is_refused_declaration w =
    bytes_eq w (codes "module") || bytes_eq w (codes "typedef") || bytes_eq w (codes "struct") || bytes_eq w (codes "union") || bytes_eq w (codes "enum") || bytes_eq w (codes "sequence") || bytes_eq w (codes "const") || bytes_eq w (codes "exception") || bytes_eq w (codes "raises") || bytes_eq w (codes "context")

unfoldable pub is_refused_type : List ℕ → Bool
is_refused_type w =
    bytes_eq w (codes "oneway") || bytes_eq w (codes "out") || bytes_eq w (codes "inout") || bytes_eq w (codes "short") || bytes_eq w (codes "unsigned") || bytes_eq w (codes "float") || bytes_eq w (codes "double") || bytes_eq w (codes "char") || bytes_eq w (codes "octet")

unfoldable pub is_refused_modifier : List ℕ → Bool
is_refused_modifier w =
    bytes_eq w (codes "any") || bytes_eq w (codes "passthru") || bytes_eq w (codes "nodata") || bytes_eq w (codes "noget") || bytes_eq w (codes "noset") || bytes_eq w (codes "procedure") || bytes_eq w (codes "nooverride") || bytes_eq w (codes "callstyle")

abbrev pub is_refused_word : List ℕ → Bool
is_refused_word w = is_refused_declaration w || is_refused_type w || is_refused_modifier w

-- the words of expressions
unfoldable pub expression_word : List ℕ → Key
expression_word w =
    if bytes_eq w (codes "length") then key.Length else (
    if bytes_eq w (codes "text") then key.TextOf else (
    if bytes_eq w (codes "new") then key.New else (
    if bytes_eq w (codes "class") then key.Class else (
    if bytes_eq w (codes "isa") then key.Isa else (
    if bytes_eq w (codes "proxy") then key.Proxy else (
    if bytes_eq w (codes "lookup") then key.Lookup else (
    if bytes_eq w (codes "dispatch") then key.Dispatch else (
    if bytes_eq w (codes "parent") then key.Parent else (
    if bytes_eq w (codes "parents") then key.Parents else (
    if bytes_eq w (codes "host") then key.Host else (
    if bytes_eq w (codes "SOMClassMgrObject") then key.Manager else (
    if bytes_eq w (codes "min") then key.Min else (
    if bytes_eq w (codes "max") then key.Max else (
    if bytes_eq w (codes "xor") then key.Xor else (
    if bytes_eq w (codes "wrapadd") then key.WrapAdd else (
    key.Plain))))))))))))))))

-- the words of statements
unfoldable pub statement_word : List ℕ → Key
statement_word w =
    if bytes_eq w (codes "var") then key.Var else (
    if bytes_eq w (codes "if") then key.If else (
    if bytes_eq w (codes "else") then key.Else else (
    if bytes_eq w (codes "while") then key.While else (
    if bytes_eq w (codes "return") then key.Return else (
    if bytes_eq w (codes "print") then key.Print else (
    if bytes_eq w (codes "free") then key.Free else (
    if bytes_eq w (codes "and") then key.And else (
    if bytes_eq w (codes "or") then key.Or else (
    if bytes_eq w (codes "not") then key.Not else (
    if bytes_eq w (codes "as") then key.As else (
    if bytes_eq w (codes "self") then key.Me else (
    if bytes_eq w (codes "somThis") then key.SomThis else (
    if bytes_eq w (codes "nil") then key.Nil else (
    if bytes_eq w (codes "main") then key.Main else (
    expression_word w)))))))))))))))

-- the words of interface files
unfoldable pub interface_word : List ℕ → Key
interface_word w =
    if bytes_eq w (codes "interface") then key.Interface else (
    if bytes_eq w (codes "attribute") then key.Attribute else (
    if bytes_eq w (codes "readonly") then key.Readonly else (
    if bytes_eq w (codes "in") then key.In else (
    if bytes_eq w (codes "implementation") then key.Implementation else (
    if bytes_eq w (codes "releaseorder") then key.ReleaseOrder else (
    if bytes_eq w (codes "metaclass") then key.Metaclass else (
    if bytes_eq w (codes "majorversion") then key.MajorVersion else (
    if bytes_eq w (codes "minorversion") then key.MinorVersion else (
    if bytes_eq w (codes "filestem") then key.FileStem else (
    if bytes_eq w (codes "dllname") then key.DllName else (
    if bytes_eq w (codes "functionprefix") then key.FunctionPrefix else (
    if bytes_eq w (codes "override") then key.Override else (
    if bytes_eq w (codes "namelookup") then key.NameLookup else (
    if bytes_eq w (codes "offset") then key.Offset else (
    if bytes_eq w (codes "select") then key.Select else (
    statement_word w))))))))))))))))

-- the words of types and truth values
unfoldable pub type_word : List ℕ → Key
type_word w =
    if bytes_eq w (codes "void") then key.Void else (
    if bytes_eq w (codes "long") then key.Long else (
    if bytes_eq w (codes "boolean") then key.Boolean else (
    if bytes_eq w (codes "string") then key.Str else (
    if bytes_eq w (codes "TRUE") then key.True else (
    if bytes_eq w (codes "FALSE") then key.False else (
    interface_word w))))))

-- what a word is
abbrev pub key_of : List ℕ → Key
key_of w = if is_refused_word w then key.Refused else type_word w

-- what a sign is
unfoldable pub sign_of : List ℕ → Sign
sign_of w =
    if bytes_eq w (codes "{") then sign.OpenBrace else (
    if bytes_eq w (codes "}") then sign.CloseBrace else (
    if bytes_eq w (codes "(") then sign.Open else (
    if bytes_eq w (codes ")") then sign.Close else (
    if bytes_eq w (codes ":") then sign.Colon else (
    if bytes_eq w (codes "::") then sign.DoubleColon else (
    if bytes_eq w (codes ";") then sign.Semicolon else (
    if bytes_eq w (codes ",") then sign.Comma else (
    if bytes_eq w (codes ".") then sign.Dot else (
    if bytes_eq w (codes "=") then sign.Assign else (
    if bytes_eq w (codes "==") then sign.Equal else (
    if bytes_eq w (codes "!=") then sign.NotEqual else (
    if bytes_eq w (codes "<") then sign.Less else (
    if bytes_eq w (codes "<=") then sign.LessEqual else (
    if bytes_eq w (codes ">") then sign.Greater else (
    if bytes_eq w (codes ">=") then sign.GreaterEqual else (
    if bytes_eq w (codes "+") then sign.Plus else (
    if bytes_eq w (codes "-") then sign.Minus else (
    if bytes_eq w (codes "*") then sign.Times else (
    if bytes_eq w (codes "/") then sign.Divide else (
    if bytes_eq w (codes "%") then sign.Remainder else (
    if bytes_eq w (codes "&") then sign.Join else (
    sign.Unknown))))))))))))))))))))))
