-- What reading texts comes to: their trees, or what is first wrong with them.
use Rattle.std.specs.Prelude.{◌≡◌, ℕ, List, [], ◌∷◌, ◌++◌, codes, Option, Some, None, Result, Ok, Err}
use Rattle.som_model.specs.declared.limits.TheConstants.{MAX_NAME, MAX_NESTING, MAX_TEXT}
use Rattle.som_lex.specs.declared.fault.LexFault.{LexFault}
use Rattle.som_lex.specs.declared.fault.LexFault.TheVariants as lexing
use Rattle.som_lex.specs.declared.token.Tokens.{Tokens}
use Rattle.som_lex.specs.Cut.{Stops}
use Rattle.som_lex.specs.Spans.{AreTokens, offset_of}
use Rattle.som_parse.specs.declared.fault.SyntaxFault.{SyntaxFault}
use Rattle.som_parse.specs.declared.fault.SyntaxFault.TheVariants as parsing
use Rattle.som_idl.specs.Answer.{IsAnswer}
use Rattle.som_body.specs.Answer.{AreBodies, IsMain}
use Rattle.som_sources.specs.declared.fault.ReadingFault.{ReadingFault}
use Rattle.som_sources.specs.declared.fault.ReadingFault.TheVariants as reading
use Rattle.som_sources.specs.declared.fault.TextFault.{TextFault}
use Rattle.som_sources.specs.declared.fault.TextFault.TheVariants as texts
use Rattle.som_sources.specs.declared.fault.CompileFault.{CompileFault}
use Rattle.som_sources.specs.declared.fault.CompileFault.TheVariants as faults
use Rattle.som_sources.specs.declared.kind.SourceKind.{SourceKind}
use Rattle.som_sources.specs.declared.kind.SourceKind.TheVariants as kinds
use Rattle.som_sources.specs.declared.source.Source.{Source}
use Rattle.som_sources.specs.declared.trees.TextTree.{TextTree}
use Rattle.som_sources.specs.declared.trees.TextTree.TheVariants as trees
use Rattle.som_sources.specs.declared.trees.Trees.{Trees}
use Rattle.som_sources.specs.Sources.{kind_of}

-- the text of this name can't be read, and this is the byte at which that shows
abbrev unread : List ℕ → ReadingFault → ℕ → Option TextFault
unread name fault place = Some (texts.Unread fault name place)

-- a quantity passes its limit
abbrev passed : List ℕ → ℕ → Option TextFault
passed quantity number = Some (texts.Limit quantity number)

-- what is told of the first fault of the bytes of a text, by its name; want of memory is no fault of theirs
abbrev pub lexing_told : List ℕ → LexFault → Option TextFault
lexing_told name (lexing.BadByte at) = unread name reading.BadByte at
lexing_told name (lexing.OpenText at) = unread name reading.OpenText at
lexing_told name (lexing.OpenComment at) = unread name reading.OpenComment at
lexing_told name (lexing.NumberTooLarge at) = unread name reading.NumberTooLarge at
lexing_told name (lexing.NameTooLong at) = passed (codes "name") MAX_NAME
lexing_told name (lexing.TextTooLong at) = passed (codes "text") MAX_TEXT
lexing_told name lexing.NoMemory = None

-- what is told of the first fault of the tokens of a text: its place is where the token begins, or the length of the text where it ends too early
abbrev pub parsing_told : List ℕ → Tokens → SyntaxFault → Option TextFault
parsing_told name t (parsing.Syntax token) = unread name reading.Syntax (offset_of t token)
parsing_told name t (parsing.NotInProfile token) = unread name reading.NotInProfile (offset_of t token)
parsing_told name t (parsing.Nesting token) = passed (codes "nesting") MAX_NESTING
parsing_told name t parsing.NoMemory = None

-- ---- trees

abbrev pub no_trees : Trees
no_trees = record { interfaces = []; bodies = []; mains = [] }

-- the trees of a text and of those after it
abbrev pub with_first : TextTree → Trees → Trees
with_first (trees.Interfaces f) ts = record { interfaces = f ∷ ts.interfaces; bodies = ts.bodies; mains = ts.mains }
with_first (trees.Bodies f) ts = record { interfaces = ts.interfaces; bodies = f ∷ ts.bodies; mains = ts.mains }
with_first (trees.Main f) ts = record { interfaces = ts.interfaces; bodies = ts.bodies; mains = f ∷ ts.mains }

-- the trees of texts and of the next one
abbrev pub with_last : Trees → TextTree → Trees
with_last ts (trees.Interfaces f) = record { interfaces = ts.interfaces ++ f ∷ []; bodies = ts.bodies; mains = ts.mains }
with_last ts (trees.Bodies f) = record { interfaces = ts.interfaces; bodies = ts.bodies ++ f ∷ []; mains = ts.mains }
with_last ts (trees.Main f) = record { interfaces = ts.interfaces; bodies = ts.bodies; mains = ts.mains ++ f ∷ [] }

-- what the tokens of a text are answered with, by what stands in it
abbrev pub IsParsed : SourceKind → Tokens → Result TextTree SyntaxFault → Type 0
IsParsed kinds.Interfaces t (Ok (trees.Interfaces f)) = IsAnswer t (Ok f)
IsParsed kinds.Interfaces t (Err f) = IsAnswer t (Err f)
IsParsed kinds.Bodies t (Ok (trees.Bodies f)) = AreBodies t (Ok f)
IsParsed kinds.Bodies t (Err f) = AreBodies t (Err f)
IsParsed kinds.Main t (Ok (trees.Main f)) = IsMain t (Ok f)
IsParsed kinds.Main t (Err f) = IsMain t (Err f)
IsParsed _ t (Ok _) = ⊥

-- What reading a text comes to: its tree, or its first fault. A fault of its bytes comes before those of its tokens.
pub data Reads (s : Source) : Result TextTree TextFault → Type 0 where
  no_tokens : (f : LexFault) (w : TextFault) → Stops s.bytes 0 f → lexing_told s.name f ≡ Some w → Reads s (Err w)
  no_tree : (t : Tokens) (f : SyntaxFault) (w : TextFault) → t.source ≡ s.bytes → AreTokens t → IsParsed (kind_of s.name) t (Err f) → parsing_told s.name t f ≡ Some w → Reads s (Err w)
  a_tree : (t : Tokens) (f : TextTree) → t.source ≡ s.bytes → AreTokens t → IsParsed (kind_of s.name) t (Ok f) → Reads s (Ok f)

-- What reading texts comes to: the trees of all, or what is wrong with the first that has none.
pub data ReadsAll : List Source → Result Trees TextFault → Type 0 where
  no_more : ReadsAll [] (Ok no_trees)
  one_more : {s : Source} {ss : List Source} {f : TextTree} {ts : Trees} → Reads s (Ok f) → ReadsAll ss (Ok ts) → ReadsAll (s ∷ ss) (Ok (with_first f ts))
  refused : {s : Source} {ss : List Source} {w : TextFault} → Reads s (Err w) → ReadsAll (s ∷ ss) (Err w)
  refused_later : {s : Source} {ss : List Source} {f : TextTree} {w : TextFault} → Reads s (Ok f) → ReadsAll ss (Err w) → ReadsAll (s ∷ ss) (Err w)

-- a fault of the code is what is told; want of memory says nothing
abbrev pub Tells : Option TextFault → CompileFault → Type 0
Tells told (faults.Text w) = told ≡ Some w
Tells told faults.NoMemory = Unit {0}

-- an answer of the code is what texts come to; want of memory says nothing
abbrev pub Says : {A : Type 0} → (Result A TextFault → Type 0) → Result A CompileFault → Type 0
Says Comes (Ok x) = Comes (Ok x)
Says Comes (Err (faults.Text w)) = Comes (Err w)
Says Comes (Err faults.NoMemory) = Unit {0}
