-- What `parse_bodies` and `parse_main` may answer.
use Rattle.std.specs.Prelude.{◌≡◌, ◌<◌, ◌≤◌, ℕ, ◌+◌, Bool, true, false, List, ◌++◌, length, take, Option, Some, Result, Ok, Err}
use Rattle.som_lex.specs.declared.token.Tokens.{Tokens}
use Rattle.som_model.specs.declared.limits.TheConstants.{MAX_NESTING}
use Rattle.som_parse.specs.Faults.{Begins, IsFirstFault, seen_at}
use Rattle.som_parse.specs.Languages.{Lang}
use Rattle.som_parse.specs.Seen.{seen, seen_before, text_at}
use Rattle.som_parse.specs.declared.token.Token.{Token}
use Rattle.som_parse.specs.declared.token.Token.TheVariants as token
use Rattle.som_parse.specs.declared.fault.SyntaxFault.{SyntaxFault}
use Rattle.som_parse.specs.declared.fault.SyntaxFault.TheVariants as faults
use Rattle.som_body.specs.Levels.{top}
use Rattle.som_body.specs.Statements.{IsBodyFile, IsMainFile}
use Rattle.som_ast.specs.declared.body.BodyFile.{BodyFile}
use Rattle.som_ast.specs.declared.body.MainFile.{MainFile}

-- a language whose texts have a level with each of their tokens
abbrev pub Leveled : Type 0 → Type 1
Leveled A = List ℕ → List Token → A → Type 0

-- its texts, whatever their levels
abbrev pub Texts : {A : Type 0} → Leveled A → Lang A
Texts L u a = (l : List ℕ) × L l u a

-- a directive that isn't ignored
abbrev pub is_refused : Option Token → Bool
is_refused (Some token.Directive) = true
is_refused _ = false

-- with these tokens read so far, no construct has a level above the limit, whatever follows
abbrev pub NoneDeep : {A : Type 0} → Leveled A → ℕ → List Token → Type 0
NoneDeep {A = A} L limit u = (w : List Token) (l : List ℕ) (a : A) → L l (u ++ w) a → top (take (length u) l) ≤ limit

-- with these tokens read so far, some construct has one, whatever follows
abbrev pub SomeDeep : {A : Type 0} → Leveled A → ℕ → List Token → Type 0
SomeDeep {A = A} L limit u = (w : List Token) (l : List ℕ) (a : A) → L l (u ++ w) a → limit < top (take (length u) l)

-- The tokens up to and with the one at place k begin some text, and with it, for the first time, a construct so far has a level above the limit.
pub record IsNestingFault {A : Type 0} (L : Leveled A) (limit : ℕ) (t : Tokens) (k : ℕ) : Type 0 where
  pub within : k < length t.list
  pub before : Begins (Texts L) (seen_before t (k + 1))
  pub low : NoneDeep L limit (seen_before t k)
  pub deep : SomeDeep L limit (seen_before t (k + 1))

-- The token at place k is the first that leaves the grammar, and no construct before it has a level above the limit.
pub record IsSyntaxFault {A : Type 0} (L : Leveled A) (limit : ℕ) (t : Tokens) (k : ℕ) : Type 0 where
  pub first : IsFirstFault (Texts L) t k
  pub low : NoneDeep L limit (seen_before t k)

-- The tree of the tokens without ignored directives, where no construct has a level above the limit; or the place of the first token that leaves the grammar or nests too deep, and whether a token that leaves it is refused. Want of memory says nothing.
abbrev pub IsAnswer : {A : Type 0} → Leveled A → Tokens → Result A SyntaxFault → Type 0
IsAnswer L t (Ok a) = (l : List ℕ) × (top l ≤ MAX_NESTING) × L l (seen t) a
IsAnswer L t (Err (faults.Syntax k)) = IsSyntaxFault L MAX_NESTING t k × (is_refused (seen_at t k) ≡ false)
IsAnswer L t (Err (faults.NotInProfile k)) = IsSyntaxFault L MAX_NESTING t k × (is_refused (seen_at t k) ≡ true)
IsAnswer L t (Err (faults.Nesting k)) = IsNestingFault L MAX_NESTING t k
IsAnswer L t (Err faults.NoMemory) = Unit {0}

abbrev pub AreBodies : Tokens → Result BodyFile SyntaxFault → Type 0
AreBodies t = IsAnswer (IsBodyFile (text_at t)) t

abbrev pub IsMain : Tokens → Result MainFile SyntaxFault → Type 0
IsMain t = IsAnswer (IsMainFile (text_at t)) t
