-- What `parse_idl` may answer.
use Rattle.std.specs.Prelude.{◌≡◌, Bool, true, false, Option, Some, Result, Ok, Err}
use Rattle.som_lex.specs.declared.token.Tokens.{Tokens}
use Rattle.som_parse.specs.Faults.{IsFirstFault, seen_at}
use Rattle.som_parse.specs.Seen.{seen, text_at}
use Rattle.som_parse.specs.declared.token.Key.TheVariants as key
use Rattle.som_parse.specs.declared.token.Token.{Token}
use Rattle.som_parse.specs.declared.token.Token.TheVariants as token
use Rattle.som_parse.specs.declared.fault.SyntaxFault.{SyntaxFault}
use Rattle.som_parse.specs.declared.fault.SyntaxFault.TheVariants as faults
use Rattle.som_idl.specs.Grammar.{IsFile}
use Rattle.som_ast.specs.declared.interface.IdlFile.{IdlFile}

-- a directive that isn't ignored, or a word that no interface file may have
abbrev pub is_refused : Option Token → Bool
is_refused (Some token.Directive) = true
is_refused (Some (token.Word key.Refused p)) = true
is_refused _ = false

-- The tree of the tokens without ignored directives; or the place of the first token that leaves the grammar, and whether the token is refused. Want of memory says nothing.
abbrev pub IsAnswer : Tokens → Result IdlFile SyntaxFault → Type 0
IsAnswer t (Ok f) = IsFile (text_at t) (seen t) f
IsAnswer t (Err (faults.Syntax k)) = IsFirstFault (IsFile (text_at t)) t k × (is_refused (seen_at t k) ≡ false)
IsAnswer t (Err (faults.NotInProfile k)) = IsFirstFault (IsFile (text_at t)) t k × (is_refused (seen_at t k) ≡ true)
IsAnswer t (Err (faults.Nesting k)) = ⊥
IsAnswer t (Err faults.NoMemory) = Unit {0}
