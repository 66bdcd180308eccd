-- The texts under names, and what is told of them.
use Rattle.std.specs.Prelude.{ℕ, ◌+◌, nat_le, if◌then◌else◌, List, [], ◌∷◌, ◌++◌, length, Result, Ok, Err, codes}
use Rattle.std.specs.Fmt.{decimal}
use Rattle.som_model.specs.declared.limits.TheConstants.{MAX_BYTES}
use Rattle.som_model.specs.Bytes.{Files}
use Rattle.som_model.specs.Steps.{◌>>=◌}
use Rattle.som_sources.specs.declared.fault.ReadingFault.{ReadingFault}
use Rattle.som_sources.specs.declared.fault.TextFault.{TextFault}
use Rattle.som_sources.specs.declared.source.Source.{Source}
use Rattle.som_sources.specs.declared.fault.ReadingFault.TheVariants as reading
use Rattle.som_sources.specs.declared.fault.TextFault.TheVariants as texts
use Rattle.som_cmd_steps.specs.declared.stop.Refusal.{Refusal}
use Rattle.som_cmd_steps.specs.Fetching.{file_of}
use Rattle.som_cmd_steps.specs.declared.stop.Why.TheVariants as why

-- ---- lines

-- the letter and the number of a fault of reading
abbrev pub reading_name : ReadingFault → List ℕ
reading_name reading.BadByte = codes "L1"
reading_name reading.OpenText = codes "L2"
reading_name reading.OpenComment = codes "L3"
reading_name reading.NumberTooLarge = codes "L4"
reading_name reading.Syntax = codes "P1"
reading_name reading.NotInProfile = codes "P2"

-- a quantity passes its limit
abbrev pub too_many : List ℕ → ℕ → Refusal
too_many quantity number = record { line = codes "limit " ++ quantity ++ codes " " ++ decimal number ++ 10 ∷ []; why = why.Limit }

-- what is wrong with texts; the line of a text that can't be read ends with the byte at which that begins
abbrev pub text_refused : TextFault → Refusal
text_refused (texts.Unread fault name place) = record { line = codes "refused " ++ reading_name fault ++ codes " " ++ name ++ codes " " ++ decimal place ++ 10 ∷ []; why = why.Texts }
text_refused (texts.Rule b) = record { line = codes "refused S" ++ decimal b.rule ++ codes " " ++ b.class ++ codes " " ++ b.member ++ 10 ∷ []; why = why.Texts }
text_refused (texts.Limit quantity number) = too_many quantity number

-- ---- steps

-- so many bytes of all texts together aren't too many
abbrev pub bytes_kept : ℕ → Result (Unit {0}) Refusal
bytes_kept count = if nat_le count MAX_BYTES then Ok tt else Err (too_many (codes "bytes") MAX_BYTES)

-- the text under a name, after texts of so many bytes
abbrev pub text_in : ℕ → List ℕ → Files → Result Source Refusal
text_in before name files = do
  bytes ← file_of name files
  kept ← bytes_kept (before + length bytes)
  Ok (record { name = name; bytes = bytes })

-- the texts under these names, got in order, after texts of so many bytes
abbrev pub texts_after : ℕ → List (List ℕ) → Files → Result (List Source) Refusal
texts_after before [] files = Ok []
texts_after before (n ∷ ns) files = do
  s ← text_in before n files
  ss ← texts_after (before + length s.bytes) ns files
  Ok (s ∷ ss)

abbrev pub texts_in : List (List ℕ) → Files → Result (List Source) Refusal
texts_in names files = texts_after 0 names files
