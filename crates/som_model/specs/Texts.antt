-- The bytes of a text, however it holds them.
use Rattle.std.specs.Prelude.{ℕ, List}
use Rattle.som_model.specs.declared.text_bytes.TextBytes.{TextBytes}
use Rattle.som_model.specs.declared.text_bytes.TextBytes.TheVariants as held

-- what was moved in, or what is shared with copies
abbrev pub held_bytes : TextBytes → List ℕ
held_bytes (held.Moved bytes) = bytes.items
held_bytes (held.Shared bytes) = bytes.value.items
