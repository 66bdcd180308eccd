-- Fields that stand one after the other, and what is made of them.
use Rattle.std.specs.Prelude.{ℕ, List, Result}
use Rattle.som_model.specs.Steps.{◌>>=◌}
use Rattle.som_image_fields.specs.declared.fault.ImageFault.{ImageFault}
use Rattle.som_image_fields.specs.declared.read.Read.{Read}
use Rattle.som_image_fields.specs.Fields.{done}

-- how something is read at a place of the bytes
abbrev pub Reads : Type 0 → Type 0
Reads A = List ℕ → ℕ → Result (Read A) ImageFault

abbrev pub of_one : {A T : Type 0} → Reads A → (A → T) → Reads T
of_one one make bytes place = do
  a ← one bytes place
  done (make a.value) a.next

abbrev pub of_two : {A B T : Type 0} → Reads A → Reads B → (A → B → T) → Reads T
of_two one two make bytes place = do
  a ← one bytes place
  b ← two bytes a.next
  done (make a.value b.value) b.next

abbrev pub of_three : {A B C T : Type 0} → Reads A → Reads B → Reads C → (A → B → C → T) → Reads T
of_three one two three make bytes place = do
  a ← one bytes place
  b ← two bytes a.next
  c ← three bytes b.next
  done (make a.value b.value c.value) c.next

abbrev pub of_four : {A B C D T : Type 0} → Reads A → Reads B → Reads C → Reads D → (A → B → C → D → T) → Reads T
of_four one two three four make bytes place = do
  a ← one bytes place
  b ← two bytes a.next
  c ← three bytes b.next
  d ← four bytes c.next
  done (make a.value b.value c.value d.value) d.next
