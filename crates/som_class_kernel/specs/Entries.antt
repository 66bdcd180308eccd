-- The methods that declared classes introduce, each with its place among the entries of its class.
use Rattle.std.specs.Prelude.{◌≡◌, ℕ, suc, List, [], ◌∷◌, Some, slice_get}
use Rattle.som_model.specs.declared.key.ClassKey.{ClassKey}
use Rattle.som_model.specs.declared.class.Entry.{Entry}
use Rattle.som_model.specs.declared.class.Entry.TheVariants as entries
use Rattle.som_model.specs.Class.{Class}
use Rattle.som_meta.specs.Numbering.{Numbering}
use Rattle.som_class_kernel.specs.declared.entries.MethodEntry.{MethodEntry}

-- the methods that a class introduces by these entries, the first of which stands at a place
abbrev pub entries_from : ClassKey → ℕ → List Entry → List MethodEntry
entries_from key i [] = []
entries_from key i (entries.Introduced name sig way ∷ es) = record { place = i; method = record { class = key; name = name } } ∷ entries_from key (suc i) es
entries_from key i (entries.Moved name to ∷ es) = entries_from key (suc i) es

-- of each declared class the methods that it introduces
abbrev pub AreMethods : Numbering → List (List MethodEntry) → Type 0
AreMethods k all = (n : ℕ) (c : Class) → slice_get k.classes n ≡ Some c → slice_get all n ≡ Some (entries_from c.key 0 c.decl.face.entries)
