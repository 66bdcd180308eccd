-- What an answer tells.
use Rattle.std.specs.Prelude.{◌+◌, ℕ, Bool, false, ◌&&◌, if◌then◌else◌, List, [], ◌∷◌, Option, Some, None, Result, Ok, Err, option_copied, slice_index_or, true}
use Rattle.som_model.specs.declared.class.Sig.{Sig}
use Rattle.som_model.specs.declared.class.Entry.{Entry}
use Rattle.som_model.specs.declared.class.Entry.TheVariants as entries
use Rattle.som_model.specs.Same.{same_option, same_sig}
use Rattle.som_model.specs.Class.{Class, entry_name}
use Rattle.som_model.specs.Owner.{sig_of}
use Rattle.som_model.specs.Compatible.{CompatBreach}
use Rattle.som_compat.specs.declared.breach.Breach.{Breach}
use Rattle.som_compat.specs.declared.signatures.Signature.{Signature}
use Rattle.som_compat.specs.declared.signatures.Signature.TheVariants as signatures
use Rattle.som_compat.specs.declared.rows.Row.{Row}
use Rattle.som_compat.specs.KernelSigs.{sig_of_kernel}

-- the breach itself
abbrev pub told : Breach → CompatBreach
told b = record { rule = b.rule; class = b.class.now; name = option_copied b.name; place = b.place }

abbrev pub told_by : Result (Unit {0}) Breach → Option CompatBreach
told_by (Ok _) = None
told_by (Err b) = Some (told b)

abbrev pub told_by_list : Result (Unit {0}) (ℕ × Breach) → Option (ℕ × CompatBreach)
told_by_list (Ok _) = None
told_by_list (Err e) = Some (e.0, told e.1)

abbrev pub sig_told : Signature → Sig
sig_told (signatures.Declared sig) = sig.now
sig_told (signatures.Kernel sig) = sig_of_kernel sig

abbrev pub signature_told : Option Signature → Option Sig
signature_told None = None
signature_told (Some s) = Some (sig_told s)

-- the signature of an entry, where it is introduced
abbrev pub entry_sig : List Class → Entry → Option Sig
entry_sig cs (entries.Introduced name sig way) = Some sig
entry_sig cs (entries.Moved name to) = sig_of cs (record { class = to; name = name })

-- the entries whose signatures differ, place by place
abbrev pub changed : List Class → List Class → ℕ → List Entry → List Entry → List (List ℕ × ℕ)
changed olds news n [] ys = []
changed olds news n (x ∷ xs) [] = []
changed olds news n (x ∷ xs) (y ∷ ys) =
    if same_option same_sig (entry_sig olds x) (entry_sig news y) then changed olds news (n + 1) xs ys else (entry_name x, n) ∷ changed olds news (n + 1) xs ys

abbrev pub metaclass_marked : Option ℕ → List Bool → Bool
metaclass_marked None below = false
metaclass_marked (Some place) below = slice_index_or below place false

-- whether a marked class, counted from n, declares a metaclass that is marked below
abbrev pub some_declares : ℕ → List Row → List Bool → List Bool → Bool
some_declares n [] marks below = false
some_declares n (r ∷ rows) marks below = if slice_index_or marks n false && metaclass_marked r.metaclass below then true else some_declares (n + 1) rows marks below
