-- The files that the entries of an ordered map stand for.
use Rattle.std.proofs.Common.{◌≡◌, ℕ, cond, List, [], ◌∷◌, Option, Some, None, refl, sym, ap, ◌∙◌}
use Rattle.std.specs.FinMap.{get, insert, remove, find, get-from_entries, get-insert, get-remove, same_map, slice_cmp-IsAntisymmetric, nat_cmp-IsAntisymmetric}
use Rattle.std.specs.Cmp.Lexicographic.{slice_cmp, nat_list_cmp_total}
use Rattle.std.specs.Cmp.{eq_by_cmp_equiv}
use Rattle.std.specs.Ordering.{nat_cmp}
use Rattle.std.specs.BTreeMap.{is_at}
use Rattle.std.specs.Map.{lookup}
use Rattle.som_io.specs.MemStore.{files_among}

-- what the entries have under a name
abbrev pub entry_of : List (List ℕ × List ℕ) → List ℕ → Option (List ℕ)
entry_of entries name = lookup (is_at (slice_cmp nat_cmp name)) entries

find-entry_of : (entries : List (List ℕ × List ℕ)) (name : List ℕ) → find (slice_cmp nat_cmp) name entries ≡ entry_of entries name
find-entry_of [] name = refl
find-entry_of (e ∷ rest) name = ap (cond (is_at (slice_cmp nat_cmp name) e.0) (Some e.1)) (find-entry_of rest name)

-- the files have under a name what the entries have
pub get-files_among : (entries : List (List ℕ × List ℕ)) (name : List ℕ) → get (files_among entries) name ≡ entry_of entries name
get-files_among entries name = get-from_entries nat_list_cmp_total entries name ∙ find-entry_of entries name

-- entries that differ in what stands under one name are files that differ there
pub files_among-one : (old new : List (List ℕ × List ℕ)) (name bytes : List ℕ) →
    ((other : List ℕ) → entry_of new other ≡ cond (is_at (slice_cmp nat_cmp name) other) (Some bytes) (entry_of old other)) →
    files_among new ≡ insert (files_among old) name bytes
files_among-one old new name bytes updates = same_map nat_list_cmp_total (slice_cmp-IsAntisymmetric nat_cmp-IsAntisymmetric) _ _ (λ other.
    get-files_among new other ∙ updates other
    ∙ ap (λ b. cond b (Some bytes) (entry_of old other)) ((eq_by_cmp_equiv nat_list_cmp_total).symm name other)
    ∙ sym (get-insert nat_list_cmp_total (files_among old) name bytes other
    ∙ ap (cond (is_at (slice_cmp nat_cmp other) name) (Some bytes)) (get-files_among old other)))

-- entries without what stands under one name are files without it
pub files_among-without : (old new : List (List ℕ × List ℕ)) (name : List ℕ) →
    ((other : List ℕ) → entry_of new other ≡ cond (is_at (slice_cmp nat_cmp name) other) None (entry_of old other)) →
    files_among new ≡ remove (files_among old) name
files_among-without old new name updates = same_map nat_list_cmp_total (slice_cmp-IsAntisymmetric nat_cmp-IsAntisymmetric) _ _ (λ other.
    get-files_among new other ∙ updates other
    ∙ ap (λ b. cond b None (entry_of old other)) ((eq_by_cmp_equiv nat_list_cmp_total).symm name other)
    ∙ sym (get-remove nat_list_cmp_total (files_among old) name other
    ∙ ap (cond (is_at (slice_cmp nat_cmp other) name) None) (get-files_among old other)))
