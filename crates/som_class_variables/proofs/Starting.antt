-- Where the row of a class goes on that has a parent.
use Rattle.std.proofs.Common.{◌≡◌, ℕ, ◌+◌, ◌<◌, ◌≤◌, inl, List, [], ◌∷◌, get_or, length, map, slice_index_or, sym, ap, ◌∙◌, subst, arith}
use Rattle.std.proofs.lemmas.List.{length-map}
use Rattle.som_model.specs.Lists.{Mem}
use Rattle.som_model.specs.Classes.{ancestors, hierarchy}
use Rattle.som_meta.specs.Numbering.{IsNumbered, Numbering, key_at}
use Rattle.som_class_variables.specs.declared.start.RowStart.{RowStart}
use Rattle.som_class_variables.specs.Placed.{GoesAfter, GoesOn, shift_in}

first_mem : (ps : List ℕ) (x : ℕ) → 1 ≤ length ps → x ≡ get_or ps 0 x → Mem x ps
first_mem [] x some is = absurd (omega (arith, some))
first_mem (y ∷ ys) x some is = inl is

-- the first parent has a number
pub first_numbered : (k : Numbering) (n : ℕ) → IsNumbered k n → (ps : List ℕ) → ((p : ℕ) → Mem p ps → p < n) → (x : ℕ) → 1 ≤ length ps → x ≡ get_or ps 0 x → IsNumbered k x
first_numbered k n num ps lower x some is = (let low = lower x (first_mem ps x some is) in omega (arith, low, num))

-- and the row of the class goes on after what the row of that parent serves
pub first_start : (k : Numbering) (counts shifts : List ℕ) (n own x : ℕ) (ps : List ℕ) → map (key_at k) ps ≡ (hierarchy k.classes).parents (key_at k n) → 1 ≤ length ps → x ≡ get_or ps 0 x → IsNumbered k x
    → (xs : List ℕ) → map (key_at k) xs ≡ ancestors k.classes (key_at k x) → (s : RowStart) → s.served ≡ length xs → s.place ≡ own + slice_index_or counts x 0 → s.shift ≡ own + shift_in shifts x
    → GoesOn k counts shifts n own s
first_start k counts shifts n own x ps keys some is num xs above s served place shift = subst (λ z. GoesAfter k counts shifts z own s) keys (by ps some is)
  where
    by : (ps : List ℕ) → 1 ≤ length ps → x ≡ get_or ps 0 x → GoesAfter k counts shifts (map (key_at k) ps) own s
    by [] some is = absurd (omega (arith, some))
    by (y ∷ ys) some is =
        let many : s.served ≡ length (ancestors k.classes (key_at k y)) =
        served ∙ sym (length-map xs (key_at k)) ∙ ap length above ∙ ap (λ z. length (ancestors k.classes (key_at k z))) is in
        (x, num, ap (key_at k) is, many, place, shift)
