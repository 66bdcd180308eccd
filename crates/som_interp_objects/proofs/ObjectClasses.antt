-- The cells of class objects, where places are added and where one of them is written.
use Rattle.std.proofs.Common.{◌≡◌, ℕ, zero, suc, ◌<◌, true, false, List, [], ◌∷◌, ◌++◌, length, Option, Some, None, is_some, slice_get, slice_set, refl, sym, ap, subst, ◌∙◌, arith}
use Rattle.std.specs.Option.{option_flatten}
use Rattle.std.proofs.lemmas.Option.{slice_get_within}
use Rattle.som_model.specs.declared.key.ClassKey.{ClassKey}
use Rattle.som_objects.specs.declared.cell.Cell.{Cell}
use Rattle.som_values.proofs.Held.{get_else}
use Rattle.som_interp_state.specs.Settings.{Linked}
use Rattle.som_interp_objects.specs.Statics.{Statics, cells_of, AreAlike, AreAlikeElse, IsWholeClass, GoesOnWith, IsBegun, IsPut}

pub alike_push : (xs : Statics) (i : ℕ) → cells_of (xs ++ None ∷ []) i ≡ cells_of xs i
alike_push [] zero = refl
alike_push [] (suc i) = refl
alike_push (x ∷ xs) zero = refl
alike_push (x ∷ xs) (suc i) = alike_push xs i

pub set_at : {X : Type 0} (xs : List X) (n : ℕ) (y : X) → n < length xs → slice_get (slice_set xs n y) n ≡ Some y
set_at [] n y lt = absurd (let f : ⊥ = omega (arith, lt) in f)
set_at (x ∷ xs) zero y lt = refl
set_at (x ∷ xs) (suc n) y lt = set_at xs n y (omega (arith, lt))

some_of : {X : Type 0} (o : Option X) → is_some o ≡ true → (x : X) × (o ≡ Some x)
some_of (Some x) e = (x, refl)
some_of None e = absurd (let f : ⊥ = cc in f)

none_of : {X : Type 0} (o : Option X) → is_some o ≡ false → o ≡ None
none_of (Some x) e = absurd (let f : ⊥ = cc in f)
none_of None e = refl

-- a class object that has cells goes on with them
pub begun_there : (l : Linked) (of : ℕ) (old mid : Statics) → AreAlike old mid → is_some (cells_of mid of) ≡ true → IsBegun l of old mid
begun_there l of old mid alike has =
    let w = some_of (cells_of mid of) has in
    let before : cells_of old of ≡ Some w.0 = sym (alike of) ∙ w.1 in
    (w.0, w.1, subst (λ o. GoesOnWith l of o w.0) (sym before) refl, λ i ne. alike i)

-- and one that has none, with those of zero values
pub begun_new : (l : Linked) (of : ℕ) (old mid new : Statics) (cs : List Cell) → AreAlike old mid → is_some (cells_of mid of) ≡ false → of < length mid
    → GoesOnWith l of None cs → new ≡ slice_set mid of (Some cs) → IsBegun l of old new
begun_new l of old mid new cs alike has lt are set =
    let before : cells_of old of ≡ None = sym (alike of) ∙ none_of (cells_of mid of) has in
    let now : cells_of (slice_set mid of (Some cs)) of ≡ Some cs = ap option_flatten (set_at mid of (Some cs) lt) in (
      cs,
      ap (λ (s : Statics). cells_of s of) set ∙ now,
      subst (λ o. GoesOnWith l of o cs) (sym before) are,
      λ i ne. ap (λ (s : Statics). cells_of s i) set ∙ ap option_flatten (get_else mid of i (Some cs) ne) ∙ alike i,
    )

room_in : (l : Linked) (old : Statics) (of : ℕ) (c : ClassKey) (n p : ℕ) (cs : List Cell) (o : Option (List Cell)) → cells_of old of ≡ o → GoesOnWith l of o cs → IsWholeClass l old of → l.statics of c n ≡ Some p → p < length cs
room_in l old of c n p cs (Some ds) e on whole at = subst (λ (x : List Cell). p < length x) on (whole ds c n p e at)
room_in l old of c n p cs None e on whole at = (let v = (on [] []).held c n p at in slice_get_within cs p v.0 v.1)

-- there is a cell at each place
pub begun_room : (l : Linked) (old mid : Statics) (of : ℕ) (c : ClassKey) (n p : ℕ) → IsBegun l of old mid → IsWholeClass l old of → l.statics of c n ≡ Some p
    → (cs : List Cell) × (cells_of mid of ≡ Some cs) × p < length cs
begun_room l old mid of c n p b whole at = (b.0, b.1, room_in l old of c n p b.0 (cells_of old of) refl b.2 whole at)

pub put_done : (l : Linked) (old mid new : Statics) (of : ℕ) (c : ClassKey) (n p : ℕ) (cell : Cell) → IsBegun l of old mid → l.statics of c n ≡ Some p
    → ((cs : List Cell) → cells_of mid of ≡ Some cs → cells_of new of ≡ Some (slice_set cs p cell)) → AreAlikeElse of mid new → IsPut l old new of c n cell
put_done l old mid new of c n p cell b at put else = (b.0, p, at, b.2, put b.0 b.1, λ i ne. else i ne ∙ b.3 i ne)
