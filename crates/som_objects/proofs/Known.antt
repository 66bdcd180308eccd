-- What stays of other objects, and of the references to them, where one is made, changed or freed.
use Rattle.std.proofs.Common.{◌≡◌, ◌≢◌, ◌∙◌, ℕ, zero, suc, ◌+◌, ◌-◌, ◌<◌, ◌≤◌, inl, inr, List, [], ◌∷◌, ◌++◌, length, Option, Some, None, slice_get, slice_set, refl, sym, ap, subst, arith, length-append}
use Rattle.std.proofs.lemmas.Bool.{cases_eq}
use Rattle.std.proofs.lemmas.List.{length-set}
use Rattle.som_objects.proofs.Lists.{no_some, same_some, cases_option, get_left, get_last, get_set, get_else, get_within}
use Rattle.som_objects.specs.declared.cell.Cell.{Cell}
use Rattle.som_objects.specs.declared.object_ref.ObjRef.{ObjRef}
use Rattle.som_objects.specs.Objects.{Live, Objects, there, live_at, IsKnown, KeepsKnown, Makes, Writes, Frees}

-- a serial that is live was given
pub live_within : (os : Objects) (s : ℕ) (o : Live) → live_at os s ≡ Some o → (0 < s) × (s ≤ length os)
live_within os zero o e = absurd (no_some e)
live_within os (suc n) o e = elim (cases_option (slice_get os n)) [
  | inl none ↦ absurd (no_some (sym (ap there none) ∙ e))
  | inr w ↦ (let l = get_within os n w.0 w.1 in (omega arith, omega (arith, l)))
]

-- a further object leaves the others as they are
pub live_before : (os : Objects) (v : Option Live) (s : ℕ) → s ≤ length os → live_at (os ++ v ∷ []) s ≡ live_at os s
live_before os v zero le = refl
live_before os v (suc n) le = ap there (get_left os (v ∷ []) n (omega arith))

pub live_last : (os : Objects) (v : Option Live) (s : ℕ) → s ≡ length os + 1 → live_at (os ++ v ∷ []) s ≡ v
live_last os v zero e = absurd (omega (arith, e))
live_last os v (suc n) e = (let same : length os ≡ n = omega (arith, e) in ap there (subst (λ i. slice_get (os ++ v ∷ []) i ≡ Some v) same (get_last os v)))

one_less : (n : ℕ) → n ≡ suc n - 1
one_less n = omega arith

-- one object changes
pub live_changed : (os : Objects) (v : Option Live) (s : ℕ) → 0 < s → s ≤ length os → live_at (slice_set os (s - 1) v) s ≡ v
live_changed os v zero z le = absurd (omega arith)
live_changed os v (suc n) z le = subst (λ i. live_at (slice_set os i v) (suc n) ≡ v) (one_less n) (ap there (get_set os n v (omega arith)))

-- and the others don't
pub live_else : (os : Objects) (v : Option Live) (s t : ℕ) → 0 < s → t ≢ s → live_at (slice_set os (s - 1) v) t ≡ live_at os t
live_else os v zero t z ne = absurd (omega arith)
live_else os v (suc n) zero z ne = refl
live_else os v (suc n) (suc m) z ne = subst (λ i. live_at (slice_set os i v) (suc m) ≡ live_at os (suc m)) (one_less n) (ap there (get_else os n m v (λ e. ne (ap (λ k. suc k) e))))

-- references stay known where an object is added
pub known_before : (os : Objects) (v : Option Live) → KeepsKnown os (os ++ v ∷ [])
known_before os v r k = record {
  made = omega (arith, k.made, length-append os (v ∷ []));
  key = λ o e. k.key o (sym (live_before os v r.serial k.made) ∙ e);
}

-- and where a live one is changed under its key, or freed
pub known_else : (os : Objects) (v : Option Live) (s : ℕ) (o : Live) → live_at os s ≡ Some o → ((p : Live) → v ≡ Some p → p.key ≡ o.key) → KeepsKnown os (slice_set os (s - 1) v)
known_else os v s o is same r k = (let w = live_within os s o is in record {
  made = omega (arith, k.made, length-set os (s - 1) v);
  key = λ p e. elim (cases_eq r.serial s) [
    | inl at ↦ same p (sym (live_changed os v s w.0 w.1) ∙ ap (live_at (slice_set os (s - 1) v)) (sym at) ∙ e) ∙ k.key o (ap (live_at os) at ∙ is)
    | inr ne ↦ k.key p (sym (live_else os v s r.serial w.0 ne) ∙ e)
  ];
})

pub keeps_made : (old new : Objects) (r : ObjRef) (class : ℕ) (cells : List Cell) → Makes old new r class cells → KeepsKnown old new
keeps_made old new r class cells m = subst (KeepsKnown old) (sym m.added) (known_before old (Some (record { key = r.key; class = class; cells = cells })))

pub keeps_written : (old new : Objects) (r : ObjRef) (place : ℕ) (cell : Cell) → Writes old new r place cell → KeepsKnown old new
keeps_written old new r place cell w = subst (KeepsKnown old) (sym w.2)
    (known_else old (Some (record w.0 { cells = slice_set w.0.cells place cell })) r.serial w.0 w.1 (λ p e. ap (λ (x : Live). x.key) (sym (same_some e))))

pub keeps_freed : (old new : Objects) (r : ObjRef) → Frees old new r → KeepsKnown old new
keeps_freed old new r f = subst (KeepsKnown old) (sym f.2) (known_else old None r.serial f.0 f.1 (λ p e. absurd (no_some e)))

-- the reference to an object that was made is known
pub known_made : (old new : Objects) (r : ObjRef) (class : ℕ) (cells : List Cell) → Makes old new r class cells → IsKnown new r
known_made old new r class cells m =
    let v = Some (record { key = r.key; class = class; cells = cells }) in
    subst (λ os. IsKnown os r) (sym m.added) (record {
      made = omega (arith, m.serial, length-append old (v ∷ []));
      key = λ o e. ap (λ (x : Live). x.key) (same_some (sym e ∙ live_last old v r.serial m.serial));
    })
