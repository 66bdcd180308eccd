-- Reading fields one after the other, as a loop does.
use Rattle.std.proofs.Common.{◌≡◌, ℕ, suc, ◌-◌, ◌+◌, ◌≤◌, ◌<◌, List, [], ◌∷◌, ◌++◌, Result, Ok, Err, refl, sym, ap, subst, ◌∙◌, append_assoc, arith}
use Rattle.std.proofs.lemmas.List.{append-nil}
use Rattle.som_image_fields.specs.declared.fault.ImageFault.{ImageFault}
use Rattle.som_image_fields.specs.declared.fault.ImageFault.TheVariants as faults
use Rattle.som_image_fields.specs.declared.read.Read.{Read}
use Rattle.som_model.specs.Steps.{◌>>=◌}
use Rattle.som_image_fields.specs.Fields.{Fails, done, many_at}

-- what was read before, and what is still read
abbrev pub with_front : {A : Type 0} → List A → Result (Read (List A)) ImageFault → Result (Read (List A)) ImageFault
with_front front read = read >>= λ x. done (front ++ x.value) x.next

-- after i fields this front was read up to this place, and what is still read gives the whole
pub record Reads {A : Type 0} (one : ℕ → Result (Read A) ImageFault) (count start : ℕ) (front : List A) (i place : ℕ) : Type 0 where
  pub so_far : with_front front (many_at one (count - i) place) ≡ many_at one count start

pub regroup : {A : Type 0} (front : List A) (n : A) (read : Result (Read (List A)) ImageFault) → with_front front (read >>= λ x. done (n ∷ x.value) x.next) ≡ with_front (front ++ n ∷ []) read
regroup front n (Ok x) = ap (λ ns. done ns x.next) (simp append_assoc)
regroup front n (Err fault) = refl

pub front_nil : {A : Type 0} (read : Result (Read (List A)) ImageFault) → with_front [] read ≡ read
front_nil (Ok x) = refl
front_nil (Err fault) = refl

pub starts : {A : Type 0} (one : ℕ → Result (Read A) ImageFault) (count start : ℕ) → Reads one count start [] 0 start
starts one count start = record { so_far = front_nil (many_at one (count - 0) start) ∙ ap (λ n. many_at one n start) (omega arith) }

pub goes_on : {A : Type 0} (one : ℕ → Result (Read A) ImageFault) (count start : ℕ) (front : List A) (i place : ℕ) (r : Read A) → i < count → one place ≡ Ok r → Reads one count start front i place → Reads one count start (front ++ r.value ∷ []) (i + 1) r.next
unfolding many_at
goes_on one count start front i place r lt read so_far =
    let left : count - i ≡ suc (count - (i + 1)) = omega arith in
    let step : with_front front (many_at one (count - i) place) ≡ with_front (front ++ r.value ∷ []) (many_at one (count - (i + 1)) r.next) = rw (left, read) (regroup front r.value (many_at one (count - (i + 1)) r.next)) in
    record { so_far = sym step ∙ so_far.so_far }

-- a step that fails ends what follows
pub failed : {A B : Type 0} (fault : ImageFault) (read : Result A ImageFault) (f : A → Result B ImageFault) → Fails fault read → Fails fault (read >>= f)
failed faults.NoMemory read f h = tt
failed (faults.Magic o) read f h = rw h refl
failed (faults.Version o) read f h = rw h refl
failed (faults.Cut o) read f h = rw h refl
failed (faults.Tag o) read f h = rw h refl
failed (faults.Number o) read f h = rw h refl
failed (faults.Trailing o) read f h = rw h refl
failed (faults.Nesting o) read f h = rw h refl

pub ends : {A : Type 0} (one : ℕ → Result (Read A) ImageFault) (count start : ℕ) (front : List A) (i place : ℕ) (fault : ImageFault) → i < count → Fails fault (one place) → Reads one count start front i place → Fails fault (many_at one count start)
unfolding many_at
ends {A} one count start front i place fault lt h so_far =
    let left : count - i ≡ suc (count - (i + 1)) = omega arith in
    let part : Fails fault (with_front front (many_at one (suc (count - (i + 1))) place)) = failed fault (many_at one (suc (count - (i + 1))) place) (λ x. done (front ++ x.value) x.next) (failed fault (one place) (λ first. many_at one (count - (i + 1)) first.next >>= λ others. done (first.value ∷ others.value) others.next) h) in
    subst (λ (r : Result (Read (List A)) ImageFault). Fails fault r) (ap (λ n. with_front front (many_at one n place)) (sym left) ∙ so_far.so_far) part

pub is_done : {A : Type 0} (one : ℕ → Result (Read A) ImageFault) (count start : ℕ) (front : List A) (i place : ℕ) → count ≤ i → Reads one count start front i place → many_at one count start ≡ done front place
unfolding many_at
is_done one count start front i place le so_far =
    let left : count - i ≡ 0 = omega arith in
    let step : with_front front (many_at one (count - i) place) ≡ done front place = rw left (ap (λ ns. done ns place) (append-nil front)) in
    sym so_far.so_far ∙ step
