-- Reading the selects of classes one after the other, as a loop does.
use Rattle.std.proofs.Common.{◌≡◌, ℕ, suc, ◌-◌, ◌+◌, ◌≤◌, ◌<◌, List, [], ◌∷◌, ◌++◌, Result, Ok, Err, refl, sym, ap, subst, ◌∙◌, append_assoc, arith}
use Rattle.std.proofs.lemmas.List.{append-nil}
use Rattle.som_image_fields.specs.declared.fault.ImageFault.{ImageFault}
use Rattle.som_image_fields.specs.declared.read.Read.{Read}
use Rattle.som_image_fields.specs.declared.method.Ranges.{Ranges}
use Rattle.som_model.specs.Steps.{◌>>=◌}
use Rattle.som_image_fields.specs.Fields.{Fails, done}
use Rattle.som_image_fields.proofs.Loop.{with_front, failed, front_nil, regroup}
use Rattle.som_image_fields.specs.declared.selects.WireSelects.{WireSelects}
use Rattle.som_wire.specs.Reading.{class_selects_at, ascending_at}

module _ (ranges : Ranges) (bytes : List ℕ) (count first start : ℕ) where
  -- after i classes these were read up to this place, the next number is least or greater, and what is still read gives the whole
  pub record ReadsOn (front : List WireSelects) (least i place : ℕ) : Type 0 where
    pub so_far : with_front front (ascending_at ranges (count - i) least bytes place) ≡ ascending_at ranges count first bytes start

  pub starts : ReadsOn [] first 0 start
  starts = record { so_far = front_nil (ascending_at ranges (count - 0) first bytes start) ∙ ap (λ n. ascending_at ranges n first bytes start) (omega arith) }

  pub goes_on : (front : List WireSelects) (least i place : ℕ) (r : Read WireSelects) → i < count → class_selects_at ranges least bytes place ≡ Ok r → ReadsOn front least i place → ReadsOn (front ++ r.value ∷ []) (r.value.class + 1) (i + 1) r.next
  unfolding ascending_at
  goes_on front least i place r lt read so_far =
      let left : count - i ≡ suc (count - (i + 1)) = omega arith in
      let further : Result (Read (List WireSelects)) ImageFault = ascending_at ranges (count - (i + 1)) (suc r.value.class) bytes r.next in
      let next : suc r.value.class ≡ r.value.class + 1 = omega arith in
      let step : with_front front (ascending_at ranges (count - i) least bytes place) ≡ with_front (front ++ r.value ∷ []) further = rw (left, read) (regroup front r.value further) in
      record { so_far = ap (λ (n : ℕ). with_front (front ++ r.value ∷ []) (ascending_at ranges (count - (i + 1)) n bytes r.next)) (sym next) ∙ sym step ∙ so_far.so_far }

  pub ends : (front : List WireSelects) (least i place : ℕ) (fault : ImageFault) → i < count → Fails fault (class_selects_at ranges least bytes place) → ReadsOn front least i place → Fails fault (ascending_at ranges count first bytes start)
  unfolding ascending_at
  ends front least i place fault lt h so_far =
      let left : count - i ≡ suc (count - (i + 1)) = omega arith in
      let part : Fails fault (with_front front (ascending_at ranges (suc (count - (i + 1))) least bytes place)) =
      failed fault (ascending_at ranges (suc (count - (i + 1))) least bytes place) (λ x. done (front ++ x.value) x.next)
      (failed fault (class_selects_at ranges least bytes place) (λ one. ascending_at ranges (count - (i + 1)) (suc one.value.class) bytes one.next >>= λ others. done (one.value ∷ others.value) others.next) h) in
      subst (λ (r : Result (Read (List WireSelects)) ImageFault). Fails fault r) (ap (λ n. with_front front (ascending_at ranges n least bytes place)) (sym left) ∙ so_far.so_far) part

  pub is_done : (front : List WireSelects) (least i place : ℕ) → count ≤ i → ReadsOn front least i place → ascending_at ranges count first bytes start ≡ done front place
  unfolding ascending_at
  is_done front least i place le so_far =
      let left : count - i ≡ 0 = omega arith in
      let step : with_front front (ascending_at ranges (count - i) least bytes place) ≡ done front place = rw left (ap (λ ns. done ns place) (append-nil front)) in
      sym so_far.so_far ∙ step
