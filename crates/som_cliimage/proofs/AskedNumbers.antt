-- A number that is asked for is the count with which a field begins.
use Rattle.std.proofs.Common.{◌≡◌, ℕ, ◌<◌, cond, eqb, List, ◌++◌, Option, None, Some, Result, Ok, Err, refl, sym, ap, ◌∙◌}
use Rattle.std.specs.Int.{Width}
use Rattle.std.proofs.lemmas.Bool.{eqb-true, eq-eqb}
use Rattle.som_model.specs.Steps.{◌>>=◌}
use Rattle.som_image_fields.specs.declared.fault.ImageFault.{ImageFault}
use Rattle.som_image_fields.specs.declared.fault.ImageFault.TheVariants as faults
use Rattle.som_image_fields.specs.declared.read.Read.{Read}
use Rattle.som_image_fields.specs.Fields.{Stands}
use Rattle.som_image_fields.specs.Spelling.{number}
use Rattle.som_image_fields.specs.Reading.{number_at}
use Rattle.som_image_fields.proofs.Parts.{IsField, guard_yes, went}
use Rattle.som_cliimage.specs.Forms.{IsAsked, asked_at}

module _ (w : Width) (limit : ℕ) (number_is : IsField (number_at w) (number w) (λ n. n < limit)) where
  abbrev tested : ℕ → ℕ → Read ℕ → Result (Unit {0}) ImageFault
  tested asked place count = cond (eqb count.value asked) (Ok tt) (Err (faults.Number place))

  -- a count of which the test came out
  pub asked_takes : (asked : Option ℕ) (bytes : List ℕ) (place : ℕ) (u : Unit {0}) (n : ℕ) (rest : List ℕ) (next : ℕ) → n < limit → Stands bytes place (number w n ++ rest) next → asked_at w asked bytes place ≡ Ok u → IsAsked asked n
  asked_takes None bytes place u n rest next lt h e = tt
  asked_takes (Some asked) bytes place u n rest next lt h e =
      let read = went (number_at w) (number w) (λ n. n < limit) number_is bytes place n rest next h lt in
      let done : cond (eqb n asked) (Ok tt) (Err (faults.Number place)) ≡ Ok u = ap (λ (r : Result (Read ℕ) ImageFault). r >>= tested asked place) (sym read.0) ∙ e in
      eqb-true n asked (guard_yes (eqb n asked) (faults.Number place) (Ok tt) u done).0

  -- and the test of a count that is the one asked for
  pub asked_again : (asked : Option ℕ) (bytes : List ℕ) (place : ℕ) (n : ℕ) (rest : List ℕ) (next : ℕ) → n < limit → Stands bytes place (number w n ++ rest) next → IsAsked asked n → asked_at w asked bytes place ≡ Ok tt
  asked_again None bytes place n rest next lt h is = refl
  asked_again (Some asked) bytes place n rest next lt h is =
      let read = went (number_at w) (number w) (λ n. n < limit) number_is bytes place n rest next h lt in
      rw (read.0, eq-eqb n asked is) refl
