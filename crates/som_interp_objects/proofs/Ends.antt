-- An object that is freed is freed in the meaning.
use Rattle.std.proofs.Common.{◌≡◌, ℕ, ◌-◌, Bool, if◌then◌else◌, List, length, Some, None, Ok, Err, refl, ap, ◌∙◌, arith}
use Rattle.std.proofs.lemmas.List.{length-set}
use Rattle.som_model.specs.declared.key.ClassKey.{ClassKey}
use Rattle.som_model.specs.declared.program.Fault.TheVariants as faults
use Rattle.som_semantics.specs.State.{Heap, Object, Tried, freed}
use Rattle.som_objects.specs.declared.object_ref.ObjRef.{ObjRef}
use Rattle.som_objects.specs.Objects.{Objects, IsKnown, Frees}
use Rattle.som_objects.proofs.Known.{keeps_freed}
use Rattle.som_machine_laws.proofs.Within.{freed_in}
use Rattle.som_values.specs.declared.reference.Reference.TheVariants as references
use Rattle.som_values.specs.Shown.{place_of, IsMade}
use Rattle.som_interp_state.specs.Settings.{Linked}
use Rattle.som_interp_state.specs.Stored.{AreSerials}
use Rattle.som_interp_state.proofs.Objects.{heap_freed}
use Rattle.som_interp_state.proofs.Classes.{statics_still}
use Rattle.som_interp_state.specs.Holding.{Holding}
use Rattle.som_interp_objects.specs.Acting.{Acts, Becomes}
use Rattle.som_interp_objects.specs.Statics.{Statics}
use Rattle.som_interp_objects.proofs.Reading.{live_there}
use Rattle.som_interp_objects.specs.Making.{ended}

same_count : (os os' : Objects) (r : ObjRef) → Frees os os' r → length os' ≡ length os
same_count os os' r f = ap (λ (x : Objects). length x) f.2 ∙ length-set os (r.serial - 1) None

serials_still : (xs : List ℕ) (os os' : Objects) → length os' ≡ length os → AreSerials xs os → AreSerials xs os'
serials_still xs os os' e a = record { positive = a.positive; given = λ n made. (let g = a.given n made in omega (arith, g, e)); apart = a.apart }

pub object_freed : (os os' : Objects) (r : ObjRef) → IsKnown os r → Frees os os' r
    → (l : Linked) (made : ClassKey → Bool) (xs : List ℕ) (statics : Statics) (h : Heap) → Holding l made xs os statics h → IsMade xs r.serial → Becomes l made xs os' statics (Ok tt) (ended (Object (place_of xs r.serial)) h)
object_freed os os' r known f l made xs statics h holding own =
    let i = place_of xs r.serial in
    let fault : Tried Heap = Err faults.Freed in
    let acts : Acts l made os statics (Some (references.Object r)) xs h = record { holding = holding; self = record { own = (own, known); made_of = tt } } in (
      freed (Object i) h,
      ap (λ (b : Bool). if b then Ok (freed (Object i) h) else fault) (live_there l made xs os statics h r acts f.0 f.1),
      record {
        serials = serials_still xs os os' (same_count os os' r f) holding.serials;
        heap = heap_freed l xs os os' h r f own holding.heap;
        class_objects = statics_still l xs os os' statics h (freed (Object i) h) (keeps_freed os os' r f) (λ x. refl) holding.class_objects;
        made_of = freed_in made (Object i) h holding.made_of;
      },
    )
