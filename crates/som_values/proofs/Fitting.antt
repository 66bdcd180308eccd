-- Values that are more or fewer than the types don't fit them.
use Rattle.std.proofs.Common.{◌≡◌, suc, Bool, true, false, ◌&&◌, List, [], ◌∷◌, length, refl, ap}
use Rattle.som_model.specs.declared.key.ValueType.{ValueType}
use Rattle.som_semantics.specs.World.{World}
use Rattle.som_semantics.specs.State.{Heap}
use Rattle.som_semantics.specs.Values.{fits, all_fit}
use Rattle.som_objects.specs.declared.cell.Cell.{Cell}
use Rattle.som_values.specs.Shown.{Showing, shown, all_shown}

and_false : (b c : Bool) → c ≡ false → (b && c) ≡ false
and_false true c e = e
and_false false c e = refl

pub fewer_fit : (w : World) (h : Heap) (s : Showing) (ts : List ValueType) (cs : List Cell) → (length ts ≡ length cs → ⊥) → all_fit w h ts (all_shown s cs) ≡ false
fewer_fit w h s [] [] apart = absurd (apart refl)
fewer_fit w h s [] (c ∷ cs) apart = refl
fewer_fit w h s (t ∷ ts) [] apart = refl
fewer_fit w h s (t ∷ ts) (c ∷ cs) apart = and_false (fits w h t (shown s c)) (all_fit w h ts (all_shown s cs)) (fewer_fit w h s ts cs (λ e. apart (ap suc e)))
