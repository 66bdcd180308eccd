-- What the store has for a variable of an object.
use Rattle.std.proofs.Common.{◌≡◌, ℕ, Option, Some, Ok, sym, ap, subst, ◌∙◌}
use Rattle.som_model.specs.declared.key.ClassKey.{ClassKey}
use Rattle.som_objects.specs.declared.cell.Cell.{Cell}
use Rattle.som_objects.specs.declared.object_ref.ObjRef.{ObjRef}
use Rattle.som_objects.specs.Objects.{Live, Objects, live_at, HasClass, Writes}
use Rattle.som_values.proofs.Keeping.{same_some}
use Rattle.som_interp_state.specs.Settings.{Linked}
use Rattle.som_interp_objects.specs.Objects.{IsWritten}

-- the place of the variable among the cells of what is live
place_there : (l : Linked) (os : Objects) (r : ObjRef) (of : ℕ) (c : ClassKey) (n : ℕ) (q : Option ℕ) → HasClass os r of → q ≡ l.variables of c n → (o : Live) → live_at os r.serial ≡ Some o → l.variables o.class c n ≡ q
place_there l os r of c n q class at o live =
    let same : class.0 ≡ o = same_some (sym class.1 ∙ live) in
    subst (λ (x : Live). l.variables x.class c n ≡ q) same (ap (λ (i : ℕ). l.variables i c n) class.2 ∙ sym at)

pub written_of : (l : Linked) (os os' : Objects) (r : ObjRef) (of : ℕ) (c : ClassKey) (n p : ℕ) (cell : Cell) → HasClass os r of → l.variables of c n ≡ Some p → Writes os os' r p cell → IsWritten l os os' r c n cell (Ok tt)
written_of l os os' r of c n p cell class at w = (p, w, place_there l os r of c n (Some p) class (sym at) w.0 w.1)
