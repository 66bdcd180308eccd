-- The cases in which texts say what the client's class does are those of the definition.
use Rattle.std.proofs.Common.{◌≡◌, refl}
use Rattle.som_model.specs.declared.key.MethodRef.{MethodRef}
use Rattle.som_model.specs.declared.program.Interface.{Interface}
use Rattle.som_witness.specs.Showings.{Showing, StandsBelow, KeepsObject, Overrides, CallsSlot, Calls, Passes, KeepsParameter, ReturnsNothing, ReturnsVariable, ReturnsAnswer, ReturnsClass}
use Rattle.som_witness.specs.Wording.{has_text}
use Rattle.som_witness_programs.specs.Texted.{says}

pub says_is : (old : Interface) (m : MethodRef) (s : Showing) → says old m s ≡ has_text old m s
unfolding has_text
says_is old m StandsBelow = refl
says_is old m (KeepsObject a) = refl
says_is old m (Overrides params) = refl
says_is old m (CallsSlot params) = refl
says_is old m (Calls params) = refl
says_is old m (Passes params j kind) = refl
says_is old m (KeepsParameter params j kind) = refl
says_is old m (ReturnsNothing params) = refl
says_is old m (ReturnsVariable params kind) = refl
says_is old m (ReturnsAnswer params kind) = refl
says_is old m (ReturnsClass k) = refl
