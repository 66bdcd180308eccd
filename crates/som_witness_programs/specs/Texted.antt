-- Whether texts say what the client's class does, with its cases open.
use Rattle.std.specs.Prelude.{Bool, false, ◌&&◌}
use Rattle.som_model.specs.declared.key.MethodRef.{MethodRef}
use Rattle.som_model.specs.declared.program.Interface.{Interface}
use Rattle.som_idl.specs.Grammar as interfaces
use Rattle.som_body.specs.Grammar as bodies
use Rattle.som_witness.specs.Showings.{Showing, StandsBelow, KeepsObject, Overrides, CallsSlot, Calls, Passes, KeepsParameter, ReturnsNothing, ReturnsVariable, ReturnsAnswer, ReturnsClass}
use Rattle.som_witness.specs.Wording.{can_call, can_override, class_text, type_is_named}

abbrev pub says : Interface → MethodRef → Showing → Bool
says old m StandsBelow = interfaces.is_name_text (class_text m.class)
says old m (KeepsObject a) = interfaces.is_name_text (class_text m.class) && interfaces.is_name_text (class_text a)
says old m (Overrides params) = can_override m
says old m (CallsSlot params) = false
says old m (Calls params) = can_call old m
says old m (Passes params j kind) = can_call old m && type_is_named kind
says old m (KeepsParameter params j kind) = can_override m && type_is_named kind
says old m (ReturnsNothing params) = can_override m
says old m (ReturnsVariable params kind) = can_override m && type_is_named kind
says old m (ReturnsAnswer params kind) = can_call old m && type_is_named kind
says old m (ReturnsClass k) = bodies.is_name_text (class_text m.class) && interfaces.is_name_text (class_text k)
