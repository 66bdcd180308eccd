-- What typing comes to under new keys: the new type, or the same rule.
use Rattle.std.specs.Prelude.{Ok, Err}
use Rattle.std.specs.Option.{option_map}
use Rattle.som_model.specs.Typing.{CodePlace, ExprType, Of, PlainNil, Ruled}
use Rattle.som_rekey_laws.specs.Rekeying.{ModuleChange, rekey_class, rekey_type}

-- where code stands, under new keys
abbrev pub rekey_place : ModuleChange → CodePlace → CodePlace
rekey_place f at = record { class = option_map (rekey_class f) at.class; result = rekey_type f at.result }

-- the type of an expression, under new keys
abbrev pub rekey_expr_type : ModuleChange → ExprType → ExprType
rekey_expr_type f (Of kind) = Of (rekey_type f kind)
rekey_expr_type f PlainNil = PlainNil

-- what a form comes to, changed, or the rule that it breaks as it is
abbrev pub ruled_map : {A B : Type 0} → (A → B) → Ruled A → Ruled B
ruled_map g (Ok x) = Ok (g x)
ruled_map g (Err rule) = Err rule
