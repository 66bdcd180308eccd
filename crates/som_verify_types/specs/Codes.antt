-- Code among the classes that are known.
use Rattle.std.specs.Prelude.{List}
use Rattle.som_model.specs.declared.syntax.Expr.{Expr}
use Rattle.som_model.specs.Class.{Class}
use Rattle.som_model.specs.Typing.{ClassFacts, CodePlace, Typed}
use Rattle.som_verify_types.specs.declared.expressions.Code.{Code}
use Rattle.som_verify_forms.specs.Kinds.{AreTypes, PlaceStands, code_at}
use Rattle.som_verify_forms.specs.Knowing.{IsKnowledge, all_of, facts_of, typed_by}

-- what is known of the classes holds, and the place of the code and the kinds of its locals stand
pub record IsCode (code : Code) : Type 0 where
  pub known : IsKnowledge code.known
  pub place : PlaceStands (all_of code.known) code.at
  pub scope : AreTypes (all_of code.known) code.scope.now

abbrev pub classes_in : Code → List Class
classes_in code = all_of code.known

abbrev pub facts_in : Code → ClassFacts
facts_in code = facts_of code.known

abbrev pub place_in : Code → CodePlace
place_in code = code_at (all_of code.known) code.at

abbrev pub typed_in : Code → Expr → Typed
typed_in code e = typed_by code.known code.at code.scope.now e
