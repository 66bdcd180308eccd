-- The body of one method: its parameters, and the block that its text stands for.
use Rattle.std.specs.Prelude.{if◌then◌else◌, List, [], ◌∷◌, is_some, Err}
use Rattle.std.specs.Str.{bytes_eq}
use Rattle.som_model.specs.declared.key.ValueType.{ValueType}
use Rattle.som_model.specs.declared.syntax.Block.{Block}
use Rattle.som_model.specs.declared.class.Sig.{Sig}
use Rattle.som_model.specs.Lists.{doubles, first}
use Rattle.som_model.specs.Class.{Class}
use Rattle.som_model.specs.Typing.{in_body}
use Rattle.som_ast.specs.declared.words.Word.{Word}
use Rattle.som_ast.specs.declared.body.BodyText.{BodyText}
use Rattle.som_sema_scope.specs.Words.{words}
use Rattle.som_elab_body.specs.Locals.{Names}
use Rattle.som_elab_body.specs.Expressions.{Among}
use Rattle.som_elab_body.specs.Statements.{Breaks, Told, elaborated_block}

-- the parameters with the types of a signature
abbrev pub parameters : List Word → List ValueType → Names
parameters [] kinds = []
parameters (w ∷ ws) [] = []
parameters (w ∷ ws) (kind ∷ kinds) = record { name = w.text; kind = kind } ∷ parameters ws kinds

-- the block of a body: no parameter has the name of one before, and then its statements are looked at
abbrev pub elaborated_body : Among → Class → Sig → BodyText → Told Block
elaborated_body a c sig b =
    if is_some (first (doubles bytes_eq [] (words b.params))) then Err (Breaks 15)
    else elaborated_block a (in_body c sig.result) b.block (parameters b.params sig.params)
