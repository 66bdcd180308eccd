-- What the code makes of the texts of expressions, where classes go by their places.
use Rattle.std.specs.Prelude.{◌≡◌, ℕ, ◌≤◌, List, map, length, Option, Some, None, Result, Ok, Err}
use Rattle.som_model.specs.declared.limits.TheConstants.{MAX_LOCALS, MAX_PARENTS, MAX_VARIABLES}
use Rattle.som_model.specs.Lists.{Mem}
use Rattle.som_model.specs.Class.{Class}
use Rattle.som_model.specs.Typing.{CodePlace}
use Rattle.som_verify_classes.specs.Places.{class_of_place}
use Rattle.som_verify_forms.specs.Kinds.{Fails, IsType, PlaceStands, Stands, code_at, kind_at, type_at}
use Rattle.som_verify_forms.specs.Knowing.{IsKnowledge, all_of}
use Rattle.som_verify_forms.specs.declared.knowledge.Knowledge.{Knowledge}
use Rattle.som_verify_forms.specs.declared.code_place.TypeFault.{TypeFault}
use Rattle.som_sema_scope.specs.declared.scope.Scope.{Scope}
use Rattle.som_sema_names.specs.Searching.{IsSearch}
use Rattle.som_sema_scope.specs.ClassNames.{module_in_scope}
use Rattle.som_elab_body.specs.declared.typed_expr.TypedExpr.{TypedExpr}
use Rattle.som_elab_body.specs.declared.local.Local.{Local}
use Rattle.som_elab_body.specs.declared.body_context.BodyContext.{BodyContext}
use Rattle.som_elab_body.specs.Locals.{Named, Names}
use Rattle.som_elab_body.specs.Expressions.{Among, Elab, Elaborated}

-- ---- where code stands

abbrev pub classes_at : BodyContext → List Class
classes_at s = all_of s.known

-- what bodies are elaborated among, where this is known and names stand for this
abbrev pub among_by : Knowledge → Scope → Among
among_by known scope = record { classes = all_of known; module_of = module_in_scope scope }

abbrev pub among_at : BodyContext → Among
among_at s = among_by s.known s.scope.now

abbrev pub place_at : BodyContext → CodePlace
place_at s = code_at (all_of s.known) s.at

-- the class of a body has no more variables and parents than a byte can number
abbrev pub ClassFits : List Class → Option ℕ → Type 0
ClassFits cs None = Unit {0}
ClassFits cs (Some place) = (length (class_of_place cs place).decl.variables ≤ MAX_VARIABLES) × (length (class_of_place cs place).decl.face.parents ≤ MAX_PARENTS)

-- what is known is known, and the class of the body stands and is within the limits
pub record IsBodyContext (s : BodyContext) : Type 0 where
  pub known : IsKnowledge s.known
  pub search : IsSearch (all_of s.known) s.known.lists.now s.search
  pub place : PlaceStands (all_of s.known) s.at
  pub fits : ClassFits (all_of s.known) s.at.class

-- ---- locals

-- a local with its type
abbrev pub named_at : List Class → Local → Named
named_at cs l = record { name = l.name.now; kind = type_at cs l.kind }

abbrev pub names_at : List Class → List Local → Names
names_at cs ls = map (named_at cs) ls

-- the locals have types, and there are no more of them than may be
pub record AreLocals (cs : List Class) (ls : List Local) : Type 0 where
  pub types : (l : Local) → Mem l ls → IsType cs l.kind
  pub few : length ls ≤ MAX_LOCALS

-- ---- expressions

-- an expression with its type
abbrev pub typed_at : List Class → TypedExpr → Elaborated
typed_at cs m = record { expr = m.expr; type = kind_at cs m.kind }

-- an expression is made, or the rule is told that it breaks; want of memory says nothing
abbrev pub Makes : List Class → Elab → Result TypedExpr TypeFault → Type 0
Makes cs comes (Ok m) = (comes ≡ Ok (typed_at cs m)) × Stands cs m.kind
Makes cs comes (Err fault) = Fails comes fault
