-- The methods and parts that the code finds and makes, where classes go by their places.
use Rattle.std.specs.Prelude.{◌≡◌, ℕ, ◌<◌, List, [], ◌∷◌, ◌++◌, map, length, Option, Some, None, Ok}
use Rattle.std.specs.Str.{bytes_eq}
use Rattle.som_model.specs.declared.key.ClassKey.{ClassKey}
use Rattle.som_model.specs.declared.key.MethodRef.{MethodRef}
use Rattle.som_model.specs.declared.key.ValueType.{ValueType}
use Rattle.som_model.specs.declared.class.Entry.{Entry}
use Rattle.som_model.specs.declared.syntax.Expr.{Expr}
use Rattle.som_model.specs.declared.syntax.Expr.TheVariants as exprs
use Rattle.som_model.specs.Class.{Class}
use Rattle.som_model.specs.Lists.{find, place_from}
use Rattle.som_model.specs.Owner.{introduces}
use Rattle.som_model.specs.Steps.{◌>>=◌}
use Rattle.som_model.specs.Typing.{ClassFacts, CodePlace, Of, Ruled, Typed, named_call_type, offset_call_type, parent_call_type, parents_call_type, there}
use Rattle.som_verify_forms.specs.declared.kind.Kind.{Kind}
use Rattle.som_verify_forms.specs.Kinds.{AllStand, kind_at}
use Rattle.som_verify_forms.specs.Knowing.{facts_of}
use Rattle.som_verify_classes.specs.Places.{key_at}
use Rattle.som_ast.specs.declared.expression.ExprText.{ExprText}
use Rattle.som_elab_body.specs.declared.local.Local.{Local}
use Rattle.som_elab_body.specs.declared.typed_expr.TypedExpr.{TypedExpr}
use Rattle.som_elab_body.specs.declared.methods.FoundMethod.{FoundMethod}
use Rattle.som_elab_body.specs.declared.parts.Parts.{Parts}
use Rattle.som_elab_body.specs.declared.body_context.BodyContext.{BodyContext}
use Rattle.som_elab_body.specs.Methods.{Method, introduced_method, method_by, method_of}
use Rattle.som_elab_body.specs.Expressions.{Among, Elab, Elaborated, elaborated, exprs_of, facts_among, formed, part, parts, types_of}
use Rattle.som_elab_body.specs.Code.{among_at, classes_at, typed_at, names_at, place_at}

-- the facts of the classes
abbrev pub facts_at : BodyContext → ClassFacts
facts_at s = facts_of s.known

-- what a text comes to among these locals
abbrev pub elab_at : BodyContext → List Local → ExprText → Elab
elab_at s ls e = elaborated (among_at s) (place_at s) (names_at (classes_at s) ls) e

-- the place of a local of that name
abbrev pub local_place : List Local → List ℕ → Option ℕ
local_place ls name = place_from 0 (λ (l : Local). bytes_eq name l.name.now) ls

-- what a form comes to that looks at one part, or at arguments
abbrev pub of_one : Elab → (Elaborated → Elab) → Elab
of_one e form = part e >>= form

abbrev pub of_all : List Elab → (List Elaborated → Elab) → Elab
of_all es form = parts es >>= form

-- the method of that name that is found
abbrev pub method_at : List Class → List ℕ → FoundMethod → Method
method_at cs name m = record { ref = record { class = key_at cs m.class; name = name }; sig = m.sig.now; way = m.way }

-- the method is found whose class stands, or there is none
abbrev pub Finds : List Class → List ℕ → Option Method → Option FoundMethod → Type 0
Finds cs name method None = method ≡ None
Finds cs name method (Some m) = (method ≡ Some (method_at cs name m)) × (m.class < length cs)

-- the method of the entry that the class has for the name
abbrev pub method_by_entry : ClassKey → List ℕ → Option Entry → Option Method
method_by_entry k name e = introduced_method (record { class = k; name = name }) e

-- the method of the first of these classes, by their places, that introduces the name
abbrev pub first_method : List Class → List ℕ → List ℕ → Option Method
first_method cs name list = method_by cs name (find (introduces cs name) (map (key_at cs) list))

-- expressions with their types
abbrev pub typed_parts : List Class → List Expr → List Kind → List Elaborated
typed_parts cs [] kinds = []
typed_parts cs (e ∷ es) [] = []
typed_parts cs (e ∷ es) (k ∷ ks) = record { expr = e; type = kind_at cs k } ∷ typed_parts cs es ks

abbrev pub parts_at : List Class → Parts → List Elaborated
parts_at cs ps = typed_parts cs ps.exprs ps.kinds.items

-- the parts stand, and each has a type
pub record AreParts (cs : List Class) (ps : Parts) : Type 0 where
  pub stand : AllStand cs ps.kinds.items
  pub long : length ps.exprs ≡ length ps.kinds.items

-- parts are made in their order
pub record AreMade (cs : List Class) (comes : Ruled (List Elaborated)) (ps : Parts) : Type 0 where
  pub made : comes ≡ Ok (parts_at cs ps)
  pub are : AreParts cs ps

-- one part more, after those before it. `Adds` of a run is how a sink keeps events
pub record Adds (cs : List Class) (before : Parts) (m : TypedExpr) (after : Parts) : Type 0 where
  pub parts : parts_at cs after ≡ parts_at cs before ++ typed_at cs m ∷ []
  pub are : AreParts cs after

-- the type that is looked up
abbrev pub of_kind : Ruled ValueType → Typed
of_kind ruled = ruled >>= λ kind. Ok (Of kind)

-- calls by name that answer a type
abbrev pub lookup_by : ClassFacts → ValueType → Elaborated → List ℕ → List Elaborated → Elab
lookup_by w answer on name args = formed (exprs.Lookup answer name on.expr (exprs_of args)) (named_call_type w answer on.type (types_of args))

abbrev pub dispatch_by : ClassFacts → ValueType → Elaborated → List ℕ → List Elaborated → Elab
dispatch_by w answer on name args = formed (exprs.Dispatch answer name on.expr (exprs_of args)) (named_call_type w answer on.type (types_of args))

-- a call of a parent's method, where both are found
abbrev pub parent_by : ClassFacts → CodePlace → ℕ → MethodRef → List Elaborated → Elab
parent_by w at n r args = formed (exprs.ParentCall n r (exprs_of args)) (parent_call_type w at n r (types_of args))

-- a call of a parent's method, by the parent's key and its place
abbrev pub parent_from : Among → CodePlace → ClassKey → List ℕ → List Elaborated → ℕ → Elab
parent_from a at k name args n = there 16 (method_of a.classes k name) >>= λ m. parent_by (facts_among a) at n m.ref args

-- a call of the method that all parents have, where it is found
abbrev pub parents_by : ClassFacts → CodePlace → MethodRef → List Elaborated → Elab
parents_by w at r args = formed (exprs.ParentsCall r (exprs_of args)) (parents_call_type w at r (types_of args))

-- a call by offset, where the method is found
abbrev pub offset_by : ClassFacts → MethodRef → Elaborated → List Elaborated → Elab
offset_by w r on args = formed (exprs.OffsetCall r on.expr (exprs_of args)) (offset_call_type w r on.type (types_of args))
