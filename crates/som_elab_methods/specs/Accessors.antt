-- The accessors that interfaces declare, and their bodies.
use Rattle.std.specs.Prelude.{ℕ, suc, Bool, true, false, if◌then◌else◌, List, [], ◌∷◌, ◌++◌, map, flat_map, Option, option_map}
use Rattle.std.specs.Str.{bytes_eq}
use Rattle.som_model.specs.declared.class.Variable.{Variable}
use Rattle.som_model.specs.declared.class.Body.{Body}
use Rattle.som_model.specs.declared.class.Body.TheVariants as bodies
use Rattle.som_model.specs.Lists.{find}
use Rattle.som_ast.specs.declared.words.Word.{Word}
use Rattle.som_ast.specs.declared.interface.IdlInterface.{IdlInterface}
use Rattle.som_ast.specs.declared.interface.Export.{Export}
use Rattle.som_ast.specs.declared.interface.Export.TheVariants as exports
use Rattle.som_elab_methods.specs.declared.accessors.Accessor.{Accessor}
use Rattle.som_sema_drafts.specs.Drafts.{InterfaceDraft, getter, setter}

-- a method that reads or sets an attribute
pub record Access : Type 0 where
  pub name : List ℕ
  pub attribute : List ℕ
  pub sets : Bool

abbrev pub attribute_accessors : Bool → List ℕ → List Access
attribute_accessors readonly name =
    record { name = getter name; attribute = name; sets = false }
    ∷ (if readonly then [] else record { name = setter name; attribute = name; sets = true } ∷ [])

abbrev pub export_accessors : Export → List Access
export_accessors (exports.Attribute readonly kind names) = flat_map (λ (w : Word). attribute_accessors readonly w.text) names
export_accessors (exports.Operation result name params) = []

-- the accessors that an interface declares
abbrev pub accessors_of : IdlInterface → List Access
accessors_of i = flat_map export_accessors i.before ++ flat_map export_accessors i.after

-- the first place of a name
abbrev pub place_of : List (List ℕ) → List ℕ → ℕ
place_of [] name = 0
place_of (n ∷ ns) name = if bytes_eq name n then 0 else suc (place_of ns name)

-- an accessor reads or writes the variable of its attribute's name
abbrev pub accessor_body : List Variable → Access → Body
accessor_body vs a =
    if a.sets then bodies.Set (place_of (map (λ (v : Variable). v.name) vs) a.attribute) else bodies.Get (place_of (map (λ (v : Variable). v.name) vs) a.attribute)

-- the body of a method that a class introduces: an accessor has one, and an operation has none
abbrev pub body_of : InterfaceDraft → List ℕ → Option Body
body_of d name = option_map (accessor_body d.class.variables) (find (λ (a : Access). bytes_eq name a.name) (accessors_of d.text))

-- an accessor of the code
abbrev pub access : Accessor → Access
access a = record { name = a.name; attribute = a.attribute.now; sets = a.sets }
