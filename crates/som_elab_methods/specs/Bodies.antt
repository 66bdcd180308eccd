-- Which methods have bodies in texts, and the rules on these: S13 and S14.
use Rattle.std.specs.Prelude.{ℕ, ◌==◌, ◌&&◌, Bool, false, if◌then◌else◌, List, [], ◌∷◌, ◌++◌, flat_map, length, Option, Some, None}
use Rattle.std.specs.Str.{bytes_eq}
use Rattle.som_model.specs.declared.class.Sig.{Sig}
use Rattle.som_model.specs.declared.class.Override.{Override}
use Rattle.som_model.specs.Lists.{among, find, first, or_else}
use Rattle.som_model.specs.Class.{Class, entry_of, introduced, introduced_sig}
use Rattle.som_model.specs.Owner.{owner, sig_of}
use Rattle.som_model.specs.Rules.{RuleBreach}
use Rattle.som_ast.specs.declared.interface.IdlInterface.{IdlInterface}
use Rattle.som_ast.specs.declared.interface.Export.{Export}
use Rattle.som_ast.specs.declared.interface.Export.TheVariants as exports
use Rattle.som_ast.specs.declared.body.BodyFile.{BodyFile}
use Rattle.som_ast.specs.declared.body.BodyText.{BodyText}
use Rattle.som_sema_drafts.specs.Drafts.{InterfaceDraft}
use Rattle.som_sema_drafts.specs.Demands.{text_demand}

-- the bodies of all files, in order
abbrev pub bodies_of : List BodyFile → List BodyText
bodies_of files = flat_map (λ (f : BodyFile). f.bodies) files

-- ---- which methods have bodies

abbrev pub operation_name : Export → List (List ℕ)
operation_name (exports.Operation result name params) = name.text ∷ []
operation_name (exports.Attribute readonly kind names) = []

-- the methods that an interface declares by operations
abbrev pub operations : IdlInterface → List (List ℕ)
operations i = flat_map operation_name i.before ++ flat_map operation_name i.after

-- the signature of a method that a class declares by an operation
abbrev pub operation_sig : InterfaceDraft → List ℕ → Option Sig
operation_sig d name = if among name (operations d.text) then introduced_sig (entry_of d.class.face.entries name) else None

abbrev pub overridden_sig : List Class → Option Override → Option Sig
overridden_sig cs None = None
overridden_sig cs (Some o) = sig_of cs (owner cs o.method)

-- the signature of a method that a class overrides
abbrev pub override_sig : List Class → InterfaceDraft → List ℕ → Option Sig
override_sig cs d name = overridden_sig cs (find (λ (o : Override). bytes_eq name o.method.name) d.class.overrides)

-- a body is that of an operation, or of a method that is overridden
abbrev pub body_sig : List Class → InterfaceDraft → List ℕ → Option Sig
body_sig cs d name = or_else (operation_sig d name) (override_sig cs d name)

-- the bodies that texts have for a method of a class
abbrev pub texts_for : List BodyText → List ℕ → List ℕ → List BodyText
texts_for [] class name = []
texts_for (b ∷ bs) class name = if bytes_eq b.class.text class && bytes_eq b.method.text name then b ∷ texts_for bs class name else texts_for bs class name

-- ---- S13: each body names a class of the texts and a method that it declares by an operation or overrides, with as many parameters

abbrev pub takes_as_many : BodyText → Option Sig → Bool
takes_as_many b None = false
takes_as_many b (Some sig) = length b.params == length sig.params

abbrev pub stands_for : List Class → BodyText → Option InterfaceDraft → Bool
stands_for cs b None = false
stands_for cs b (Some d) = takes_as_many b (body_sig cs d b.method.text)

-- the class of a name
abbrev pub draft_named : List InterfaceDraft → List ℕ → Option InterfaceDraft
draft_named ds name = find (λ (d : InterfaceDraft). bytes_eq name d.class.face.name) ds

abbrev pub text_s13 : List Class → List InterfaceDraft → BodyText → List RuleBreach
text_s13 cs ds b = if stands_for cs b (draft_named ds b.class.text) then [] else record { rule = 13; class = b.class.text; member = b.method.text } ∷ []

-- ---- S14: each operation, in the release order, and then each method that is overridden, in the order of the text, has exactly one body

abbrev pub has_one : List BodyText → InterfaceDraft → List ℕ → List RuleBreach
has_one bs d name = text_demand 14 d name (length (texts_for bs d.class.face.name name) == 1)

abbrev pub entry_has_one : List BodyText → InterfaceDraft → List ℕ → List RuleBreach
entry_has_one bs d name = if among name (operations d.text) then has_one bs d name else []

abbrev pub text_s14 : List BodyText → InterfaceDraft → List RuleBreach
text_s14 bs d = flat_map (entry_has_one bs d) (introduced d.class.face.entries) ++ flat_map (λ (o : Override). has_one bs d o.method.name) d.class.overrides

-- the first breach of both
abbrev pub bodies_breach : List Class → List InterfaceDraft → List BodyText → Option RuleBreach
bodies_breach cs ds bs = or_else (first (flat_map (text_s13 cs ds) bs)) (first (flat_map (text_s14 bs) ds))
