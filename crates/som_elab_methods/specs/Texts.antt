-- Bodies of texts as the code has them, and the classes of interfaces by their names.
use Rattle.std.specs.Prelude.{ℕ, suc, if◌then◌else◌, List, [], ◌∷◌, map}
use Rattle.std.specs.Borrow.{Bor}
use Rattle.std.specs.Str.{bytes_eq}
use Rattle.som_ast.specs.declared.body.BodyText.{BodyText}
use Rattle.som_sema_names.specs.Noted.{At}
use Rattle.som_sema_drafts.specs.Drafts.{InterfaceDraft}

-- the bodies that are borrowed
abbrev pub given : List (Bor BodyText) → List BodyText
given bs = map (λ b. b.now) bs

-- the bodies of one class
abbrev pub of_class : List BodyText → List ℕ → List BodyText
of_class [] class = []
of_class (b ∷ bs) class = if bytes_eq b.class.text class then b ∷ of_class bs class else of_class bs class

-- the names of classes with their places, counted from n
abbrev pub class_places : ℕ → List InterfaceDraft → List At
class_places n [] = []
class_places n (d ∷ ds) = record { name = d.class.face.name; place = n } ∷ class_places (suc n) ds
