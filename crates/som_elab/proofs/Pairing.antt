-- Interfaces with the declarations that were made for them.
use Rattle.std.proofs.Common.{◌≡◌, List, [], ◌∷◌, map, zip, refl, ap}
use Rattle.std.specs.Borrow.{Bor}
use Rattle.som_model.specs.declared.class.ClassDecl.{ClassDecl}
use Rattle.som_ast.specs.declared.interface.IdlInterface.{IdlInterface}
use Rattle.som_sema_drafts.specs.Drafts.{InterfaceDraft}
use Rattle.som_sema_scope.specs.Words.{lent}
use Rattle.som_elab.specs.Elaboration.{drafts_of_classes}

-- an interface and a declaration that are passed together
abbrev pub paired : (Bor IdlInterface) × ClassDecl → InterfaceDraft
paired p = record { text = p.0.now; class = p.1 }

-- an interface and a declaration that are passed together, with one borrow less
abbrev pub one_less : (Bor (Bor IdlInterface)) × ClassDecl → (Bor IdlInterface) × ClassDecl
one_less p = (p.0.now, p.1)

pub paired_drafts : (is : List (Bor IdlInterface)) (cs : List ClassDecl) → map paired (zip is cs) ≡ drafts_of_classes (lent is) cs
paired_drafts [] cs = refl
paired_drafts (i ∷ is) [] = refl
paired_drafts (i ∷ is) (c ∷ cs) = ap (λ z. paired (i, c) ∷ z) (paired_drafts is cs)
