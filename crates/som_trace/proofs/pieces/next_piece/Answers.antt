use Rattle.std.proofs.Common.{ℕ, ◌∷◌, ◌++◌, [], sym, ap, ◌∙◌, subst, refl}
use Rattle.som_meta.specs.Numbering.{key_at}
use Rattle.som_trace.specs.Pieces.{AreParts, name_pieces, pieces_left}
use Rattle.som_trace.specs.declared.pieces.Part.{Part}
use Rattle.som_trace.specs.declared.pieces.Part.TheVariants as parts
use Rattle.som_trace.proofs.Parts.{parts_popped}
use Rattle.som_trace.proofs.Steps.{taken}
use Rattle.som_trace.proofs.pieces.next_piece.Goals as goal

pub returns-in-Some-Bytes-clause-piece : goal.returns-in-Some-Bytes-clause-piece
returns-in-Some-Bytes-clause-piece g c =
    let k = g.N.ClassKeys.known c.args.classes.now in
    let rest = c.pop.new.self.items in
    taken k c.args.left.now.items rest (parts.Bytes c.in-Some-Bytes.bytes) (c.in-Some-Bytes.bytes.now ∷ pieces_left k rest)
    (c.in-Some-Bytes.ensures.items ∙ ap (λ (p : Part). rest ++ p ∷ []) c.in-Some-Bytes.field-0-is) refl

pub returns-in_ok-begin_name-in-Some-Name-clause-piece : goal.returns-in_ok-begin_name-in-Some-Name-clause-piece
returns-in_ok-begin_name-in-Some-Name-clause-piece g c =
    let k = g.N.ClassKeys.known c.args.classes.now in
    let rest = c.pop.new.self.items in
    taken k c.args.left.now.items rest (parts.Name c.in-Some-Name.class) (c.in_ok-begin_name-in-Some-Name.field-0.now ∷ pieces_left k c.begin_name.new.left.items)
    (c.in-Some-Name.ensures.items ∙ ap (λ (p : Part). rest ++ p ∷ []) c.in-Some-Name.field-0-is)
    (ap (λ (n : ℕ). name_pieces (key_at k n) ++ pieces_left k rest) (sym c.new.ensures) ∙ c.in_ok-begin_name-in-Some-Name.ensures.piece)

pub returns-in_ok-begin_rest-in-Some-Rest-clause-parts : goal.returns-in_ok-begin_rest-in-Some-Rest-clause-parts
returns-in_ok-begin_rest-in-Some-Rest-clause-parts g c =
    let k = g.N.ClassKeys.known c.args.classes.now in
    let rest = c.pop.new.self.items in
    let e = c.in-Some-Rest.ensures.items ∙ ap (λ (p : Part). rest ++ p ∷ []) c.in-Some-Rest.field-0-is in
    let both = parts_popped k rest (parts.Rest c.in-Some-Rest.others) (subst (AreParts k) e c.requires) in
    c.in_ok-begin_rest-in-Some-Rest.ensures.parts k both.0 both.1

pub returns-in_ok-begin_rest-in-Some-Rest-clause-piece : goal.returns-in_ok-begin_rest-in-Some-Rest-clause-piece
returns-in_ok-begin_rest-in-Some-Rest-clause-piece g c =
    let k = g.N.ClassKeys.known c.args.classes.now in
    let rest = c.pop.new.self.items in
    taken k c.args.left.now.items rest (parts.Rest c.in-Some-Rest.others) (c.in_ok-begin_rest-in-Some-Rest.field-0.now ∷ pieces_left k c.begin_rest.new.left.items)
    (c.in-Some-Rest.ensures.items ∙ ap (λ (p : Part). rest ++ p ∷ []) c.in-Some-Rest.field-0-is)
    (c.in_ok-begin_rest-in-Some-Rest.ensures.piece k)

pub returns-in-Some-End-clause-piece : goal.returns-in-Some-End-clause-piece
returns-in-Some-End-clause-piece g c =
    let k = g.N.ClassKeys.known c.args.classes.now in
    let rest = c.pop.new.self.items in
    taken k c.args.left.now.items rest parts.End ((41 ∷ []) ∷ pieces_left k rest)
    (c.in-Some-End.ensures.items ∙ ap (λ (p : Part). rest ++ p ∷ []) c.in-Some-End.field-0-is) refl
