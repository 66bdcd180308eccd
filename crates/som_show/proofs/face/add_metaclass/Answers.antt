use Rattle.std.proofs.Common.{ℕ, List, [], ◌∷◌, ◌++◌, Option, sym, ap, ◌∙◌, codes}
use Rattle.som_model.specs.declared.key.ClassKey.{ClassKey}
use Rattle.som_model.specs.ClassNames.{class_name}
use Rattle.som_show.specs.Shown.{metaclass_lines}
use Rattle.som_show.proofs.face.add_metaclass.Goals as goal

pub returns-in_ok-push-2 : goal.returns-in_ok-push-2
returns-in_ok-push-2 c =
    c.in_ok-push-2.ensures.ok
    ∙ ap (λ (l : List ℕ). c.args.lines.now ++ l ∷ [])
    (c.from_vec.ensures ∙ c.in_ok-push.ensures.items
    ∙ ap (λ (l : List ℕ). l ++ 10 ∷ []) (c.in_ok-add_class.ensures ∙ ap (λ (l : List ℕ). l ++ class_name c.in-Some.key) (c.in_ok-extend_from_slice.ensures.items ∙ ap (λ (l : List ℕ). l ++ codes "  metaclass ") c.new-line.ensures.items)))
    ∙ ap (λ (m : Option ClassKey). c.args.lines.now ++ metaclass_lines m) (sym c.in-Some.is)
