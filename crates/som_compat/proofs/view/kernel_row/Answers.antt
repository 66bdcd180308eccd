use Rattle.std.proofs.Common.{◌≡◌, sym, subst, refl, ℕ, arith}
use Rattle.som_verify_classes.specs.Places.{face_at}
use Rattle.som_compat.specs.Views.{classes_of, IsRow}
use Rattle.som_compat.proofs.Viewing.{root_row, single_row}
use Rattle.som_compat.proofs.view.kernel_row.Goals as goal

pub returns-then-place-eq0 : goal.returns-then-place-eq0
returns-then-place-eq0 c = λ fs. let e : c.args.place ≡ 0 = omega arith in subst (λ (z : ℕ). IsRow (classes_of fs) (face_at (classes_of fs) z) _) (sym e) (root_row fs _ refl refl)

pub returns-then-place-eq3 : goal.returns-then-place-eq3
returns-then-place-eq3 c = λ fs. single_row fs c.single.result c.args.place 1 c.requires (λ e. omega arith) (λ e. refl) (λ n. absurd (n (omega arith))) c.single.ensures.numbers c.single.ensures.count c.single.ensures.metaclass

pub returns-else-place-eq3 : goal.returns-else-place-eq3
returns-else-place-eq3 c = λ fs. single_row fs c.single-else-place-eq3.result c.args.place 0 c.requires (λ e. omega arith) (λ e. absurd (omega arith)) (λ n. refl)
    c.single-else-place-eq3.ensures.numbers c.single-else-place-eq3.ensures.count c.single-else-place-eq3.ensures.metaclass
