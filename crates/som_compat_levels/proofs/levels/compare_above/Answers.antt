use Rattle.std.proofs.Common.{◌∙◌, Option, ℕ, ap, subst}
use Rattle.som_model.specs.Compatible.{CompatBreach}
use Rattle.som_compat_levels.specs.Standing.{classes_of}
use Rattle.som_compat_levels.specs.Told.{TellsLevels}
use Rattle.som_compat_levels.proofs.Leveling.{first_is, standing}
use Rattle.som_compat_levels.proofs.levels.compare_above.Goals as goal

pub compare-requires-clause-old : goal.compare-requires-clause-old
compare-requires-clause-old c = standing c.args.olds.now (classes_of c.deref.result.now) c.requires.levels.old (ap classes_of c.deref.ensures.value ∙ c.in_ok-old_classes.ensures)

pub compare-requires-clause-new : goal.compare-requires-clause-new
compare-requires-clause-new c = standing c.args.news.now (classes_of c.deref-2.result.now) c.requires.levels.new (ap classes_of c.deref-2.ensures.value ∙ c.in_ok-new_classes.ensures)

pub returns : goal.returns
returns c = subst (λ (z : Option (ℕ × CompatBreach)). TellsLevels z c.compare.result)
    (first_is c.args.olds.now c.args.news.now (classes_of c.deref.result.now) (classes_of c.deref-2.result.now) (ap classes_of c.deref.ensures.value ∙ c.in_ok-old_classes.ensures) (ap classes_of c.deref-2.ensures.value ∙ c.in_ok-new_classes.ensures))
    c.compare.ensures
