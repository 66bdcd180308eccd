use Rattle.std.proofs.Common.{◌≡◌, [], ◌∷◌, ◌++◌, refl, sym, ap, subst, ◌∙◌}
use Rattle.std.specs.Option.{option_to_list}
use Rattle.som_interp_loop.specs.Scene.{scene}
use Rattle.som_exec.specs.Came.{Came, in_place}
use Rattle.som_exec.proofs.StepCounting.{resumed_counted}
use Rattle.som_exec.proofs.Returning.{met, resumed_came}
use Rattle.som_exec.proofs.resuming.resume_next.Goals as goal

pub resume-requires : goal.resume-requires
resume-requires g c =
    let q = c.args.runtime.now in
    let f = c.requires.somewhere.0 in
    let was = scene (g.R.Runtime.linked q) (g.R.ClassKeys.known q) (g.R.Runtime.program q) (g.R.Classes.made q) c.args.objects.now c.args.task.now f in
    let rest = c.pop.new.self.items in
    let items : c.args.task.now.frames.waiting.items ≡ rest ++ c.in-Some.first ∷ [] = c.pop.ensures.items ∙ ap (λ o. rest ++ option_to_list o) c.in-Some.is in
    (f, met was c.take_value-value.result c.take_value-value.ensures.value c.in-Some.first rest items (record c.args.task.now.frames { now = c.take_value-value.new.now; waiting = c.pop.new.self }) refl c.requires.somewhere.1)

pub returns-clause-came : goal.returns-clause-came
returns-clause-came g c f there shows prefix written =
    let q = c.args.runtime.now in
    let was = scene (g.R.Runtime.linked q) (g.R.ClassKeys.known q) (g.R.Runtime.program q) (g.R.Classes.made q) c.args.objects.now c.args.task.now f in
    let end = scene (g.R.Runtime.linked q) (g.R.ClassKeys.known q) (g.R.Runtime.program q) (g.R.Classes.made q) c.resume.new.objects c.resume.new.task f in
    let rest = c.pop.new.self.items in
    let first = c.in-Some.first in
    let items : c.args.task.now.frames.waiting.items ≡ rest ++ first ∷ [] = c.pop.ensures.items ∙ ap (λ o. rest ++ option_to_list o) c.in-Some.is in
    let r = c.resume.result in
    subst (Came shows prefix written written was end) (sym (c.placed.ensures ∙ ap (λ p. in_place p r) c.place_of-place.ensures))
    (resumed_came was c.take_value-value.result c.take_value-value.ensures.value first rest items (record c.args.task.now.frames { now = c.take_value-value.new.now; waiting = c.pop.new.self }) refl end r (c.resume.ensures.resumes f) (c.resume.ensures.keeps f) refl there shows prefix written)

pub returns-clause-counted : goal.returns-clause-counted
returns-clause-counted g c f =
    let q = c.args.runtime.now in
    let was = scene (g.R.Runtime.linked q) (g.R.ClassKeys.known q) (g.R.Runtime.program q) (g.R.Classes.made q) c.args.objects.now c.args.task.now f in
    let rest = c.pop.new.self.items in
    let items : c.args.task.now.frames.waiting.items ≡ rest ++ c.in-Some.first ∷ [] = c.pop.ensures.items ∙ ap (λ o. rest ++ option_to_list o) c.in-Some.is in
    resumed_counted was _ _ c.take_value-value.result c.take_value-value.ensures.value c.in-Some.first rest items c.resume.ensures.steps c.resume.ensures.searches
