use Rattle.std.proofs.Common.{sym, subst}
use Rattle.som_interp_loop.specs.Scene.{scene}
use Rattle.som_interp_loop.specs.Moving.{Keeps}
use Rattle.som_interp_calls.specs.Answering.{Resumes}
use Rattle.som_interp_calls.proofs.Staying.{frames_keep}
use Rattle.som_interp_calls.proofs.resumed.resume.Goals as goal

pub returns-in-Call-clause-resumes : goal.returns-in-Call-clause-resumes
returns-in-Call-clause-resumes g c f =
    let r = c.args.runtime.now in
    let now = scene (g.R.Runtime.linked r) (g.R.ClassKeys.known r) (g.R.Runtime.program r) (g.R.Classes.made r) c.args.objects.now c.args.task.now f in
    subst (λ z. Resumes now now z c.args.value c.to_body.result) (sym c.in-Call.is) (c.to_body.ensures now)

pub returns-in-Object-clause-resumes : goal.returns-in-Object-clause-resumes
returns-in-Object-clause-resumes g c f =
    let r = c.args.runtime.now in
    let now = scene (g.R.Runtime.linked r) (g.R.ClassKeys.known r) (g.R.Runtime.program r) (g.R.Classes.made r) c.args.objects.now c.args.task.now f in
    subst (λ z. Resumes now now z c.args.value c.to_object.result) (sym c.in-Object.is) (c.to_object.ensures f)

pub returns-in-Uninit-clause-resumes : goal.returns-in-Uninit-clause-resumes
returns-in-Uninit-clause-resumes g c f =
    let r = c.args.runtime.now in
    let now = scene (g.R.Runtime.linked r) (g.R.ClassKeys.known r) (g.R.Runtime.program r) (g.R.Classes.made r) c.args.objects.now c.args.task.now f in
    subst (λ z. Resumes now (scene (g.R.Runtime.linked r) (g.R.ClassKeys.known r) (g.R.Runtime.program r) (g.R.Classes.made r) c.to_freed.new.objects c.args.task.now f) z c.args.value c.to_freed.result) (sym c.in-Uninit.is) (c.to_freed.ensures.resumes (g.R.Runtime.linked r) (g.R.ClassKeys.known r) (g.R.Runtime.program r) (g.R.Classes.made r) c.args.task.now f c.args.value)

pub returns-in-Name-clause-resumes : goal.returns-in-Name-clause-resumes
returns-in-Name-clause-resumes g c f =
    let r = c.args.runtime.now in
    let now = scene (g.R.Runtime.linked r) (g.R.ClassKeys.known r) (g.R.Runtime.program r) (g.R.Classes.made r) c.args.objects.now c.args.task.now f in
    subst (λ z. Resumes now now z c.args.value c.to_name.result) (sym c.in-Name.is) (c.to_name.ensures.resumes f)

pub returns-in-Parent-clause-resumes : goal.returns-in-Parent-clause-resumes
returns-in-Parent-clause-resumes g c f =
    let r = c.args.runtime.now in
    let now = scene (g.R.Runtime.linked r) (g.R.ClassKeys.known r) (g.R.Runtime.program r) (g.R.Classes.made r) c.args.objects.now c.args.task.now f in
    subst (λ z. Resumes now (scene (g.R.Runtime.linked r) (g.R.ClassKeys.known r) (g.R.Runtime.program r) (g.R.Classes.made r) c.args.objects.now c.to_parent.new.task f) z c.args.value c.to_parent.result) (sym c.in-Parent.is) (c.to_parent.ensures.resumes c.args.objects.now f c.args.value)

pub returns-in-Call-clause-keeps : goal.returns-in-Call-clause-keeps
returns-in-Call-clause-keeps g c f = frames_keep (g.R.Runtime.linked c.args.runtime.now) (g.R.ClassKeys.known c.args.runtime.now) (g.R.Runtime.program c.args.runtime.now) (g.R.Classes.made c.args.runtime.now) (g.R.Classes.made c.args.runtime.now) c.args.objects.now c.args.task.now c.args.task.now.frames f

pub returns-in-Hook-clause-keeps : goal.returns-in-Hook-clause-keeps
returns-in-Hook-clause-keeps g c f = frames_keep (g.R.Runtime.linked c.args.runtime.now) (g.R.ClassKeys.known c.args.runtime.now) (g.R.Runtime.program c.args.runtime.now) (g.R.Classes.made c.args.runtime.now) (g.R.Classes.made c.args.runtime.now) c.args.objects.now c.args.task.now c.args.task.now.frames f

pub returns-in-Method-clause-keeps : goal.returns-in-Method-clause-keeps
returns-in-Method-clause-keeps g c f = frames_keep (g.R.Runtime.linked c.args.runtime.now) (g.R.ClassKeys.known c.args.runtime.now) (g.R.Runtime.program c.args.runtime.now) (g.R.Classes.made c.args.runtime.now) (g.R.Classes.made c.args.runtime.now) c.args.objects.now c.args.task.now c.args.task.now.frames f

pub returns-in-Object-clause-keeps : goal.returns-in-Object-clause-keeps
returns-in-Object-clause-keeps g c f = frames_keep (g.R.Runtime.linked c.args.runtime.now) (g.R.ClassKeys.known c.args.runtime.now) (g.R.Runtime.program c.args.runtime.now) (g.R.Classes.made c.args.runtime.now) (g.R.Classes.made c.args.runtime.now) c.args.objects.now c.args.task.now c.args.task.now.frames f

pub returns-in-Init-clause-keeps : goal.returns-in-Init-clause-keeps
returns-in-Init-clause-keeps g c f = frames_keep (g.R.Runtime.linked c.args.runtime.now) (g.R.ClassKeys.known c.args.runtime.now) (g.R.Runtime.program c.args.runtime.now) (g.R.Classes.made c.args.runtime.now) (g.R.Classes.made c.args.runtime.now) c.args.objects.now c.args.task.now c.args.task.now.frames f

pub returns-in-Name-clause-keeps : goal.returns-in-Name-clause-keeps
returns-in-Name-clause-keeps g c f = frames_keep (g.R.Runtime.linked c.args.runtime.now) (g.R.ClassKeys.known c.args.runtime.now) (g.R.Runtime.program c.args.runtime.now) (g.R.Classes.made c.args.runtime.now) (g.R.Classes.made c.args.runtime.now) c.args.objects.now c.args.task.now c.args.task.now.frames f

pub returns-in-Parent-clause-keeps : goal.returns-in-Parent-clause-keeps
returns-in-Parent-clause-keeps g c f =
    let r = c.args.runtime.now in
    subst (λ t. Keeps (scene (g.R.Runtime.linked r) (g.R.ClassKeys.known r) (g.R.Runtime.program r) (g.R.Classes.made r) c.args.objects.now c.args.task.now f) (scene (g.R.Runtime.linked r) (g.R.ClassKeys.known r) (g.R.Runtime.program r) (g.R.Classes.made r) c.args.objects.now t f))
    (sym c.to_parent.ensures.same)
    (frames_keep (g.R.Runtime.linked r) (g.R.ClassKeys.known r) (g.R.Runtime.program r) (g.R.Classes.made r) (g.R.Classes.made r) c.args.objects.now c.args.task.now c.to_parent.new.task.frames f)
