use Rattle.som_interp_calls.proofs.Freeing.{freed_fails, freed_keeps, freed_resumes}
use Rattle.som_interp_calls.proofs.values.to_freed.Goals as goal

pub returns-in-Ok-clause-resumes : goal.returns-in-Ok-clause-resumes
returns-in-Ok-clause-resumes c l kn main made t f value =
    freed_resumes l kn main made c.args.objects.now c.free.new.objects t f c.args.from c.args.object.now value c.in-Ok.ensures.keeps c.in-Ok.field-0
    (λ h holding mine. c.in-Ok.ensures.means l made t.serials t.statics.items h holding mine)

pub returns-in-Ok-clause-keeps : goal.returns-in-Ok-clause-keeps
returns-in-Ok-clause-keeps c l kn main made t f mine = freed_keeps l kn main made c.args.objects.now c.free.new.objects t f c.args.object.now c.in-Ok.ensures.others c.in-Ok.ensures.keeps c.in-Ok.ensures.count mine

pub returns-in-Err-clause-resumes : goal.returns-in-Err-clause-resumes
returns-in-Err-clause-resumes c l kn main made t f value =
    freed_fails l kn main made c.args.objects.now c.free.new.objects t f c.args.from c.args.object.now value c.in-Err.stopped c.stop.result c.stop.ensures c.in-Err.ensures.err
    (λ h holding mine. c.in-Err.ensures.means l made t.serials t.statics.items h holding mine)

pub returns-in-Err-clause-keeps : goal.returns-in-Err-clause-keeps
returns-in-Err-clause-keeps c l kn main made t f mine = freed_keeps l kn main made c.args.objects.now c.free.new.objects t f c.args.object.now c.in-Err.ensures.others c.in-Err.ensures.keeps c.in-Err.ensures.count mine
