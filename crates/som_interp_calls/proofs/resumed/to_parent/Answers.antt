use Rattle.std.proofs.Common.{None, refl}
use Rattle.som_code_cache.specs.Coded.{codes_of}
use Rattle.som_trace.specs.declared.running.Place.TheVariants as places
use Rattle.som_interp_state.specs.declared.body.Zero.TheVariants as zeros
use Rattle.som_interp_state.specs.Settings.{instruction_at, method_named}
use Rattle.som_interp_loop.specs.Scene.{scene}
use Rattle.som_interp_calls.proofs.Staying.{parent_resumes}
use Rattle.som_interp_calls.proofs.resumed.to_parent.Goals as goal

pub returns-clause-resumes : goal.returns-clause-resumes
returns-clause-resumes g c os f value =
    let r = c.args.runtime.now in
    let l = g.R.Runtime.linked r in
    let t = c.args.task.now in
    parent_resumes (scene l (g.R.ClassKeys.known r) (g.R.Runtime.program r) (g.R.Classes.made r) os t f) (scene l (g.R.ClassKeys.known r) (g.R.Runtime.program r) (g.R.Classes.made r) os (record t { frames = c.next_call.new.frames }) f)
    c.args.levels c.args.me c.args.from c.args.parent c.args.code c.args.at (record { levels = 0; me = None; place = places.Main; zero = zeros.Nil; code = 0; at = 0; operands = c.args.args; locals = c.args.args }) value c.next_call.result
    (c.next_call.ensures.nexts os t f (method_named (instruction_at (codes_of t.codes) c.args.code c.args.at)) refl c.method_named-method.ensures.method refl)
