-- What stays where no object is touched, and a parent's body that has ended.
use Rattle.std.proofs.Common.{ℕ, Bool, [], Option, Result, refl, sym, append-nil, arith}
use Rattle.som_model.specs.declared.key.ClassKey.{ClassKey}
use Rattle.som_model.specs.declared.syntax.Block.{Block}
use Rattle.som_meta.specs.Numbering.{Numbering}
use Rattle.som_code_cache.specs.Coded.{codes_of}
use Rattle.som_objects.specs.declared.cell.Cell.{Cell}
use Rattle.som_objects.specs.Objects.{Objects}
use Rattle.som_values.specs.declared.reference.Reference.{Reference}
use Rattle.som_trace.specs.declared.running.Place.{Place}
use Rattle.som_interp_state.specs.declared.body.Body.{Body}
use Rattle.som_interp_state.specs.declared.frames.Frames.{Frames}
use Rattle.som_interp_state.specs.declared.frames.Now.{Now}
use Rattle.som_interp_state.specs.declared.frames.Waiting.TheVariants as waits
use Rattle.som_interp_state.specs.declared.task.Task.{Task}
use Rattle.som_interp_state.specs.Settings.{Linked, instruction_at, method_named}
use Rattle.som_interp_loop.specs.declared.stop.Stop.{Stop}
use Rattle.som_interp_loop.specs.Scene.{Scene, scene, setting_of}
use Rattle.som_interp_loop.specs.Moving.{Keeps}
use Rattle.som_interp_calls.specs.Answering.{Resumes, answer_to}
use Rattle.som_interp_calls.specs.Parents.{Nexts}
use Rattle.som_interp_calls.proofs.Arguments.{usable}
use Rattle.som_interp_calls.proofs.Upwards.{me_usable}

-- more or less waits, and classes may be made
pub frames_keep : (l : Linked) (kn : Numbering) (main : Block) (made more : ClassKey → Bool) (os : Objects) (t : Task) (fr : Frames) (f : ℕ) → Keeps (scene l kn main made os t f) (scene l kn main more os (record t { frames = fr }) f)
frames_keep l kn main made more os t fr f = record {
  linked = refl;
  classes = refl;
  main = refl;
  codes = [];
  codes_are = sym (append-nil t.codes);
  serials = [];
  serials_are = sym (append-nil t.serials);
  granted = refl;
  begun = refl;
  known = λ r k. k;
  count = omega arith;
  others = λ n le other. refl;
  above = λ n m. absurd m;
}

-- the call of the next parent is what comes of the end of one's body
pub parent_resumes : (c c' : Scene) (levels : ℕ) (me : Option Reference) (from : Place) (parent code at : ℕ) (a : Body) (cell : Cell) (result : Result Now Stop)
    → Nexts c c' levels me from parent code (method_named (instruction_at (codes_of c.task.codes) code at)) a.operands.items result → Resumes c c' (waits.Parent levels me from parent code at a.operands) cell result
parent_resumes c c' levels me from parent code at a cell result nexts ws s meets fuel =
    nexts (answer_to c (waits.Parent levels me from parent code at a.operands) cell ws) ws s meets.around
    (me_usable c.linked c.made (setting_of c) c.objects me refl meets.own.0 meets.made_of.0.me) meets.own.1 meets.made_of.0.place
    (usable c.linked c.made c.task.serials c.objects a.operands.items meets.own.3 meets.made_of.2) meets.own.2 fuel refl
