use Rattle.std.proofs.Common.{refl}
use Rattle.som_code_cache.specs.Coded.{codes_of}
use Rattle.som_interp_state.proofs.Later.{own_frames_still}
use Rattle.som_interp_state.proofs.Objects.{heap_spared, serials_spared}
use Rattle.som_interp_state.proofs.Classes.{statics_still}
use Rattle.som_interp_state.proofs.laws.task_law.Goals as goal

pub returns : goal.returns
returns c k os new t fs h spared come = record {
  linked = come.linked;
  serials = serials_spared t.serials os new spared come.serials;
  frames = come.frames;
  own = own_frames_still k t.serials (codes_of t.codes) os new spared.known t.frames come.own;
  heap = heap_spared k t.serials os new h spared come.heap;
  statics = statics_still k t.serials os new t.statics.items h h spared.known (λ x. refl) come.statics;
}
