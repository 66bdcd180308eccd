use Rattle.std.proofs.Common.{None, refl}
use Rattle.som_trace.specs.declared.running.Place.TheVariants as places
use Rattle.som_interp_state.specs.declared.body.Zero.TheVariants as zero_values
use Rattle.som_interp_task.proofs.starting.first.Goals as goal

pub returns : goal.returns
returns c = record {
  body = record { levels = 4096; me = None; place = places.Main; zero = zero_values.Nil; code = 0; at = 0; operands = c.new.result; locals = c.new-2.result };
  is_main = record {
    levels = refl;
    me = refl;
    place = refl;
    zero_value = refl;
    code = refl;
    at = refl;
    operands = c.new.ensures.items;
    locals = c.new-2.ensures.items;
  };
  now = refl;
  waiting = c.new-3.ensures.items;
  codes = refl;
  statics = c.new-4.ensures.items;
  serials = c.new-5.ensures;
  granted = refl;
  begun = refl;
}
