use Rattle.std.proofs.Common.{◌≡◌, filter, map, take}
use Rattle.som_meta.specs.Numbering.{AreNumbered, key_at}
use Rattle.som_hooks.specs.Hooks.{is_hook}
use Rattle.som_hooks.proofs.hooks_among.Given as goal

abbrev pub invariant-loop-class : goal.invariant-loop-class
invariant-loop-class g l = record {
  numbered : AreNumbered (g.H.Ancestry.known l.known) l.hooks;
  keys : map (key_at (g.H.Ancestry.known l.known)) l.hooks ≡ filter (is_hook (g.H.Ancestry.known l.known).classes) (map (key_at (g.H.Ancestry.known l.known)) (take l.class-index l.classes));
}
