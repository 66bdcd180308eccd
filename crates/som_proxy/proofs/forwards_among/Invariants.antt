use Rattle.std.proofs.Common.{◌≡◌, map, take}
use Rattle.std.specs.List.{flat_map}
use Rattle.som_meta.specs.Numbering.{AreTokens, key_at, method_at}
use Rattle.som_proxy.specs.Forwards.{forwards_of}
use Rattle.som_proxy.proofs.forwards_among.Given as goal

abbrev pub invariant-loop-class : goal.invariant-loop-class
invariant-loop-class g l = record {
  tokens : AreTokens (g.H.Ancestry.known l.known) l.tokens;
  methods : map (method_at (g.H.Ancestry.known l.known)) l.tokens ≡ flat_map (forwards_of (g.H.Ancestry.known l.known).classes) (map (key_at (g.H.Ancestry.known l.known)) (take l.class-index l.classes));
}
