use Rattle.std.proofs.Common.{◌≡◌, ◌≤◌, take}
use Rattle.som_model.specs.declared.limits.TheConstants.{MAX_BYTES}
use Rattle.som_sources.specs.Sources.{bytes_in, names_of}
use Rattle.som_cmd_sources.proofs.TextLaws.{Got}
use Rattle.som_cmd_sources.proofs.texts.fetch_texts.Given as goal

abbrev pub invariant-loop-name : goal.invariant-loop-name
invariant-loop-name g l = record {
  got : Got (g.S.Store.files l.fn.store) (take l.name-index l.names) l.texts;
  counted : l.bytes ≡ bytes_in l.texts;
  within : l.bytes ≤ MAX_BYTES;
  named : names_of l.texts ≡ take l.name-index l.names;
  files : g.S.Store.files l.store ≡ g.S.Store.files l.fn.store;
  later : g.S.Store.faults l.fn.store ≤ g.S.Store.faults l.store;
  calm : g.S.Store.calm l.fn.store → g.S.Store.calm l.store;
}
