use Rattle.std.proofs.Common.{◌∙◌, sym, length, refl}
use Rattle.std.proofs.lemmas.Option.{slice_get_read}
use Rattle.som_class_methods.proofs.Owning.{name_there}
use Rattle.som_class_methods.proofs.entries.entry_place.Goals as goal

pub returns-then-has_name : goal.returns-then-has_name
returns-then-has_name c =
    let is = slice_get_read c.args.entries.now (length c.args.entries.now) c.loop-place.place c.index-entries-place.result refl c.loop-place-test.true c.index-entries-place.is in
    name_there c.args.entries.now c.loop-place.place c.index-entries-place.result c.args.name.now is (sym c.has_name.ensures ∙ c.if-has_name.true)
