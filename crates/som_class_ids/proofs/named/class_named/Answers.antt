use Rattle.std.proofs.Common.{None, ap, sym, ◌∙◌}
use Rattle.som_model.specs.Lists.{first_some}
use Rattle.som_model.specs.Loads.{keys_of}
use Rattle.som_class_ids.specs.Classes.{classes_of}
use Rattle.som_class_ids.specs.Levels.{found_in, levels_down}
use Rattle.som_class_ids.specs.Numbers.{at}
use Rattle.som_class_ids.proofs.Naming.{in_kernel, in_library, in_upper}
use Rattle.som_class_ids.proofs.named.class_named.Goals as goal

pub returns-then-is_some-2-clause-key : goal.returns-then-is_some-2-clause-key
returns-then-is_some-2-clause-key c =
    let cs = classes_of c.args.classes.now in
    in_upper cs c.args.name.now (at (keys_of cs)) c.find_in-client.result c.find_in_levels-upper.result None None c.find_in-client.ensures.key (sym c.is_some.ensures ∙ c.if-is_some.false)
    (c.find_in_levels-upper.ensures.key ∙ ap (λ n. first_some (found_in cs c.args.name.now) (levels_down n)) c.requires.highest) (sym c.is_some-2.ensures ∙ c.if-is_some-2.true)

pub returns-then-is_some-3-clause-key : goal.returns-then-is_some-3-clause-key
returns-then-is_some-3-clause-key c =
    let cs = classes_of c.args.classes.now in
    in_library cs c.args.name.now (at (keys_of cs)) c.find_in-client.result c.find_in_levels-upper.result c.find_in-library.result None c.find_in-client.ensures.key (sym c.is_some.ensures ∙ c.if-is_some.false)
    (c.find_in_levels-upper.ensures.key ∙ ap (λ n. first_some (found_in cs c.args.name.now) (levels_down n)) c.requires.highest) (sym c.is_some-2.ensures ∙ c.if-is_some-2.false)
    c.find_in-library.ensures.key (sym c.is_some-3.ensures ∙ c.if-is_some-3.true)

pub returns-clause-key : goal.returns-clause-key
returns-clause-key c =
    let cs = classes_of c.args.classes.now in
    in_kernel cs c.args.name.now (at (keys_of cs)) c.find_in-client.result c.find_in_levels-upper.result c.find_in-library.result c.find_in.result c.find_in-client.ensures.key (sym c.is_some.ensures ∙ c.if-is_some.false)
    (c.find_in_levels-upper.ensures.key ∙ ap (λ n. first_some (found_in cs c.args.name.now) (levels_down n)) c.requires.highest) (sym c.is_some-2.ensures ∙ c.if-is_some-2.false)
    c.find_in-library.ensures.key (sym c.is_some-3.ensures ∙ c.if-is_some-3.false) c.find_in.ensures.key
