use Rattle.std.proofs.Common.{ap, ◌∙◌}
use Rattle.som_model.specs.Lists.{among}
use Rattle.som_order.specs.Names.{texts}
use Rattle.som_image_encode.proofs.Numbering.{name_there, found_there, not_derived, not_proxy}
use Rattle.som_image_encode.proofs.lookup.number_of.Goals as goal

pub unreachable-requires : goal.unreachable-requires
unreachable-requires c = name_there (texts c.args.names.now.keys) c.args.directory.now c.requires.directory c.args.key.now c.requires.known c.in-Named.module c.in-Named.name c.in-Named.is (c.in-None.ensures.among ∙ ap (λ x. among x (texts c.args.names.now.keys)) c.as_slice.ensures)

pub unreachable-requires-in-Derived : goal.unreachable-requires-in-Derived
unreachable-requires-in-Derived c = not_derived (texts c.args.names.now.keys) c.args.directory.now c.requires.directory c.args.key.now c.requires.known _ c.in-Derived.is

pub unreachable-requires-in-Proxy : goal.unreachable-requires-in-Proxy
unreachable-requires-in-Proxy c = not_proxy (texts c.args.names.now.keys) c.args.directory.now c.requires.directory c.args.key.now c.requires.known _ c.in-Proxy.is

pub returns : goal.returns
returns c = found_there (texts c.args.names.now.keys) c.args.directory.now c.requires.directory c.args.key.now c.requires.known c.in-Named.module c.in-Named.name c.in-Some.place c.in-Named.is c.in-Some.ensures.some.0 (c.in-Some.ensures.some.1 ∙ c.as_slice.ensures)
