use Rattle.std.proofs.Common.{◌≤◌, List, sym, subst}
use Rattle.som_model.specs.declared.limits.TheConstants.{MAX_BYTES}
use Rattle.som_sources.specs.declared.source.Source.{Source}
use Rattle.som_sources.specs.Sources.{bytes_in}
use Rattle.som_generator.proofs.Sizes.{library_small}
use Rattle.som_generator.proofs.libraries.make_library.Goals as goal

pub build-requires-clause-bytes : goal.build-requires-clause-bytes
build-requires-clause-bytes c = subst (λ (ss : List Source). bytes_in ss ≤ MAX_BYTES) (sym c.in_ok-texts.ensures) (library_small c.args.edition c.args.count c.requires)
