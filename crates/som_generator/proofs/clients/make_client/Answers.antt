use Rattle.std.proofs.Common.{◌≤◌, List, sym, ap, subst}
use Rattle.som_model.specs.declared.class.ClassFace.{ClassFace}
use Rattle.som_model.specs.declared.limits.TheConstants.{MAX_BYTES}
use Rattle.som_model.specs.declared.program.Interface.{Interface}
use Rattle.som_model.specs.Class.{interface_of}
use Rattle.som_sources.specs.declared.source.Source.{Source}
use Rattle.som_sources.specs.Sources.{bytes_in}
use Rattle.som_generator.specs.Making.{Answers}
use Rattle.som_generator.specs.Steps.{ClientComes}
use Rattle.som_generator.proofs.Sizes.{client_small}
use Rattle.som_generator.proofs.clients.make_client.Goals as goal

pub build-requires-clause-bytes : goal.build-requires-clause-bytes
build-requires-clause-bytes c = subst (λ (ss : List Source). bytes_in ss ≤ MAX_BYTES) (sym c.in_ok-texts.ensures) (client_small c.args.count c.requires.few)

abbrev shown : List ClassFace → Interface
shown faces = record { classes = faces }

pub returns : goal.returns
returns c =
    subst (λ (ss : List Source). Answers (ClientComes (interface_of c.args.base.now) ss) c.build.result) c.in_ok-texts.ensures
    (subst (λ (i : Interface). Answers (ClientComes i c.in_ok-texts.texts) c.build.result) (ap shown c.in_ok-base.ensures) c.build.ensures)
