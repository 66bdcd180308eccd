use Rattle.std.proofs.Common.{ℕ, List, Some, sym, ap, ◌∙◌}
use Rattle.som_cliimage.specs.Programs.{client_at}
use Rattle.som_cliimage.proofs.Encoded.{image_of, read_back}
use Rattle.som_cliimage.proofs.client.encode.Goals as goal

pub returns-clause-image : goal.returns-clause-image
returns-clause-image c =
    image_of c.args.program.now c.requires.conforms c.in_ok-wire.wire c.in_ok-wire.ensures.fits c.in_ok-wire.ensures.names ∙ ap (λ (b : List ℕ). Some b) (sym c.in_ok-image.ensures)

pub returns-clause-read_back : goal.returns-clause-read_back
returns-clause-read_back c =
    ap client_at c.in_ok-image.ensures ∙ read_back c.args.program.now c.in_ok-wire.wire c.in_ok-wire.ensures.fits c.in_ok-wire.ensures.names
