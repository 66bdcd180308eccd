use Rattle.som_towerimage.specs.Spelling.{tower_head}
use Rattle.som_towerimage.proofs.Encoded.{joined_are, image_of, spells_of, back_of}
use Rattle.som_towerimage.proofs.tower.encode_level.Goals as goal

pub returns-clause-image : goal.returns-clause-image
returns-clause-image c =
    let l = c.args.level.now in
    let whole = joined_are c.extend_from_slice.new.self c.in_ok-image.image c.as_slice.result.now (tower_head l.sizes l.client) c.in_ok-program.program c.in_ok-extend_from_slice.ensures.ok c.in_ok-image.ensures c.as_slice.ensures in
    image_of l c.requires.fits c.in_ok-program.program c.in_ok-program.ensures c.extend_from_slice.new.self whole

pub returns-clause-spelled : goal.returns-clause-spelled
returns-clause-spelled c =
    let l = c.args.level.now in
    let whole = joined_are c.extend_from_slice.new.self c.in_ok-image.image c.as_slice.result.now (tower_head l.sizes l.client) c.in_ok-program.program c.in_ok-extend_from_slice.ensures.ok c.in_ok-image.ensures c.as_slice.ensures in
    spells_of l c.requires.fits c.in_ok-program.program c.in_ok-program.ensures c.extend_from_slice.new.self whole

pub returns-clause-read_back : goal.returns-clause-read_back
returns-clause-read_back c =
    let l = c.args.level.now in
    let whole = joined_are c.extend_from_slice.new.self c.in_ok-image.image c.as_slice.result.now (tower_head l.sizes l.client) c.in_ok-program.program c.in_ok-extend_from_slice.ensures.ok c.in_ok-image.ensures c.as_slice.ensures in
    back_of l c.requires.fits c.in_ok-program.program c.in_ok-program.ensures c.extend_from_slice.new.self whole
