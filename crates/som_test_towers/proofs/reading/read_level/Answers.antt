use Rattle.som_test_towers.proofs.reading.read_level.Goals as goal

pub returns : goal.returns
returns c = record {
  counted = c.in_ok-level.ensures.counted;
  fits = c.in_ok-level.ensures.fits;
  levels = c.in_ok-has_place.ensures.levels;
  kind = c.in_ok-has_place.ensures.kind;
}
