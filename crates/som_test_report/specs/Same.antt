-- When what came is what was wanted.
use Rattle.std.specs.Prelude.{◌≡◌}
use Rattle.som_test_report.specs.declared.compare.Value.{Value}
use Rattle.som_test_report.specs.declared.compare.Value.TheVariants.{Absent, Bytes, Status}

abbrev pub Same : Value → Value → Type 0
Same (Bytes wanted) (Bytes got) = wanted.now ≡ got.now
Same Absent Absent = Unit {0}
Same (Status wanted) (Status got) = wanted ≡ got
Same _ _ = ⊥
