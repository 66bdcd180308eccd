-- Calls, of which some are to fail.
use Rattle.std.specs.Prelude.{ℕ, ◌+◌, ◌-◌, ◌^◌, ◌==◌, min, nat_lt, Bool, ◌&&◌, if◌then◌else◌}
use Rattle.std.specs.Prelude.{List, [], ◌∷◌, ◌++◌}
use Rattle.std.specs.List.{list_any}
use Rattle.som_io.specs.declared.counter.Counter.{Counter}

-- the numbers of the calls that are to fail, how many calls were made, and how many failed
pub record Calls : Type 0 where
  pub failing : List ℕ
  pub made : ℕ
  pub faults : ℕ

-- what a counter knows of the calls
abbrev pub counted_by : Counter → Calls
counted_by counter = record {
  failing = counter.failing.items;
  made = counter.made;
  faults = counter.faults;
}

-- before the first call, and where none is to fail
abbrev pub none_made : Calls
none_made = record { failing = []; made = 0; faults = 0 }

-- with one more call that is to fail
abbrev pub set_to_fail : Calls → ℕ → Calls
set_to_fail calls call = record {
  failing = calls.failing ++ call ∷ [];
  made = calls.made;
  faults = calls.faults;
}

-- whether the next call fails; calls are numbered from 0, and none of number 2^64 - 1 or more fails
abbrev pub fails_next : Calls → Bool
fails_next calls = nat_lt calls.made (2 ^ 64 - 1) && list_any (λ call. call == calls.made) calls.failing

-- after the next call, which is counted, and its fault if it fails; both counts stop at 2^64 - 1
abbrev pub after_next : Calls → Calls
after_next calls = record {
  failing = calls.failing;
  made = min (calls.made + 1) (2 ^ 64 - 1);
  faults = if fails_next calls then min (calls.faults + 1) (2 ^ 64 - 1) else calls.faults;
}
