-- Counts of faults, and what a text leaves of what was written.
use Rattle.std.specs.Prelude.{◌≡◌, ℕ, ◌+◌, ◌-◌, ◌^◌, ◌≤◌, ⊤, List, ◌++◌, min, Option, Some, None}

-- a count rose in a call, or stands at 2^64 - 1 at its end, where it can't rise
abbrev pub Rose : ℕ → ℕ → Type 0
Rose before now = min (before + 1) (2 ^ 64 - 1) ≤ now

-- a front of the text was written, and not this rest of it, where the sink tells what was written
abbrev pub Shows : Option (List ℕ) → Option (List ℕ) → List ℕ → List ℕ → Type 0
Shows None new text rest = ⊤
Shows (Some old) new text rest = (shown : List ℕ) × (shown ++ rest ≡ text) × (new ≡ Some (old ++ shown))

-- the whole text was written, where the sink tells it
abbrev pub ShowsAll : Option (List ℕ) → Option (List ℕ) → List ℕ → Type 0
ShowsAll None new text = ⊤
ShowsAll (Some old) new text = new ≡ Some (old ++ text)

-- a front of the text was written, from none of it to all of it, where the sink tells it
abbrev pub ShowsFront : Option (List ℕ) → Option (List ℕ) → List ℕ → Type 0
ShowsFront old new text = (rest : List ℕ) × Shows old new text rest
