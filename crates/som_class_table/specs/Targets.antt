-- The targets of proxies that have numbers.
use Rattle.std.specs.Prelude.{◌≡◌, ℕ, List}
use Rattle.som_model.specs.declared.key.ClassKey.{ClassKey}
use Rattle.som_model.specs.declared.key.ClassKey.TheVariants as keys
use Rattle.som_model.specs.declared.syntax.Block.{Block}
use Rattle.som_model.specs.Lists.{Mem}
use Rattle.som_model.specs.Class.{Class}
use Rattle.som_model.specs.Loads.{keys_of}
use Rattle.som_model.specs.Made.{IsMade}
use Rattle.som_meta.specs.Numbering.{IsNumbered, Numbering, key_at}

-- a declared class has this key
abbrev pub IsTarget : List Class → ClassKey → Type 0
IsTarget cs of = Mem of (keys_of cs)

-- each numbered proxy is that of a declared class
abbrev pub HaveTargets : Numbering → Type 0
HaveTargets k = (n : ℕ) (of : ClassKey) → IsNumbered k n → key_at k n ≡ keys.Proxy of → IsTarget k.classes of

-- each number stands for a class that is made for a run
abbrev pub AreMade : Numbering → Block → Type 0
AreMade k main = (n : ℕ) → IsNumbered k n → IsMade k.classes main (key_at k n)
