-- Hierarchies that are one but for the names of their classes.
use Rattle.std.specs.Prelude.{◌≡◌, Bool, true, map}
use Rattle.som_model.specs.Lists.{Mem}
use Rattle.som_model.specs.Hierarchy.{Hierarchy}

-- The map of names carries the classes that are known here to those of the other hierarchy: their parents are known too and go along in order, heights stay, and two are one where they were one.
pub record IsAlike {K L : Type 0} (g : Hierarchy K) (h : Hierarchy L) (rename : K → L) (is_known : K → Bool) : Type 0 where
  pub closed : (x p : K) → is_known x ≡ true → Mem p (g.parents x) → is_known p ≡ true
  pub parents : (x : K) → is_known x ≡ true → h.parents (rename x) ≡ map rename (g.parents x)
  pub height : (x : K) → is_known x ≡ true → h.height (rename x) ≡ g.height x
  pub same : (x y : K) → is_known x ≡ true → is_known y ≡ true → h.same (rename x) (rename y) ≡ g.same x y
