-- The limits, said of every class and its members.
use Rattle.std.specs.Prelude.{ℕ, ◌≤◌, List, length}
use Rattle.som_model.specs.Lists.{Mem}
use Rattle.som_model.specs.declared.class.Sig.{Sig}
use Rattle.som_model.specs.declared.class.Way.{Way}
use Rattle.som_model.specs.declared.class.Entry.TheVariants as variants
use Rattle.som_model.specs.declared.limits.TheConstants.{MAX_ENTRIES, MAX_OVERRIDES, MAX_PARAMETERS, MAX_PARENTS, MAX_SELECTS, MAX_VARIABLES}
use Rattle.som_sema_drafts.specs.Drafts.{InterfaceDraft}
use Rattle.som_sema_drafts.specs.Items.{chosen}

-- the counts of each class are within the limits
pub record LimitsKept (ds : List InterfaceDraft) : Type 0 where
  pub parents : (d : InterfaceDraft) → Mem d ds → length d.class.face.parents ≤ MAX_PARENTS
  pub entries : (d : InterfaceDraft) → Mem d ds → length d.class.face.entries ≤ MAX_ENTRIES
  pub overrides : (d : InterfaceDraft) → Mem d ds → length d.class.overrides ≤ MAX_OVERRIDES
  pub selects : (d : InterfaceDraft) → Mem d ds → length (chosen d.text.items) ≤ MAX_SELECTS
  pub variables : (d : InterfaceDraft) → Mem d ds → length d.class.variables ≤ MAX_VARIABLES
  pub parameters : (d : InterfaceDraft) (name : List ℕ) (sig : Sig) (way : Way) → Mem d ds → Mem (variants.Introduced name sig way) d.class.face.entries → length sig.params ≤ MAX_PARAMETERS
