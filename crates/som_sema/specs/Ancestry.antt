-- Classes whose ancestors are listed.
use Rattle.std.specs.Prelude.{◌≡◌, ℕ, ◌<◌, List, [], length, map, slice_index_or, None}
use Rattle.som_model.specs.declared.key.Module.{Module}
use Rattle.som_model.specs.Lists.{Mem, first}
use Rattle.som_model.specs.Conforming.{each_after}
use Rattle.som_model.specs.Kernel.{kernel}
use Rattle.som_model.specs.Rules.{name_of, s1, s2}
use Rattle.som_model.specs.Class.{Class}
use Rattle.som_order.specs.Names.{texts}
use Rattle.som_verify_classes.specs.Modules.{AreDeclared}
use Rattle.som_verify_classes.specs.Places.{IsRows, with_kernel}
use Rattle.som_model_laws.specs.Rows.{AreAncestors}
use Rattle.som_sema_drafts.specs.Drafts.{InterfaceDraft, draft_class}
use Rattle.som_ast.specs.declared.interface.IdlInterface.{IdlInterface}
use Rattle.som_sema_scope.specs.Words.{once}
use Rattle.som_sema_drafts.specs.Items.{or_object, selecting}
use Rattle.som_sema.specs.declared.ancestry.AncestorTable.{AncestorTable}
use Rattle.som_sema.specs.declared.inherited.Selecting.{Selecting}
use Rattle.som_sema_names.specs.Ranking.{IsRanking}
use Rattle.som_sema_names.specs.declared.ranking.Ranking.{Ranking}

-- lists of places, made of the parents' places, are the ancestors of these classes
pub record AreAncestorLists (cs : List Class) (all : List (List ℕ)) : Type 0 where
  pub rows : List (List ℕ)
  pub are : IsRows (with_kernel cs) (length (with_kernel cs)) rows
  pub lists : AreAncestors rows (length rows) all

-- the names and the ancestors of these classes, of which no two have one name, and whose parents and metaclasses stand before them
pub record IsAncestorTable (cs : List Class) (w : AncestorTable) : Type 0 where
  pub declared : AreDeclared cs
  pub names : texts w.table.keys ≡ map name_of (with_kernel cs)
  pub apart : first (each_after s1 kernel cs) ≡ None
  pub stand : first (each_after s2 kernel cs) ≡ None
  pub lists : AreAncestorLists cs w.lists.items

-- the ranks of the ancestors of a class, beside the names and the ancestors of all classes
pub record Inherits (cs : List Class) (w : AncestorTable) (place : ℕ) (above : Ranking) : Type 0 where
  pub ancestors : IsAncestorTable cs w
  pub there : place < length (with_kernel cs)
  pub known : IsRanking (with_kernel cs) (slice_index_or w.lists.items place []) above

-- the methods with `select`, and the parents
pub record IsOfText (text : IdlInterface) (s : Selecting) : Type 0 where
  pub methods : texts s.methods.keys ≡ selecting text.items
  pub parents : texts s.parents.keys ≡ once (or_object text.parents)

-- each is the draft of its text
pub record AreDrafts (module_of : List ℕ → Module) (ds : List InterfaceDraft) : Type 0 where
  pub by : (d : InterfaceDraft) → Mem d ds → d.class ≡ draft_class module_of d.text
