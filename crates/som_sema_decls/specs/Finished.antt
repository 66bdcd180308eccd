-- What an interface declares, with the classes that introduce what was moved up and what is overridden.
use Rattle.std.specs.Prelude.{ℕ, suc, List, [], ◌∷◌, map, Option, Some, None, unwrap_or}
use Rattle.std.specs.Str.{bytes_eq}
use Rattle.som_model.specs.declared.key.Module.{Module}
use Rattle.som_model.specs.declared.key.ClassKey.{ClassKey}
use Rattle.som_model.specs.declared.class.Entry.{Entry}
use Rattle.som_model.specs.declared.class.Entry.TheVariants as entries
use Rattle.som_model.specs.declared.class.Override.{Override}
use Rattle.som_model.specs.declared.class.ClassDecl.{ClassDecl}
use Rattle.som_model.specs.declared.class.Select.{Select}
use Rattle.som_model.specs.Lists.{among, find, place_from}
use Rattle.som_model.specs.Class.{Class, class_in, entry_of, introduced}
use Rattle.som_model.specs.Classes.{ancestors}
use Rattle.som_model.specs.EffectiveOrder.{effective_order}
use Rattle.som_model.specs.Rules.{introduced_by}
use Rattle.som_verify_classes.specs.Places.{key_at}
use Rattle.som_sema_drafts.specs.Items.{Chosen, chosen, listed, or_object, overridden}
use Rattle.som_sema_drafts.specs.Drafts.{InterfaceDraft}

-- the first ancestor of a class that introduces the name, and the class itself where none does
abbrev pub introducer : List Class → ClassKey → List ℕ → ClassKey
introducer cs k name = unwrap_or (find (λ a. among name (introduced_by cs a)) (ancestors cs k)) k

abbrev pub entry_or_moved : ClassKey → List ℕ → Option Entry → Entry
entry_or_moved to name None = entries.Moved name to
entry_or_moved to name (Some e) = e

-- the entry of a name in the release order: what the class introduces, and else the name moved to its introducer
abbrev pub entry_for : List Class → ClassKey → List Entry → List ℕ → Entry
entry_for cs k own name = entry_or_moved (introducer cs k name) name (entry_of own name)

abbrev pub override_of : List Class → ClassKey → List ℕ → Override
override_of cs k name = record { method = record { class = introducer cs k name; name = name }; block = record { statements = [] } }

-- the place of a name among names, and 0 where it is none of them
abbrev pub place_of : List (List ℕ) → List ℕ → ℕ
place_of names name = unwrap_or (place_from 0 (bytes_eq name) names) 0

-- what is selected: the method with its introducer, and the place of the parent that is named
abbrev pub select_of : List Class → ClassKey → List (List ℕ) → Chosen → Select
select_of cs k parents s = record { method = record { class = introducer cs k s.method; name = s.method }; parent = place_of parents s.parent }

-- what the text of the class of a key selects
abbrev pub selects_at : List Class → ClassKey → InterfaceDraft → List Select
selects_at cs k d = map (select_of cs k (or_object d.text.parents)) (chosen d.text.items)

-- the declaration of the class of a key: its entries in the effective order, and an override with an empty block for each that the text has
abbrev pub declare_at : List Class → ClassKey → InterfaceDraft → ClassDecl
declare_at cs k d = record {
  face = record d.class.face { entries = map (entry_for cs k d.class.face.entries) (effective_order (listed d.text.items) (introduced d.class.face.entries)) };
  variables = d.class.variables;
  bodies = [];
  overrides = map (override_of cs k) (overridden d.text.items);
  selects = [];
}

-- the declaration of a class of a module
abbrev pub declare : List Class → Module → InterfaceDraft → ClassDecl
declare cs m d = declare_at cs (class_in m d.class).key d

-- the declaration of a class of a module with what its text selects, over all classes as they are declared
abbrev pub declare_selecting : List Class → List Class → Module → InterfaceDraft → ClassDecl
declare_selecting cs all m d = record (declare cs m d) { selects = selects_at all (class_in m d.class).key d }

-- the declarations of classes by the keys that they have from a place on
abbrev pub declared_from : List Class → ℕ → List InterfaceDraft → List ClassDecl
declared_from cs place [] = []
declared_from cs place (d ∷ ds) = declare_at cs (key_at cs place) d ∷ declared_from cs (suc place) ds
