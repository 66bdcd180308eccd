-- What a class is made of, one level deep.
use Rattle.std.specs.Prelude.{◌≡◌, map}
use Rattle.som_model.specs.declared.key.ClassKey.{ClassKey}
use Rattle.som_model.specs.declared.key.ClassKey.TheVariants as keys
use Rattle.som_meta.specs.Numbering.{Numbering, key_at, IsNumbered, AreNumbered}
use Rattle.som_trace.specs.declared.key_view.KeyView.{KeyView}
use Rattle.som_trace.specs.declared.key_view.KeyView.TheVariants as views

-- the view shows the key: its module and name, or numbered classes that it is made of
abbrev pub IsView : Numbering → KeyView → ClassKey → Type 0
IsView k (views.Named m name) key = key ≡ keys.Named m name.now
IsView k (views.Derived parents) key = (key ≡ keys.Derived (map (key_at k) parents.now)) × AreNumbered k parents.now
IsView k (views.Proxy target) key = (key ≡ keys.Proxy (key_at k target)) × IsNumbered k target
