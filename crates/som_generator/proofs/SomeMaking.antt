-- The generator's texts come to something.
use Rattle.std.proofs.Common.{◌≡◌, ℕ, ◌≤◌, List, [], ◌∷◌, Option, Some, None, Result, Ok, Err, refl}
use Rattle.som_model.specs.declared.program.Interface.{Interface}
use Rattle.som_model.specs.declared.limits.TheConstants.{MAX_BYTES}
use Rattle.som_model.specs.Class.{interface_of}
use Rattle.som_model.specs.Compatible.{CompatBreach, first_break}
use Rattle.som_sources.specs.declared.fault.TextFault.{TextFault}
use Rattle.som_sources.specs.declared.source.Source.{Source}
use Rattle.som_sources.specs.Sources.{bytes_in, mains_in, names_of}
use Rattle.som_compile.specs.Compiling.{Compiles, CompilesClient, IsBase}
use Rattle.som_compile.proofs.CompileLaws.{some_compiling}
use Rattle.som_compile.proofs.ClientLaws.{some_client}
use Rattle.som_generator.specs.declared.edition.Edition.TheVariants.{First, Second}
use Rattle.som_generator.specs.declared.fault.Unmade.{Unmade}
use Rattle.som_generator.specs.declared.fault.Unmade.TheVariants as unmade
use Rattle.som_generator.specs.declared.limits.TheConstants.{MAX_CLASSES}
use Rattle.som_generator.specs.declared.made.Client.{Client}
use Rattle.som_generator.specs.declared.made.Library.{Library}
use Rattle.som_generator.specs.Making.{Makes, client_refused, first_refused, not_kept, second_refused}
use Rattle.som_generator.specs.Steps.{ClientComes, ComparingComes, LibraryComes}
use Rattle.som_generator.specs.Texts.{client_texts, library_texts}
use Rattle.som_generator.proofs.MakeLaws.{all_made, base_made}
use Rattle.som_generator.proofs.Sizes.{client_small, library_small}
use Rattle.som_generator.proofs.Standing.{some_client_of, some_library_of}

abbrev Comes_so : {A : Type 0} → (Result A Unmade → Type 0) → Type 0
Comes_so {A} Comes = (r : Result A Unmade) × Comes r

library_by : (ss : List Source) → (told : Result (List ℕ) TextFault) × Compiles ss told → Comes_so (LibraryComes ss)
library_by ss (Ok image, c) = let l = some_library_of ss image c in (Ok l.0, l.1)
library_by ss (Err w, c) = (Err (unmade.Texts w), c)

a_library : (ss : List Source) → bytes_in ss ≤ MAX_BYTES → Comes_so (LibraryComes ss)
a_library ss few = library_by ss (some_compiling ss few)

client_by : (base : Interface) (ss : List Source) → (told : Result (List ℕ) TextFault) × CompilesClient base ss told → Comes_so (ClientComes base ss)
client_by base ss (Ok image, c) = let d = some_client_of base ss image c in (Ok d.0, d.1)
client_by base ss (Err w, c) = (Err (unmade.Texts w), c)

a_client : (base : Interface) (ss : List Source) → IsBase base → mains_in (names_of ss) ≡ 1 → bytes_in ss ≤ MAX_BYTES → Comes_so (ClientComes base ss)
a_client base ss is one few = client_by base ss (some_client base ss is one few)

compared_by : (old new : Interface) (o : Option CompatBreach) → first_break old new ≡ o → Comes_so (ComparingComes old new)
compared_by old new None e = (Ok tt, e)
compared_by old new (Some b) e = (Err (unmade.NotKept (record { rule = b.rule; class = b.class; name = b.name; place = b.place })), e)

module _ (n : ℕ) (le : n ≤ MAX_CLASSES) where
  abbrev Told : Type 0
  Told = Comes_so (Makes n)

  after_client : (a b : Library) (c : Client) → LibraryComes (library_texts First n) (Ok a) → LibraryComes (library_texts Second n) (Ok b) → ClientComes (interface_of a.release) (client_texts n) (Ok c)
      → Comes_so (ComparingComes (interface_of a.release) (interface_of b.release)) → Told
  after_client a b c x y z (Ok u, k) = (Ok (record { first = a; second = b; client = c }), all_made n a b c u x y z k)
  after_client a b c x y z (Err (unmade.Texts w), k) = absurd k
  after_client a b c x y z (Err (unmade.NotKept lost), k) = (Err (unmade.NotKept lost), not_kept a b c lost x y z k)

  after_second : (a b : Library) → LibraryComes (library_texts First n) (Ok a) → LibraryComes (library_texts Second n) (Ok b) → Comes_so (ClientComes (interface_of a.release) (client_texts n)) → Told
  after_second a b x y (Ok c, z) = after_client a b c x y z (compared_by (interface_of a.release) (interface_of b.release) (first_break (interface_of a.release) (interface_of b.release)) refl)
  after_second a b x y (Err (unmade.Texts w), z) = (Err (unmade.Texts w), client_refused a b w x y z)
  after_second a b x y (Err (unmade.NotKept k), z) = absurd z

  after_first : (a : Library) → LibraryComes (library_texts First n) (Ok a) → Comes_so (LibraryComes (library_texts Second n)) → Told
  after_first a x (Ok b, y) = after_second a b x y (a_client (interface_of a.release) (client_texts n) (base_made n a x) refl (client_small n le))
  after_first a x (Err (unmade.Texts w), y) = (Err (unmade.Texts w), second_refused a w x y)
  after_first a x (Err (unmade.NotKept k), y) = absurd y

  after_none : Comes_so (LibraryComes (library_texts First n)) → Told
  after_none (Ok a, x) = after_first a x (a_library (library_texts Second n) (library_small Second n le))
  after_none (Err (unmade.Texts w), x) = (Err (unmade.Texts w), first_refused w x)
  after_none (Err (unmade.NotKept k), x) = absurd x

  pub some_making : Told
  some_making = after_none (a_library (library_texts First n) (library_small First n le))
