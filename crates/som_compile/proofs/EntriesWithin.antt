-- Entries are within the limits of images: those of the kernel, and those whose name and parameters are.
use Rattle.std.proofs.Common.{◌≡◌, ℕ, ◌≤◌, ◌&&◌, Bool, true, false, nat_le, List, length, refl, leb-true}
use Rattle.std.specs.List.{AllByRecursion}
use Rattle.som_model.specs.declared.limits.TheConstants.{MAX_PARAMETERS, MAX_TEXT}
use Rattle.som_model.specs.declared.class.Sig.{Sig}
use Rattle.som_model.specs.declared.class.Way.{Way}
use Rattle.som_model.specs.declared.class.Entry.{Entry}
use Rattle.som_model.specs.declared.class.Entry.TheVariants as entries
use Rattle.som_model.specs.Lists.{every}
use Rattle.som_model.specs.Class.{Class}
use Rattle.som_model.specs.Kernel.{kernel}
use Rattle.som_model_laws.proofs.Lists.{every_mem}
use Rattle.som_image_classes.specs.ClassLimits.{EntryWithin}
use Rattle.som_compile.proofs.InterfacesWithin.{Named, all_members}

-- ---- entries of the kernel

abbrev short_entry : Entry → Bool
short_entry (entries.Introduced name sig way) = nat_le (length name) MAX_TEXT && nat_le (length sig.params) MAX_PARAMETERS
short_entry (entries.Moved name to) = nat_le (length name) MAX_TEXT

both_true : (a b : Bool) → (a && b) ≡ true → (a ≡ true) × (b ≡ true)
both_true true true e = (refl, refl)
both_true true false e = cc
both_true false b e = cc

short_within : (e : Entry) → short_entry e ≡ true → EntryWithin e
short_within (entries.Introduced name sig way) e =
    let p = both_true (nat_le (length name) MAX_TEXT) (nat_le (length sig.params) MAX_PARAMETERS) e in
    (leb-true (length name) MAX_TEXT p.0, leb-true (length sig.params) MAX_PARAMETERS p.1)
short_within (entries.Moved name to) e = leb-true (length name) MAX_TEXT e

abbrev short_class : Class → Bool
short_class c = every short_entry c.decl.face.entries

abbrev pub EntriesFit : Class → Type 0
EntriesFit c = AllByRecursion EntryWithin c.decl.face.entries

kernel_short : every short_class kernel ≡ true
kernel_short = refl

pub kernel_within : AllByRecursion EntriesFit kernel
kernel_within =
    all_members EntriesFit kernel (λ c m. all_members EntryWithin c.decl.face.entries (λ e n.
    short_within e (every_mem short_entry e c.decl.face.entries (every_mem short_class c kernel kernel_short m) n)))

-- ---- entries that are declared

pub entry_within : (e : Entry) → Named e → ((name : List ℕ) (sig : Sig) (way : Way) → e ≡ entries.Introduced name sig way → length sig.params ≤ MAX_PARAMETERS) → EntryWithin e
entry_within (entries.Introduced name sig way) named few = (named, few name sig way refl)
entry_within (entries.Moved name to) named few = named
