-- Numbers and slots are named back to what they were made of, and they fit: classes, methods and faces.
use Rattle.std.proofs.Common.{◌≡◌, ℕ, ◌<◌, ◌≤◌, false, List, [], ◌∷◌, length, map, Option, Some, None, refl, ap, ◌∙◌, arith}
use Rattle.std.specs.Prelude.{IfSome}
use Rattle.som_model.specs.declared.limits.TheConstants.{MAX_PARAMETERS, MAX_PARENTS, MAX_ENTRIES}
use Rattle.som_model.specs.declared.key.ClassKey.{ClassKey}
use Rattle.som_model.specs.declared.key.ValueType.{ValueType}
use Rattle.som_model.specs.declared.class.Sig.{Sig}
use Rattle.som_model.specs.declared.class.Entry.{Entry}
use Rattle.som_model.specs.declared.class.Entry.TheVariants as named_entries
use Rattle.som_model.specs.declared.class.ClassFace.{ClassFace}
use Rattle.som_model.specs.Lists.{Mem}
use Rattle.som_image_fields.specs.Spelling.{FitsKind, FitsSig, FitsEntry, FitsFace}
use Rattle.som_image_decode.specs.Naming.{key_at, kind_named}
use Rattle.som_image_classes.specs.NamedClasses.{sig_named, entry_named, metaclass_named, face_named}
use Rattle.som_image_classes.specs.ClassLimits.{EntryWithin, FaceWithin}
use Rattle.som_image_encode.specs.Numbering.{number_of, kind_numbered, IsValue}
use Rattle.som_image_encode.specs.NumberedClasses.{sig_numbered, SigKnown, entry_numbered, EntryKnown, metaclass_numbered, face_numbered, FaceKnown}
use Rattle.som_image_encode.proofs.NumberedKinds.{TurnsBack, all_both, each_of, counted_turn, key_turns, kind_turns, value_turns}

-- ---- faces

abbrev a_sig : ValueType → List ValueType → Sig
a_sig result params = record { result = result; params = params }

abbrev a_face : ClassFace → List ClassKey → Option ClassKey → List Entry → ClassFace
a_face f ps m es = record { name = f.name; major = f.major; minor = f.minor; parents = ps; metaclass = m; entries = es }

module _ (ks : List ClassKey) where
  abbrev classes : ℕ
  classes = length ks

  sig_turns : (s : Sig) → SigKnown ks s → length s.params ≤ MAX_PARAMETERS → TurnsBack (FitsSig classes) (sig_named ks) (sig_numbered ks) s
  sig_turns s known few =
      let r = kind_turns ks s.result known.result in
      let ps = counted_turn (FitsKind classes false) (kind_named ks) (kind_numbered ks) 0 MAX_PARAMETERS s.params (omega arith) few (each_of (IsValue ks) (TurnsBack (FitsKind classes false) (kind_named ks) (kind_numbered ks)) (value_turns ks) s.params known.params) in
      record {
        fits = record { result = r.fits; params = ps.fits };
        names = ap (λ (t : ValueType). a_sig t (map (kind_named ks) (map (kind_numbered ks) s.params))) r.names ∙ ap (λ (ts : List ValueType). a_sig s.result ts) ps.names;
      }

  entry_turns : (e : Entry) → EntryKnown ks e → EntryWithin e → TurnsBack (FitsEntry classes) (entry_named ks) (entry_numbered ks) e
  entry_turns (named_entries.Introduced name s w) known within =
      let b = sig_turns s known within.1 in
      record { fits = (within.0, b.fits); names = ap (λ (x : Sig). named_entries.Introduced name x w) b.names }
  entry_turns (named_entries.Moved name to) known within =
      let b = key_turns ks to known in
      record { fits = (within, b.fits); names = ap (λ (k : ClassKey). named_entries.Moved name k) b.names }

  metaclass_turns : (m : Option ClassKey) → IfSome m (λ k. Mem k ks) → TurnsBack (λ (w : Option ℕ). IfSome w (λ n. n < classes)) (metaclass_named ks) (metaclass_numbered ks) m
  metaclass_turns None known = record { fits = tt; names = refl }
  metaclass_turns (Some k) known = let b = key_turns ks k known in record { fits = b.fits; names = ap (λ (x : ClassKey). Some x) b.names }

  pub face_turns : (f : ClassFace) → FaceKnown ks f → FaceWithin f → TurnsBack (FitsFace classes) (face_named ks) (face_numbered ks) f
  face_turns f known within =
      let ps = counted_turn (λ n. n < classes) (key_at ks) (number_of ks) 1 MAX_PARENTS f.parents within.some_parent within.parents (each_of (λ k. Mem k ks) (TurnsBack (λ n. n < classes) (key_at ks) (number_of ks)) (key_turns ks) f.parents known.parents) in
      let m = metaclass_turns f.metaclass known.metaclass in
      let es = counted_turn (FitsEntry classes) (entry_named ks) (entry_numbered ks) 0 MAX_ENTRIES f.entries (omega arith) within.entries (all_both (EntryKnown ks) EntryWithin (TurnsBack (FitsEntry classes) (entry_named ks) (entry_numbered ks)) entry_turns f.entries known.entries within.each_entry) in
      record {
        fits = record { name = within.name; major = within.major; minor = within.minor; parents = ps.fits; metaclass = m.fits; entries = es.fits };
        names = ap (λ (x : List ClassKey). a_face f x (metaclass_named ks (metaclass_numbered ks f.metaclass)) (map (entry_named ks) (map (entry_numbered ks) f.entries))) ps.names
            ∙ ap (λ (x : Option ClassKey). a_face f f.parents x (map (entry_named ks) (map (entry_numbered ks) f.entries))) m.names
            ∙ ap (λ (x : List Entry). a_face f f.parents f.metaclass x) es.names;
      }
