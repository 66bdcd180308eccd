-- What was numbered can be written, whatever the ranges; and what is read of classes is within the limits.
use Rattle.std.proofs.Common.{ℕ, suc, ◌≤◌, ◌<◌, ◌^◌, List, [], ◌∷◌, length, map, arith}
use Rattle.std.specs.Prelude.{All}
use Rattle.std.specs.List.{AllByRecursion}
use Rattle.std.proofs.lemmas.List.{length-map}
use Rattle.std.proofs.lemmas.List.Sums.{count_by-le-length}
use Rattle.std.proofs.lemmas.List.Elements.{All-from_recursion, recursion_from_All}
use Rattle.som_model.specs.declared.limits.TheConstants.{MAX_ENTRIES}
use Rattle.som_model.specs.declared.key.ClassKey.{ClassKey}
use Rattle.som_model.specs.declared.class.Override.{Override}
use Rattle.som_model.specs.declared.class.Variable.{Variable}
use Rattle.som_model.specs.declared.class.ClassDecl.{ClassDecl}
use Rattle.som_image_fields.specs.declared.entry.WireEntry.{WireEntry}
use Rattle.som_image_fields.specs.declared.entry.WireEntry.TheVariants as entries
use Rattle.som_image_fields.specs.declared.face.WireFace.{WireFace}
use Rattle.som_image_fields.specs.declared.method.Ranges.{Ranges}
use Rattle.som_image_fields.specs.Spelling.{AreShort, FitsEntry, FitsFace, FitsMethod}
use Rattle.som_image_fields.specs.declared.syntax.WireBody.{WireBody}
use Rattle.som_image_fields.specs.declared.syntax.WireBody.TheVariants as bodies
use Rattle.som_image_fields.specs.declared.syntax.WireOverride.{WireOverride}
use Rattle.som_image_fields.specs.declared.syntax.WirePart.{WirePart}
use Rattle.som_image_fields.specs.declared.method.WireMethod.{WireMethod}
use Rattle.som_image_fields.specs.declared.selects.WireSelects.{WireSelects}
use Rattle.som_image_fields.specs.Fitting.{FitsVariable, FitsBody, FitsOverride, FitAscending, FitsSomePart}
use Rattle.som_wire.proofs.SomeFits.{part_some}
use Rattle.som_image_decode.specs.declared.directory.Directory.{Directory}
use Rattle.som_image_decode.specs.Naming.{key_at, kind_named, ranges_in}
use Rattle.som_image_decode.specs.BlockLimits.{TextWithin, BlockWithin}
use Rattle.som_image_decode.proofs.Places.{all_map, all_mapped}
use Rattle.som_image_classes.specs.ReadClasses.{is_introduced, introduced_count}
use Rattle.som_image_classes.specs.SpelledClasses.{FitsClass, FitsParts}
use Rattle.som_image_classes.specs.NamedClasses.{entry_named, face_named, variable_named, body_named, override_named, class_named, classes_named, select_named, selects_under, with_selects}
use Rattle.som_image_classes.specs.ClassLimits.{EntryWithin, FaceWithin, BodyWithin, ClassWithin}
use Rattle.som_image_classes.proofs.NamedSelects.{under_fits}
use Rattle.som_image_decode.proofs.NamedLimits.{named_is_within}

-- ---- what fits some ranges can be written

few_bodies : (f : WireFace) → length f.entries ≤ MAX_ENTRIES → introduced_count f < 2 ^ 16
few_bodies f h = let c = count_by-le-length is_introduced f.entries in omega (arith, c, h)

parts_some : (ranges : Ranges) → AreShort ranges → (fs : List WireFace) (ps : List WirePart) → AllByRecursion (λ (f : WireFace). length f.entries ≤ MAX_ENTRIES) fs → FitsParts ranges fs ps → AllByRecursion FitsSomePart ps
parts_some ranges short [] [] entries h = tt
parts_some ranges short [] (p ∷ ps) entries h = absurd h
parts_some ranges short (f ∷ fs) [] entries h = absurd h
parts_some ranges short (f ∷ fs) (p ∷ ps) entries h = (part_some ranges short (introduced_count f) (few_bodies f entries.0) p h.0, parts_some ranges short fs ps entries.1 h.1)

-- parts of such faces that fit some ranges can be written
pub parts_written : (ranges : Ranges) → AreShort ranges → (fs : List WireFace) (ps : List WirePart) → All (λ (f : WireFace). length f.entries ≤ MAX_ENTRIES) fs → FitsParts ranges fs ps → All FitsSomePart ps
parts_written ranges short fs ps few fits = All-from_recursion FitsSomePart ps (parts_some ranges short fs ps (recursion_from_All (λ (f : WireFace). length f.entries ≤ MAX_ENTRIES) fs few) fits)

-- ---- what is named is within the limits

all_named : {A W : Type 0} (Fits : W → Type 0) (Within : A → Type 0) (named : W → A) → ((w : W) → Fits w → Within (named w)) → (ws : List W) → All Fits ws → All Within (map named ws)
all_named Fits Within named f ws h = All-from_recursion Within (map named ws) (all_mapped Within named ws (all_map Fits (λ w. Within (named w)) f ws (recursion_from_All Fits ws h)))

module _ (ks : List ClassKey) (n : ℕ) where
  entry_within : (e : WireEntry) → FitsEntry n e → EntryWithin (entry_named ks e)
  entry_within (entries.Introduced name s w) h = (h.0, omega (arith, h.1.params.1, length-map s.params (kind_named ks)))
  entry_within (entries.Moved name to) h = h.0

  pub face_within : (f : WireFace) → FitsFace n f → FaceWithin (face_named ks f)
  face_within f h = record {
    name = h.name;
    major = h.major;
    minor = h.minor;
    some_parent = omega (arith, h.parents.0, length-map f.parents (key_at ks));
    parents = omega (arith, h.parents.1, length-map f.parents (key_at ks));
    entries = omega (arith, h.entries.1, length-map f.entries (entry_named ks));
    each_entry = all_named (FitsEntry n) EntryWithin (entry_named ks) entry_within f.entries h.entries.2;
  }

module _ (d : Directory) where
  abbrev Fits : WireBody → Type 0
  Fits = FitsBody (length d.keys) (FitsMethod (ranges_in d))

  body_within : (b : WireBody) → Fits b → BodyWithin (body_named d b)
  body_within (bodies.User b) h = named_is_within d (length d.keys) (FitsMethod (ranges_in d)) b h
  body_within (bodies.Get n) h = tt
  body_within (bodies.Set n) h = tt

  abbrev FitsHere : WireOverride → Type 0
  FitsHere = FitsOverride (length d.keys) (FitsMethod (ranges_in d))

  class_within : (n : ℕ) (f : WireFace) (p : WirePart) → FitsFace n f → FitsClass (ranges_in d) f p → ClassWithin (class_named d f p)
  class_within n f p fits h = record {
    face = face_within d.keys n f fits;
    variables = omega (arith, h.variables.1, length-map p.variables (variable_named d.keys));
    each_variable = all_named (FitsVariable (length d.keys)) (λ (v : Variable). TextWithin v.name) (variable_named d.keys) (λ v k. k.name) p.variables h.variables.2;
    each_body = all_named Fits BodyWithin (body_named d) body_within p.bodies h.bodies.1;
    overrides = omega (arith, h.overrides.1, length-map p.overrides (override_named d));
    selects = omega arith;
    each_override = all_named FitsHere (λ (o : Override). BlockWithin o.block) (override_named d) (λ o k. named_is_within d (length d.keys) (FitsMethod (ranges_in d)) o.block k.block) p.overrides h.overrides.2;
  }

  pub classes_within : (n : ℕ) (fs : List WireFace) (ps : List WirePart) → AllByRecursion (FitsFace n) fs → FitsParts (ranges_in d) fs ps → AllByRecursion ClassWithin (classes_named d fs ps)
  classes_within n [] ps fits h = tt
  classes_within n (f ∷ fs) [] fits h = tt
  classes_within n (f ∷ fs) (p ∷ ps) fits h = (class_within n f p fits.0 h.0, classes_within n fs ps fits.1 h.1)

  pub few_classes : (fs : List WireFace) (ps : List WirePart) → length (classes_named d fs ps) ≤ length fs
  few_classes [] ps = omega arith
  few_classes (f ∷ fs) [] = omega arith
  few_classes (f ∷ fs) (p ∷ ps) = let h = few_classes fs ps in omega (arith, h)

  -- and with selects that fit
  pub selecting_within : (classes : ℕ) (Method : WireMethod → Type 0) (least n : ℕ) (gs : List WireSelects) → FitAscending classes Method least gs → (ds : List ClassDecl) → AllByRecursion ClassWithin ds → AllByRecursion ClassWithin (with_selects d n gs ds)
  selecting_within classes Method least n gs fits [] h = tt
  selecting_within classes Method least n gs fits (c ∷ ds) h =
      let under = under_fits classes Method n least gs fits in (
        record {
          face = h.0.face;
          variables = h.0.variables;
          each_variable = h.0.each_variable;
          each_body = h.0.each_body;
          overrides = h.0.overrides;
          each_override = h.0.each_override;
          selects = omega (arith, under.0, length-map (selects_under n gs) (select_named d));
        },
        selecting_within classes Method least (suc n) gs fits ds h.1,
      )
