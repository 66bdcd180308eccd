-- Parts with numbers and slots are named back to what they were made of, and they fit.
use Rattle.std.proofs.Common.{◌≡◌, ℕ, ◌<◌, ◌^◌, List, length, map, refl, sym, ap, ◌∙◌, arith}
use Rattle.std.specs.List.{count_by, AllByRecursion}
use Rattle.std.proofs.lemmas.List.{length-map}
use Rattle.som_model.specs.declared.limits.TheConstants.{MAX_VARIABLES, MAX_OVERRIDES}
use Rattle.som_model.specs.declared.key.MethodRef.{MethodRef}
use Rattle.som_model.specs.declared.key.ValueType.{ValueType}
use Rattle.som_model.specs.declared.syntax.Block.{Block}
use Rattle.som_model.specs.declared.class.Body.{Body}
use Rattle.som_model.specs.declared.class.Body.TheVariants as named_bodies
use Rattle.som_model.specs.declared.class.Variable.{Variable}
use Rattle.som_model.specs.declared.class.Override.{Override}
use Rattle.som_model.specs.declared.class.Select.{Select}
use Rattle.som_model.specs.declared.class.ClassFace.{ClassFace}
use Rattle.som_model.specs.declared.class.ClassDecl.{ClassDecl}
use Rattle.som_model.specs.Class.{introduced}
use Rattle.som_image_fields.specs.Spelling.{FitsFace, FitsMethod}
use Rattle.som_image_fields.specs.declared.syntax.WireBody.{WireBody}
use Rattle.som_image_fields.specs.declared.syntax.WireOverride.{WireOverride}
use Rattle.som_image_fields.specs.Fitting.{FitsVariable, FitsBody, FitsOverride}
use Rattle.som_image_decode.specs.declared.directory.Directory.{Directory}
use Rattle.som_image_decode.specs.Naming.{ranges_in}
use Rattle.som_image_encode.specs.Numbering.{IsValue}
use Rattle.som_image_decode.specs.NamedBlocks.{block_named}
use Rattle.som_image_encode.specs.NumberedBlocks.{block_numbered}
use Rattle.som_image_decode.specs.BlockLimits.{TextWithin}
use Rattle.som_image_encode.proofs.NumberedKinds.{TurnsBack, all_both, each_of, counted_turn, method_turns, value_turns}
use Rattle.som_image_encode.proofs.TurnedBlocks.{ready_turns}
use Rattle.som_image_classes.specs.ReadClasses.{is_introduced}
use Rattle.som_image_classes.specs.SpelledClasses.{FitsClass}
use Rattle.som_image_classes.specs.NamedClasses.{variable_named, body_named, override_named, class_named}
use Rattle.som_image_classes.specs.ClassLimits.{ClassWithin}
use Rattle.som_image_encode.specs.NumberedClasses.{variable_numbered, body_numbered, override_numbered, BodyReady, OverrideReady, entry_numbered, face_numbered, part_numbered, ClassKnown}
use Rattle.som_image_classes.proofs.NamedParts.{a_class, plain, introduced_is}
use Rattle.som_image_laws.proofs.NumberedFaces.{face_turns}

abbrev a_variable : List ℕ → ValueType → Variable
a_variable name kind = record { name = name; kind = kind }

abbrev an_override : MethodRef → Block → Override
an_override method block = record { method = method; block = block }

module _ (d : Directory) where
  abbrev classes : ℕ
  classes = length d.keys

  abbrev FitsBodyHere : WireBody → Type 0
  FitsBodyHere = FitsBody classes (FitsMethod (ranges_in d))

  abbrev FitsOverrideHere : WireOverride → Type 0
  FitsOverrideHere = FitsOverride classes (FitsMethod (ranges_in d))

  variable_turns : (v : Variable) → IsValue d.keys v.kind → TextWithin v.name → TurnsBack (FitsVariable classes) (variable_named d.keys) (variable_numbered d.keys) v
  variable_turns v known within =
      let k = value_turns d.keys v.kind known in
      record { fits = record { name = within; kind = k.fits }; names = ap (λ (x : ValueType). a_variable v.name x) k.names }

  body_turns : (b : Body) → BodyReady d b → TurnsBack FitsBodyHere (body_named d) (body_numbered d) b
  body_turns (named_bodies.User b) ready = let t = ready_turns d b ready in record { fits = t.fits; names = ap named_bodies.User t.names }
  body_turns (named_bodies.Get n) ready = record { fits = ready; names = refl }
  body_turns (named_bodies.Set n) ready = record { fits = ready; names = refl }

  override_turns : (o : Override) → OverrideReady d o → TurnsBack FitsOverrideHere (override_named d) (override_numbered d) o
  override_turns o ready =
      let m = method_turns d o.method ready.method in
      let b = ready_turns d o.block ready.block in
      record {
        fits = record { method = m.fits; block = b.fits };
        names = ap (λ (x : MethodRef). an_override x (block_named d (block_numbered d o.block))) m.names ∙ ap (λ (x : Block). an_override o.method x) b.names;
      }

  -- a class with as many bodies as it introduces entries, whose selects name a parent by a byte
  pub record ClassReady (c : ClassDecl) : Type 0 where
    pub known : ClassKnown d c
    pub within : ClassWithin c
    pub as_many : length c.bodies ≡ length (introduced c.face.entries)
    pub selects : AllByRecursion (λ (s : Select). s.parent < 2 ^ 8) c.selects

  pub record ClassTurns (c : ClassDecl) : Type 0 where
    pub face : FitsFace classes (face_numbered d.keys c.face)
    pub fits : FitsClass (ranges_in d) (face_numbered d.keys c.face) (part_numbered d c)
    pub names : class_named d (face_numbered d.keys c.face) (part_numbered d c) ≡ plain c

  pub class_turns : (c : ClassDecl) → ClassReady c → ClassTurns c
  class_turns c ready =
      let known = ready.known in
      let within = ready.within in
      let f = face_turns d.keys c.face known.face within.face in
      let vs = counted_turn (FitsVariable classes) (variable_named d.keys) (variable_numbered d.keys) 0 MAX_VARIABLES c.variables (omega arith) within.variables (all_both (λ (v : Variable). IsValue d.keys v.kind) (λ (v : Variable). TextWithin v.name) (TurnsBack (FitsVariable classes) (variable_named d.keys) (variable_numbered d.keys)) variable_turns c.variables known.variables within.each_variable) in
      let bs = counted_turn FitsBodyHere (body_named d) (body_numbered d) 0 (length c.bodies) c.bodies (omega arith) (omega arith) (each_of (BodyReady d) (TurnsBack FitsBodyHere (body_named d) (body_numbered d)) body_turns c.bodies known.bodies) in
      let os = counted_turn FitsOverrideHere (override_named d) (override_numbered d) 0 MAX_OVERRIDES c.overrides (omega arith) within.overrides (each_of (OverrideReady d) (TurnsBack FitsOverrideHere (override_named d) (override_numbered d)) override_turns c.overrides known.overrides) in
      let entries : length (introduced c.face.entries) ≡ count_by is_introduced (map (entry_numbered d.keys) c.face.entries) =
      ap (λ (x : ClassFace). length (introduced x.entries)) (sym f.names) ∙ introduced_is d.keys (map (entry_numbered d.keys) c.face.entries) in
      record {
        face = f.fits;
        fits = record {
          variables = vs.fits;
          bodies = (length-map c.bodies (body_numbered d) ∙ ready.as_many ∙ entries, bs.fits.2);
          overrides = os.fits;
        };
        names = ap (λ (x : ClassFace). a_class x (map (variable_named d.keys) (map (variable_numbered d.keys) c.variables)) (map (body_named d) (map (body_numbered d) c.bodies)) (map (override_named d) (map (override_numbered d) c.overrides))) f.names
            ∙ ap (λ (x : List Variable). a_class c.face x (map (body_named d) (map (body_numbered d) c.bodies)) (map (override_named d) (map (override_numbered d) c.overrides))) vs.names
            ∙ ap (λ (x : List Body). a_class c.face c.variables x (map (override_named d) (map (override_numbered d) c.overrides))) bs.names
            ∙ ap (λ (x : List Override). a_class c.face c.variables c.bodies x) os.names;
      }
