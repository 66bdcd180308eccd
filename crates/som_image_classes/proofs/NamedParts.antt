-- Parts with names are spelled as those with numbers are.
use Rattle.std.proofs.Common.{◌≡◌, ℕ, ◌+◌, Bool, true, cond, eqb, List, [], ◌∷◌, ◌++◌, length, map, Some, refl, sym, ap, ◌∙◌, arith}
use Rattle.std.specs.List.{flat_map, count_by}
use Rattle.std.specs.Int.{w8, w16}
use Rattle.std.proofs.lemmas.Bool.{eqb-true}
use Rattle.std.proofs.lemmas.List.{length-map}
use Rattle.std.proofs.lemmas.List.Recursion.{is_count_by}
use Rattle.std.proofs.lemmas.List.Elements.{recursion_from_All}
use Rattle.som_model.specs.declared.limits.TheConstants.{MAX_VARIABLES, MAX_OVERRIDES}
use Rattle.som_model.specs.declared.key.MethodRef.{MethodRef}
use Rattle.som_model.specs.declared.key.ValueType.{ValueType}
use Rattle.som_model.specs.declared.key.ClassKey.{ClassKey}
use Rattle.som_model.specs.declared.syntax.Block.{Block}
use Rattle.som_model.specs.declared.class.Body.{Body}
use Rattle.som_model.specs.declared.class.Body.TheVariants as named_bodies
use Rattle.som_model.specs.declared.class.Variable.{Variable}
use Rattle.som_model.specs.declared.class.Override.{Override}
use Rattle.som_model.specs.declared.class.ClassFace.{ClassFace}
use Rattle.som_model.specs.declared.class.ClassDecl.{ClassDecl}
use Rattle.som_model.specs.Class.{Class, introduced}
use Rattle.som_model.specs.Images as images
use Rattle.som_model.specs.Images.{Spelled, ◌then◌, each, tag, where_it_is}
use Rattle.som_image_fields.specs.declared.entry.WireEntry.{WireEntry}
use Rattle.som_image_fields.specs.declared.entry.WireEntry.TheVariants as entries
use Rattle.som_image_fields.specs.declared.face.WireFace.{WireFace}
use Rattle.som_image_fields.specs.Spelling as wire
use Rattle.som_image_fields.specs.Spelling.{FitsMethod}
use Rattle.som_image_fields.specs.declared.syntax.WireVariable.{WireVariable}
use Rattle.som_image_fields.specs.declared.syntax.WireBody.{WireBody}
use Rattle.som_image_fields.specs.declared.syntax.WireBody.TheVariants as bodies
use Rattle.som_image_fields.specs.declared.syntax.WireOverride.{WireOverride}
use Rattle.som_image_fields.specs.declared.syntax.WirePart.{WirePart}
use Rattle.som_image_fields.specs.SyntaxSpelling as spelling
use Rattle.som_image_fields.specs.Fitting.{FitsVariable, FitsBody, FitsOverride}
use Rattle.som_image_decode.specs.declared.directory.Directory.{Directory}
use Rattle.som_image_decode.specs.Naming.{kind_named, ranges_in, Tells, NoDoubles}
use Rattle.som_image_decode.specs.NamedBlocks.{block_named}
use Rattle.som_image_decode.proofs.Places.{all_map, all_of}
use Rattle.som_image_decode.proofs.Spelled.{bytes_are, split, guarded, Forth, From, Back, each_forth, counted_forth, many_back, counted_back, text_forth, text_back}
use Rattle.som_image_decode.proofs.BlockForms.{byte_forth, byte_back, join}
use Rattle.som_image_decode.proofs.Numbers.{method_forth, method_back}
use Rattle.som_image_decode.proofs.NamedKinds.{value_forth, value_back}
use Rattle.som_image_decode.proofs.NamedStmts.{block_forth}
use Rattle.som_image_decode.proofs.StmtsBack.{block_back}
use Rattle.som_image_classes.specs.ReadClasses.{is_introduced}
use Rattle.som_image_classes.specs.SpelledClasses.{FitsClass}
use Rattle.som_image_classes.specs.NamedClasses.{entry_named, face_named, variable_named, body_named, override_named, class_named}

-- ---- bodies

module _ (d : Directory) (cs : List Class) (tells : Tells d cs) where
  abbrev pub Fits : WireBody → Type 0
  Fits = FitsBody (length d.keys) (FitsMethod (ranges_in d))

  body_forth : NoDoubles d → (b : WireBody) → Fits b → Forth (images.body cs) spelling.body (body_named d) b
  body_forth single (bodies.User b) fits = ap (λ (s : Spelled). tag 0 then s) (block_forth d cs tells single 32 1 (omega arith) b fits)
  body_forth single (bodies.Get n) fits = ap (λ (s : Spelled). tag 1 then s) (byte_forth n fits)
  body_forth single (bodies.Set n) fits = ap (λ (s : Spelled). tag 2 then s) (byte_forth n fits)

  body_back : (b : Body) → Back (images.body cs) spelling.body Fits (body_named d) b
  body_back (named_bodies.User b) bytes e =
      let s = split (tag 0) (images.block cs b 1) bytes e in
      let r = block_back d cs tells 32 1 (omega arith) b s.back s.second in
      record {
        it = bodies.User r.it;
        spelled = join _ _ _ _ _ (bytes_are (0 ∷ []) s.front s.first) r.spelled s.whole;
        fits = r.fits;
        names = ap named_bodies.User r.names;
      }
  body_back (named_bodies.Get n) bytes e =
      let s = split (tag 1) (images.byte n) bytes e in
      let u = byte_back n s.back s.second in
      record { it = bodies.Get n; spelled = join _ _ _ _ _ (bytes_are (1 ∷ []) s.front s.first) u.0 s.whole; fits = u.1; names = refl }
  body_back (named_bodies.Set n) bytes e =
      let s = split (tag 2) (images.byte n) bytes e in
      let u = byte_back n s.back s.second in
      record { it = bodies.Set n; spelled = join _ _ _ _ _ (bytes_are (2 ∷ []) s.front s.first) u.0 s.whole; fits = u.1; names = refl }

-- ---- how many entries are introduced

numbers_are : (m n : ℕ) → m ≡ n → eqb m n ≡ true
numbers_are m n e = grind (arith, e)

module _ (ks : List ClassKey) where
  abbrev count_of : List WireEntry → ℕ
  count_of es = length (introduced (map (entry_named ks) es))

  count_more : (e : WireEntry) (es : List WireEntry) → count_of (e ∷ es) ≡ cond (is_introduced e) (1 + count_of es) (count_of es)
  count_more (entries.Introduced name s w) es = omega arith
  count_more (entries.Moved name to) es = refl

  pub introduced_is : (es : List WireEntry) → count_of es ≡ count_by is_introduced es
  introduced_is = is_count_by count_of is_introduced refl count_more

-- ---- variables, overrides and parts

abbrev a_variable : List ℕ → ValueType → Variable
a_variable name kind = record { name = name; kind = kind }

abbrev an_override : MethodRef → Block → Override
an_override method block = record { method = method; block = block }

abbrev pub a_class : ClassFace → List Variable → List Body → List Override → ClassDecl
a_class face variables bs overrides = record { face = face; variables = variables; bodies = bs; overrides = overrides; selects = [] }

-- a class without its selects
abbrev pub plain : ClassDecl → ClassDecl
plain c = a_class c.face c.variables c.bodies c.overrides

module _ (d : Directory) (cs : List Class) (tells : Tells d cs) where
  abbrev classes : ℕ
  classes = length d.keys

  -- a variable as an image has it
  abbrev variable : Variable → Spelled
  variable v = images.text v.name then images.value_kind cs v.kind

  abbrev overridden : Override → Spelled
  overridden o = images.method cs o.method then images.block cs o.block 1

  abbrev FitsHere : WireOverride → Type 0
  FitsHere = FitsOverride classes (FitsMethod (ranges_in d))

  abbrev part_by : Spelled → Bool → Spelled → Spelled → Spelled
  part_by variables b bs overrides = variables then where_it_is b bs then overrides

  module _ (single : NoDoubles d) where
    variable_forth : (v : WireVariable) → FitsVariable classes v → Forth variable spelling.variable (variable_named d.keys) v
    variable_forth v fits =
        ap (λ (s : Spelled). s then images.value_kind cs (kind_named d.keys v.kind)) (text_forth v.name fits.name)
        ∙ ap (λ (s : Spelled). Some (wire.text v.name) then s) (value_forth d cs tells single v.kind fits.kind)

    override_forth : (o : WireOverride) → FitsHere o → Forth overridden spelling.overridden (override_named d) o
    override_forth o fits =
        ap (λ (s : Spelled). s then images.block cs (block_named d o.block) 1) (method_forth d cs tells single o.method fits.method)
        ∙ ap (λ (s : Spelled). Some (wire.method o.method) then s) (block_forth d cs tells single 32 1 (omega arith) o.block fits.block)

    pub part_forth : (f : WireFace) (p : WirePart) → FitsClass (ranges_in d) f p → images.part cs (class_named d f p) ≡ Some (spelling.part p)
    part_forth f p fits =
        let vs = all_map (FitsVariable classes) (Forth variable spelling.variable (variable_named d.keys)) variable_forth p.variables (recursion_from_All (FitsVariable classes) p.variables fits.variables.2) in
        let bs = all_map (Fits d cs tells) (Forth (images.body cs) spelling.body (body_named d)) (body_forth d cs tells single) p.bodies (recursion_from_All (Fits d cs tells) p.bodies fits.bodies.1) in
        let os = all_map FitsHere (Forth overridden spelling.overridden (override_named d)) override_forth p.overrides (recursion_from_All FitsHere p.overrides fits.overrides.2) in
        let variables = counted_forth variable spelling.variable (variable_named d.keys) w8 MAX_VARIABLES p.variables fits.variables.1 vs in
        let same_number : eqb (length (map (body_named d) p.bodies)) (count_of d.keys f.entries) ≡ true = numbers_are (length (map (body_named d) p.bodies)) (count_of d.keys f.entries) (length-map p.bodies (body_named d) ∙ fits.bodies.0 ∙ sym (introduced_is d.keys f.entries)) in
        let bodies_are = each_forth (images.body cs) spelling.body (body_named d) p.bodies bs in
        let overrides = counted_forth overridden spelling.overridden (override_named d) w16 MAX_OVERRIDES p.overrides fits.overrides.1 os in
        let a : List ℕ = wire.counted w8 spelling.variable p.variables in
        let b : List ℕ = flat_map spelling.body p.bodies in
        ap (λ (s : Spelled). part_by s (eqb (length (map (body_named d) p.bodies)) (count_of d.keys f.entries)) (each (images.body cs) (map (body_named d) p.bodies)) (images.counted w16 MAX_OVERRIDES overridden (map (override_named d) p.overrides))) variables
        ∙ ap (λ (x : Bool). part_by (Some a) x (each (images.body cs) (map (body_named d) p.bodies)) (images.counted w16 MAX_OVERRIDES overridden (map (override_named d) p.overrides))) same_number
        ∙ ap (λ (s : Spelled). part_by (Some a) true s (images.counted w16 MAX_OVERRIDES overridden (map (override_named d) p.overrides))) bodies_are
        ∙ ap (λ (s : Spelled). part_by (Some a) true (Some b) s) overrides

  -- ---- and back

  variable_back : (v : Variable) → Back variable spelling.variable (FitsVariable classes) (variable_named d.keys) v
  variable_back v bytes e =
      let s = split (images.text v.name) (images.value_kind cs v.kind) bytes e in
      let t = text_back v.name s.front s.first in
      let k = value_back d cs tells v.kind s.back s.second in
      record {
        it = record { name = v.name; kind = k.it };
        spelled = ap (λ (x : List ℕ). x ++ wire.kind k.it) t.0 ∙ ap (λ (y : List ℕ). s.front ++ y) k.spelled ∙ s.whole;
        fits = record { name = t.1; kind = k.fits };
        names = ap (λ (x : ValueType). a_variable v.name x) k.names;
      }

  override_back : (o : Override) → Back overridden spelling.overridden FitsHere (override_named d) o
  override_back o bytes e =
      let s = split (images.method cs o.method) (images.block cs o.block 1) bytes e in
      let m = method_back d cs tells o.method s.front s.first in
      let b = block_back d cs tells 32 1 (omega arith) o.block s.back s.second in
      record {
        it = record { method = m.it; block = b.it };
        spelled = ap (λ (x : List ℕ). x ++ spelling.block b.it) m.spelled ∙ ap (λ (y : List ℕ). s.front ++ y) b.spelled ∙ s.whole;
        fits = record { method = m.fits; block = b.fits };
        names = ap (λ (x : MethodRef). an_override x (block_named d b.it)) m.names ∙ ap (λ (x : Block). an_override o.method x) b.names;
      }

  joined : (a b c a1 b1 c1 x y : List ℕ) → a ≡ a1 → b ≡ b1 → c ≡ c1 → a1 ++ b1 ≡ x → x ++ c1 ≡ y → a ++ b ++ c ≡ y
  joined a b c a1 b1 c1 x y ha hb hc hx hy = cc

  -- the part of a class whose face is known, without its selects
  pub part_back : (f : WireFace) (c : ClassDecl) → face_named d.keys f ≡ c.face → (bytes : List ℕ) → images.part cs c ≡ Some bytes → From spelling.part (FitsClass (ranges_in d) f) (class_named d f) (plain c) bytes
  part_back f c face bytes e =
      let number : Bool = eqb (length c.bodies) (length (introduced c.face.entries)) in
      let bodies : Spelled = each (images.body cs) c.bodies in
      let variables : Spelled = images.counted w8 MAX_VARIABLES variable c.variables in
      let overrides : Spelled = images.counted w16 MAX_OVERRIDES overridden c.overrides in
      let s = split (variables then where_it_is number bodies) overrides bytes e in
      let t = split variables (where_it_is number bodies) s.front s.first in
      let g = guarded number bodies t.back t.second in
      let vs = counted_back variable spelling.variable (variable_named d.keys) (FitsVariable classes) w8 0 MAX_VARIABLES c.variables (omega arith) (all_of (Back variable spelling.variable (FitsVariable classes) (variable_named d.keys)) variable_back c.variables) t.front t.first in
      let bs = many_back (images.body cs) spelling.body (body_named d) (Fits d cs tells) c.bodies (all_of (Back (images.body cs) spelling.body (Fits d cs tells) (body_named d)) (body_back d cs tells) c.bodies) t.back g.1 in
      let os = counted_back overridden spelling.overridden (override_named d) FitsHere w16 0 MAX_OVERRIDES c.overrides (omega arith) (all_of (Back overridden spelling.overridden FitsHere (override_named d)) override_back c.overrides) s.back s.second in
      let as_entries : length (introduced c.face.entries) ≡ count_by is_introduced f.entries = ap (λ (x : ClassFace). length (introduced x.entries)) (sym face) ∙ introduced_is d.keys f.entries in
      record {
        it = record { variables = vs.it; bodies = bs.it; overrides = os.it };
        spelled = joined _ _ _ t.front t.back s.back s.front bytes vs.spelled bs.spelled os.spelled t.whole s.whole;
        fits = record { variables = vs.fits; bodies = (bs.fits.0 ∙ eqb-true _ _ g.0 ∙ as_entries, bs.fits.1); overrides = os.fits };
        names = ap (λ (x : ClassFace). a_class x (map (variable_named d.keys) vs.it) (map (body_named d) bs.it) (map (override_named d) os.it)) face
            ∙ ap (λ (x : List Variable). a_class c.face x (map (body_named d) bs.it) (map (override_named d) os.it)) vs.names
            ∙ ap (λ (x : List Body). a_class c.face c.variables x (map (override_named d) os.it)) bs.names
            ∙ ap (λ (x : List Override). a_class c.face c.variables c.bodies x) os.names;
      }
