-- Types with names are spelled as those with numbers are.
use Rattle.std.proofs.Common.{◌≡◌, ℕ, Bool, true, false, true≢false, List, [], ◌∷◌, ◌++◌, length, Some, refl, sym, ap, ◌∙◌}
use Rattle.std.specs.Int.{w16}
use Rattle.som_model.specs.declared.key.ClassKey.{ClassKey}
use Rattle.som_model.specs.declared.key.ValueType.{ValueType}
use Rattle.som_model.specs.declared.key.ValueType.TheVariants as values
use Rattle.som_model.specs.Class.{Class}
use Rattle.som_model.specs.Images as images
use Rattle.som_model.specs.Images.{Spelled, ◌then◌, tag}
use Rattle.som_image_fields.specs.declared.kind.WireType.{WireType}
use Rattle.som_image_fields.specs.declared.kind.WireType.TheVariants as types
use Rattle.som_image_fields.specs.Spelling as wire
use Rattle.som_image_fields.specs.Spelling.{FitsKind}
use Rattle.som_image_decode.specs.declared.directory.Directory.{Directory}
use Rattle.som_image_decode.specs.Naming.{kind_named, Tells, NoDoubles}
use Rattle.som_image_decode.proofs.Spelled.{bytes_are, none_some, split, Forth, From, Back}
use Rattle.som_image_decode.proofs.Numbers.{class_forth, class_back}

module _ (d : Directory) (cs : List Class) (tells : Tells d cs) where
  abbrev classes : ℕ
  classes = length d.keys

  module _ (single : NoDoubles d) where
    abbrev KindForth : WireType → Type 0
    KindForth k = Forth (images.kind cs) wire.kind (kind_named d.keys) k

    pub kind_forth : (k : WireType) → FitsKind classes true k → KindForth k
    kind_forth types.Void fits = refl
    kind_forth types.Long fits = refl
    kind_forth types.Boolean fits = refl
    kind_forth types.Str fits = refl
    kind_forth (types.Class n) fits = ap (λ (s : Spelled). tag 4 then s) (class_forth d cs tells single n fits)

    pub value_forth : (k : WireType) → FitsKind classes false k → Forth (images.value_kind cs) wire.kind (kind_named d.keys) k
    value_forth types.Void fits = absurd (true≢false (sym fits))
    value_forth types.Long fits = refl
    value_forth types.Boolean fits = refl
    value_forth types.Str fits = refl
    value_forth (types.Class n) fits = ap (λ (s : Spelled). tag 4 then s) (class_forth d cs tells single n fits)

  -- ---- and back

  abbrev KindBack : Bool → (ValueType → Spelled) → ValueType → Type 0
  KindBack is_result spell t = Back spell wire.kind (FitsKind classes is_result) (kind_named d.keys) t

  -- a class after its tag
  class_kind : (is_result : Bool) (k : ClassKey) (bytes : List ℕ) → (tag 4 then images.class cs k) ≡ Some bytes → From wire.kind (FitsKind classes is_result) (kind_named d.keys) (values.Class k) bytes
  class_kind is_result k bytes e =
      let s = split (tag 4) (images.class cs k) bytes e in
      let n = class_back d cs tells k s.back s.second in
      record {
        it = types.Class n.it;
        spelled = ap (λ (x : List ℕ). x ++ wire.number w16 n.it) (bytes_are (4 ∷ []) s.front s.first) ∙ ap (λ (y : List ℕ). s.front ++ y) n.spelled ∙ s.whole;
        fits = n.fits;
        names = ap values.Class n.names;
      }

  pub kind_back : (t : ValueType) → KindBack true (images.kind cs) t
  kind_back values.Void bytes e = record { it = types.Void; spelled = bytes_are (0 ∷ []) bytes e; fits = refl; names = refl }
  kind_back values.Long bytes e = record { it = types.Long; spelled = bytes_are (1 ∷ []) bytes e; fits = tt; names = refl }
  kind_back values.Boolean bytes e = record { it = types.Boolean; spelled = bytes_are (2 ∷ []) bytes e; fits = tt; names = refl }
  kind_back values.Str bytes e = record { it = types.Str; spelled = bytes_are (3 ∷ []) bytes e; fits = tt; names = refl }
  kind_back (values.Class k) bytes e = class_kind true k bytes e

  pub value_back : (t : ValueType) → KindBack false (images.value_kind cs) t
  value_back values.Void bytes e = none_some bytes e
  value_back values.Long bytes e = record { it = types.Long; spelled = bytes_are (1 ∷ []) bytes e; fits = tt; names = refl }
  value_back values.Boolean bytes e = record { it = types.Boolean; spelled = bytes_are (2 ∷ []) bytes e; fits = tt; names = refl }
  value_back values.Str bytes e = record { it = types.Str; spelled = bytes_are (3 ∷ []) bytes e; fits = tt; names = refl }
  value_back (values.Class k) bytes e = class_kind false k bytes e
