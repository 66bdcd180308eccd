-- Faces with names are spelled as those with numbers are.
use Rattle.std.proofs.Common.{◌≡◌, ℕ, ◌<◌, ◌≤◌, Bool, true, false, true≢false, List, [], ◌∷◌, ◌++◌, length, map, Option, Some, None, refl, sym, ap, ◌∙◌, append_assoc, arith}
use Rattle.std.specs.Prelude.{nat_le, not, ◌==◌, IfSome}
use Rattle.std.specs.Int.{w8, w16, w32}
use Rattle.std.proofs.lemmas.Bool.{leb-true, le-leb}
use Rattle.std.proofs.lemmas.List.{length-map}
use Rattle.std.proofs.lemmas.List.Elements.{recursion_from_All}
use Rattle.som_model.specs.declared.limits.TheConstants.{MAX_VERSION, MAX_PARAMETERS, MAX_PARENTS, MAX_ENTRIES}
use Rattle.som_model.specs.declared.key.ClassKey.{ClassKey}
use Rattle.som_model.specs.declared.key.ValueType.{ValueType}
use Rattle.som_model.specs.declared.class.Sig.{Sig}
use Rattle.som_model.specs.declared.class.Way.{Way}
use Rattle.som_model.specs.declared.class.Way.TheVariants as ways
use Rattle.som_model.specs.declared.class.Entry.{Entry}
use Rattle.som_model.specs.declared.class.Entry.TheVariants as named_entries
use Rattle.som_model.specs.declared.class.ClassFace.{ClassFace}
use Rattle.som_model.specs.Class.{Class}
use Rattle.som_model.specs.Images as images
use Rattle.som_model.specs.Images.{Spelled, ◌then◌, tag, where_it_is}
use Rattle.som_image_fields.specs.declared.sig.WireSig.{WireSig}
use Rattle.som_image_fields.specs.declared.entry.WireEntry.{WireEntry}
use Rattle.som_image_fields.specs.declared.entry.WireEntry.TheVariants as entries
use Rattle.som_image_fields.specs.declared.face.WireFace.{WireFace}
use Rattle.som_image_fields.specs.Spelling as wire
use Rattle.som_image_fields.specs.Spelling.{FitsKind, FitsSig, FitsEntry, FitsFace, FitsCounted}
use Rattle.som_image_decode.specs.declared.directory.Directory.{Directory}
use Rattle.som_image_decode.specs.Naming.{key_at, kind_named, Tells, NoDoubles}
use Rattle.som_image_classes.specs.NamedClasses.{sig_named, entry_named, metaclass_named, face_named}
use Rattle.som_image_decode.proofs.Places.{all_map, all_of}
use Rattle.som_image_decode.proofs.Spelled.{some_bytes, bytes_are, split, guarded, Forth, From, Back, counted_forth, counted_back, text_forth, text_back}
use Rattle.som_image_decode.proofs.Numbers.{class_forth, class_back}
use Rattle.som_image_decode.proofs.NamedKinds.{kind_forth, value_forth, kind_back, value_back}

-- ---- versions

version_forth : (n : ℕ) → n ≤ MAX_VERSION → images.version n ≡ Some (wire.number w32 n)
version_forth n le = ap (λ (b : Bool). where_it_is b (images.number w32 n)) (le-leb n MAX_VERSION le)

version_back : (n : ℕ) (bytes : List ℕ) → images.version n ≡ Some bytes → (wire.number w32 n ≡ bytes) × (n ≤ MAX_VERSION)
version_back n bytes e =
    let g = guarded (nat_le n MAX_VERSION) (images.number w32 n) bytes e in
    (bytes_are (wire.number w32 n) bytes g.1, leb-true n MAX_VERSION g.0)

-- ---- ways

way_is : (w : Way) → images.way w ≡ Some (wire.way w)
way_is ways.Offset = refl
way_is ways.Lookup = refl

way_back : (w : Way) (bytes : List ℕ) → images.way w ≡ Some bytes → wire.way w ≡ bytes
way_back w bytes e = bytes_are (wire.way w) bytes (sym (way_is w) ∙ e)

-- it isn't empty
not_empty : {A : Type 0} (xs : List A) → not (length xs == 0) ≡ true → 1 ≤ length xs
not_empty [] h = absurd (true≢false (sym h))
not_empty (x ∷ xs) h = omega arith

not_zero : (n : ℕ) → 1 ≤ n → (n == 0) ≡ false
not_zero n h = grind arith

has_some : {A : Type 0} (xs : List A) → 1 ≤ length xs → not (length xs == 0) ≡ true
has_some xs h = ap not (not_zero (length xs) h)

module _ (d : Directory) (cs : List Class) (tells : Tells d cs) where
  abbrev classes : ℕ
  classes = length d.keys

  module _ (single : NoDoubles d) where
    sig_forth : (s : WireSig) → FitsSig classes s → Forth (images.sig cs) wire.sig (sig_named d.keys) s
    sig_forth s fits =
        let each = all_map (FitsKind classes false) (Forth (images.value_kind cs) wire.kind (kind_named d.keys)) (value_forth d cs tells single) s.params (recursion_from_All (FitsKind classes false) s.params fits.params.2) in
        ap (λ (x : Spelled). x then images.counted w8 MAX_PARAMETERS (images.value_kind cs) (map (kind_named d.keys) s.params)) (kind_forth d cs tells single s.result fits.result)
        ∙ ap (λ (x : Spelled). Some (wire.kind s.result) then x) (counted_forth (images.value_kind cs) wire.kind (kind_named d.keys) w8 MAX_PARAMETERS s.params fits.params.1 each)

    entry_forth : (e : WireEntry) → FitsEntry classes e → Forth (images.entry cs) wire.entry (entry_named d.keys) e
    entry_forth (entries.Introduced name s w) fits =
        ap (λ (x : Spelled). x then images.way w then images.sig cs (sig_named d.keys s)) (text_forth name fits.0)
        ∙ ap (λ (x : Spelled). Some (wire.text name) then x then images.sig cs (sig_named d.keys s)) (way_is w)
        ∙ ap (λ (x : Spelled). Some (wire.text name) then Some (wire.way w) then x) (sig_forth s fits.1)
    entry_forth (entries.Moved name to) fits =
        ap (λ (x : Spelled). x then tag 2 then images.class cs (key_at d.keys to)) (text_forth name fits.0)
        ∙ ap (λ (x : Spelled). Some (wire.text name) then tag 2 then x) (class_forth d cs tells single to fits.1)
        ∙ ap some_bytes (append_assoc (wire.text name) (2 ∷ []) (wire.number w16 to))

    metaclass_forth : (m : Option ℕ) → IfSome m (λ n. n < classes) → Forth (images.metaclass cs) wire.metaclass (metaclass_named d.keys) m
    metaclass_forth None fits = refl
    metaclass_forth (Some n) fits = ap (λ (s : Spelled). tag 1 then s) (class_forth d cs tells single n fits)

    parents_forth : (ps : List ℕ) → FitsCounted 1 MAX_PARENTS (λ n. n < classes) ps → where_it_is (not (length (map (key_at d.keys) ps) == 0)) (images.counted w8 MAX_PARENTS (images.class cs) (map (key_at d.keys) ps)) ≡ Some (wire.counted w8 (wire.number w16) ps)
    parents_forth ps fits =
        let each = all_map (λ n. n < classes) (Forth (images.class cs) (wire.number w16) (key_at d.keys)) (class_forth d cs tells single) ps (recursion_from_All (λ n. n < classes) ps fits.2) in
        ap (λ (b : Bool). where_it_is b (images.counted w8 MAX_PARENTS (images.class cs) (map (key_at d.keys) ps))) (has_some (map (key_at d.keys) ps) (omega (arith, fits.0, length-map ps (key_at d.keys))))
        ∙ counted_forth (images.class cs) (wire.number w16) (key_at d.keys) w8 MAX_PARENTS ps fits.1 each

    entries_forth : (es : List WireEntry) → FitsCounted 0 MAX_ENTRIES (FitsEntry classes) es → images.counted w16 MAX_ENTRIES (images.entry cs) (map (entry_named d.keys) es) ≡ Some (wire.counted w16 wire.entry es)
    entries_forth es fits =
        let each = all_map (FitsEntry classes) (Forth (images.entry cs) wire.entry (entry_named d.keys)) entry_forth es (recursion_from_All (FitsEntry classes) es fits.2) in
        counted_forth (images.entry cs) wire.entry (entry_named d.keys) w16 MAX_ENTRIES es fits.1 each

    pub face_forth : (f : WireFace) → FitsFace classes f → Forth (images.face cs) wire.face (face_named d.keys) f
    face_forth f fits =
        let n : ClassFace = face_named d.keys f in
        let parents : Spelled = where_it_is (not (length n.parents == 0)) (images.counted w8 MAX_PARENTS (images.class cs) n.parents) in
        let entries : Spelled = images.counted w16 MAX_ENTRIES (images.entry cs) n.entries in
        let a : List ℕ = wire.text f.name in
        let b : List ℕ = wire.number w32 f.major in
        let c : List ℕ = wire.number w32 f.minor in
        let p : List ℕ = wire.counted w8 (wire.number w16) f.parents in
        let m : List ℕ = wire.metaclass f.metaclass in
        ap (λ (s : Spelled). s then images.version f.major then images.version f.minor then parents then images.metaclass cs n.metaclass then entries) (text_forth f.name fits.name)
        ∙ ap (λ (s : Spelled). Some a then s then images.version f.minor then parents then images.metaclass cs n.metaclass then entries) (version_forth f.major fits.major)
        ∙ ap (λ (s : Spelled). Some a then Some b then s then parents then images.metaclass cs n.metaclass then entries) (version_forth f.minor fits.minor)
        ∙ ap (λ (s : Spelled). Some a then Some b then Some c then s then images.metaclass cs n.metaclass then entries) (parents_forth f.parents fits.parents)
        ∙ ap (λ (s : Spelled). Some a then Some b then Some c then Some p then s then entries) (metaclass_forth f.metaclass fits.metaclass)
        ∙ ap (λ (s : Spelled). Some a then Some b then Some c then Some p then Some m then s) (entries_forth f.entries fits.entries)

  -- ---- and back

  abbrev a_sig : ValueType → List ValueType → Sig
  a_sig result params = record { result = result; params = params }

  sig_back : (s : Sig) → Back (images.sig cs) wire.sig (FitsSig classes) (sig_named d.keys) s
  sig_back s bytes e =
      let p = split (images.kind cs s.result) (images.counted w8 MAX_PARAMETERS (images.value_kind cs) s.params) bytes e in
      let r = kind_back d cs tells s.result p.front p.first in
      let each = all_of (Back (images.value_kind cs) wire.kind (FitsKind classes false) (kind_named d.keys)) (value_back d cs tells) s.params in
      let ps = counted_back (images.value_kind cs) wire.kind (kind_named d.keys) (FitsKind classes false) w8 0 MAX_PARAMETERS s.params (omega arith) each p.back p.second in
      record {
        it = record { result = r.it; params = ps.it };
        spelled = ap (λ (x : List ℕ). x ++ wire.counted w8 wire.kind ps.it) r.spelled ∙ ap (λ (y : List ℕ). p.front ++ y) ps.spelled ∙ p.whole;
        fits = record { result = r.fits; params = ps.fits };
        names = ap (λ (t : ValueType). a_sig t (map (kind_named d.keys) ps.it)) r.names ∙ ap (λ (ts : List ValueType). a_sig s.result ts) ps.names;
      }

  abbrev FromEntry : Entry → List ℕ → Type 0
  FromEntry v bytes = From wire.entry (FitsEntry classes) (entry_named d.keys) v bytes

  entry_back : (v : Entry) → Back (images.entry cs) wire.entry (FitsEntry classes) (entry_named d.keys) v
  entry_back (named_entries.Introduced name s w) bytes e =
      let p = split (images.text name then images.way w) (images.sig cs s) bytes e in
      let q = split (images.text name) (images.way w) p.front p.first in
      let t = text_back name q.front q.first in
      let f = way_back w q.back q.second in
      let g = sig_back s p.back p.second in
      record {
        it = entries.Introduced name g.it w;
        spelled = ap (λ (x : List ℕ). x ++ wire.way w ++ wire.sig g.it) t.0 ∙ ap (λ (x : List ℕ). q.front ++ x ++ wire.sig g.it) f ∙ ap (λ (x : List ℕ). x ++ wire.sig g.it) q.whole ∙ ap (λ (y : List ℕ). p.front ++ y) g.spelled ∙ p.whole;
        fits = (t.1, g.fits);
        names = ap (λ (x : Sig). named_entries.Introduced name x w) g.names;
      }
  entry_back (named_entries.Moved name to) bytes e =
      let p = split (images.text name then tag 2) (images.class cs to) bytes e in
      let q = split (images.text name) (tag 2) p.front p.first in
      let t = text_back name q.front q.first in
      let f = bytes_are (2 ∷ []) q.back q.second in
      let n = class_back d cs tells to p.back p.second in
      record {
        it = entries.Moved name n.it;
        spelled = sym (append_assoc (wire.text name) (2 ∷ []) (wire.number w16 n.it)) ∙ ap (λ (x : List ℕ). (x ++ (2 ∷ [])) ++ wire.number w16 n.it) t.0 ∙ ap (λ (x : List ℕ). (q.front ++ x) ++ wire.number w16 n.it) f ∙ ap (λ (x : List ℕ). x ++ wire.number w16 n.it) q.whole ∙ ap (λ (y : List ℕ). p.front ++ y) n.spelled ∙ p.whole;
        fits = (t.1, n.fits);
        names = ap (λ (k : ClassKey). named_entries.Moved name k) n.names;
      }

  abbrev FitsMetaclass : Option ℕ → Type 0
  FitsMetaclass m = IfSome m (λ n. n < classes)

  metaclass_back : (m : Option ClassKey) → Back (images.metaclass cs) wire.metaclass FitsMetaclass (metaclass_named d.keys) m
  metaclass_back None bytes e = record { it = None; spelled = bytes_are (0 ∷ []) bytes e; fits = tt; names = refl }
  metaclass_back (Some k) bytes e =
      let s = split (tag 1) (images.class cs k) bytes e in
      let n = class_back d cs tells k s.back s.second in
      record {
        it = Some n.it;
        spelled = ap (λ (x : List ℕ). x ++ wire.number w16 n.it) (bytes_are (1 ∷ []) s.front s.first) ∙ ap (λ (y : List ℕ). s.front ++ y) n.spelled ∙ s.whole;
        fits = n.fits;
        names = ap (λ (x : ClassKey). Some x) n.names;
      }

  abbrev FitsParents : List ℕ → Type 0
  FitsParents = FitsCounted 1 MAX_PARENTS (λ n. n < classes)

  parents_back : (ks : List ClassKey) (bytes : List ℕ) → where_it_is (not (length ks == 0)) (images.counted w8 MAX_PARENTS (images.class cs) ks) ≡ Some bytes → From (wire.counted w8 (wire.number w16)) FitsParents (map (key_at d.keys)) ks bytes
  parents_back ks bytes e =
      let g = guarded (not (length ks == 0)) (images.counted w8 MAX_PARENTS (images.class cs) ks) bytes e in
      let each = all_of (Back (images.class cs) (wire.number w16) (λ n. n < classes) (key_at d.keys)) (class_back d cs tells) ks in
      counted_back (images.class cs) (wire.number w16) (key_at d.keys) (λ n. n < classes) w8 1 MAX_PARENTS ks (not_empty ks g.0) each bytes g.1

  entries_back : (es : List Entry) → Back (images.counted w16 MAX_ENTRIES (images.entry cs)) (wire.counted w16 wire.entry) (FitsCounted 0 MAX_ENTRIES (FitsEntry classes)) (map (entry_named d.keys)) es
  entries_back es bytes e =
      let each = all_of (Back (images.entry cs) wire.entry (FitsEntry classes) (entry_named d.keys)) entry_back es in
      counted_back (images.entry cs) wire.entry (entry_named d.keys) (FitsEntry classes) w16 0 MAX_ENTRIES es (omega arith) each bytes e

  -- six texts, joined from the left
  joined : (a b c p m n a1 b1 c1 p1 m1 n1 x y z u v : List ℕ) → a ≡ a1 → b ≡ b1 → c ≡ c1 → p ≡ p1 → m ≡ m1 → n ≡ n1 → a1 ++ b1 ≡ x → x ++ c1 ≡ y → y ++ p1 ≡ z → z ++ m1 ≡ u → u ++ n1 ≡ v → a ++ b ++ c ++ p ++ m ++ n ≡ v
  joined a b c p m n a1 b1 c1 p1 m1 n1 x y z u v ha hb hc hp hm hn hx hy hz hu hv = cc

  abbrev a_face : ClassFace → List ClassKey → Option ClassKey → List Entry → ClassFace
  a_face f ps m es = record { name = f.name; major = f.major; minor = f.minor; parents = ps; metaclass = m; entries = es }

  pub face_back : (f : ClassFace) → Back (images.face cs) wire.face (FitsFace classes) (face_named d.keys) f
  face_back f bytes e =
      let parents : Spelled = where_it_is (not (length f.parents == 0)) (images.counted w8 MAX_PARENTS (images.class cs) f.parents) in
      let third : Spelled = images.text f.name then images.version f.major then images.version f.minor in
      let s = split (third then parents then images.metaclass cs f.metaclass) (images.counted w16 MAX_ENTRIES (images.entry cs) f.entries) bytes e in
      let t = split (third then parents) (images.metaclass cs f.metaclass) s.front s.first in
      let u = split third parents t.front t.first in
      let v = split (images.text f.name then images.version f.major) (images.version f.minor) u.front u.first in
      let w = split (images.text f.name) (images.version f.major) v.front v.first in
      let name = text_back f.name w.front w.first in
      let major = version_back f.major w.back w.second in
      let minor = version_back f.minor v.back v.second in
      let ps = parents_back f.parents u.back u.second in
      let m = metaclass_back f.metaclass t.back t.second in
      let es = entries_back f.entries s.back s.second in
      record {
        it = record { name = f.name; major = f.major; minor = f.minor; parents = ps.it; metaclass = m.it; entries = es.it };
        spelled = joined _ _ _ _ _ _ w.front w.back v.back u.back t.back s.back v.front u.front t.front s.front bytes name.0 major.0 minor.0 ps.spelled m.spelled es.spelled w.whole v.whole u.whole t.whole s.whole;
        fits = record { name = name.1; major = major.1; minor = minor.1; parents = ps.fits; metaclass = m.fits; entries = es.fits };
        names = ap (λ (x : List ClassKey). a_face f x (metaclass_named d.keys m.it) (map (entry_named d.keys) es.it)) ps.names
            ∙ ap (λ (x : Option ClassKey). a_face f f.parents x (map (entry_named d.keys) es.it)) m.names
            ∙ ap (λ (x : List Entry). a_face f f.parents f.metaclass x) es.names;
      }
