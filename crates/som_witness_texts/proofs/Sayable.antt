-- What a breach is shown by can be said: the types are those of the old interface, which breaks no rule.
use Rattle.std.proofs.Common.{◌≡◌, ◌≢◌, ℕ, zero, suc, ◌<◌, ◌^◌, ◌==◌, Bool, true, false, not, ◌&&◌, if◌then◌else◌, List, [], ◌∷◌, length, slice_get, Option, Some, None, refl, sym, arith, true≢false}
use Rattle.std.specs.Prelude.{⊤, codes, unwrap_or}
use Rattle.std.specs.Str.{bytes_eq}
use Rattle.som_model.specs.declared.key.MethodRef.{MethodRef}
use Rattle.som_model.specs.declared.key.ValueType.{ValueType}
use Rattle.som_model.specs.declared.key.ValueType.TheVariants as types
use Rattle.som_model.specs.declared.class.Sig.{Sig}
use Rattle.som_model.specs.declared.program.Interface.{Interface}
use Rattle.som_model.specs.Lists.{every}
use Rattle.som_model.specs.Class.{Class}
use Rattle.som_model.specs.Classes.{ancestors, class_at, interface_classes}
use Rattle.som_model.specs.Owner.{entry_at, introduces}
use Rattle.som_model.specs.Rules.{is_known, is_value_type, is_void}
use Rattle.som_model.specs.Conforming.{faces_breach}
use Rattle.som_model.specs.Compatible.{CompatBreach, release_of, signature}
use Rattle.som_model_laws.proofs.Lists.{every_mem, get_mem}
use Rattle.som_breach_laws.proofs.Moving.{interface_stands}
use Rattle.som_lex.specs.Spelling.{is_word}
use Rattle.som_lex_laws.proofs.FirstToken.{both, is_no}
use Rattle.som_parse.specs.Words.{key_of}
use Rattle.som_parse.specs.declared.token.Key.TheVariants as key
use Rattle.som_idl.specs.Grammar as interfaces
use Rattle.som_body.specs.Grammar as bodies
use Rattle.som_witness.specs.Showings.{Change, Showing, StandsBelow, KeepsObject, Overrides, CallsSlot, Calls, Passes, KeepsParameter, ReturnsNothing, ReturnsVariable, ReturnsAnswer, ReturnsClass, change_showing, changed_showing, first_change, fits_among, metaclass_in, params_of, showing_of, slot_showing, told_class, told_method}
use Rattle.som_witness.specs.Wording.{can_call, can_override, class_text, goes_by_slot, has_text, type_is_named, type_text}
use Rattle.som_witness.proofs.Changes.{changed}
use Rattle.som_witness.proofs.Known.{signature_known}
use Rattle.som_witness_texts.specs.Files.{FewParameters}
use Rattle.som_witness_texts.proofs.FinePieces.{AreWords}
use Rattle.som_witness_texts.proofs.InterfaceDerived.{AreNames, IsWritten, IsResult}
use Rattle.som_witness_texts.proofs.BodiesDerived.{AreSaid}
use Rattle.som_witness_texts.proofs.OrderWord.{not_order}

-- what is asked of the old types, by how the breach is shown
abbrev pub IsSayable : Showing → Type 0
IsSayable StandsBelow = ⊤
IsSayable (KeepsObject a) = ⊤
IsSayable (Overrides params) = length params < 2 ^ 64
IsSayable (CallsSlot params) = ⊤
IsSayable (Calls params) = ⊤
IsSayable (Passes params j kind) = is_void kind ≡ false
IsSayable (KeepsParameter params j kind) = (length params < 2 ^ 64) × (j < 2 ^ 64) × (is_void kind ≡ false)
IsSayable (ReturnsNothing params) = length params < 2 ^ 64
IsSayable (ReturnsVariable params kind) = (length params < 2 ^ 64) × (is_void kind ≡ false)
IsSayable (ReturnsAnswer params kind) = ⊤
IsSayable (ReturnsClass k) = ⊤

either : (x : Bool) (a b : Showing) → IsSayable a → IsSayable b → IsSayable (if x then a else b)
either true a b h k = h
either false a b h k = k

get_lt : {A : Type 0} (xs : List A) (i : ℕ) (x : A) → slice_get xs i ≡ Some x → i < length xs
get_lt [] zero x e = absurd (cc)
get_lt [] (suc i) x e = absurd (cc)
get_lt (y ∷ ys) zero x e = omega arith
get_lt (y ∷ ys) (suc i) x e = let lt = get_lt ys i x e in omega (arith, lt)

-- few parameters, none of which is void
record IsGood (s : Sig) : Type 0 where
  pub few : length s.params < 2 ^ 64
  pub values : (i : ℕ) (t : ValueType) → slice_get s.params i ≡ Some t → is_void t ≡ false

change_sayable : (news : List Class) (s t : Sig) → IsGood s → (o : Option Change) → first_change 0 s.params t.params ≡ o → IsSayable (change_showing news s t o)
change_sayable news s t h (Some d) e =
    let c = changed 0 s.params t.params d e in
    let is = c.counted in
    let lt = get_lt s.params c.place d.old_type c.before in
    let few = h.few in
    let value = h.values c.place d.old_type c.before in
    either (fits_among news d.new_type d.old_type) (KeepsParameter s.params d.place d.old_type) (Passes s.params d.place d.old_type) (few, omega (arith, is, lt, few), value) value
change_sayable news s t h None e = by (is_void s.result) refl
  where
    by : (v : Bool) → is_void s.result ≡ v → IsSayable (if v then ReturnsNothing s.params else (if fits_among news s.result t.result then ReturnsVariable s.params s.result else ReturnsAnswer s.params s.result))
    by true f = h.few
    by false f = either (fits_among news s.result t.result) (ReturnsVariable s.params s.result) (ReturnsAnswer s.params s.result) (h.few, f) tt

changed_sayable : (news : List Class) (o n : Option Sig) → ((s : Sig) → o ≡ Some s → IsGood s) → IsSayable (changed_showing news o n)
changed_sayable news None n h = tt
changed_sayable news (Some s) None h = tt
changed_sayable news (Some s) (Some t) h =
    either (length s.params == length t.params) (change_showing news s t (first_change 0 s.params t.params)) (Calls s.params) (change_sayable news s t (h s refl) (first_change 0 s.params t.params) refl) tt

params_few : (o : Option Sig) → ((s : Sig) → o ≡ Some s → IsGood s) → length (params_of o) < 2 ^ 64
params_few None h = omega arith
params_few (Some s) h = (h s refl).few

signature_good : (old : Interface) (m : MethodRef) → faces_breach (interface_classes old) ≡ None → FewParameters old m → (s : Sig) → signature (release_of old) m.class m.name ≡ Some s → IsGood s
signature_good old m eo few s e =
    let known = signature_known old (interface_stands old eo) m.class m.name s e in
    let values = (both (is_known (release_of old) s.result) (every (is_value_type (release_of old)) s.params) known).1 in
    record {
      few = few s e;
      values = λ i t at. is_no (is_void t) (both (not (is_void t)) (is_known (release_of old) t) (every_mem (is_value_type (release_of old)) t s.params values (get_mem s.params i t at))).0;
    }

pub showing_sayable : (old new : Interface) (b : CompatBreach) → faces_breach (interface_classes old) ≡ None → FewParameters old (told_method b) → IsSayable (showing_of old new b)
unfolding showing_of
showing_sayable old new b eo few =
    let m = told_method b in
    let o = signature (release_of old) m.class m.name in
    let good = signature_good old m eo few in
    let slot = either (introduces (release_of old) m.name m.class) (Overrides (params_of o)) (CallsSlot (params_of o)) (params_few o good) tt in
    let change = changed_sayable (release_of new) o (signature (release_of new) m.class m.name) good in
    let c = told_class b in
    let showing4 = slot_showing (introduces (release_of old) m.name m.class) (params_of o) in
    let showing5 = changed_showing (release_of new) o (signature (release_of new) m.class m.name) in
    let last = ReturnsClass (metaclass_in (class_at (release_of old) c)) in
    let from5 = if b.rule == 5 then showing5 else last in
    let from4 = if b.rule == 4 then showing4 else from5 in
    let object = KeepsObject (unwrap_or (slice_get (ancestors (release_of old) c) b.place) c) in
    let from3 = if b.rule == 3 then object else from4 in
    either (b.rule == 1) StandsBelow from3 tt (either (b.rule == 3) object from4 tt (either (b.rule == 4) showing4 from5 slot (either (b.rule == 5) showing5 last change tt)))

-- ---- names

-- all that the texts ask
pub record Conditions (m : MethodRef) (s : Showing) : Type 0 where
  pub words : AreWords m s
  pub names : AreNames m s
  pub said : AreSaid m s

type_spelled : (kind : ValueType) → type_is_named kind ≡ true → is_word (type_text kind) ≡ true
type_spelled types.Void e = refl
type_spelled types.Long e = refl
type_spelled types.Boolean e = refl
type_spelled types.Str e = refl
type_spelled (types.Class k) e = (both (is_word (class_text k)) (interfaces.is_name (key_of (class_text k))) e).0

type_written : (kind : ValueType) → type_is_named kind ≡ true → is_void kind ≡ false → IsWritten kind
type_written types.Void e v = absurd (true≢false v)
type_written types.Long e v = tt
type_written types.Boolean e v = tt
type_written types.Str e v = tt
type_written (types.Class k) e v = (both (is_word (class_text k)) (interfaces.is_name (key_of (class_text k))) e).1

type_result : (kind : ValueType) → type_is_named kind ≡ true → IsResult kind
type_result types.Void e = tt
type_result types.Long e = tt
type_result types.Boolean e = tt
type_result types.Str e = tt
type_result (types.Class k) e = (both (is_word (class_text k)) (interfaces.is_name (key_of (class_text k))) e).1

named : (bs : List ℕ) → interfaces.is_name_text bs ≡ true → (is_word bs ≡ true) × (interfaces.is_name (key_of bs) ≡ true)
named bs e = both (is_word bs) (interfaces.is_name (key_of bs)) e

-- W may override the method
record IsOverridden (m : MethodRef) : Type 0 where
  pub class_word : is_word (class_text m.class) ≡ true
  pub class_name : interfaces.is_name (key_of (class_text m.class)) ≡ true
  pub word : is_word m.name ≡ true
  pub name : interfaces.is_name (key_of m.name) ≡ true
  pub plain : key_of m.name ≢ key.ReleaseOrder

overridden : (m : MethodRef) → can_override m ≡ true → IsOverridden m
overridden m e =
    let a = both (interfaces.is_name_text (class_text m.class)) (interfaces.is_name_text m.name && not (bytes_eq m.name (codes "releaseorder"))) e in
    let b = both (interfaces.is_name_text m.name) (not (bytes_eq m.name (codes "releaseorder"))) a.1 in
    let c = named (class_text m.class) a.0 in
    let n = named m.name b.0 in
    record { class_word = c.0; class_name = c.1; word = n.0; name = n.1; plain = not_order m.name (is_no (bytes_eq m.name (codes "releaseorder")) b.1) }

-- W may call the method
record IsCalled (m : MethodRef) : Type 0 where
  pub class_word : is_word (class_text m.class) ≡ true
  pub class_name : interfaces.is_name (key_of (class_text m.class)) ≡ true
  pub word : is_word m.name ≡ true

by_name : (old : Interface) (m : MethodRef) → can_call old m ≡ true → IsCalled m
by_name old m e =
    let slot = goes_by_slot (entry_at (release_of old) m.class m.name) in
    let a = both (interfaces.is_name_text (class_text m.class)) (is_word m.name && slot) e in
    let c = named (class_text m.class) a.0 in
    record { class_word = c.0; class_name = c.1; word = (both (is_word m.name) slot a.1).0 }

pub conditions : (old : Interface) (m : MethodRef) (s : Showing) → has_text old m s ≡ true → IsSayable s → Conditions m s
unfolding has_text
conditions old m StandsBelow e h = let c = named (class_text m.class) e in record { words = c.0; names = c.1; said = tt }
conditions old m (KeepsObject a) e h =
    let p = both (interfaces.is_name_text (class_text m.class)) (interfaces.is_name_text (class_text a)) e in
    let c = named (class_text m.class) p.0 in
    let d = named (class_text a) p.1 in
    record { words = (c.0, d.0); names = (c.1, d.1); said = tt }
conditions old m (Overrides params) e h = let o = overridden m e in record { words = (o.class_word, o.word, h); names = (o.class_name, o.name, o.plain); said = h }
conditions old m (CallsSlot params) e h = absurd (true≢false (sym e))
conditions old m (Calls params) e h = let c = by_name old m e in record { words = (c.class_word, c.word); names = c.class_name; said = tt }
conditions old m (Passes params j kind) e h =
    let p = both (can_call old m) (type_is_named kind) e in
    let c = by_name old m p.0 in
    record { words = (c.class_word, c.word, type_spelled kind p.1); names = (c.class_name, type_written kind p.1 h); said = tt }
conditions old m (KeepsParameter params j kind) e h =
    let p = both (can_override m) (type_is_named kind) e in
    let o = overridden m p.0 in
    record { words = (o.class_word, o.word, h.0, h.1, type_spelled kind p.1); names = ((o.class_name, o.name, o.plain), type_written kind p.1 h.2); said = (h.0, h.1) }
conditions old m (ReturnsNothing params) e h = let o = overridden m e in record { words = (o.class_word, o.word, h); names = (o.class_name, o.name, o.plain); said = h }
conditions old m (ReturnsVariable params kind) e h =
    let p = both (can_override m) (type_is_named kind) e in
    let o = overridden m p.0 in
    record { words = (o.class_word, o.word, h.0, type_spelled kind p.1); names = ((o.class_name, o.name, o.plain), type_written kind p.1 h.1); said = h.0 }
conditions old m (ReturnsAnswer params kind) e h =
    let p = both (can_call old m) (type_is_named kind) e in
    let c = by_name old m p.0 in
    record { words = (c.class_word, c.word, type_spelled kind p.1); names = (c.class_name, type_result kind p.1); said = tt }
conditions old m (ReturnsClass k) e h =
    let p = both (bodies.is_name_text (class_text m.class)) (interfaces.is_name_text (class_text k)) e in
    let c = both (is_word (class_text m.class)) (bodies.is_name (key_of (class_text m.class))) p.0 in
    let d = named (class_text k) p.1 in
    record { words = (c.0, d.0); names = d.1; said = c.1 }
