-- How many parameters a method has at most, where the faces of an interface are within the counts of an image.
use Rattle.std.proofs.Common.{◌≡◌, ℕ, ◌≤◌, inl, inr, Bool, true, false, if◌then◌else◌, ◌==◌, List, [], length, slice_get, Option, Some, None, refl, ap, subst, arith}
use Rattle.std.specs.Prelude.{nat_le, unwrap_or}
use Rattle.std.proofs.lemmas.Grind.{common_steps}
use Rattle.som_model.specs.declared.limits.TheConstants.{MAX_PARAMETERS}
use Rattle.som_model.specs.declared.key.ClassKey.{ClassKey}
use Rattle.som_model.specs.declared.key.MethodRef.{MethodRef}
use Rattle.som_model.specs.declared.key.Module.TheVariants as modules
use Rattle.som_model.specs.declared.key.ValueType.{ValueType}
use Rattle.som_model.specs.declared.class.Sig.{Sig}
use Rattle.som_model.specs.declared.class.Way.{Way}
use Rattle.som_model.specs.declared.class.ClassFace.{ClassFace}
use Rattle.som_model.specs.declared.class.Entry.{Entry}
use Rattle.som_model.specs.declared.class.Entry.TheVariants as entries
use Rattle.som_model.specs.declared.program.Interface.{Interface}
use Rattle.som_model.specs.Class.{Class, bare, class_in, introduced_sig}
use Rattle.som_model.specs.Classes.{ancestors, class_at, interface_classes}
use Rattle.som_model.specs.Compatible.{CompatBreach, release_of, signature}
use Rattle.som_model.specs.Counts.{FaceCounted}
use Rattle.som_model.specs.Keys.{same_key}
use Rattle.som_model.specs.Kernel.{kernel}
use Rattle.som_model.specs.Lists.{Mem, every}
use Rattle.som_model.specs.Owner.{entry_at, introduces, owner, sig_of}
use Rattle.som_model.specs.Rules.{is_void}
use Rattle.som_model_laws.proofs.Lists.{every_mem, find_mem, map_mem}
use Rattle.som_model_laws.proofs.Members.{mem_split}
use Rattle.som_model_laws.proofs.Owners.{entry_class, entry_mem}
use Rattle.som_witness.specs.Showings.{Change, Showing, StandsBelow, KeepsObject, Overrides, CallsSlot, Calls, Passes, KeepsParameter, ReturnsNothing, ReturnsVariable, ReturnsAnswer, ReturnsClass, change_showing, changed_showing, first_change, fits_among, metaclass_in, params_of, showing_of, slot_showing, told_class, told_method}
use Rattle.som_witness_texts.specs.Files.{FewParameters}

-- ---- signatures

-- one of these classes introduces a method with this signature
record IsIntroduced (cs : List Class) (s : Sig) : Type 0 where
  class : Class
  name : List ℕ
  way : Way
  there : Mem class cs
  entry : Mem (entries.Introduced name s way) class.decl.face.entries

one_sig : (a b : Sig) (o : Option Sig) → o ≡ Some a → o ≡ Some b → a ≡ b
one_sig a b o g h = cc

no_sig : (a : Sig) (o : Option Sig) → o ≡ None → o ≡ Some a → ⊥
no_sig a o g h = cc

introduced_by : (cs : List Class) (r : MethodRef) (s : Sig) (o : Option Entry) → entry_at cs r.class r.name ≡ o → sig_of cs r ≡ Some s → IsIntroduced cs s
introduced_by cs r s None e f = absurd (no_sig s (sig_of cs r) (ap introduced_sig e) f)
introduced_by cs r s (Some (entries.Introduced name sig way)) e f =
    let c = entry_class cs r.class r.name (entries.Introduced name sig way) e in
    let here = find_mem (λ (z : Class). same_key z.key r.class) cs c.0 c.1 in
    let m = entry_mem c.0.decl.face.entries r.name (entries.Introduced name sig way) c.2 in
    let same = one_sig sig s (sig_of cs r) (ap introduced_sig e) f in
    record { class = c.0; name = name; way = way; there = here.0; entry = subst (λ (z : Sig). Mem (entries.Introduced name z way) c.0.decl.face.entries) same m.0 }
introduced_by cs r s (Some (entries.Moved name to)) e f = absurd (no_sig s (sig_of cs r) (ap introduced_sig e) f)

introduced : (cs : List Class) (k : ClassKey) (name : List ℕ) (s : Sig) → signature cs k name ≡ Some s → IsIntroduced cs s
introduced cs k name s e = let o = owner cs (record { class = k; name = name }) in introduced_by cs o s (entry_at cs o.class o.name) refl e

abbrev is_few : Entry → Bool
is_few (entries.Introduced name sig way) = nat_le (length sig.params) MAX_PARAMETERS
is_few (entries.Moved name to) = true

kernel_few : every (λ (c : Class). every is_few c.decl.face.entries) kernel ≡ true
kernel_few = refl

at_most : (n : ℕ) → nat_le n MAX_PARAMETERS ≡ true → n ≤ MAX_PARAMETERS
at_most n e = grind (arith, common_steps)

abbrev pub AreCounted : Interface → Type 0
AreCounted i = (f : ClassFace) → Mem f i.classes → FaceCounted f

pub few_at : (i : Interface) → AreCounted i → (k : ClassKey) (name : List ℕ) (s : Sig) → signature (release_of i) k name ≡ Some s → length s.params ≤ MAX_PARAMETERS
few_at i counts k name s e =
    let d = introduced (release_of i) k name s e in
    elim (mem_split d.class kernel (interface_classes i) d.there) [
      | inl a ↦ at_most (length s.params) (every_mem is_few (entries.Introduced d.name s d.way) d.class.decl.face.entries (every_mem (λ (c : Class). every is_few c.decl.face.entries) d.class kernel kernel_few a) d.entry)
      | inr b ↦ (
          let f = map_mem (λ (f : ClassFace). class_in modules.Library (bare f)) d.class i.classes b in
          (counts f.0 f.1).params d.name s d.way (subst (λ (z : Class). Mem (entries.Introduced d.name s d.way) z.decl.face.entries) f.2 d.entry))
    ]

pub few : (i : Interface) (m : MethodRef) → AreCounted i → FewParameters i m
few i m counts s e = let le = few_at i counts m.class m.name s e in omega (arith, le)

-- ---- ways in which a client shows a breach

-- the types of the told method's parameters
abbrev pub params_in : Showing → List ValueType
params_in StandsBelow = []
params_in (KeepsObject a) = []
params_in (Overrides params) = params
params_in (CallsSlot params) = params
params_in (Calls params) = params
params_in (Passes params j kind) = params
params_in (KeepsParameter params j kind) = params
params_in (ReturnsNothing params) = params
params_in (ReturnsVariable params kind) = params
params_in (ReturnsAnswer params kind) = params
params_in (ReturnsClass k) = []

abbrev pub HasFew : Showing → Type 0
HasFew s = length (params_in s) ≤ MAX_PARAMETERS

either : (x : Bool) (a b : Showing) → HasFew a → HasFew b → HasFew (if x then a else b)
either true a b h k = h
either false a b h k = k

change_few : (news : List Class) (s t : Sig) (o : Option Change) → length s.params ≤ MAX_PARAMETERS → HasFew (change_showing news s t o)
change_few news s t (Some d) le = either (fits_among news d.new_type d.old_type) (KeepsParameter s.params d.place d.old_type) (Passes s.params d.place d.old_type) le le
change_few news s t None le =
    let second = if fits_among news s.result t.result then ReturnsVariable s.params s.result else ReturnsAnswer s.params s.result in
    either (is_void s.result) (ReturnsNothing s.params) second le (either (fits_among news s.result t.result) (ReturnsVariable s.params s.result) (ReturnsAnswer s.params s.result) le le)

changed_few : (news : List Class) (o n : Option Sig) → ((s : Sig) → o ≡ Some s → length s.params ≤ MAX_PARAMETERS) → HasFew (changed_showing news o n)
changed_few news None n h = omega arith
changed_few news (Some s) None h = h s refl
changed_few news (Some s) (Some t) h =
    either (length s.params == length t.params) (change_showing news s t (first_change 0 s.params t.params)) (Calls s.params) (change_few news s t (first_change 0 s.params t.params) (h s refl)) (h s refl)

params_few : (o : Option Sig) → ((s : Sig) → o ≡ Some s → length s.params ≤ MAX_PARAMETERS) → length (params_of o) ≤ MAX_PARAMETERS
params_few None h = omega arith
params_few (Some s) h = h s refl

none_few : 0 ≤ MAX_PARAMETERS
none_few = omega arith

pub showing_few : (old new : Interface) (b : CompatBreach) → AreCounted old → HasFew (showing_of old new b)
unfolding showing_of
showing_few old new b counts =
    let m = told_method b in
    let o = signature (release_of old) m.class m.name in
    let h = few_at old counts m.class m.name in
    let slot = either (introduces (release_of old) m.name m.class) (Overrides (params_of o)) (CallsSlot (params_of o)) (params_few o h) (params_few o h) in
    let change = changed_few (release_of new) o (signature (release_of new) m.class m.name) h in
    let c = told_class b in
    let showing4 = slot_showing (introduces (release_of old) m.name m.class) (params_of o) in
    let showing5 = changed_showing (release_of new) o (signature (release_of new) m.class m.name) in
    let last = ReturnsClass (metaclass_in (class_at (release_of old) c)) in
    let from5 = if b.rule == 5 then showing5 else last in
    let from4 = if b.rule == 4 then showing4 else from5 in
    let object = KeepsObject (unwrap_or (slice_get (ancestors (release_of old) c) b.place) c) in
    let from3 = if b.rule == 3 then object else from4 in
    either (b.rule == 1) StandsBelow from3 none_few (either (b.rule == 3) object from4 none_few (either (b.rule == 4) showing4 from5 slot (either (b.rule == 5) showing5 last change none_few)))
