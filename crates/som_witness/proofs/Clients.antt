-- The client of each breach conforms, by the breach.
use Rattle.std.proofs.Common.{◌≡◌, ◌≢◌, ℕ, ◌==◌, ◌<◌, ◌^◌, inl, inr, Bool, true, false, if◌then◌else◌, List, [], ◌∷◌, length, Option, Some, None, slice_get, refl, sym, ap, ◌∙◌, subst, arith, true≢false}
use Rattle.std.specs.Prelude.{is_some, unwrap_or}
use Rattle.std.specs.Str.{bytes_eq}
use Rattle.som_model.specs.declared.key.Module.TheVariants as modules
use Rattle.som_model.specs.declared.key.ClassKey.{ClassKey}
use Rattle.som_model.specs.declared.class.Sig.{Sig}
use Rattle.som_model.specs.declared.class.Entry.TheVariants as entries
use Rattle.som_model.specs.declared.class.ClassFace.{ClassFace}
use Rattle.som_model.specs.declared.program.Interface.{Interface}
use Rattle.som_model.specs.Lists.{Mem, every}
use Rattle.som_model.specs.Ancestors.{Descends}
use Rattle.som_model.specs.Class.{Class, bare, class_in, introduced_sig}
use Rattle.som_model.specs.Classes.{ancestors, class_at, hierarchy, interface_classes}
use Rattle.som_model.specs.Kernel.{kernel, som_class}
use Rattle.som_model.specs.Owner.{introduces}
use Rattle.som_model.specs.Rules.{breach, is_void, name_of}
use Rattle.som_model.specs.Conforming.{ProgramOk}
use Rattle.som_model.specs.Compatible.{CompatBreach, declared_name, incompatible, order_of, release_of, signature}
use Rattle.som_model.proofs.KeyLaws.{exact_bytes, exact_numbers}
use Rattle.som_model_laws.proofs.Laws.{among_mem, ancestors as ancestors_are}
use Rattle.som_model_laws.proofs.Lists.{doubles_apart, every_mem, get_mem, map_mem, mem_map}
use Rattle.som_model_laws.proofs.Members.{mem_right, mem_split}
use Rattle.som_model_laws.proofs.Owners.{entry_is}
use Rattle.som_model_laws.proofs.Standing.{falls, found, tells}
use Rattle.som_breach_laws.specs.Breaking.{Breaks, IntroducesAt, IsFirstBreach, lost, older, loses_ancestor, moves_slot, changes_signature, loses_metaclass}
use Rattle.som_breach_laws.proofs.Lists.{map_none}
use Rattle.som_breach_laws.proofs.Moving.{Stands, introduced_there}
use Rattle.som_breach_laws.proofs.Pairs.{at_new, library_key}
use Rattle.som_witness.specs.Program.{IsW, class_names, numbered_w, one_class, w_class, w_name, witness_program}
use Rattle.som_witness.specs.Showings.{Change, Showing, StandsBelow, KeepsObject, CallsSlot, Calls, Passes, KeepsParameter, ReturnsNothing, ReturnsVariable, ReturnsAnswer, ReturnsClass, change_showing, changed_showing, first_change, fits_among, metaclass_in, params_of, showing_of, slot_showing, told_method}
use Rattle.som_witness.specs.Verdicts.{ShowsBreach}
use Rattle.som_witness.proofs.Changes.{changed}
use Rattle.som_witness.proofs.Conforms.{answer_ok, calls_ok, class_ok, kept_ok, nothing_ok, object_ok, overrides_ok, passes_ok, plain_ok, variable_ok}
use Rattle.som_witness.proofs.Holding.{Holds}
use Rattle.som_witness.proofs.Known.{has_signature}
use Rattle.som_witness.proofs.Numbers.{w_is}
use Rattle.som_witness.proofs.Shown.{ancestor_shown, lost_shown, metaclass_shown, never_binds, place_zero, shown_by, signature_shown, slot_shown, told}
use Rattle.som_witness.proofs.Slots.{entry_found}

-- ---- W's name is no other class's

abbrev first_byte : List ℕ → ℕ
first_byte [] = 0
first_byte (b ∷ bs) = b

kernel_bytes : every (λ (c : Class). first_byte (name_of c) == 83) kernel ≡ true
kernel_bytes = refl

number_byte : (n : ℕ) → first_byte (numbered_w n) ≡ 87
number_byte n = refl

w_free : (old : Interface) → IsW old (w_name old) → (c : Class) → Mem c (release_of old) → name_of c ≡ w_name old → ⊥
w_free old is c m e = elim (mem_split c kernel (interface_classes old) m) [
  | inl a ↦ (
      let b = exact_numbers.two (first_byte (name_of c)) 83 (every_mem (λ (c : Class). first_byte (name_of c) == 83) c kernel kernel_bytes a) in
      let w = ap first_byte (e ∙ is.is) ∙ number_byte is.number in
      omega (arith, b, w))
  | inr b ↦ (
      let f = map_mem (λ (f : ClassFace). class_in modules.Library (bare f)) c old.classes b in
      let there = mem_map (λ (f : ClassFace). f.name) f.0 old.classes f.1 in
      let here : Mem (w_name old) (class_names old) = subst (λ z. Mem z (class_names old)) (ap name_of (sym f.2) ∙ e) there in
      true≢false (sym ((among_mem (w_name old) (class_names old)).1 here) ∙ is.free))
]

module _ (old new : Interface) (so : Stands old) (sn : Stands new) (holds : Holds old) (free : (c : Class) → Mem c (release_of old) → name_of c ≡ w_name old → ⊥) where
  abbrev olds : List Class
  olds = interface_classes old

  abbrev O : List Class
  O = release_of old

  abbrev F : List Class
  F = release_of new

  -- the program of a breach that is shown so
  ok_by : (b a : CompatBreach) (s : Showing) → b ≡ a → showing_of old new a ≡ s → ProgramOk (one_class old (w_class (w_name old) (told_method a) s)) → ProgramOk (witness_program old new b)
  ok_by b a s same e ok = subst (λ z. ProgramOk (witness_program old new z)) (sym same) (subst (λ p. ProgramOk p) (sym (shown_by old new a s e)) ok)

  module _ (c : Class) (m : Mem c olds) where
    abbrev K : ClassKey
    K = (told c []).class

    abbrev Fine : List ℕ → Showing → Type 0
    Fine x s = ProgramOk (one_class old (w_class (w_name old) (told c x) s))

    key_is : c.key ≡ K
    key_is = library_key old c m

    old_at : class_at O K ≡ Some c
    old_at = found olds so.load.ordered c K (mem_right c kernel olds m) key_is

    object_fine : (x : List ℕ) (place : ℕ) (a : ClassKey) → slice_get (ancestors O c.key) place ≡ Some a → Fine x (KeepsObject (unwrap_or (slice_get (ancestors O K) place) K))
    object_fine x place a at =
        let here : unwrap_or (slice_get (ancestors O K) place) K ≡ a = ap (λ z. unwrap_or z K) (ap (λ z. slice_get (ancestors O z) place) (sym key_is) ∙ at) in
        let up = (ancestors_are (hierarchy O) (tells olds so.load.ordered) (falls olds so.load.ordered) c.key a).0 (get_mem (ancestors O c.key) place a at) in
        subst (λ z. Fine x (KeepsObject z)) (sym here) (object_ok old so holds (w_name old) free c m a (subst (λ z. Descends (hierarchy O) z a) key_is up))

    class_fine : (x : List ℕ) (k : ClassKey) → c.decl.face.metaclass ≡ Some k → Fine x (ReturnsClass (metaclass_in (class_at O K)))
    class_fine x k has =
        let here : metaclass_in (class_at O K) ≡ k = ap metaclass_in old_at ∙ ap (λ z. unwrap_or z som_class) has in
        subst (λ z. Fine x (ReturnsClass z)) (sym here) (class_ok old so holds (w_name old) free c m k has)

    module _ (x : List ℕ) (s : Sig) (has : signature O K x ≡ Some s) where
      slot_fine : (own : Bool) → introduces O x K ≡ own → Fine x (slot_showing own (params_of (signature O K x)))
      slot_fine true e = overrides_ok old so holds (w_name old) free c m x s has e
      slot_fine false e = subst (λ z. Fine x (CallsSlot z)) (sym (ap params_of has)) (calls_ok old so holds (w_name old) free c m x s has)

      module _ (t : Sig) (intro : introduces O x K ≡ true) where
        result_fine : (void fit : Bool) → is_void s.result ≡ void → Fine x (if void then ReturnsNothing s.params else (if fit then ReturnsVariable s.params s.result else ReturnsAnswer s.params s.result))
        result_fine true fit e = nothing_ok old so holds (w_name old) free c m x s has intro e
        result_fine false true e = variable_ok old so holds (w_name old) free c m x s has intro e
        result_fine false false e = answer_ok old so holds (w_name old) free c m x s has e

        parameter_fine : (d : Change) → first_change 0 s.params t.params ≡ Some d → (fit : Bool) → Fine x (if fit then KeepsParameter s.params d.place d.old_type else Passes s.params d.place d.old_type)
        parameter_fine d e true =
            let q = changed 0 s.params t.params d e in
            kept_ok old so holds (w_name old) free c m x s has intro d.place d.old_type (ap (slice_get s.params) (sym (place_zero q.place d.place q.counted)) ∙ q.before)
        parameter_fine d e false =
            let q = changed 0 s.params t.params d e in
            passes_ok old so holds (w_name old) free c m x s has d.place d.old_type (ap (slice_get s.params) (sym (place_zero q.place d.place q.counted)) ∙ q.before)

        change_fine : (o : Option Change) → first_change 0 s.params t.params ≡ o → Fine x (change_showing F s t o)
        change_fine None e = result_fine (is_void s.result) (fits_among F s.result t.result) refl
        change_fine (Some d) e = parameter_fine d e (fits_among F d.new_type d.old_type)

        count_fine : (b : Bool) → Fine x (if b then change_showing F s t (first_change 0 s.params t.params) else Calls s.params)
        count_fine true = change_fine (first_change 0 s.params t.params) refl
        count_fine false = calls_ok old so holds (w_name old) free c m x s has

        signature_fine : Fine x (changed_showing F (Some s) (Some t))
        signature_fine = count_fine (length s.params == length t.params)

    -- an entry that C introduces at a place is found by its name
    introduced_here : (place : ℕ) (x : List ℕ) → IntroducesAt c place x → introduces O x K ≡ true
    introduced_here place x i =
        let differ = doubles_apart bytes_eq exact_bytes (order_of c) (map_none (breach 6 c) _ (so.load.names c m)) in
        let e = entry_found c.decl.face.entries differ place (entries.Introduced x i.sig i.way) i.entry in
        ap (λ o. is_some (introduced_sig o)) (entry_is O K x c old_at ∙ e)

  breaks_fine : (b : CompatBreach) (f : IsFirstBreach old new b) → Breaks old new f.class b → b.rule ≢ 2 → ProgramOk (witness_program old new b)
  breaks_fine b f (lost same gone) other =
      let m = get_mem olds f.number f.class f.there in
      ok_by b (incompatible 1 f.class None 0) StandsBelow same (lost_shown old new f.class) (plain_ok old so holds (w_name old) free f.class m)
  breaks_fine b f (older n kept k same g) other = absurd (other (ap (λ (z : CompatBreach). z.rule) same))
  breaks_fine b f (loses_ancestor n kept k place a same g) other =
      let c = f.class in
      let m = get_mem olds f.number c f.there in
      ok_by b (incompatible 3 c (declared_name a) place) (KeepsObject (unwrap_or (slice_get (ancestors O (told c []).class) place) (told c []).class)) same (ancestor_shown old new c (declared_name a) place)
      (object_fine c m (unwrap_or (declared_name a) []) place a g.there)
  breaks_fine b f (moves_slot n kept k place x same g) other =
      let c = f.class in
      let m = get_mem olds f.number c f.there in
      let s = has_signature old so (told c x).class c x (old_at c m) (get_mem (order_of c) place x g.there) in
      ok_by b (incompatible 4 c (Some x) place) (slot_showing (introduces O x (told c x).class) (params_of (signature O (told c x).class x))) same (slot_shown old new c x place)
      (slot_fine c m x s.0 s.1 (introduces O x (told c x).class) refl)
  breaks_fine b f (changes_signature n kept k place x same g) other =
      let c = f.class in
      let m = get_mem olds f.number c f.there in
      let now = ap (class_at F) (sym (library_key old c m)) ∙ at_new old new sn.load.ordered c n m kept in
      let s = has_signature old so (told c x).class c x (old_at c m) (get_mem (order_of c) place x g.there) in
      let t = has_signature new sn (told c x).class n x now (get_mem (order_of n) place x (k.places (omega arith) place x g.there)) in
      let five : b.rule ≡ 5 = ap (λ (z : CompatBreach). z.rule) same in
      let name : b.name ≡ Some x = ap (λ (z : CompatBreach). z.name) same in
      let intro = introduced_here c m b.place x (introduced_there old new so sn b x f five name) in
      let shown = signature_shown old new c x place ∙ ap (λ z. changed_showing F z (signature F (told c x).class x)) s.1 ∙ ap (changed_showing F (Some s.0)) t.1 in
      ok_by b (incompatible 5 c (Some x) place) (changed_showing F (Some s.0) (Some t.0)) same shown (signature_fine c m x s.0 s.1 t.0 intro)
  breaks_fine b f (loses_metaclass n kept k v same has g) other =
      let c = f.class in
      let m = get_mem olds f.number c f.there in
      ok_by b (incompatible 6 c (declared_name v) 0) (ReturnsClass (metaclass_in (class_at O (told c []).class))) same (metaclass_shown old new c (declared_name v)) (class_fine c m (unwrap_or (declared_name v) []) v has)

-- the base of the program
base_is : (old new : Interface) (b : CompatBreach) → (witness_program old new b).base ≡ old
unfolding witness_program
base_is old new b = refl

pub shows : (old new : Interface) → Stands old → Stands new → Holds old → length old.classes < 2 ^ 64 → (b : CompatBreach) → IsFirstBreach old new b → b.rule ≢ 2 → ShowsBreach (witness_program old new b) old new
shows old new so sn holds small b f other = record {
  conforms = breaks_fine old new so sn holds (w_free old (w_is old small)) b f f.breaks other;
  base = base_is old new b;
  refused = never_binds old new so sn b f other;
}
