-- The trees of the client that shows a breach stand for that client, by the breach.
use Rattle.std.proofs.Common.{◌≡◌, ◌≢◌, ℕ, ◌==◌, ◌<◌, ◌^◌, Bool, true, false, ◌&&◌, if◌then◌else◌, List, [], ◌∷◌, length, Option, Some, None, slice_get, refl, sym, ap, ◌∙◌, subst, arith, true≢false}
use Rattle.std.specs.Prelude.{is_some, unwrap_or}
use Rattle.std.specs.Str.{bytes_eq}
use Rattle.som_model.specs.declared.key.ClassKey.{ClassKey}
use Rattle.som_model.specs.declared.key.MethodRef.{MethodRef}
use Rattle.som_model.specs.declared.key.ValueType.{ValueType}
use Rattle.som_model.specs.declared.class.Sig.{Sig}
use Rattle.som_model.specs.declared.class.Entry.TheVariants as entries
use Rattle.som_model.specs.declared.program.Interface.{Interface}
use Rattle.som_model.specs.Lists.{Mem}
use Rattle.som_model.specs.Ancestors.{Descends}
use Rattle.som_model.specs.Class.{Class, introduced_sig}
use Rattle.som_model.specs.Classes.{ancestors, class_at, hierarchy, interface_classes}
use Rattle.som_model.specs.Kernel.{som_class}
use Rattle.som_model.specs.Owner.{entry_at, introduces}
use Rattle.som_model.specs.Rules.{breach, is_void, name_of}
use Rattle.som_model.specs.Compatible.{CompatBreach, declared_name, first_break, incompatible, order_of, release_of, signature}
use Rattle.som_model.proofs.KeyLaws.{both, exact_bytes}
use Rattle.som_model_laws.proofs.Laws.{ancestors as ancestors_are}
use Rattle.som_model_laws.proofs.Lists.{doubles_apart, get_mem}
use Rattle.som_model_laws.proofs.Owners.{entry_is}
use Rattle.som_model_laws.proofs.Standing.{falls, tells}
use Rattle.som_breach_laws.specs.Breaking.{Breaks, IntroducesAt, IsFirstBreach, lost, older, loses_ancestor, moves_slot, changes_signature, loses_metaclass}
use Rattle.som_release_laws.proofs.Accepting.{interface_ordered}
use Rattle.som_breach_laws.proofs.Breaking.{first_told}
use Rattle.som_breach_laws.proofs.Lists.{map_none}
use Rattle.som_breach_laws.proofs.Moving.{Stands, interface_stands, introduced_there}
use Rattle.som_breach_laws.proofs.Pairs.{at_new, library_key}
use Rattle.som_elab.specs.Elaboration.{elaborated_program}
use Rattle.som_model.specs.Conforming.{faces_breach}
use Rattle.som_sema_scope.specs.Words.{interfaces_of}
use Rattle.som_elab_methods.specs.Bodies.{bodies_of}
use Rattle.som_elab_laws.proofs.ConformLaws.{client_stands}
use Rattle.som_lex.specs.Spelling.{is_word}
use Rattle.som_idl.specs.Grammar.{is_name_text}
use Rattle.som_witness.specs.Program.{w_name, witness_program}
use Rattle.som_witness.specs.Showings.{Change, Showing, StandsBelow, KeepsObject, Overrides, CallsSlot, Calls, Passes, KeepsParameter, ReturnsNothing, ReturnsVariable, ReturnsAnswer, ReturnsClass, change_showing, changed_showing, first_change, fits_among, metaclass_in, params_of, showing_of, slot_showing, told_method}
use Rattle.som_witness.specs.Wording.{can_call, class_text, goes_by_slot, has_text, texts_of, type_is_named, witness_texts}
use Rattle.som_witness.specs.declared.verdict.Texts.{Texts}
use Rattle.som_witness.proofs.Changes.{changed}
use Rattle.som_witness.proofs.Holding.{Holds, interface_holds}
use Rattle.som_witness.proofs.Known.{has_signature}
use Rattle.som_witness.proofs.Numbers.{w_is}
use Rattle.som_witness.proofs.Shown.{ancestor_shown, lost_shown, metaclass_shown, place_zero, signature_shown, slot_shown, told}
use Rattle.som_witness.proofs.Slots.{entry_found}
use Rattle.som_witness_elab.proofs.Below.{OwnEntry, own_entry}
use Rattle.som_witness_texts.specs.Files.{FewParameters, bodies_trees}
use Rattle.som_witness_texts.specs.Trees.{main_tree, w_bodies, w_interface}
use Rattle.som_witness_elab.specs.Standing.{StandForWitness, WitnessConforms, witness_trees}
use Rattle.som_witness_elab.proofs.Names.{w_is_free}
use Rattle.som_witness_elab.proofs.Overriding.{old_at}
use Rattle.som_witness_elab.proofs.ShownByG.{StandFor, calls, keeps_object, passes, returns_answer, returns_class}
use Rattle.som_witness_elab.proofs.ShownByOverride.{keeps_parameter, overrides, returns_nothing, returns_variable, stands_below}

-- ---- what the texts ask of the entry

last_of_three : (p q r : Bool) → (p && (q && r)) ≡ true → r ≡ true
last_of_three true true r e = e
last_of_three true false r e = absurd (true≢false (sym e))
last_of_three false q r e = absurd (true≢false (sym e))

no_slot_text : (old : Interface) (m : MethodRef) (params : List ValueType) → has_text old m (CallsSlot params) ≡ true → ⊥
unfolding has_text
no_slot_text old m params e = true≢false (sym e)

calls_slot : (old : Interface) (m : MethodRef) (params : List ValueType) → has_text old m (Calls params) ≡ true → goes_by_slot (entry_at (release_of old) m.class m.name) ≡ true
unfolding has_text
calls_slot old m params e = last_of_three (is_name_text (class_text m.class)) (is_word m.name) (goes_by_slot (entry_at (release_of old) m.class m.name)) e

passes_slot : (old : Interface) (m : MethodRef) (params : List ValueType) (j : ℕ) (kind : ValueType) → has_text old m (Passes params j kind) ≡ true → goes_by_slot (entry_at (release_of old) m.class m.name) ≡ true
unfolding has_text
passes_slot old m params j kind e = last_of_three (is_name_text (class_text m.class)) (is_word m.name) (goes_by_slot (entry_at (release_of old) m.class m.name)) (both (can_call old m) (type_is_named kind) e).0

answer_slot : (old : Interface) (m : MethodRef) (params : List ValueType) (kind : ValueType) → has_text old m (ReturnsAnswer params kind) ≡ true → goes_by_slot (entry_at (release_of old) m.class m.name) ≡ true
unfolding has_text
answer_slot old m params kind e = last_of_three (is_name_text (class_text m.class)) (is_word m.name) (goes_by_slot (entry_at (release_of old) m.class m.name)) (both (can_call old m) (type_is_named kind) e).0

-- where there are texts, they stand for W
abbrev pub Said : Interface → MethodRef → Showing → Type 0
Said old m s = has_text old m s ≡ true → StandFor old (w_name old) m s

module _ (old new : Interface) (so : Stands old) (sn : Stands new) (holds : Holds old) (free : (c : Class) → Mem c (release_of old) → name_of c ≡ w_name old → ⊥) where
  abbrev olds : List Class
  olds = interface_classes old

  abbrev O : List Class
  O = release_of old

  abbrev F : List Class
  F = release_of new

  -- by how a breach is shown
  said_by : (b a : CompatBreach) (s : Showing) → b ≡ a → showing_of old new a ≡ s → Said old (told_method a) s → Said old (told_method b) (showing_of old new b)
  said_by b a s same e f = subst (λ (z : CompatBreach). Said old (told_method z) (showing_of old new z)) (sym same) (subst (λ (z : Showing). Said old (told_method a) z) (sym e) f)

  module _ (c : Class) (m : Mem c olds) where
    abbrev K : ClassKey
    K = (told c []).class

    abbrev Fine : List ℕ → Showing → Type 0
    Fine x s = Said old (told c x) s

    key_is : c.key ≡ K
    key_is = library_key old c m

    at_old : class_at O K ≡ Some c
    at_old = old_at old so holds (w_name old) free c m

    below_fine : Fine [] StandsBelow
    below_fine e = stands_below old so holds (w_name old) free c m []

    object_fine : (x : List ℕ) (place : ℕ) (a : ClassKey) → slice_get (ancestors O c.key) place ≡ Some a → Fine x (KeepsObject (unwrap_or (slice_get (ancestors O K) place) K))
    object_fine x place a at =
        let here : unwrap_or (slice_get (ancestors O K) place) K ≡ a = ap (λ z. unwrap_or z K) (ap (λ z. slice_get (ancestors O z) place) (sym key_is) ∙ at) in
        let up = (ancestors_are (hierarchy O) (tells olds so.load.ordered) (falls olds so.load.ordered) c.key a).0 (get_mem (ancestors O c.key) place a at) in
        subst (λ z. Fine x (KeepsObject z)) (sym here) (λ e. keeps_object old so holds (w_name old) free c m x a (subst (λ z. Descends (hierarchy O) z a) key_is up))

    class_fine : (x : List ℕ) (k : ClassKey) → c.decl.face.metaclass ≡ Some k → Fine x (ReturnsClass (metaclass_in (class_at O K)))
    class_fine x k has =
        let here : metaclass_in (class_at O K) ≡ k = ap metaclass_in at_old ∙ ap (λ z. unwrap_or z som_class) has in
        subst (λ z. Fine x (ReturnsClass z)) (sym here) (λ e. returns_class old so holds (w_name old) free c m x k has)

    module _ (x : List ℕ) (s : Sig) (has : signature O K x ≡ Some s) (small : length s.params < 2 ^ 64) where
      slot_fine : (own : Bool) → introduces O x K ≡ own → Fine x (slot_showing own (params_of (signature O K x)))
      slot_fine true i = subst (λ (z : List ValueType). Fine x (Overrides z)) (sym (ap params_of has)) (λ e. overrides old so holds (w_name old) free c m x s has i small)
      slot_fine false i = λ e. absurd (no_slot_text old (told c x) (params_of (signature O K x)) e)

      module _ (t : Sig) (intro : introduces O x K ≡ true) where
        own : OwnEntry old K x s
        own = own_entry old so K x s has intro

        result_fine : (void fit : Bool) → is_void s.result ≡ void → Fine x (if void then ReturnsNothing s.params else (if fit then ReturnsVariable s.params s.result else ReturnsAnswer s.params s.result))
        result_fine true fit v = λ e. returns_nothing old so holds (w_name old) free c m x s has intro small v
        result_fine false true v = λ e. returns_variable old so holds (w_name old) free c m x s has intro small v
        result_fine false false v = λ e. returns_answer old so holds (w_name old) free c m x s has own (answer_slot old (told c x) s.params s.result e) v

        parameter_fine : (d : Change) → first_change 0 s.params t.params ≡ Some d → (fit : Bool) → Fine x (if fit then KeepsParameter s.params d.place d.old_type else Passes s.params d.place d.old_type)
        parameter_fine d f true =
            let q = changed 0 s.params t.params d f in
            let at_j = ap (slice_get s.params) (sym (place_zero q.place d.place q.counted)) ∙ q.before in
            λ e. keeps_parameter old so holds (w_name old) free c m x s has intro small d.place d.old_type at_j
        parameter_fine d f false =
            let q = changed 0 s.params t.params d f in
            let at_j = ap (slice_get s.params) (sym (place_zero q.place d.place q.counted)) ∙ q.before in
            λ e. passes old so holds (w_name old) free c m x s has own (passes_slot old (told c x) s.params d.place d.old_type e) d.place d.old_type (get_mem s.params d.place d.old_type at_j) at_j

        change_fine : (o : Option Change) → first_change 0 s.params t.params ≡ o → Fine x (change_showing F s t o)
        change_fine None e = result_fine (is_void s.result) (fits_among F s.result t.result) refl
        change_fine (Some d) e = parameter_fine d e (fits_among F d.new_type d.old_type)

        count_fine : (b : Bool) → Fine x (if b then change_showing F s t (first_change 0 s.params t.params) else Calls s.params)
        count_fine true = change_fine (first_change 0 s.params t.params) refl
        count_fine false = λ e. calls old so holds (w_name old) free c m x s has own (calls_slot old (told c x) s.params e)

        signature_fine : Fine x (changed_showing F (Some s) (Some t))
        signature_fine = count_fine (length s.params == length t.params)

    -- an entry that C introduces at a place is found by its name
    introduced_here : (place : ℕ) (x : List ℕ) → IntroducesAt c place x → introduces O x K ≡ true
    introduced_here place x i =
        let differ = doubles_apart bytes_eq exact_bytes (order_of c) (map_none (breach 6 c) _ (so.load.names c m)) in
        let e = entry_found c.decl.face.entries differ place (entries.Introduced x i.sig i.way) i.entry in
        ap (λ o. is_some (introduced_sig o)) (entry_is O K x c at_old ∙ e)

  breaks_said : (b : CompatBreach) (f : IsFirstBreach old new b) → FewParameters old (told_method b) → Breaks old new f.class b → b.rule ≢ 2 → Said old (told_method b) (showing_of old new b)
  breaks_said b f few (lost same gone) other = said_by b (incompatible 1 f.class None 0) StandsBelow same (lost_shown old new f.class) (below_fine f.class (get_mem olds f.number f.class f.there))
  breaks_said b f few (older n kept k same g) other = absurd (other (ap (λ (z : CompatBreach). z.rule) same))
  breaks_said b f few (loses_ancestor n kept k place a same g) other =
      let c = f.class in
      let m = get_mem olds f.number c f.there in
      said_by b (incompatible 3 c (declared_name a) place) (KeepsObject (unwrap_or (slice_get (ancestors O (told c []).class) place) (told c []).class)) same (ancestor_shown old new c (declared_name a) place)
      (object_fine c m (unwrap_or (declared_name a) []) place a g.there)
  breaks_said b f few (moves_slot n kept k place x same g) other =
      let c = f.class in
      let m = get_mem olds f.number c f.there in
      let s = has_signature old so (told c x).class c x (at_old c m) (get_mem (order_of c) place x g.there) in
      said_by b (incompatible 4 c (Some x) place) (slot_showing (introduces O x (told c x).class) (params_of (signature O (told c x).class x))) same (slot_shown old new c x place)
      (slot_fine c m x s.0 s.1 (subst (λ (z : CompatBreach). FewParameters old (told_method z)) same few s.0 s.1) (introduces O x (told c x).class) refl)
  breaks_said b f few (changes_signature n kept k place x same g) other =
      let c = f.class in
      let m = get_mem olds f.number c f.there in
      let now = ap (class_at F) (sym (library_key old c m)) ∙ at_new old new sn.load.ordered c n m kept in
      let s = has_signature old so (told c x).class c x (at_old c m) (get_mem (order_of c) place x g.there) in
      let t = has_signature new sn (told c x).class n x now (get_mem (order_of n) place x (k.places (omega arith) place x g.there)) in
      let five : b.rule ≡ 5 = ap (λ (z : CompatBreach). z.rule) same in
      let name : b.name ≡ Some x = ap (λ (z : CompatBreach). z.name) same in
      let intro = introduced_here c m b.place x (introduced_there old new so sn b x f five name) in
      let shown = signature_shown old new c x place ∙ ap (λ z. changed_showing F z (signature F (told c x).class x)) s.1 ∙ ap (changed_showing F (Some s.0)) t.1 in
      said_by b (incompatible 5 c (Some x) place) (changed_showing F (Some s.0) (Some t.0)) same shown (signature_fine c m x s.0 s.1 (subst (λ (z : CompatBreach). FewParameters old (told_method z)) same few s.0 s.1) t.0 intro)
  breaks_said b f few (loses_metaclass n kept k v same has g) other =
      let c = f.class in
      let m = get_mem olds f.number c f.there in
      said_by b (incompatible 6 c (declared_name v) 0) (ReturnsClass (metaclass_in (class_at O (told c []).class))) same (metaclass_shown old new c (declared_name v)) (class_fine c m (unwrap_or (declared_name v) []) v has)

-- ---- the law

texts_there : (old new : Interface) (b : CompatBreach) (t : Texts) → witness_texts old new b ≡ Some t → has_text old (told_method b) (showing_of old new b) ≡ true
unfolding witness_texts
texts_there old new b t e = by (has_text old (told_method b) (showing_of old new b)) refl e
  where
    by : (h : Bool) → has_text old (told_method b) (showing_of old new b) ≡ h → (if h then Some (texts_of (w_name old) (told_method b) (showing_of old new b)) else None) ≡ Some t → has_text old (told_method b) (showing_of old new b) ≡ true
    by true is f = is
    by false is f = absurd (cc)

bodies_are : (w : List ℕ) (m : MethodRef) (s : Showing) → bodies_of (bodies_trees w m s) ≡ w_bodies w m s
bodies_are w m StandsBelow = refl
bodies_are w m (KeepsObject a) = refl
bodies_are w m (Overrides params) = refl
bodies_are w m (CallsSlot params) = refl
bodies_are w m (Calls params) = refl
bodies_are w m (Passes params j kind) = refl
bodies_are w m (KeepsParameter params j kind) = refl
bodies_are w m (ReturnsNothing params) = refl
bodies_are w m (ReturnsVariable params kind) = refl
bodies_are w m (ReturnsAnswer params kind) = refl
bodies_are w m (ReturnsClass k) = refl

program_is : (old new : Interface) (b : CompatBreach) → StandFor old (w_name old) (told_method b) (showing_of old new b) → StandForWitness old new b
unfolding witness_program
program_is old new b e =
    let w = w_name old in
    let m = told_method b in
    let s = showing_of old new b in
    ap (λ bs. elaborated_program old (w_interface w m s ∷ []) bs main_tree.block) (bodies_are w m s) ∙ e

pub texts_stand : (old new : Interface) (b : CompatBreach) (t : Texts) → length old.classes < 2 ^ 64 → FewParameters old (told_method b) → faces_breach (interface_classes old) ≡ None → faces_breach (interface_classes new) ≡ None
    → first_break old new ≡ Some b → b.rule ≢ 2 → witness_texts old new b ≡ Some t → StandForWitness old new b
texts_stand old new b t small few eo en told other has =
    let so = interface_stands old eo in
    let sn = interface_stands new en in
    let f = first_told old new (interface_ordered new en) b told in
    program_is old new b (breaks_said old new so sn (interface_holds old eo) (w_is_free old (w_is old small)) b f few f.breaks other (texts_there old new b t has))

pub texts_conform : (old new : Interface) (b : CompatBreach) (t : Texts) → length old.classes < 2 ^ 64 → FewParameters old (told_method b) → faces_breach (interface_classes old) ≡ None → faces_breach (interface_classes new) ≡ None
    → first_break old new ≡ Some b → b.rule ≢ 2 → witness_texts old new b ≡ Some t → WitnessConforms old new b
texts_conform old new b t small few eo en told other has =
    (client_stands old (interfaces_of (witness_trees old new b).interfaces) (bodies_of (witness_trees old new b).bodies) main_tree.block eo).1 (witness_program old new b, texts_stand old new b t small few eo en told other has)
