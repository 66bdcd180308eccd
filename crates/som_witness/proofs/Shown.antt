-- The client of each breach is refused by every release with the new interface.
use Rattle.std.proofs.Common.{◌≡◌, ◌≢◌, ℕ, ◌+◌, ◌==◌, inl, inr, Bool, true, false, if◌then◌else◌, List, [], ◌∷◌, ◌++◌, length, Option, Some, None, slice_get, refl, sym, ap, ◌∙◌, subst, arith, true≢false}
use Rattle.std.specs.Prelude.{is_some, unwrap_or}
use Rattle.som_model.specs.declared.key.Module.TheVariants as modules
use Rattle.som_model.specs.declared.key.ClassKey.{ClassKey}
use Rattle.som_model.specs.declared.key.ClassKey.TheVariants as keys
use Rattle.som_model.specs.declared.key.MethodRef.{MethodRef}
use Rattle.som_model.specs.declared.key.ValueType.{ValueType}
use Rattle.som_model.specs.declared.key.ValueType.TheVariants as types
use Rattle.som_model.specs.declared.syntax.Expr.TheVariants as exprs
use Rattle.som_model.specs.declared.syntax.Stmt.TheVariants as stmts
use Rattle.som_model.specs.declared.class.Sig.{Sig}
use Rattle.som_model.specs.declared.program.Interface.{Interface}
use Rattle.som_model.specs.declared.program.Release.{Release}
use Rattle.som_model.specs.Lists.{Mem}
use Rattle.som_model.specs.Keys.{same_key}
use Rattle.som_model.specs.Same.{same_type}
use Rattle.som_model.specs.Ancestors.{Descends}
use Rattle.som_model.specs.Class.{Class, class_in, interface_of}
use Rattle.som_model.specs.Classes.{ancestors, class_at, hierarchy, interface_classes, library_classes}
use Rattle.som_model.specs.Kernel.{kernel, som_class}
use Rattle.som_model.specs.Metaclass.{meta}
use Rattle.som_model.specs.Owner.{introduces}
use Rattle.som_model.specs.Named.{AMethod, Named, block_names}
use Rattle.som_model.specs.Rules.{is_void}
use Rattle.som_model.specs.Compatible.{CompatBreach, declared_name, incompatible, order_of, release_of, signature}
use Rattle.som_model.proofs.KeyLaws.{exact_keys}
use Rattle.som_model.proofs.SameLaws.{exact_types}
use Rattle.som_model_laws.specs.Metaclasses.{IsDeclared}
use Rattle.som_model_laws.proofs.Lists.{find_mem, get_mem, map_mem}
use Rattle.som_model_laws.proofs.Members.{mem_left, mem_right, not_true}
use Rattle.som_model_laws.proofs.Owners.{metaclass_known}
use Rattle.som_model_laws.proofs.Standing.{found, found_is, keyed, named_one}
use Rattle.som_verify_classes.proofs.FacesOnly.{face_only}
use Rattle.som_breach_laws.specs.Breaking.{Breaks, IsFirstBreach, IsNew, KeepsAncestor, KeepsMetaclass, KeepsPlace, lost, older, loses_ancestor, moves_slot, changes_signature, loses_metaclass}
use Rattle.som_breach_laws.specs.OwnNames.{BindsOwn}
use Rattle.som_breach_laws.proofs.Moving.{Stands}
use Rattle.som_breach_laws.proofs.Pairs.{at_new, library_key}
use Rattle.som_witness.specs.Program.{call_on_c, one_class, sig_g, w_class, w_name, witness_program, zero_values}
use Rattle.som_witness.specs.Showings.{Change, Showing, StandsBelow, KeepsObject, Overrides, CallsSlot, Calls, Passes, KeepsParameter, ReturnsNothing, ReturnsVariable, ReturnsAnswer, ReturnsClass, change_showing, changed_showing, first_change, fits_among, metaclass_in, params_of, showing_of, slot_showing, told_method}
use Rattle.som_witness.specs.Verdicts.{NeverBinds}
use Rattle.som_witness.proofs.Changes.{changed, differ_back, other_length, same_length, unchanged}
use Rattle.som_witness.proofs.Forms.{call_names}
use Rattle.som_witness.proofs.Known.{has_signature}
use Rattle.som_witness.proofs.Refusing.{ancestor_refused, answer_refused, count_refused, kept_refused, metaclass_refused, nothing_refused, passed_refused, slot_refused, variable_refused}
use Rattle.som_witness.proofs.Released.{class_shown}

-- the program, once it is known how the breach is shown
pub shown_by : (old new : Interface) (b : CompatBreach) (s : Showing) → showing_of old new b ≡ s → witness_program old new b ≡ one_class old (w_class (w_name old) (told_method b) s)
unfolding witness_program
shown_by old new b s e = ap (λ z. one_class old (w_class (w_name old) (told_method b) z)) e

-- ---- how each breach is shown

abbrev pub told : Class → List ℕ → MethodRef
told c x = record { class = keys.Named modules.Library c.decl.face.name; name = x }

pub lost_shown : (old new : Interface) (c : Class) → showing_of old new (incompatible 1 c None 0) ≡ StandsBelow
unfolding showing_of
lost_shown old new c = refl

pub ancestor_shown : (old new : Interface) (c : Class) (name : Option (List ℕ)) (place : ℕ)
    → showing_of old new (incompatible 3 c name place) ≡ KeepsObject (unwrap_or (slice_get (ancestors (release_of old) (keys.Named modules.Library c.decl.face.name)) place) (keys.Named modules.Library c.decl.face.name))
unfolding showing_of
ancestor_shown old new c name place = refl

pub slot_shown : (old new : Interface) (c : Class) (x : List ℕ) (place : ℕ)
    → showing_of old new (incompatible 4 c (Some x) place) ≡ slot_showing (introduces (release_of old) x (keys.Named modules.Library c.decl.face.name)) (params_of (signature (release_of old) (keys.Named modules.Library c.decl.face.name) x))
unfolding showing_of
slot_shown old new c x place = refl

pub signature_shown : (old new : Interface) (c : Class) (x : List ℕ) (place : ℕ)
    → showing_of old new (incompatible 5 c (Some x) place) ≡ changed_showing (release_of new) (signature (release_of old) (keys.Named modules.Library c.decl.face.name) x) (signature (release_of new) (keys.Named modules.Library c.decl.face.name) x)
unfolding showing_of
signature_shown old new c x place = refl

pub metaclass_shown : (old new : Interface) (c : Class) (name : Option (List ℕ)) → showing_of old new (incompatible 6 c name 0) ≡ ReturnsClass (metaclass_in (class_at (release_of old) (keys.Named modules.Library c.decl.face.name)))
unfolding showing_of
metaclass_shown old new c name = refl

-- ---- by how it is shown

-- a class of a release is the library's, by its name
release_named : (r : Release) (c : Class) → Mem c (library_classes r) → c.key ≡ keys.Named modules.Library c.decl.face.name
release_named r c m = let d = map_mem (class_in modules.Library) c r.classes m in subst (λ (z : Class). z.key ≡ keys.Named modules.Library z.decl.face.name) (sym d.2) refl

-- what a class's one body names, the program names
in_bodies : (x : Named) (body main : List Named) → Mem x body → Mem x ((((body ++ []) ++ []) ++ []) ++ main)
in_bodies x body main m = mem_left x (((body ++ []) ++ []) ++ []) main (mem_left x ((body ++ []) ++ []) [] (mem_left x (body ++ []) [] (mem_left x body [] m)))

one_sig : (s t : Sig) → s.params ≡ t.params → s.result ≡ t.result → s ≡ t
one_sig s t e f = ap (λ z. sig_g s.result z) e ∙ ap (λ z. sig_g z t.params) f

both_void : (a b : ValueType) → is_void a ≡ true → is_void b ≡ true → a ≡ b
both_void types.Void types.Void e f = refl
both_void types.Void types.Long e f = absurd (true≢false (sym f))
both_void types.Void types.Boolean e f = absurd (true≢false (sym f))
both_void types.Void types.Str e f = absurd (true≢false (sym f))
both_void types.Void (types.Class k) e f = absurd (true≢false (sym f))
both_void types.Long b e f = absurd (true≢false (sym e))
both_void types.Boolean b e f = absurd (true≢false (sym e))
both_void types.Str b e f = absurd (true≢false (sym e))
both_void (types.Class k) b e f = absurd (true≢false (sym e))

pub place_zero : (p q : ℕ) → q ≡ p + 0 → p ≡ q
place_zero p q e = omega (arith, e)

module _ (old new : Interface) (so : Stands old) (sn : Stands new) (r : Release) (is : interface_of r ≡ new) (name : List ℕ) (c : Class) (m : Mem c (interface_classes old)) where
  abbrev olds : List Class
  olds = interface_classes old

  abbrev O : List Class
  O = release_of old

  abbrev F : List Class
  F = release_of new

  abbrev K : ClassKey
  K = keys.Named modules.Library c.decl.face.name

  -- the program with this W isn't bound
  abbrev Refused : List ℕ → Showing → Type 0
  Refused x s = BindsOwn (one_class old (w_class name (told c x) s)) r → ⊥

  key_is : c.key ≡ K
  key_is = library_key old c m

  old_at : class_at O K ≡ Some c
  old_at = found olds so.load.ordered c K (mem_right c kernel olds m) key_is

  is_in : (o : Option Class) → is_some o ≡ true → (y : Class) × (o ≡ Some y)
  is_in None e = absurd (true≢false (sym e))
  is_in (Some y) e = (y, refl)

  -- K1: W's parent isn't in the release
  lost_refused : (x : List ℕ) → ((n : Class) → IsNew new c n → ⊥) → Refused x StandsBelow
  lost_refused x gone b =
      let y = is_in (class_at (library_classes r) K) (b.known c.decl.face.name (inl refl)) in
      let f = find_mem (λ (z : Class). same_key z.key K) (library_classes r) y.0 y.1 in
      let face = release_named r y.0 f.0 in
      gone (face_only y.0) (record { there = class_shown new r is sn.load.ordered y.0 f.0; named = (named_one modules.Library modules.Library y.0.decl.face.name c.decl.face.name (sym face ∙ exact_keys.two y.0.key K f.1)).1 })

  module _ (n : Class) (kept : IsNew new c n) where
    -- K3
    place_refused : (x : List ℕ) (place : ℕ) (a : ClassKey) → slice_get (ancestors O c.key) place ≡ Some a → (KeepsAncestor new c place a → ⊥) → Refused x (KeepsObject (unwrap_or (slice_get (ancestors O K) place) K))
    place_refused x place a at gone =
        let here : unwrap_or (slice_get (ancestors O K) place) K ≡ a = ap (λ z. unwrap_or z K) (ap (λ z. slice_get (ancestors O z) place) (sym key_is) ∙ at) in
        subst (λ z. Refused x (KeepsObject z)) (sym here) (ancestor_refused old new so sn r is name c n m kept a (λ d. gone (subst (λ z. Descends (hierarchy F) z a) (sym key_is) d)))

    -- K4
    slot_gone : (x : List ℕ) (place : ℕ) (ps : List ValueType) → slice_get (order_of c) place ≡ Some x → (KeepsPlace n place x → ⊥) → (own : Bool) → Refused x (slot_showing own ps)
    slot_gone x place ps at gone true = slot_refused old new so sn r is name c n m kept (w_class name (told c x) (Overrides ps)) x place (inr (inr (inl refl))) at gone
    slot_gone x place ps at gone false =
        let names = call_names (told c x) (exprs.Local 0) (zero_values ps) in
        slot_refused old new so sn r is name c n m kept (w_class name (told c x) (CallsSlot ps)) x place
        (inr (inr (in_bodies (AMethod (told c x)) (block_names (record { statements = stmts.Call (call_on_c (told c x) (zero_values ps)) ∷ [] })) (block_names (record { statements = [] })) (subst (λ z. Mem (AMethod (told c x)) z) (sym names) (inr (inl refl)))))) at gone

    -- K5
    module _ (x : List ℕ) (s t : Sig) (old_sig : signature O K x ≡ Some s) (new_sig : signature F K x ≡ Some t) (other : s ≡ t → ⊥) where
      results_differ : s.params ≡ t.params → same_type s.result t.result ≡ false
      results_differ same = not_true (same_type s.result t.result) (λ e. other (one_sig s t same (exact_types.two s.result t.result e)))

      result_gone : s.params ≡ t.params → (void fit : Bool) → is_void s.result ≡ void → fits_among F s.result t.result ≡ fit
          → Refused x (if void then ReturnsNothing s.params else (if fit then ReturnsVariable s.params s.result else ReturnsAnswer s.params s.result))
      result_gone same true fit e f = nothing_refused old new so sn r is name c n m kept x s t old_sig new_sig (λ v. other (one_sig s t same (both_void s.result t.result e v)))
      result_gone same false true e f = variable_refused old new so sn r is name c n m kept x s t old_sig new_sig (results_differ same) (differ_back s.result t.result (results_differ same)) f
      result_gone same false false e f = answer_refused old new so sn r is name c n m kept x s t old_sig new_sig (differ_back s.result t.result (results_differ same)) f

      parameter_gone : (d : Change) → first_change 0 s.params t.params ≡ Some d → (fit : Bool) → fits_among F d.new_type d.old_type ≡ fit
          → Refused x (if fit then KeepsParameter s.params d.place d.old_type else Passes s.params d.place d.old_type)
      parameter_gone d e true f =
          let q = changed 0 s.params t.params d e in
          let at = place_zero q.place d.place q.counted in
          kept_refused old new so sn r is name c n m kept x s t old_sig new_sig d.place d.old_type d.new_type (ap (slice_get t.params) (sym at) ∙ q.after) q.differ f
      parameter_gone d e false f =
          let q = changed 0 s.params t.params d e in
          let at = place_zero q.place d.place q.counted in
          passed_refused old new so sn r is name c n m kept x s t old_sig new_sig d.place d.old_type d.new_type (ap (slice_get s.params) (sym at) ∙ q.before) (ap (slice_get t.params) (sym at) ∙ q.after) q.differ f

      change_gone : length s.params ≡ length t.params → (o : Option Change) → first_change 0 s.params t.params ≡ o
          → Refused x (change_showing F s t o)
      change_gone l None e = result_gone (unchanged 0 s.params t.params l e) (is_void s.result) (fits_among F s.result t.result) refl refl
      change_gone l (Some d) e = parameter_gone d e (fits_among F d.new_type d.old_type) refl

      count_gone : (b : Bool) → (length s.params == length t.params) ≡ b
          → Refused x (if b then change_showing F s t (first_change 0 s.params t.params) else Calls s.params)
      count_gone true e = change_gone (same_length (length s.params) (length t.params) e) (first_change 0 s.params t.params) refl
      count_gone false e = count_refused old new so sn r is name c n m kept x s t old_sig new_sig (other_length (length s.params) (length t.params) e)

      signature_gone : Refused x (changed_showing F (Some s) (Some t))
      signature_gone = count_gone (length s.params == length t.params) refl

    -- K6
    metaclass_gone : (x : List ℕ) (k : ClassKey) → c.decl.face.metaclass ≡ Some k → (KeepsMetaclass new c k → ⊥) → Refused x (ReturnsClass (metaclass_in (class_at O K)))
    metaclass_gone x k has gone =
        let here : metaclass_in (class_at O K) ≡ k = ap metaclass_in old_at ∙ ap (λ z. unwrap_or z som_class) has in
        let d = metaclass_known olds so.load.ordered K c k old_at has in
        let f = found_is olds so.load.ordered k d.0 d.1 in
        let named = keyed olds so.load.ordered d.0 f.0 in
        let declared : IsDeclared k = record { module_ = named.0; name = named.1; is = sym f.1 ∙ named.2 } in
        subst (λ z. Refused x (ReturnsClass z)) (sym here) (metaclass_refused old new so sn r is name c n m kept k declared (λ e. gone (subst (λ z. Descends (hierarchy F) (meta F z) k) (sym key_is) e)))

-- ---- by the breach

module _ (old new : Interface) (so : Stands old) (sn : Stands new) (r : Release) (is : interface_of r ≡ new) where
  -- the program of a breach that is shown so
  bound_by : (b a : CompatBreach) (s : Showing) → b ≡ a → showing_of old new a ≡ s → BindsOwn (witness_program old new b) r → BindsOwn (one_class old (w_class (w_name old) (told_method a) s)) r
  bound_by b a s same e bound = subst (λ p. BindsOwn p r) (shown_by old new a s e) (subst (λ z. BindsOwn (witness_program old new z) r) same bound)

  breaks_refused : (b : CompatBreach) (c : Class) → Mem c (interface_classes old) → Breaks old new c b → b.rule ≢ 2 → BindsOwn (witness_program old new b) r → ⊥
  breaks_refused b c m (lost same gone) other bound = lost_refused old new so sn r is (w_name old) c m [] gone (bound_by b (incompatible 1 c None 0) StandsBelow same (lost_shown old new c) bound)
  breaks_refused b c m (older n kept k same f) other bound = other (ap (λ (z : CompatBreach). z.rule) same)
  breaks_refused b c m (loses_ancestor n kept k place a same f) other bound =
      place_refused old new so sn r is (w_name old) c m n kept (unwrap_or (declared_name a) []) place a f.there f.fails
      (bound_by b (incompatible 3 c (declared_name a) place) (KeepsObject (unwrap_or (slice_get (ancestors (release_of old) (told c []).class) place) (told c []).class)) same (ancestor_shown old new c (declared_name a) place) bound)
  breaks_refused b c m (moves_slot n kept k place x same f) other bound =
      let own = introduces (release_of old) x (told c x).class in
      let params = params_of (signature (release_of old) (told c x).class x) in
      slot_gone old new so sn r is (w_name old) c m n kept x place params f.there f.fails own (bound_by b (incompatible 4 c (Some x) place) (slot_showing own params) same (slot_shown old new c x place) bound)
  breaks_refused b c m (changes_signature n kept k place x same f) other bound =
      let key = library_key old c m in
      let at = old_at old new so sn r is (w_name old) c m in
      let now = ap (class_at (release_of new)) (sym key) ∙ at_new old new sn.load.ordered c n m kept in
      let s = has_signature old so (told c x).class c x at (get_mem (order_of c) place x f.there) in
      let t = has_signature new sn (told c x).class n x now (get_mem (order_of n) place x (k.places (omega arith) place x f.there)) in
      let shown = signature_shown old new c x place ∙ ap (λ z. changed_showing (release_of new) z (signature (release_of new) (told c x).class x)) s.1 ∙ ap (changed_showing (release_of new) (Some s.0)) t.1 in
      signature_gone old new so sn r is (w_name old) c m n kept x s.0 t.0 s.1 t.1
      (λ e. f.fails (ap (λ z. signature (release_of old) z x) key ∙ s.1 ∙ ap (λ z. Some z) e ∙ sym t.1 ∙ ap (λ z. signature (release_of new) z x) (sym key)))
      (bound_by b (incompatible 5 c (Some x) place) (changed_showing (release_of new) (Some s.0) (Some t.0)) same shown bound)
  breaks_refused b c m (loses_metaclass n kept k w same has f) other bound =
      metaclass_gone old new so sn r is (w_name old) c m n kept (unwrap_or (declared_name w) []) w has f
      (bound_by b (incompatible 6 c (declared_name w) 0) (ReturnsClass (metaclass_in (class_at (release_of old) (told c []).class))) same (metaclass_shown old new c (declared_name w)) bound)

pub never_binds : (old new : Interface) → Stands old → Stands new → (b : CompatBreach) → IsFirstBreach old new b → b.rule ≢ 2 → NeverBinds (witness_program old new b) new
never_binds old new so sn b f other r is bound = breaks_refused old new so sn r is b f.class (get_mem (interface_classes old) f.number f.class f.there) f.breaks other bound
