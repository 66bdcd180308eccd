-- W below one class of the old interface: what it descends from, and what it takes from there.
use Rattle.std.proofs.Common.{◌≡◌, ℕ, inl, inr, Bool, true, false, if◌then◌else◌, List, [], ◌∷◌, ◌++◌, map, Option, Some, None, is_some, refl, sym, ap, ◌∙◌, subst}
use Rattle.std.specs.Prelude.{unwrap_or}
use Rattle.som_model.specs.declared.key.Module.TheVariants as modules
use Rattle.som_model.specs.declared.key.ClassKey.{ClassKey}
use Rattle.som_model.specs.declared.key.MethodRef.{MethodRef}
use Rattle.som_model.specs.declared.class.Entry.{Entry}
use Rattle.som_model.specs.declared.class.Entry.TheVariants as entries
use Rattle.som_model.specs.declared.class.Sig.{Sig}
use Rattle.som_model.specs.declared.class.Way.{Way}
use Rattle.som_model.specs.declared.class.Variable.{Variable}
use Rattle.som_model.specs.declared.class.Override.{Override}
use Rattle.som_model.specs.declared.class.ClassDecl.{ClassDecl}
use Rattle.som_model.specs.declared.program.Interface.{Interface}
use Rattle.som_model.specs.Lists.{Mem, among, find, first, firsts, joined, without}
use Rattle.som_model.specs.Ancestors.{Descends, anc, itself}
use Rattle.som_model.specs.Hierarchy.{Hierarchy}
use Rattle.som_model.specs.Keys.{same_key}
use Rattle.som_model.specs.Class.{Class, class_in, entry_of, introduced, introduced_sig}
use Rattle.som_model.specs.Classes.{ancestors, class_at, hierarchy, interface_classes, is_a}
use Rattle.som_model.specs.Kernel.{kernel}
use Rattle.som_model.specs.Loads.{IsOrdered, keys_of}
use Rattle.som_model.specs.Owner.{entry_at, introduced_by, introduced_in, introduces, owner, sig_of}
use Rattle.som_model.specs.Compatible.{release_of, signature}
use Rattle.som_model.specs.Typing.{class_facts}
use Rattle.som_model.proofs.KeyLaws.{exact_keys}
use Rattle.som_model_laws.proofs.Laws.{among_mem, ancestors_first, ancestors_step}
use Rattle.som_model_laws.proofs.Lists.{mem_map}
use Rattle.som_model_laws.proofs.Members.{mem_right, not_true}
use Rattle.som_model_laws.proofs.Owners.{entry_class, entry_is, entry_mem, moved_to, owner_stays}
use Rattle.som_model_laws.proofs.Standing.{falls, found, named_one, parents_known, tells}
use Rattle.som_release_laws.proofs.Facing.{tests}
use Rattle.som_release_laws.proofs.Facts.{introduced_entry, object_of}
use Rattle.som_release_laws.proofs.Prefix.{descends_more, entry_same, known_more, signature_same}
use Rattle.som_elab_methods.proofs.Fitting.{introduced_there}
use Rattle.som_sema_decls.specs.Finished.{introducer}
use Rattle.som_breach_laws.proofs.Moving.{Stands}
use Rattle.som_breach_laws.proofs.Pairs.{library_key}
use Rattle.som_witness.specs.Program.{w_face}
use Rattle.som_witness.proofs.Adding.{Stacks, ordered_more}
use Rattle.som_witness.proofs.Holding.{Holds, not_w}

-- W of this name below one class, without bodies
abbrev pub w_below : List ℕ → ClassKey → List Entry → List Variable → List Override → ClassDecl
w_below name parent es vs os = record { face = w_face name parent es; variables = vs; bodies = []; overrides = os; selects = [] }

-- after the kernel's and the old classes
abbrev pub all_with : Interface → ClassDecl → List Class
all_with old d = kernel ++ (interface_classes old ++ class_in modules.Client d ∷ [])

begins : {A : Type 0} (xs : List A) (x : A) → first xs ≡ Some x → (ys : List A) × (xs ≡ x ∷ ys)
begins [] x e = absurd (cc)
begins (z ∷ zs) x e = (zs, (let same : z ≡ x = cc in ap (λ y. y ∷ zs) same))

-- the second of first occurrences
find_second : {A : Type 0} (test : A → Bool) (same : A → A → Bool) (w p : A) (ys : List A) → test w ≡ false → same w p ≡ false → test p ≡ true → find test (firsts same (w ∷ ((p ∷ ys) ++ []))) ≡ Some p
find_second test same w p ys a b c =
    let more = without (same p) (firsts same (ys ++ [])) in
    ap (λ (t : Bool). if t then Some w else find test (without (same w) (p ∷ more))) a
    ∙ ap (λ (t : Bool). find test (if t then without (same w) more else p ∷ without (same w) more)) b
    ∙ ap (λ (t : Bool). if t then Some p else find test (without (same w) more)) c

pub find_head : {A : Type 0} (test : A → Bool) (xs : List A) (x : A) → first xs ≡ Some x → test x ≡ true → find test xs ≡ Some x
find_head test xs x e t = let b = begins xs x e in ap (find test) b.1 ∙ ap (λ (z : Bool). if z then Some x else find test b.0) t

facts_descent : (cs : List Class) (k a : ClassKey) → is_a cs k a ≡ true → (class_facts cs).is_a k a ≡ true
unfolding class_facts
facts_descent cs k a e = e

facts_signature : (cs : List Class) (r : MethodRef) → (class_facts cs).signature r ≡ sig_of cs (owner cs r)
unfolding class_facts
facts_signature cs r = refl

facts_known : (cs : List Class) (k : ClassKey) (c : Class) → class_at cs k ≡ Some c → (class_facts cs).is_known k ≡ true
unfolding class_facts
facts_known cs k c e = ap is_some e

facts_object : (cs : List Class) (k : ClassKey) → (class_facts cs).class_object k ≡ object_of (class_at cs k)
unfolding class_facts
facts_object cs k = refl

module _ (old : Interface) (so : Stands old) (holds : Holds old) (name : List ℕ) (p : Class) (there : Mem p (release_of old)) (es : List Entry) (own : (x : List ℕ) (to : ClassKey) → Mem (entries.Moved x to) es → ⊥) (vs : List Variable) (os : List Override) where
  abbrev olds : List Class
  olds = interface_classes old

  abbrev O : List Class
  O = release_of old

  abbrev oo : IsOrdered olds
  oo = so.load.ordered

  abbrev d : ClassDecl
  d = w_below name p.key es vs os

  abbrev w : Class
  w = class_in modules.Client d

  abbrev A : List Class
  A = all_with old d

  stacks : Stacks olds w
  stacks = record {
    own = record { module_ = modules.Client; outside = λ e. cc; is = refl };
    other = λ q n e. (let same = (named_one modules.Library modules.Client q.decl.face.name name (sym (library_key old q n) ∙ e)).0 in cc);
    below = λ k n. elim n [ inl is ↦ subst (λ z. Mem z (keys_of O)) (sym is) (mem_map (λ (z : Class). z.key) p O there) | inr z ↦ absurd z ];
    bare = refl;
    unmoved = own;
  }

  pub ordered : IsOrdered (olds ++ w ∷ [])
  ordered = ordered_more olds oo w stacks

  -- what is known stays so
  pub still_known : (k : ClassKey) (c : Class) → class_at O k ≡ Some c → class_at A k ≡ Some c
  still_known k c e = known_more olds (w ∷ []) ordered k c e

  pub w_at : class_at A w.key ≡ Some w
  w_at = found (olds ++ w ∷ []) ordered w w.key (mem_right w kernel (olds ++ w ∷ []) (mem_right w olds (w ∷ []) (inl refl))) refl

  p_at : class_at A p.key ≡ Some p
  p_at = still_known p.key p (found olds oo p p.key there refl)

  pub is_known_here : (k : ClassKey) (c : Class) → class_at O k ≡ Some c → (class_facts A).is_known k ≡ true
  is_known_here k c e = facts_known A k c (still_known k c e)

  pub object_here : (k : ClassKey) (c : Class) → class_at O k ≡ Some c → (class_facts A).class_object k ≡ object_of (Some c)
  object_here k c e = facts_object A k ∙ ap object_of (still_known k c e)

  pub below : (k a : ClassKey) → Descends (hierarchy O) k a → (class_facts A).is_a k a ≡ true
  below k a t = facts_descent A k a (tests (olds ++ w ∷ []) ordered k a (descends_more olds (w ∷ []) ordered k a t))

  pub is_itself : (k : ClassKey) → (class_facts A).is_a k k ≡ true
  is_itself k = facts_descent A k k (tests (olds ++ w ∷ []) ordered k k itself)

  pub sig_here : (k : ClassKey) (c : Class) (x : List ℕ) (sig : Sig) → class_at O k ≡ Some c → signature O k x ≡ Some sig → sig_of A (owner A (record { class = k; name = x })) ≡ Some sig
  sig_here k c x sig e has = signature_same olds (w ∷ []) ordered k x c e ∙ has

  pub signature_here : (k : ClassKey) (c : Class) (x : List ℕ) (sig : Sig) → class_at O k ≡ Some c → signature O k x ≡ Some sig → (class_facts A).signature (record { class = k; name = x }) ≡ Some sig
  signature_here k c x sig e has = facts_signature A (record { class = k; name = x }) ∙ sig_here k c x sig e has

  pub entry_here : (k : ClassKey) (c : Class) (x : List ℕ) (e : Entry) → class_at O k ≡ Some c → entry_at O k x ≡ Some e → entry_at A k x ≡ Some e
  entry_here k c x e at has = entry_same olds (w ∷ []) ordered k x c at ∙ has

  -- ---- the first above W that introduces a method

  pub apart : same_key p.key w.key ≡ false
  apart = not_true (same_key p.key w.key) (λ t. not_w old so holds d p there (exact_keys.two p.key w.key t))

  abbrev h : Hierarchy ClassKey
  h = hierarchy A

  first_above : (test : ClassKey → Bool) → test w.key ≡ false → test p.key ≡ true → find test (ancestors A w.key) ≡ Some p.key
  first_above test a b =
      let rest = begins (anc h p.key) p.key (ancestors_first h p.key) in
      let other : h.same w.key p.key ≡ false = not_true (h.same w.key p.key) (λ t. not_w old so holds d p there (sym ((tells (olds ++ w ∷ []) ordered).two w.key p.key t))) in
      ap (find test) (ancestors_step h (falls (olds ++ w ∷ []) ordered) w.key)
      ∙ ap (λ ps. find test (firsts h.same (w.key ∷ joined (map (anc h) ps)))) (parents_known (olds ++ w ∷ []) ordered w.key w w_at)
      ∙ ap (λ z. find test (firsts h.same (w.key ∷ (z ++ [])))) rest.1
      ∙ find_second test h.same w.key p.key rest.0 a other b

  introduces_by : (x : List ℕ) (c : Class) → among x (introduced c.decl.face.entries) ≡ true → (k : ClassKey) → class_at A k ≡ Some c → among x (introduced_by A k) ≡ true
  introduces_by x c e k at = ap (λ (o : Option Class). among x (introduced_in o)) at ∙ e

  pub introducer_here : (x : List ℕ) → among x (introduced es) ≡ false → among x (introduced p.decl.face.entries) ≡ true → introducer A w.key x ≡ p.key
  introducer_here x a b =
      ap (λ (o : Option ClassKey). unwrap_or o w.key)
      (first_above (λ k. among x (introduced_by A k)) (ap (λ (o : Option Class). among x (introduced_in o)) w_at ∙ a) (introduces_by x p b p.key p_at))

-- the entry of a method that a class introduces
pub record OwnEntry (old : Interface) (k : ClassKey) (x : List ℕ) (sig : Sig) : Type 0 where
  pub way : Way
  pub class : Class
  pub at : class_at (release_of old) k ≡ Some class
  pub entry : entry_at (release_of old) k x ≡ Some (entries.Introduced x sig way)

module _ (old : Interface) (so : Stands old) (k : ClassKey) (x : List ℕ) (sig : Sig) (has : signature (release_of old) k x ≡ Some sig) where
  entry_by : (e : Entry) → entry_at (release_of old) k x ≡ Some e → moved_to (Some e) ≡ None → OwnEntry old k x sig
  entry_by (entries.Introduced y t way) at stays =
      let c = entry_class (release_of old) k x (entries.Introduced y t way) at in
      let m = entry_mem c.0.decl.face.entries x (entries.Introduced y t way) c.2 in
      let owned = owner_stays (interface_classes old) so.load.ordered k x (ap moved_to at) in
      let here : signature (release_of old) k x ≡ Some t = ap (sig_of (release_of old)) owned ∙ ap introduced_sig at in
      let same : t ≡ sig = one_sig t sig (signature (release_of old) k x) here has in
      record {
        way = way;
        class = c.0;
        at = c.1;
        entry = at ∙ ap (λ z. Some (entries.Introduced z t way)) m.1 ∙ ap (λ z. Some (entries.Introduced x z way)) same;
      }
    where
      one_sig : (a b : Sig) (o : Option Sig) → o ≡ Some a → o ≡ Some b → a ≡ b
      one_sig a b o e f = cc
  entry_by (entries.Moved y to) at stays = absurd (cc)

  pub own_entry : introduces (release_of old) x k ≡ true → OwnEntry old k x sig
  own_entry i = let e = introduced_entry (release_of old) x k i in entry_by e.0 e.1 e.2

-- a class that introduces a method has it among its entries
pub among_introduced : (cs : List Class) (k : ClassKey) (c : Class) (x : List ℕ) → class_at cs k ≡ Some c → introduces cs x k ≡ true → among x (introduced c.decl.face.entries) ≡ true
among_introduced cs k c x at i = let e = introduced_entry cs x k i in by e.0 (sym (entry_is cs k x c at) ∙ e.1) e.2
  where
    by : (e : Entry) → entry_of c.decl.face.entries x ≡ Some e → moved_to (Some e) ≡ None → among x (introduced c.decl.face.entries) ≡ true
    by (entries.Introduced y sig way) is stays =
        let m = entry_mem c.decl.face.entries x (entries.Introduced y sig way) is in
        (among_mem x (introduced c.decl.face.entries)).1 (introduced_there c.decl.face.entries x sig way (subst (λ z. Mem (entries.Introduced z sig way) c.decl.face.entries) m.1 m.0))
    by (entries.Moved y to) is stays = absurd (cc)
