-- What the parts of a linked kernel stand for: the methods of tokens, and the bodies that answer.
use Rattle.std.proofs.Common.{◌≡◌, ℕ, zero, suc, ◌+◌, ◌<◌, inl, inr, List, [], ◌∷◌, length, get_or, Option, Some, None, IsSome, is_some, slice_get, slice_index_or, refl, sym, ap, ◌∙◌, subst, arith, true≢false}
use Rattle.std.specs.Option.{option_map}
use Rattle.std.proofs.lemmas.Bool.{cases_lt}
use Rattle.std.proofs.lemmas.Option.{get_or_from_slice_get, none-some, same_Some, slice_get-get_or, slice_get_within}
use Rattle.som_model.specs.declared.key.ClassKey.{ClassKey}
use Rattle.som_model.specs.declared.key.MethodRef.{MethodRef}
use Rattle.som_model.specs.declared.class.Body.{Body}
use Rattle.som_model.specs.declared.class.Override.{Override}
use Rattle.som_model.specs.declared.class.Sig.{Sig}
use Rattle.som_model.specs.declared.class.Way.{Way}
use Rattle.som_model.specs.declared.class.Entry.{Entry}
use Rattle.som_model.specs.declared.class.Entry.TheVariants as entries
use Rattle.som_model.specs.Ancestors.{Descends}
use Rattle.som_model.specs.Resolution.{Chooses}
use Rattle.som_model.specs.Class.{Class, introduced, introduced_sig}
use Rattle.som_model.specs.Classes.{class_at, hierarchy}
use Rattle.som_model.specs.Implementation.{User, has_body, held, implementation, selected}
use Rattle.som_model.specs.Owner.{introduced_in, sig_of}
use Rattle.som_model_laws.proofs.Laws.{implementation_above}
use Rattle.som_model_laws.proofs.Lists.{get_mem}
use Rattle.som_meta.specs.Numbering.{IsNumbered, IsToken, Numbering, key_at, method_at, names_of}
use Rattle.som_class_ids.proofs.Making.{some_class}
use Rattle.som_class_layout_laws.specs.Schemes.{numbered}
use Rattle.som_class_table.specs.Loaded.{AreLoaded}
use Rattle.som_class_table.proofs.Bodies.{found, made_unknown}
use Rattle.som_class_table.proofs.LoadedClasses.{faces}
use Rattle.som_class_methods.specs.Owners.{ref}
use Rattle.som_class_methods.proofs.Facts.{entry_at_found, facts}
use Rattle.som_class_loaded.specs.Added.{HaveDistinctEntries}
use Rattle.som_class_table.proofs.Loading.{entries_differ}
use Rattle.som_class_bodies.specs.declared.body.BodyAt.{BodyAt}
use Rattle.som_class_bodies.specs.declared.body.Source.{Source}
use Rattle.som_class_bodies.specs.declared.body.Source.TheVariants as sources
use Rattle.som_class_bodies.specs.Bodies.{IsSourced, held_body, source_body}
use Rattle.som_class_bodies.proofs.Facts.{of_loaded}
use Rattle.som_class_bodies.proofs.Run.{IsRun, scheme}
use Rattle.som_class_kernel.specs.declared.entries.MethodEntry.{MethodEntry}
use Rattle.som_class_kernel.specs.Entries.{AreMethods, entries_from}

module _ (k : Numbering) (l : AreLoaded k) where
  -- a class that is known by its key stands at its number
  pub placed : (n : ℕ) (c : Class) → IsNumbered k n → class_at k.classes (key_at k n) ≡ Some c → slice_get k.classes n ≡ Some c
  placed n c num e = elim (cases_lt n (length k.classes)) [
    | inl lt ↦ (let s = some_class k.classes n lt in s.1 ∙ sym (found k l n s.0 s.1) ∙ e)
    | inr ge ↦ absurd (let none = made_unknown k l n num ge in cc)
  ]

  -- the class of a token is declared, and introduces the names of its entries
  pub token_class : (t : ℕ × ℕ) → IsToken k t → (c : Class) × (slice_get k.classes t.0 ≡ Some c) × (names_of k t.0 ≡ introduced c.decl.face.entries)
  token_class t is = by (class_at k.classes (key_at k t.0)) refl
    where
      by : (q : Option Class) → class_at k.classes (key_at k t.0) ≡ q → (c : Class) × (slice_get k.classes t.0 ≡ Some c) × (names_of k t.0 ≡ introduced c.decl.face.entries)
      by None e = absurd (let none : length (introduced_in (class_at k.classes (key_at k t.0))) ≡ 0 = ap (λ z. length (introduced_in z)) e in let lt = is.1 in omega (arith, none, lt))
      by (Some c) e = (c, placed t.0 c is.0 e, ap introduced_in e)

abbrev HaveChosers : Numbering → Type 0
HaveChosers k = (t : ℕ × ℕ) → IsToken k t → Chooses (hierarchy k.classes) (selected k.classes (method_at k t)) (method_at k t).class

choosers_run : (cs : List Class) (ks : List ClassKey) → IsRun cs ks → HaveChosers (numbered cs ks)
choosers_run cs ks run t is = ((scheme cs ks run).methods t is).picks

-- who answers for a method is an ancestor
pub answers_above : (k : Numbering) → AreLoaded k → (t : ℕ × ℕ) → IsToken k t → (x y : ClassKey) → implementation k.classes x (method_at k t) ≡ Some y → Descends (hierarchy k.classes) x y
answers_above k l t is x y e =
    implementation_above (hierarchy k.classes) (has_body k.classes (method_at k t)) (selected k.classes (method_at k t)) (method_at k t).class (of_loaded HaveChosers choosers_run k l t is) x y e

-- ---- the methods that a class introduces, with their places among its entries

-- an entry stands there that introduces the method
pub record IsEntry (key : ClassKey) (i : ℕ) (es : List Entry) (j : ℕ) (e : MethodEntry) : Type 0 where
  pub place : ℕ
  pub name : List ℕ
  pub sig : Sig
  pub way : Way
  pub place_is : e.place ≡ i + place
  pub there : slice_get es place ≡ Some (entries.Introduced name sig way)
  pub method : e.method ≡ record { class = key; name = name }
  pub named : slice_get (introduced es) j ≡ Some name

later_entry : (key : ClassKey) (i : ℕ) (es : List Entry) (j later : ℕ) (e : MethodEntry) (first : Entry) → ((name : List ℕ) → slice_get (introduced (first ∷ es)) later ≡ slice_get (introduced es) j)
    → IsEntry key (suc i) es j e → IsEntry key i (first ∷ es) later e
later_entry key i es j later e first same r = record {
  place = suc r.place;
  name = r.name;
  sig = r.sig;
  way = r.way;
  place_is = (let is = r.place_is in omega (arith, is));
  there = r.there;
  method = r.method;
  named = same r.name ∙ r.named;
}

-- the method at a place is introduced by the entry at the place that it has
pub entry_there : (key : ClassKey) (i : ℕ) (es : List Entry) (j : ℕ) (e : MethodEntry) → slice_get (entries_from key i es) j ≡ Some e → IsEntry key i es j e
entry_there key i [] j e at = absurd (cc)
entry_there key i (entries.Moved x to ∷ es) j e at = later_entry key i es j j e (entries.Moved x to) (λ z. refl) (entry_there key (suc i) es j e at)
entry_there key i (entries.Introduced x sig way ∷ es) zero e at = record {
  place = 0;
  name = x;
  sig = sig;
  way = way;
  place_is = (let same : e.place ≡ i = ap (λ (z : MethodEntry). z.place) (sym (same_Some _ _ at)) in omega (arith, same));
  there = refl;
  method = ap (λ (z : MethodEntry). z.method) (sym (same_Some _ _ at));
  named = refl;
}
entry_there key i (entries.Introduced x sig way ∷ es) (suc j) e at = later_entry key i es j (suc j) e (entries.Introduced x sig way) (λ z. refl) (entry_there key (suc i) es j e at)

-- as many as names
pub entries_long : (key : ClassKey) (i : ℕ) (es : List Entry) → length (entries_from key i es) ≡ length (introduced es)
entries_long key i [] = refl
entries_long key i (entries.Introduced x sig way ∷ es) = ap suc (entries_long key (suc i) es)
entries_long key i (entries.Moved x to ∷ es) = entries_long key (suc i) es

-- the entry of a token's method: its method is that of the token, and an entry with its signature stands at its place
module _ (k : Numbering) (l : AreLoaded k) (t : ℕ × ℕ) (is : IsToken k t) (c : Class) (at : slice_get k.classes t.0 ≡ Some c) (e : MethodEntry) (there : slice_get (entries_from c.key 0 c.decl.face.entries) t.1 ≡ Some e) where
  abbrev r : IsEntry c.key 0 c.decl.face.entries t.1 e
  r = entry_there c.key 0 c.decl.face.entries t.1 e there

  key_is : key_at k t.0 ≡ c.key
  key_is = l.first.key t.0 c at

  name_is : get_or (names_of k t.0) t.1 [] ≡ r.name
  name_is = ap (λ (ns : List (List ℕ)). get_or ns t.1 []) (ap introduced_in (found k l t.0 c at)) ∙ get_or_from_slice_get (introduced c.decl.face.entries) t.1 r.name [] r.named

  pub method_is : e.method ≡ method_at k t
  method_is = r.method ∙ ap (λ (z : ClassKey). ref z r.name) (sym key_is) ∙ ap (λ (z : List ℕ). ref (key_at k t.0) z) (sym name_is)

  pub entry_is : slice_get c.decl.face.entries e.place ≡ Some (entries.Introduced r.name r.sig r.way)
  entry_is = (let p = r.place_is in let same : e.place ≡ r.place = omega (arith, p) in ap (slice_get c.decl.face.entries) same ∙ r.there)

  pub sig_is : (sig : Sig) → introduced_sig (slice_get c.decl.face.entries e.place) ≡ Some sig → sig_of k.classes (method_at k t) ≡ Some sig
  sig_is sig s =
      let known = entry_at_found k.classes (facts k.classes (faces k l)) c (get_mem k.classes t.0 c at) r.place (entries.Introduced r.name r.sig r.way) r.there in
      ap (λ (m : MethodRef). sig_of k.classes m) (sym method_is ∙ r.method) ∙ ap introduced_sig known ∙ sym (ap introduced_sig entry_is) ∙ s

-- what is known of the entry that is kept for a token
pub record IsKept (k : Numbering) (t : ℕ × ℕ) (e : MethodEntry) : Type 0 where
  pub class : Class
  pub at : slice_get k.classes t.0 ≡ Some class
  pub declared : t.0 < length k.classes
  pub method : e.method ≡ method_at k t
  pub some : (c : Class) → slice_get k.classes t.0 ≡ Some c → IsSome (introduced_sig (slice_get c.decl.face.entries e.place))
  pub sig : (c : Class) (s : Sig) → slice_get k.classes t.0 ≡ Some c → introduced_sig (slice_get c.decl.face.entries e.place) ≡ Some s → sig_of k.classes (method_at k t) ≡ Some s

-- the entries that are kept, read by the class and the place of a token
module _ (k : Numbering) (l : AreLoaded k) (t : ℕ × ℕ) (is : IsToken k t) (all : List (List MethodEntry)) (m : AreMethods k all) where
  abbrev tc : (c : Class) × (slice_get k.classes t.0 ≡ Some c) × (names_of k t.0 ≡ introduced c.decl.face.entries)
  tc = token_class k l t is

  abbrev own : List MethodEntry
  own = entries_from tc.0.key 0 tc.0.decl.face.entries

  row : slice_get all t.0 ≡ Some own
  row = m t.0 tc.0 tc.1

  pub row_within : (list : List (List MethodEntry)) → list ≡ all → (i : ℕ) → i ≡ t.0 → i < length list
  row_within list same i at = rw (same, at) (slice_get_within all t.0 own row)

  row_is : (list : List (List MethodEntry)) → list ≡ all → (i : ℕ) → i ≡ t.0 → (xs : List MethodEntry) → xs ≡ slice_index_or list i xs → xs ≡ own
  row_is list same i at xs e = e ∙ ap (λ (z : List (List MethodEntry)). slice_index_or z i xs) same ∙ ap (λ j. slice_index_or all j xs) at ∙ get_or_from_slice_get all t.0 own xs row

  module _ (list : List (List MethodEntry)) (same : list ≡ all) (i : ℕ) (at : i ≡ t.0) (xs : List MethodEntry) (e : xs ≡ slice_index_or list i xs) (ys : List MethodEntry) (copied : ys ≡ xs) (j : ℕ) (place : j ≡ t.1) where
    pub cell_within : j < length ys
    cell_within =
        let r = row_is list same i at xs e in
        rw (copied, r, place) (let long = entries_long tc.0.key 0 tc.0.decl.face.entries in let names = ap length tc.2 in let lt = is.1 in omega (arith, long, names, lt))

    pub kept : (x : MethodEntry) → x ≡ slice_index_or ys j x → IsKept k t x
    kept x is_x =
        let r : ys ≡ own = copied ∙ row_is list same i at xs e in
        let there : slice_get own t.1 ≡ Some x = ap (slice_get own) (sym place) ∙ ap (λ (z : List MethodEntry). slice_get z j) (sym r) ∙ (slice_get-get_or ys j x cell_within ∙ ap (λ z. Some z) (sym is_x)) in
        let move : (c : Class) → slice_get k.classes t.0 ≡ Some c → tc.0 ≡ c = λ c g. same_Some tc.0 c (sym tc.1 ∙ g) in
        let entry = entry_is k l t is tc.0 tc.1 x there in
        record {
          class = tc.0;
          at = tc.1;
          declared = slice_get_within k.classes t.0 tc.0 tc.1;
          method = method_is k l t is tc.0 tc.1 x there;
          some = λ c g. subst (λ (z : Class). IsSome (introduced_sig (slice_get z.decl.face.entries x.place))) (move c g) (ap (λ o. is_some (introduced_sig o)) entry);
          sig = λ c s g o. sig_is k l t is tc.0 tc.1 x there s (subst (λ (z : Class). introduced_sig (slice_get z.decl.face.entries x.place) ≡ Some s) (sym (move c g)) o);
        }

-- ---- where the bodies stand that sources name

mapped_got : {A B : Type 0} (f : A → B) (xs : List A) (i : ℕ) (h : B) → option_map f (slice_get xs i) ≡ Some h → (i < length xs) × ((d : A) → f (slice_index_or xs i d) ≡ h)
mapped_got f [] i h e = absurd (none-some h e)
mapped_got f (x ∷ xs) zero h e = (omega arith, λ d. same_Some (f x) h e)
mapped_got f (x ∷ xs) (suc i) h e = (let r = mapped_got f xs i h e in (let lt = r.0 in omega (arith, lt), r.1))

module _ (k : Numbering) (l : AreLoaded k) (x : BodyAt) (s : IsSourced k x) where
  abbrev name : List ℕ
  name = (method_at k x.method).name

  -- a class with overrides is declared
  pub over_class : (i : ℕ) → x.source ≡ sources.Overriding i → x.class < length k.classes
  over_class i is = elim (cases_lt x.class (length k.classes)) [
    | inl lt ↦ lt
    | inr ge ↦ absurd (
        let e : source_body (class_at k.classes (key_at k x.class)) name (sources.Overriding i) ≡ Some s.held_is = subst (λ z. source_body (class_at k.classes (key_at k x.class)) name z ≡ Some s.held_is) is s.named in
        let n : source_body None name (sources.Overriding i) ≡ Some s.held_is = subst (λ z. source_body z name (sources.Overriding i) ≡ Some s.held_is) (made_unknown k l x.class s.class ge) e in
        none-some s.held_is n)
  ]

  module _ (c : Class) (at : slice_get k.classes x.class ≡ Some c) where
    named_by : (z : Source) → x.source ≡ z → source_body (Some c) name z ≡ Some s.held_is
    named_by z is = subst (λ w. source_body (Some c) name w ≡ Some s.held_is) is (subst (λ q. source_body q name x.source ≡ Some s.held_is) (found k l x.class c at) s.named)

    pub intro_held : (i j : ℕ) → x.source ≡ sources.Introduced i → j ≡ i → (bs : List Body) → bs ≡ c.decl.bodies
        → (j < length bs) × ((d : Body) → held k.classes (key_at k x.class) (method_at k x.method) ≡ Some (held_body (slice_index_or bs j d)))
    intro_held i j is e bs same =
        let r = mapped_got held_body c.decl.bodies i s.held_is (named_by (sources.Introduced i) is) in
        rw (e, same) (r.0, λ d. s.has ∙ ap (λ z. Some z) (sym (r.1 d)))

    pub over_held : (i j : ℕ) → x.source ≡ sources.Overriding i → j ≡ i → (os : List Override) → os ≡ c.decl.overrides
        → (j < length os) × ((d : Override) → held k.classes (key_at k x.class) (method_at k x.method) ≡ Some (User (slice_index_or os j d).block))
    over_held i j is e os same =
        let r = mapped_got (λ (o : Override). User o.block) c.decl.overrides i s.held_is (named_by (sources.Overriding i) is) in
        rw (e, same) (r.0, λ d. s.has ∙ ap (λ z. Some z) (sym (r.1 d)))

-- ---- entries by their places

pub sig_within : (es : List Entry) (i : ℕ) → IsSome (introduced_sig (slice_get es i)) → i < length es
sig_within [] i h = absurd (true≢false (sym h))
sig_within (e ∷ es) zero h = omega arith
sig_within (e ∷ es) (suc i) h = (let lt = sig_within es i h in omega (arith, lt))

pub entry_got : (es : List Entry) (i : ℕ) (e : Entry) → IsSome (introduced_sig (slice_get es i)) → e ≡ slice_index_or es i e → slice_get es i ≡ Some e
entry_got [] i e h is = absurd (true≢false (sym h))
entry_got (x ∷ es) zero e h is = ap (λ z. Some z) (sym is)
entry_got (x ∷ es) (suc i) e h is = entry_got es i e h is

-- no two entries of a class have one name
pub distinct : (k : Numbering) → AreLoaded k → HaveDistinctEntries k.classes
distinct k l = subst HaveDistinctEntries (sym l.is) (entries_differ l.others l.main l.loads)
