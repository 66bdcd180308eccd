-- What overrides and selects are asked among some classes, holds of them among those that have what these had.
use Rattle.std.proofs.Common.{◌≡◌, ℕ, inl, inr, Bool, true, false, not, ◌&&◌, List, [], ◌∷◌, ◌++◌, map, slice_get, Option, Some, None, IsSome, refl, sym, ap, ◌∙◌, subst, true≢false}
use Rattle.std.proofs.lemmas.List.{map-append}
use Rattle.std.specs.Prelude.{is_some}
use Rattle.std.specs.Str.{bytes_eq}
use Rattle.som_model.specs.declared.key.ClassKey.{ClassKey}
use Rattle.som_model.specs.declared.key.MethodRef.{MethodRef}
use Rattle.som_model.specs.declared.class.Override.{Override}
use Rattle.som_model.specs.declared.class.Select.{Select}
use Rattle.som_model.specs.declared.class.Entry.{Entry}
use Rattle.som_model.specs.Lists.{Mem, some}
use Rattle.som_model.specs.Keys.{same_key, same_method}
use Rattle.som_model.specs.Ancestors.{Descends}
use Rattle.som_model.specs.Class.{Class, introduced_sig}
use Rattle.som_model.specs.Classes.{hierarchy, is_a}
use Rattle.som_model.specs.Kernel.{kernel}
use Rattle.som_model.specs.Owner.{entry_at, introduces, owner}
use Rattle.som_model.specs.Rules.{RuleBreach, demand_of, is_parent_below, is_proper, is_replaced_once, s10, s10_from, s10_selects}
use Rattle.som_model.specs.Loads.{FacesLoad, IsOrdered}
use Rattle.som_model.proofs.KeyLaws.{Exact, both, exact_bytes, exact_keys}
use Rattle.som_model.proofs.ListLaws.{map_map}
use Rattle.som_model_laws.proofs.Members.{Apart, mem_left, mem_right, mem_split, mem_some, some_mem, not_true}
use Rattle.som_model_laws.proofs.Laws.{descends_through}
use Rattle.som_model_laws.proofs.Lists.{apart_both, map_mem, mem_map}
use Rattle.som_model_laws.proofs.Owners.{entry_class, owner_name, owner_stays, moved_to}
use Rattle.som_release_laws.specs.Growing.{Grows}
use Rattle.som_release_laws.proofs.Facing.{demand_of_met, demanded_of, tested, tests}
use Rattle.som_release_laws.proofs.Facts.{owner_above, proper_still}
use Rattle.som_release_laws.proofs.Lists.{apart_left, apart_right, both_none, both_true, none_left}
use Rattle.som_release_laws.proofs.OneOwner.{ref_one}
use Rattle.som_release_laws.proofs.Prefix.{owner_same, some_entry}

exact_methods : Exact same_method
exact_methods = record {
  one = λ r. both_true (same_key r.class r.class) (bytes_eq r.name r.name) (exact_keys.one r.class) (exact_bytes.one r.name);
  two = λ r s e. (let p = both (same_key r.class s.class) (bytes_eq r.name s.name) e in ref_one r s (exact_keys.two r.class s.class p.0) (exact_bytes.two r.name s.name p.1));
}

and_true : (b : Bool) → (b && true) ≡ b
and_true true = refl
and_true false = refl

-- the methods of a list, one after the other: each is inherited, meets a demand of its own, and stood in no place before
module _ (cs : List Class) (c : Class) {X : Type 0} (method : X → MethodRef) (extra : MethodRef → X → Bool) where
  abbrev own : X → MethodRef
  own x = owner cs (method x)

  abbrev pub breaks : List MethodRef → List X → List RuleBreach
  breaks before [] = []
  breaks before (x ∷ xs) = demand_of 10 c (method x).name (is_replaced_once cs c before (own x) && extra (own x) x) ++ breaks (before ++ own x ∷ []) xs

  abbrev pub Fine : X → Type 0
  Fine x = (is_proper cs c (own x).class ≡ true) × (introduces cs (own x).name (own x).class ≡ true) × (extra (own x) x ≡ true)

  abbrev pub AllFine : List MethodRef → List X → Type 0
  AllFine before xs = ((x : X) → Mem x xs → Fine x) × Apart (map own xs) × ((r : MethodRef) → Mem r before → Mem r (map own xs) → ⊥)

  pub says : (before : List MethodRef) (xs : List X) → breaks before xs ≡ [] → AllFine before xs
  says before [] e = (λ x m. absurd m, tt, λ r m n. n)
  says before (x ∷ xs) e =
      let r = own x in
      let parts = none_left (demand_of 10 c (method x).name (is_replaced_once cs c before r && extra r x)) (breaks (before ++ r ∷ []) xs) e in
      let may = both (is_replaced_once cs c before r) (extra r x) (demanded_of 10 c (method x).name (is_replaced_once cs c before r && extra r x) parts.0) in
      let new = both (is_proper cs c r.class && introduces cs r.name r.class) (not (some (same_method r) before)) may.0 in
      let fine = both (is_proper cs c r.class) (introduces cs r.name r.class) new.0 in
      let rest = says (before ++ r ∷ []) xs parts.1 in (
        (λ y m. elim m [ inl is ↦ subst Fine (sym is) (fine.0, fine.1, may.1) | inr n ↦ rest.0 y n ]),
        ((λ m. rest.2 r (mem_right r before (r ∷ []) (inl refl)) m), rest.1),
        (λ q m n. elim n [
          | inl is ↦ true≢false (sym new.1 ∙ ap not (mem_some (same_method r) q before m (ap (same_method r) is ∙ exact_methods.one r)))
          | inr z ↦ rest.2 q (mem_left q before (r ∷ []) m) z
        ]),
      )

  pub back : (before : List MethodRef) (xs : List X) → AllFine before xs → breaks before xs ≡ []
  back before [] a = refl
  back before (x ∷ xs) a =
      let r = own x in
      let f = a.0 x (inl refl) in
      let new : some (same_method r) before ≡ false = not_true (some (same_method r) before) (λ t.
      let g = some_mem (same_method r) before t in a.2 g.0 g.1 (inl (sym (exact_methods.two r g.0 g.2)))) in
      let may = both_true (is_proper cs c r.class && introduces cs r.name r.class) (not (some (same_method r) before)) (both_true (is_proper cs c r.class) (introduces cs r.name r.class) f.0 f.1) (ap not new) in
      both_none (demand_of 10 c (method x).name (is_replaced_once cs c before r && extra r x)) (breaks (before ++ r ∷ []) xs)
      (demand_of_met 10 c (method x).name (is_replaced_once cs c before r && extra r x) (both_true (is_replaced_once cs c before r) (extra r x) may f.2))
      (back (before ++ r ∷ []) xs (
        (λ y m. a.0 y (inr m)),
        a.1.1,
        (λ q m n. elim (mem_split q before (r ∷ []) m) [
          | inl b ↦ a.2 q b (inr n)
          | inr b ↦ elim b [ inl is ↦ a.1.0 (subst (λ z. Mem z (map own xs)) is n) | inr z ↦ z ]
        ]),
      ))

-- S10 by these
abbrev of_override : Override → MethodRef
of_override o = o.method

abbrev of_select : Select → MethodRef
of_select s = s.method

abbrev nothing_more : MethodRef → Override → Bool
nothing_more r o = true

abbrev parent_has : List Class → Class → MethodRef → Select → Bool
parent_has cs c r s = is_parent_below cs r.class (slice_get c.decl.face.parents s.parent)

overrides_are : (cs : List Class) (c : Class) (before : List MethodRef) (os : List Override) → s10_from cs c before os ≡ breaks cs c of_override nothing_more before os
overrides_are cs c before [] = refl
overrides_are cs c before (o ∷ os) =
    ap (λ (b : Bool). demand_of 10 c o.method.name b ++ s10_from cs c (before ++ owner cs o.method ∷ []) os) (sym (and_true (is_replaced_once cs c before (owner cs o.method))))
    ∙ ap (λ z. demand_of 10 c o.method.name (is_replaced_once cs c before (owner cs o.method) && true) ++ z) (overrides_are cs c (before ++ owner cs o.method ∷ []) os)

selects_are : (cs : List Class) (c : Class) (before : List MethodRef) (ss : List Select) → s10_selects cs c before ss ≡ breaks cs c of_select (parent_has cs c) before ss
selects_are cs c before [] = refl
selects_are cs c before (s ∷ ss) = ap (λ z. demand_of 10 c s.method.name (is_replaced_once cs c before (owner cs s.method) && parent_has cs c (owner cs s.method) s) ++ z) (selects_are cs c (before ++ owner cs s.method ∷ []) ss)

pub record Inherits (cs : List Class) (c : Class) : Type 0 where
  pub overrides : AllFine cs c of_override nothing_more [] c.decl.overrides
  pub selects : AllFine cs c of_select (parent_has cs c) (map (λ (o : Override). owner cs o.method) c.decl.overrides) c.decl.selects

pub s10_says : (cs : List Class) (c : Class) → s10 cs c ≡ [] → Inherits cs c
s10_says cs c e =
    let p = none_left (s10_from cs c [] c.decl.overrides) (s10_selects cs c (map (λ (o : Override). owner cs o.method) c.decl.overrides) c.decl.selects) e in
    record {
      overrides = says cs c of_override nothing_more [] c.decl.overrides (sym (overrides_are cs c [] c.decl.overrides) ∙ p.0);
      selects = says cs c of_select (parent_has cs c) (map (λ (o : Override). owner cs o.method) c.decl.overrides) c.decl.selects (sym (selects_are cs c _ c.decl.selects) ∙ p.1);
    }

pub says_s10 : (cs : List Class) (c : Class) → Inherits cs c → s10 cs c ≡ []
says_s10 cs c i =
    both_none (s10_from cs c [] c.decl.overrides) (s10_selects cs c (map (λ (o : Override). owner cs o.method) c.decl.overrides) c.decl.selects)
    (overrides_are cs c [] c.decl.overrides ∙ back cs c of_override nothing_more [] c.decl.overrides i.overrides)
    (selects_are cs c _ c.decl.selects ∙ back cs c of_select (parent_has cs c) (map (λ (o : Override). owner cs o.method) c.decl.overrides) c.decl.selects i.selects)

-- a reference whose owner introduces its name has an entry
pub owned_entry : (cs : List Class) (r : MethodRef) → owner cs r ≡ owner cs r → introduces cs (owner cs r).name (owner cs r).class ≡ true → ((name : List ℕ) (k : ClassKey) → moved_to (entry_at cs k name) ≡ None → owner cs (record { class = k; name = name }) ≡ record { class = k; name = name }) → IsSome (entry_at cs r.class r.name)
owned_entry cs r e i stay = by (entry_at cs r.class r.name) refl
  where
    by : (q : Option Entry) → entry_at cs r.class r.name ≡ q → IsSome q
    by (Some x) f = refl
    by None f =
        let same = stay r.name r.class (ap moved_to f) in
        absurd (true≢false (sym (subst (λ (z : MethodRef). introduces cs z.name z.class ≡ true) same i) ∙ ap (λ z. is_some (introduced_sig z)) f))

parent_below : (cs : List Class) (a : ClassKey) (o : Option ClassKey) → is_parent_below cs a o ≡ true → (p : ClassKey) × (o ≡ Some p) × (is_a cs p a ≡ true)
parent_below cs a None e = absurd (true≢false (sym e))
parent_below cs a (Some p) e = (p, refl, e)

-- a method whose owner is a proper ancestor and introduces it
abbrev pub Takes : List Class → Class → MethodRef → Type 0
Takes cs c m = (is_proper cs c (owner cs m).class ≡ true) × (introduces cs (owner cs m).name (owner cs m).class ≡ true)

taken_entry : (cs : List Class) → FacesLoad cs → (c : Class) (m : MethodRef) → Takes (kernel ++ cs) c m → IsSome (entry_at (kernel ++ cs) m.class m.name)
taken_entry cs f c m t = owned_entry (kernel ++ cs) m refl t.1 (λ name k e. owner_stays cs f.ordered k name e)

-- methods of one owner among other classes have one owner: where no two ancestors introduce one name
module _ (cs : List Class) (f : FacesLoad cs) (c : Class)
    (once : (a b : ClassKey) (name : List ℕ) → Descends (hierarchy (kernel ++ cs)) c.key a → Descends (hierarchy (kernel ++ cs)) c.key b → introduces (kernel ++ cs) name a ≡ true → introduces (kernel ++ cs) name b ≡ true → a ≡ b) (others : List Class) where
  abbrev S : List Class
  S = kernel ++ cs

  ancestor : (m : MethodRef) → Takes S c m → Descends (hierarchy S) c.key (owner S m).class
  ancestor m t = tested cs f.ordered c.key (owner S m).class (both (not (same_key (owner S m).class c.key)) (is_a S c.key (owner S m).class) t.0).1

  pub once_owner : (x y : MethodRef) → Takes S c x → Takes S c y → owner others x ≡ owner others y → owner S x ≡ owner S y
  once_owner x y s t e =
      let same : x.name ≡ y.name = sym (owner_name others _ x) ∙ ap (λ (z : MethodRef). z.name) e ∙ owner_name others _ y in
      let names : (owner S x).name ≡ (owner S y).name = owner_name S _ x ∙ same ∙ sym (owner_name S _ y) in
      ref_one (owner S x) (owner S y)
      (once (owner S x).class (owner S y).class (owner S x).name (ancestor x s) (ancestor y t) s.1 (subst (λ z. introduces S z (owner S y).class ≡ true) (sym names) t.1)) names

-- and where the others stand after them
module _ (xs ys : List Class) (o : IsOrdered (xs ++ ys)) (f : FacesLoad xs) (c : Class) where
  owner_front : (m : MethodRef) → Takes (kernel ++ xs) c m → owner (kernel ++ (xs ++ ys)) m ≡ owner (kernel ++ xs) m
  owner_front m t =
      let e = some_entry (entry_at (kernel ++ xs) m.class m.name) (taken_entry xs f c m t) in
      let d = entry_class (kernel ++ xs) m.class m.name e.0 e.1 in
      owner_same xs ys o m.class m.name d.0 d.1

  pub front_owner : (x y : MethodRef) → Takes (kernel ++ xs) c x → Takes (kernel ++ xs) c y → owner (kernel ++ (xs ++ ys)) x ≡ owner (kernel ++ (xs ++ ys)) y → owner (kernel ++ xs) x ≡ owner (kernel ++ xs) y
  front_owner x y s t e = sym (owner_front x s) ∙ e ∙ owner_front y t

module _ (olds news : List Class) (fa : FacesLoad olds) (fb : FacesLoad news) (grows : Grows (kernel ++ olds) (kernel ++ news))
    (one_owner : (r : MethodRef) → IsSome (entry_at (kernel ++ olds) r.class r.name) → owner (kernel ++ news) r ≡ owner (kernel ++ news) (owner (kernel ++ olds) r))
    (c : Class) (one_old : (x y : MethodRef) → Takes (kernel ++ olds) c x → Takes (kernel ++ olds) c y → owner (kernel ++ news) x ≡ owner (kernel ++ news) y → owner (kernel ++ olds) x ≡ owner (kernel ++ olds) y) where
  abbrev A : List Class
  A = kernel ++ olds

  abbrev B : List Class
  B = kernel ++ news

  pub has_entry : (m : MethodRef) → Takes A c m → IsSome (entry_at A m.class m.name)
  has_entry m t = taken_entry olds fa c m t

  proper_new : (m : MethodRef) → Takes A c m → is_proper B c (owner B m).class ≡ true
  proper_new m t = proper_still olds news fa fb grows one_owner m c.key (has_entry m t) t.0

  introduced_new : (m : MethodRef) → Takes A c m → introduces B (owner B m).name (owner B m).class ≡ true
  introduced_new m t = (owner_above olds news fa fb grows one_owner m (has_entry m t)).introduced

  -- different owners have different owners
  owners_apart : (ms : List MethodRef) → ((m : MethodRef) → Mem m ms → Takes A c m) → Apart (map (owner A) ms) → Apart (map (owner B) ms)
  owners_apart [] t p = tt
  owners_apart (x ∷ ms) t p = (
    (λ n. (let y = map_mem (owner B) (owner B x) ms n in
        p.0 (subst (λ z. Mem z (map (owner A) ms)) (sym (one_old x y.0 (t x (inl refl)) (t y.0 (inr y.1)) y.2)) (mem_map (owner A) y.0 ms y.1)))),
    owners_apart ms (λ m n. t m (inr n)) p.1,
  )

  pub inherits_new : Inherits A c → Inherits B c
  inherits_new i =
      let os = c.decl.overrides in
      let ss = c.decl.selects in
      let mo : List MethodRef = map of_override os in
      let ms : List MethodRef = map of_select ss in
      let own_o : (z : List Class) → map (owner z) mo ≡ map (λ (o : Override). owner z o.method) os = λ z. map_map (owner z) of_override os in
      let own_s : (z : List Class) → map (owner z) ms ≡ map (λ (s : Select). owner z s.method) ss = λ z. map_map (owner z) of_select ss in
      let takes : (m : MethodRef) → Mem m (mo ++ ms) → Takes A c m = λ m n. elim (mem_split m mo ms n) [
        | inl a ↦ (let o = map_mem of_override m os a in let f = i.overrides.0 o.0 o.1 in subst (Takes A c) (sym o.2) (f.0, f.1))
        | inr a ↦ (let s = map_mem of_select m ss a in let f = i.selects.0 s.0 s.1 in subst (Takes A c) (sym s.2) (f.0, f.1))
      ] in
      let all_a : Apart (map (owner A) (mo ++ ms)) = subst Apart (sym (map-append (owner A) mo ms)) (apart_both (map (owner A) mo) (map (owner A) ms) (subst Apart (sym (own_o A)) i.overrides.1) (subst Apart (sym (own_s A)) i.selects.1)
      (λ r m n. i.selects.2 r (subst (λ z. Mem r z) (own_o A) m) (subst (λ z. Mem r z) (own_s A) n))) in
      let all_b : Apart (map (owner B) mo ++ map (owner B) ms) = subst Apart (map-append (owner B) mo ms) (owners_apart (mo ++ ms) takes all_a) in
      record {
        overrides = (
          (λ o m. (let f = i.overrides.0 o m in (proper_new o.method (f.0, f.1), introduced_new o.method (f.0, f.1), refl))),
          subst Apart (own_o B) (apart_left (map (owner B) mo) (map (owner B) ms) all_b),
          (λ r m n. m),
        );
        selects = (
          (λ s m. (let f = i.selects.0 s m in
              let t : Takes A c s.method = (f.0, f.1) in
              let p = parent_below A (owner A s.method).class (slice_get c.decl.face.parents s.parent) f.2 in
              let up = (owner_above olds news fa fb grows one_owner s.method (has_entry s.method t)).above in
              let still = tests news fb.ordered p.0 (owner B s.method).class (descends_through (hierarchy B) p.0 (owner A s.method).class (owner B s.method).class (grows.descends p.0 (owner A s.method).class (tested olds fa.ordered p.0 (owner A s.method).class p.2)) up) in
              (proper_new s.method t, introduced_new s.method t, ap (is_parent_below B (owner B s.method).class) p.1 ∙ still))),
          subst Apart (own_s B) (apart_right (map (owner B) mo) (map (owner B) ms) all_b),
          (λ r m n. disjoint (map (owner B) mo) (map (owner B) ms) all_b r (subst (λ z. Mem r z) (sym (own_o B)) m) (subst (λ z. Mem r z) (sym (own_s B)) n)),
        );
      }
    where
      disjoint : {Z : Type 0} (xs ys : List Z) → Apart (xs ++ ys) → (z : Z) → Mem z xs → Mem z ys → ⊥
      disjoint [] ys p z m n = m
      disjoint (x ∷ xs) ys p z (inl e) n = p.0 (mem_right x xs ys (subst (λ q. Mem q ys) e n))
      disjoint (x ∷ xs) ys p z (inr m) n = disjoint xs ys p.1 z m n
