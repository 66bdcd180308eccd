-- One metaclass more has a number: what is kept, and that all is there at the end.
use Rattle.std.proofs.Common.{◌≡◌, ◌↔◌, ◌⊎◌, ℕ, ◌+◌, ◌<◌, ◌≤◌, inl, inr, Bool, true, false, if◌then◌else◌, List, [], ◌∷◌, ◌++◌, length, refl, sym, ap, ◌∙◌, subst, arith, length-append}
use Rattle.std.proofs.Math.ListN.{get_or-append}
use Rattle.std.proofs.Math.Seq.{get_or-append_seam}
use Rattle.som_model.specs.declared.key.ClassKey.{ClassKey}
use Rattle.som_model.specs.Lists.{Mem, some}
use Rattle.som_model.specs.Keys.{same_key}
use Rattle.som_model.specs.Class.{Class}
use Rattle.som_model.specs.Classes.{parents_of}
use Rattle.som_model.specs.Kernel.{som_object}
use Rattle.som_model.specs.Made.{ComesOf, root, parent, metaclass, all_roots, IsMade}
use Rattle.som_model.specs.declared.syntax.Block.{Block}
use Rattle.som_model.specs.Metaclass.{meta}
use Rattle.som_model_laws.proofs.Members.{mem_left, mem_split}
use Rattle.som_meta.specs.Numbering.{IsNumbered, Numbering, key_at}
use Rattle.som_class_ids.specs.Numbers.{at, with_key}
use Rattle.som_class_ids.proofs.Declaring.{at_mem, mem_at}
use Rattle.som_class_load_order.specs.Metas.{AreMetas, HasParents, IsClosing, meta_at}

-- the keys are there still in their places, and one more at most
pub record IsLonger (ks ls : List ClassKey) (key : ClassKey) : Type 0 where
  pub long : length ks ≤ length ls
  pub same : (n : ℕ) → n < length ks → at ls n ≡ at ks n
  pub there : (x : ClassKey) → Mem x ks → Mem x ls
  pub only : (x : ClassKey) → Mem x ls → Mem x ks ⊎ (x ≡ key)

longer_same : (ks : List ClassKey) (key : ClassKey) → IsLonger ks ks key
longer_same ks key = record { long = omega arith; same = λ n lt. refl; there = λ x m. m; only = λ x m. inl m }

longer_more : (ks : List ClassKey) (key : ClassKey) → IsLonger ks (ks ++ key ∷ []) key
longer_more ks key = record {
  long = (let long = length-append ks (key ∷ []) in omega (arith, long));
  same = λ n lt. get_or-append ks (key ∷ []) som_object n lt;
  there = λ x m. mem_left x ks (key ∷ []) m;
  only = λ x m. elim (mem_split x ks (key ∷ []) m) [ inl l ↦ inl l | inr r ↦ elim r [ inl e ↦ inr e | inr z ↦ absurd z ] ];
}

-- nothing is listed at the start
pub closing_start : (k : Numbering) → IsClosing k k []
closing_start k = record {
  classes = refl;
  metas = record { within = omega arith; numbered = λ n lt. absurd (omega (arith, lt)); keys = λ n lt. absurd (omega (arith, lt)) };
  parents = λ n lt. absurd (omega (arith, lt));
  roots = λ key m. m;
  made = λ key m. root key m;
}

module _ (start k : Numbering) (ms : List ℕ) (c : IsClosing start k ms) (m : ℕ) (here : length ms < length k.keys) (known : HasParents k (key_at k (length ms))) where
  abbrev key : ClassKey
  key = meta k.classes (key_at k (length ms))

  abbrev more : List ℕ
  more = ms ++ m ∷ []

  each : (i : ℕ) → i < length more → (i < length ms) ⊎ (i ≡ length ms)
  each i lt = by (length-append ms (m ∷ []))
    where
      by : length more ≡ length ms + 1 → (i < length ms) ⊎ (i ≡ length ms)
      by e = split (omega (arith, lt, e))
        where
          split : i ≤ length ms → (i < length ms) ⊎ (i ≡ length ms)
          split le = grind (arith, le)

  old_at : (i : ℕ) → i < length ms → meta_at more i ≡ meta_at ms i
  old_at i lt = get_or-append ms (m ∷ []) 0 i lt

  new_at : (i : ℕ) → i ≡ length ms → meta_at more i ≡ m
  new_at i e = ap (meta_at more) e ∙ get_or-append_seam ms m [] 0

  module _ (ls : List ClassKey) (longer : IsLonger k.keys ls key) where
    abbrev new : Numbering
    new = record { classes = k.classes; keys = ls }

    module _ (numbered : IsNumbered new m) (keyed : key_at new m ≡ key) where
      within : (i : ℕ) → i < length ms → i < length k.keys
      within i lt = let w = here in omega (arith, lt, w)

      numbers : (i : ℕ) → i < length more → IsNumbered new (meta_at more i)
      numbers i lt = elim (each i lt) [
        | inl l ↦ (let w = c.metas.numbered i l in let s = old_at i l in let long = longer.long in omega (arith, w, s, long))
        | inr e ↦ (let s = new_at i e in let w = numbered in omega (arith, w, s))
      ]

      keys : (i : ℕ) → i < length more → key_at new (meta_at more i) ≡ meta k.classes (key_at new i)
      keys i lt = elim (each i lt) [
        | inl l ↦ ap (key_at new) (old_at i l) ∙ longer.same (meta_at ms i) (c.metas.numbered i l) ∙ c.metas.keys i l ∙ ap (meta k.classes) (sym (longer.same i (within i l)))
        | inr e ↦ ap (key_at new) (new_at i e) ∙ keyed ∙ ap (meta k.classes) (ap (at k.keys) (sym e) ∙ sym (longer.same i (let w = here in omega (arith, w, e))))
      ]

      parents : (i : ℕ) → i < length more → HasParents new (key_at new i)
      parents i lt = elim (each i lt) [
        | inl l ↦ (λ p n. longer.there p (c.parents i l p (subst (λ z. Mem p (parents_of k.classes z)) (longer.same i (within i l)) n)))
        | inr e ↦ (λ p n. longer.there p (known p (subst (λ z. Mem p (parents_of k.classes z)) (longer.same i (let w = here in omega (arith, w, e)) ∙ ap (at k.keys) e) n)))
      ]

      made : (x : ClassKey) → Mem x ls → ComesOf k.classes start.keys x
      made x n = elim (longer.only x n) [
        | inl o ↦ c.made x o
        | inr e ↦ subst (ComesOf k.classes start.keys) (sym e) (metaclass (key_at k (length ms)) (c.made (key_at k (length ms)) (at_mem k.keys (length ms) here)))
      ]

      closing_longer : IsClosing start new more
      closing_longer = record {
        classes = c.classes;
        metas = record {
          within = (let w = here in let long = longer.long in let e = length-append ms (m ∷ []) in omega (arith, w, long, e));
          numbered = numbers;
          keys = keys;
        };
        parents = parents;
        roots = λ x n. longer.there x (c.roots x n);
        made = made;
      }

  -- the metaclass of the next class has a number, and is listed
  pub closing_next : (later : Numbering) → later ≡ with_key k key → IsNumbered later m → key_at later m ≡ key → IsClosing start later more
  unfolding with_key
  closing_next later e = subst (λ (z : Numbering). IsNumbered z m → key_at z m ≡ key → IsClosing start z more) (sym e) here_with
    where
      by : (b : Bool) → let z : Numbering = (if b then k else record { classes = k.classes; keys = k.keys ++ key ∷ [] }) in IsNumbered z m → key_at z m ≡ key → IsClosing start z more
      by true = closing_longer k.keys (longer_same k.keys key)
      by false = closing_longer (k.keys ++ key ∷ []) (longer_more k.keys key)

      here_with : IsNumbered (with_key k key) m → key_at (with_key k key) m ≡ key → IsClosing start (with_key k key) more
      here_with = by (some (same_key key) k.keys)

-- where all are listed, just what comes of the first has numbers
module _ (start k : Numbering) (ms : List ℕ) (c : IsClosing start k ms) (all : length k.keys ≤ length ms) where
  parents_there : (x : ClassKey) → Mem x k.keys → HasParents k x
  parents_there x m p n =
      let r = mem_at k.keys x m in
      let lt = r.1 in
      c.parents r.0 (omega (arith, lt, all)) p (subst (λ z. Mem p (parents_of k.classes z)) (sym r.2) n)

  metaclass_there : (x : ClassKey) → Mem x k.keys → Mem (meta k.classes x) k.keys
  metaclass_there x m =
      let r = mem_at k.keys x m in
      let lt = r.1 in
      let listed : r.0 < length ms = omega (arith, lt, all) in
      subst (λ z. Mem z k.keys) (c.metas.keys r.0 listed ∙ ap (meta k.classes) r.2) (at_mem k.keys (meta_at ms r.0) (c.metas.numbered r.0 listed))

  pub closed_metas : AreMetas k ms
  closed_metas = record {
    each = (let w = c.metas.within in omega (arith, w, all));
    metas = c.metas;
    closed = record { parents = parents_there; metaclass = metaclass_there };
  }

  back : (x : ClassKey) → ComesOf k.classes start.keys x → Mem x k.keys
  back x (root y m) = c.roots y m
  back x (parent y p d m) = parents_there y (back y d) p m
  back x (metaclass y d) = metaclass_there y (back y d)

  pub closed_keys : (x : ClassKey) → Mem x k.keys ↔ ComesOf start.classes start.keys x
  closed_keys x = (
    (λ m. subst (λ z. ComesOf z start.keys x) c.classes (c.made x m)),
    (λ d. back x (subst (λ z. ComesOf z start.keys x) (sym c.classes) d)),
  )

-- what comes of some comes of more
pub comes_by : (cs : List Class) (rs ss : List ClassKey) → ((x : ClassKey) → Mem x rs → Mem x ss) → (x : ClassKey) → ComesOf cs rs x → ComesOf cs ss x
comes_by cs rs ss f x (root y m) = root y (f y m)
comes_by cs rs ss f x (parent y p d m) = parent y p (comes_by cs rs ss f y d) m
comes_by cs rs ss f x (metaclass y d) = metaclass y (comes_by cs rs ss f y d)

-- what comes of roots comes of others that have equal members
pub comes_same : (cs : List Class) (rs ss : List ClassKey) → ((x : ClassKey) → Mem x rs ↔ Mem x ss) → (x : ClassKey) → ComesOf cs rs x ↔ ComesOf cs ss x
comes_same cs rs ss f x = (comes_by cs rs ss (λ y m. (f y).0 m) x, comes_by cs ss rs (λ y m. (f y).1 m) x)

-- what comes of classes that are just the roots of a run is what is made for it
pub made_of_roots : (old later : Numbering) (main : Block) → later.classes ≡ old.classes → ((x : ClassKey) → Mem x old.keys ↔ Mem x (all_roots old.classes main)) → ((x : ClassKey) → Mem x later.keys ↔ ComesOf old.classes old.keys x)
    → (x : ClassKey) → Mem x later.keys ↔ IsMade later.classes main x
made_of_roots old later main e roots comes x =
    let both = comes_same old.classes old.keys (all_roots old.classes main) roots x in (
      (λ m. subst (λ (z : List Class). IsMade z main x) (sym e) (both.0 ((comes x).0 m))),
      (λ d. (comes x).1 (both.1 (subst (λ (z : List Class). IsMade z main x) e d))),
    )
