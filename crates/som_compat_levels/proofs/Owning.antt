-- Where owners stand.
use Rattle.std.proofs.Common.{◌≡◌, ℕ, zero, suc, ◌+◌, ◌<◌, ◌≤◌, inl, inr, true, false, List, [], ◌∷◌, ◌++◌, map, length, Option, Some, None, IsSome, slice_get, slice_index_or, refl, sym, ap, ◌∙◌, subst, arith, true≢false}
use Rattle.std.specs.Str.{bytes_eq}
use Rattle.som_model.specs.declared.key.ClassKey.{ClassKey}
use Rattle.som_model.specs.declared.key.MethodRef.{MethodRef}
use Rattle.som_model.specs.declared.class.Sig.{Sig}
use Rattle.som_model.specs.declared.class.Way.{Way}
use Rattle.som_model.specs.declared.class.Entry.{Entry}
use Rattle.som_model.specs.declared.class.Entry.TheVariants as entries
use Rattle.som_model.specs.Class.{Class, entry_name, entry_of}
use Rattle.som_model.specs.Owner.{entry_at, owner}
use Rattle.som_model.proofs.KeyLaws.{exact_bytes}
use Rattle.som_model_laws.proofs.Lists.{find_mem, get_mem, mem_get}
use Rattle.som_model_laws.proofs.Members.{find_none}
use Rattle.som_model_laws.proofs.Owners.{entry_is, owner_moved, owner_stays}
use Rattle.som_order.specs.Names.{name_at}
use Rattle.som_verify_classes.specs.Places.{class_of_place, face_at, key_at}
use Rattle.som_verify_classes.specs.Plainly.{Differ}
use Rattle.som_compat_levels.specs.declared.owners.Slot.{Slot}
use Rattle.som_compat_levels.specs.Standing.{AreStanding}
use Rattle.som_compat_levels.specs.Owners.{AreOwners, FindsEntry, HasOwners, IsEntryAt, IsOwner, IsTarget, method_at}
use Rattle.som_compat_levels.proofs.Known.{AreKnown, known}
use Rattle.som_compat_levels.proofs.Lists.{each_last, less_next, long_last, last_before, last_here}

-- entries by their numbers

pub number_entry : (es : List Entry) (name : List ℕ) (n : ℕ) → IsEntryAt es name n → (e : Entry) × (slice_get es n ≡ Some e) × (entry_name e ≡ name)
number_entry [] name n r = absurd (let l = r.within in omega (arith, l))
number_entry (x ∷ es) name zero r = (x, refl, r.named)
number_entry (x ∷ es) name (suc n) r = number_entry es name n (record { within = let l = r.within in omega (arith, l); named = r.named })

pub entry_number : (es : List Entry) (n : ℕ) (e : Entry) → slice_get es n ≡ Some e → IsEntryAt es (entry_name e) n
entry_number [] n e at = absurd (cc)
entry_number (x ∷ es) zero e at = record { within = omega arith; named = let same : x ≡ e = cc in ap entry_name same }
entry_number (x ∷ es) (suc n) e at = let r = entry_number es n e at in record { within = let l = r.within in omega (arith, l); named = r.named }

pub entry_found : (es : List Entry) (n : ℕ) (e : Entry) → Differ entry_name es → slice_get es n ≡ Some e → entry_of es (entry_name e) ≡ Some e
entry_found es n e differ at = by (entry_of es (entry_name e)) refl
  where
    by : (q : Option Entry) → entry_of es (entry_name e) ≡ q → q ≡ Some e
    by None f = absurd (true≢false (sym (exact_bytes.one (entry_name e)) ∙ find_none (λ z. bytes_eq (entry_name z) (entry_name e)) es f e (get_mem es n e at)))
    by (Some x) f =
        let r = find_mem (λ z. bytes_eq (entry_name z) (entry_name e)) es x f in
        let g = mem_get es x r.0 in
        let same = differ.by g.0 n x e g.1 at (exact_bytes.two (entry_name x) (entry_name e) r.1) in
        let here : slice_get es n ≡ Some x = subst (λ z. slice_get es z ≡ Some x) same g.1 in
        sym here ∙ at

-- an entry that is there is found
pub missing_entry : (es : List Entry) (name : List ℕ) → IsSome (entry_of es name) → FindsEntry es name None → ⊥
missing_entry es name there none = by (entry_of es name) refl there
  where
    by : (q : Option Entry) → entry_of es name ≡ q → IsSome q → ⊥
    by None f s = absurd (true≢false (sym s))
    by (Some x) f s =
        let r = find_mem (λ z. bytes_eq (entry_name z) name) es x f in
        let g = mem_get es x r.0 in
        none g.0 (subst (λ z. IsEntryAt es z g.0) (exact_bytes.two (entry_name x) name r.1) (entry_number es g.0 x g.1))

pub not_so_far : (es : List Entry) (name : List ℕ) (i : ℕ) → bytes_eq (name_at (map entry_name es) i) name ≡ false → ((n : ℕ) → n < i → IsEntryAt es name n → ⊥) → (n : ℕ) → n < i + 1 → IsEntryAt es name n → ⊥
not_so_far es name i other before n lt is = elim (less_next n i lt) [
  | inl less ↦ before n less is
  | inr e ↦ true≢false (sym (exact_bytes.one name) ∙ ap (λ z. bytes_eq z name) (sym is.named) ∙ ap (λ z. bytes_eq (name_at (map entry_name es) z) name) e ∙ other)
]

pub found_here : (es : List Entry) (name : List ℕ) (i : ℕ) → i < length es → bytes_eq (name_at (map entry_name es) i) name ≡ true → IsEntryAt es name i
found_here es name i lt e = record { within = lt; named = exact_bytes.two (name_at (map entry_name es) i) name e }

pub none_found : (es : List Entry) (name : List ℕ) (i : ℕ) → length es ≤ i → ((n : ℕ) → n < i → IsEntryAt es name n → ⊥) → (n : ℕ) → IsEntryAt es name n → ⊥
none_found es name i le f n is = let l = is.within in f n (omega (arith, l, le)) is

-- owners that are followed along moves

abbrev ref : ClassKey → List ℕ → MethodRef
ref k name = record { class = k; name = name }

record AreFollowed (cs : List Class) : Type 0 where
  pub moved : (k : ClassKey) (name x : List ℕ) (to : ClassKey) → entry_at cs k name ≡ Some (entries.Moved x to) → owner cs (ref k name) ≡ owner cs (ref to name)
  pub stays : (k : ClassKey) (name x : List ℕ) (sig : Sig) (way : Way) → entry_at cs k name ≡ Some (entries.Introduced x sig way) → owner cs (ref k name) ≡ ref k name

followed : (cs : List Class) → AreStanding cs → AreFollowed cs
followed cs s = subst AreFollowed (sym s.are) (record {
  moved = owner_moved s.own s.load.ordered;
  stays = λ k name x sig way e. owner_stays s.own s.load.ordered k name (rw e refl);
})

module _ (cs : List Class) (s : AreStanding cs) where
  k : AreKnown cs
  k = known cs s

  pub entry_there : (p n : ℕ) (e : Entry) → p < length cs → slice_get (face_at cs p).entries n ≡ Some e → entry_at cs (key_at cs p) (entry_name e) ≡ Some e
  entry_there p n e lt at = entry_is cs (key_at cs p) (entry_name e) (class_of_place cs p) (k.found p lt) ∙ entry_found (face_at cs p).entries n e (k.differ p lt) at

  pub own_slot : (p n : ℕ) (e : Entry) (name : List ℕ) (sig : Sig) (way : Way) → p < length cs → e ≡ entries.Introduced name sig way → slice_get (face_at cs p).entries n ≡ Some e → IsOwner cs p e (record { class = p; entry = n })
  own_slot p n e name sig way lt is at = record {
    low = omega arith;
    entry = entry_number (face_at cs p).entries n e at;
    owns = (followed cs s).stays (key_at cs p) (entry_name e) name sig way (entry_there p n e lt at ∙ ap (λ z. Some z) is);
  }

  pub target : (p n : ℕ) (e : Entry) (name : List ℕ) (to : ClassKey) → p < length cs → e ≡ entries.Moved name to → slice_get (face_at cs p).entries n ≡ Some e → IsTarget cs p name to
  target p n e name to lt is at =
      let here : slice_get (face_at cs p).entries n ≡ Some (entries.Moved name to) = at ∙ ap (λ z. Some z) is in
      let r = k.moved p name to lt (get_mem (face_at cs p).entries n (entries.Moved name to) here) in
      record { target = r.0; before = r.1; is = r.2; there = r.3; number = n; moved = here }

  module _ (p : ℕ) (name : List ℕ) (to : ClassKey) (t : IsTarget cs p name to) (lt : p < length cs) (q : ℕ) (lq : q < length cs) (is : key_at cs q ≡ to) where
    pub same_target : q ≡ t.target
    same_target = let b = t.before in k.once q t.target lq (omega (arith, b, lt)) (is ∙ sym t.is)

    pub there_is : IsSome (entry_of (face_at cs q).entries name)
    there_is = subst (λ z. IsSome (entry_of (face_at cs z).entries name)) (sym same_target) t.there

    pub target_low : q < p
    target_low = let e = same_target in let b = t.before in omega (arith, e, b)

    pub follow : (all : List (List Slot)) (n : ℕ) (slot : Slot) → AreOwners cs p all → IsEntryAt (face_at cs q).entries name n → ((d : Slot) → slot ≡ slice_index_or (slice_index_or all q []) n d) → IsOwner cs p (entries.Moved name to) slot
    follow all n slot are at at_slot =
        let r = number_entry (face_at cs q).entries name n at in
        let o : IsOwner cs q r.0 slot = subst (λ z. IsOwner cs q r.0 z) (sym (at_slot slot)) ((are.by q target_low).by n r.0 slot r.1) in
        let low = o.low in
        let less = target_low in
        record {
          low = omega (arith, low, less);
          entry = subst (λ z. IsEntryAt (face_at cs slot.class).entries z slot.entry) r.2 o.entry;
          owns =
              (followed cs s).moved (key_at cs p) name name to (entry_there p t.number (entries.Moved name to) lt t.moved)
              ∙ ap (λ z. owner cs (ref z name)) (sym is)
              ∙ subst (λ z. owner cs (method_at cs q z) ≡ method_at cs slot.class z) r.2 o.owns;
        }

    pub slot_there : (all : List (List Slot)) (n : ℕ) → AreOwners cs p all → IsEntryAt (face_at cs q).entries name n → (q < length all) × (n < length (slice_index_or all q []))
    slot_there all n are at = let long = are.long in let less = target_low in let same = (are.by q target_low).long in let l = at.within in (omega (arith, long, less), omega (arith, same, l))

-- the owners of the first n entries of a class
pub record OwnersTo (cs : List Class) (p n : ℕ) (slots : List Slot) : Type 0 where
  pub long : length slots ≡ n
  pub by : (i : ℕ) (e : Entry) (d : Slot) → i < n → slice_get (face_at cs p).entries i ≡ Some e → IsOwner cs p e (slice_index_or slots i d)

pub next_owner : (cs : List Class) (p n : ℕ) (slots : List Slot) (slot : Slot) (own : Entry) → slice_get (face_at cs p).entries n ≡ Some own → IsOwner cs p own slot → OwnersTo cs p n slots → OwnersTo cs p (n + 1) (slots ++ slot ∷ [])
next_owner cs p n slots slot own at is so =
    let long = so.long in
    record {
      long = long_last slots slot ∙ ap (λ z. z + 1) long;
      by = λ i e d lt here. elim (less_next i n lt) [
        | inl less ↦ (let l : i < length slots = omega (arith, less, long) in rw (last_before slots slot d i l) (so.by i e d less here))
        | inr same ↦ (
            let l : i ≡ length slots = omega (arith, same, long) in
            let one : Some own ≡ Some e = sym at ∙ ap (slice_get (face_at cs p).entries) (sym same) ∙ here in
            let own_is : own ≡ e = cc in
            rw (last_here slots slot d i l) (subst (λ z. IsOwner cs p z slot) own_is is))
      ];
    }

pub next_owners : (cs : List Class) (n : ℕ) (all : List (List Slot)) (slots : List Slot) → HasOwners cs n slots → AreOwners cs n all → AreOwners cs (n + 1) (all ++ slots ∷ [])
next_owners cs n all slots has so =
    let long = so.long in
    record {
      long = long_last all slots ∙ ap (λ z. z + 1) long;
      by = λ p lt. each_last (λ j z. HasOwners cs j z) all slots [] (λ j l. so.by j (omega (arith, l, long))) (rw long has) p (omega (arith, lt, long));
    }

get_end : (es : List Entry) (i : ℕ) (e : Entry) → slice_get es i ≡ Some e → i < length es
get_end es i e at = (entry_number es i e at).within

pub all_owned : (cs : List Class) (p n : ℕ) (slots : List Slot) → n ≡ length (face_at cs p).entries → OwnersTo cs p n slots → HasOwners cs p slots
all_owned cs p n slots same so = record { long = so.long ∙ same; by = λ i e d at. (let l = get_end (face_at cs p).entries i e at in so.by i e d (omega (arith, l, same)) at) }
