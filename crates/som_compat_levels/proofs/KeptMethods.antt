-- K5 by the slots of owners.
use Rattle.std.proofs.Common.{◌≡◌, ◌==◌, ◌&&◌, ℕ, zero, suc, ◌+◌, ◌<◌, ◌≤◌, inl, inr, Bool, true, false, List, [], ◌∷◌, map, length, Some, None, slice_get, slice_index_or, refl, sym, ap, ◌∙◌, subst, arith}
use Rattle.std.specs.Str.{bytes_eq}
use Rattle.som_model.specs.declared.class.Entry.{Entry}
use Rattle.som_model.specs.Lists.{first}
use Rattle.som_model.specs.Keys.{same_key, same_method}
use Rattle.som_model.specs.Same.{same_option, same_sig}
use Rattle.som_model.specs.Class.{Class, entry_name, introduced_sig}
use Rattle.som_model.specs.Compatible.{CompatBreach, incompatible, order_of, signature}
use Rattle.som_model.specs.Owner.{entry_at, owner, sig_of}
use Rattle.som_model.proofs.KeyLaws.{exact_bytes}
use Rattle.som_compat.proofs.Ending.{get_name}
use Rattle.som_level_laws.specs.Levels.{keeps_method, level_k5}
use Rattle.som_verify_classes.specs.Places.{class_of_place, face_at, key_at}
use Rattle.som_verify_classes.proofs.KeyLists.{alike}
use Rattle.som_compat_levels.specs.declared.owners.Slot.{Slot}
use Rattle.som_compat_levels.specs.Owners.{AreOwners, IsOwner, IsSlot, method_at}
use Rattle.som_compat_levels.specs.Pairs.{AreBegun, ArePaired, IsPair}
use Rattle.som_compat_levels.specs.Standing.{AreStanding}
use Rattle.som_compat_levels.proofs.Failing.{first_failing, first_mapped, none_failing, nothing_mapped}
use Rattle.som_compat_levels.proofs.Known.{known}
use Rattle.som_compat_levels.proofs.Lists.{less_next}
use Rattle.som_compat_levels.proofs.Owning.{entry_number, entry_there, number_entry}

-- an entry by a name of the release order
name_get : (es : List Entry) (i : ℕ) (name : List ℕ) → slice_get (map entry_name es) i ≡ Some name → (e : Entry) × (slice_get es i ≡ Some e) × (entry_name e ≡ name)
name_get [] i name at = absurd (cc)
name_get (x ∷ es) zero name at = (x, refl, cc)
name_get (x ∷ es) (suc i) name at = name_get es i name at

pub entry_exists : (es : List Entry) (n : ℕ) → n < length es → (e : Entry) × (slice_get es n ≡ Some e)
entry_exists [] n lt = absurd (omega arith)
entry_exists (x ∷ es) zero lt = (x, refl)
entry_exists (x ∷ es) (suc n) lt = entry_exists es n (omega arith)

module _ (cs : List Class) (s : AreStanding cs) where
  -- the signature of an entry is that which stands at its owner's slot
  pub sig_slot : (p : ℕ) (e : Entry) (slot : Slot) → p < length cs → IsOwner cs p e slot → signature cs (key_at cs p) (entry_name e) ≡ introduced_sig (slice_get (face_at cs slot.class).entries slot.entry)
  sig_slot p e slot lt o =
      let r = number_entry (face_at cs slot.class).entries (entry_name e) slot.entry o.entry in
      let low = o.low in
      let name = entry_name e in
      let there : entry_at cs (key_at cs slot.class) name ≡ Some r.0 = subst (λ z. entry_at cs (key_at cs slot.class) z ≡ Some r.0) r.2 (entry_there cs s slot.class slot.entry r.0 (omega (arith, low, lt)) r.1) in
      ap (sig_of cs) o.owns ∙ ap introduced_sig there ∙ ap introduced_sig (sym r.1)

  pub is_slot : (p : ℕ) (e : Entry) (slot : Slot) → p < length cs → IsOwner cs p e slot → IsSlot cs slot
  is_slot p e slot lt o = let low = o.low in record { class = omega (arith, low, lt); entry = o.entry.within }

and_one : (b c : Bool) → c ≡ true → (b && c) ≡ b
and_one true c e = e
and_one false c e = refl

-- one entry of an old class, its slot in the old, that in the new, and that of its old owner in the new
module _ (O N : List Class) (so : AreStanding O) (sn : AreStanding N) (pairs : List ℕ) (place : ℕ) (lt : place < length O) (pair : ArePaired O N (place + 1) pairs) (begun : AreBegun O N (place + 1) pairs)
    (olds news : List (List Slot)) (oo : AreOwners O (length O) olds) (on : AreOwners N (length N) news) (number : ℕ) (e : Entry) (at : slice_get (face_at O place).entries number ≡ Some e) where
  abbrev r : ℕ
  r = slice_index_or pairs place 0

  rp : IsPair O N place r
  rp = pair.by place (omega arith)

  new_entry : (x : Entry) × (slice_get (face_at N r).entries number ≡ Some x) × (entry_name x ≡ entry_name e)
  new_entry = name_get (face_at N r).entries number (entry_name e) (begun place (omega arith) number (entry_name e) (get_name (face_at O place).entries number e at))

  pub after_there : (r < length news) × (number < length (slice_index_or news r []))
  after_there =
      let long = on.long in
      let w = rp.within in
      let same = (on.by r w).long in
      let l = (entry_number (face_at N r).entries number new_entry.0 new_entry.1).within in
      (omega (arith, long, w), omega (arith, same, l))

  pub before_there : (place < length olds) × (number < length (slice_index_or olds place []))
  before_there =
      let long = oo.long in
      let same = (oo.by place lt).long in
      let l = (entry_number (face_at O place).entries number e at).within in
      (omega (arith, long, lt), omega (arith, same, l))

  module _ (before : Slot) (before_is : (d : Slot) → before ≡ slice_index_or (slice_index_or olds place []) number d) where
    pub old_owner : IsOwner O place e before
    old_owner = subst (λ z. IsOwner O place e z) (sym (before_is before)) ((oo.by place lt).by number e before at)

    pub owner_low : before.class < length pairs
    owner_low = let low = old_owner.low in let long = pair.long in omega (arith, low, long, lt)

    abbrev q : ℕ
    q = slice_index_or pairs before.class 0

    qp : IsPair O N before.class q
    qp = pair.by before.class (let low = old_owner.low in omega (arith, low))

    old_entry : (x : Entry) × (slice_get (face_at O before.class).entries before.entry ≡ Some x) × (entry_name x ≡ entry_name e)
    old_entry = number_entry (face_at O before.class).entries (entry_name e) before.entry old_owner.entry

    owner_entry : (x : Entry) × (slice_get (face_at N q).entries before.entry ≡ Some x) × (entry_name x ≡ entry_name old_entry.0)
    owner_entry = name_get (face_at N q).entries before.entry (entry_name old_entry.0)
        (begun before.class (let low = old_owner.low in omega (arith, low)) before.entry (entry_name old_entry.0) (get_name (face_at O before.class).entries before.entry old_entry.0 old_entry.1))

    pub kept_there : (q < length news) × (before.entry < length (slice_index_or news q []))
    kept_there =
        let long = on.long in
        let w = qp.within in
        let same = (on.by q w).long in
        let l = (entry_number (face_at N q).entries before.entry owner_entry.0 owner_entry.1).within in
        (omega (arith, long, w), omega (arith, same, l))

    module _ (after kept : Slot) (after_is : (d : Slot) → after ≡ slice_index_or (slice_index_or news r []) number d) (kept_is : (d : Slot) → kept ≡ slice_index_or (slice_index_or news q []) before.entry d) where
      new_owner : IsOwner N r new_entry.0 after
      new_owner = subst (λ z. IsOwner N r new_entry.0 z) (sym (after_is after)) ((on.by r rp.within).by number new_entry.0 after new_entry.1)

      kept_owner : IsOwner N q owner_entry.0 kept
      kept_owner = subst (λ z. IsOwner N q owner_entry.0 z) (sym (kept_is kept)) ((on.by q qp.within).by before.entry owner_entry.0 kept owner_entry.1)

      pub after_slot : IsSlot N after
      after_slot = is_slot N sn r new_entry.0 after rp.within new_owner

      abbrev c : Class
      c = class_of_place O place

      abbrev name : List ℕ
      name = entry_name e

      signatures : same_option same_sig (signature O c.key name) (signature N c.key name)
          ≡ same_option same_sig (introduced_sig (slice_get (face_at O before.class).entries before.entry)) (introduced_sig (slice_get (face_at N after.class).entries after.entry))
      signatures =
          ap (λ z. same_option same_sig z (signature N c.key name)) (sig_slot O so place e before lt old_owner)
          ∙ ap (same_option same_sig (introduced_sig (slice_get (face_at O before.class).entries before.entry))) (
          ap (λ z. signature N z name) (sym rp.same)
          ∙ ap (signature N (key_at N r)) (sym new_entry.2)
          ∙ sig_slot N sn r new_entry.0 after rp.within new_owner)

      new_owns : owner N (method_at O place name) ≡ method_at N after.class name
      new_owns =
          ap (λ z. owner N (record { class = z; name = name })) (sym rp.same)
          ∙ subst (λ z. owner N (method_at N r z) ≡ method_at N after.class z) new_entry.2 new_owner.owns

      kept_owns : owner N (owner O (method_at O place name)) ≡ method_at N kept.class name
      kept_owns =
          ap (owner N) old_owner.owns
          ∙ ap (λ z. owner N (record { class = z; name = name })) (sym qp.same)
          ∙ subst (λ z. owner N (method_at N q z) ≡ method_at N kept.class z) (owner_entry.2 ∙ old_entry.2) kept_owner.owns

      owners : same_method (owner N (method_at O place name)) (owner N (owner O (method_at O place name))) ≡ (after.class == kept.class)
      owners =
          let a = (is_slot N sn r new_entry.0 after rp.within new_owner).class in
          let b = (is_slot N sn q owner_entry.0 kept qp.within kept_owner).class in
          ap (λ z. same_method z (owner N (owner O (method_at O place name)))) new_owns
          ∙ ap (same_method (method_at N after.class name)) kept_owns
          ∙ and_one (same_key (key_at N after.class) (key_at N kept.class)) (bytes_eq name name) (exact_bytes.one name)
          ∙ sym (alike N (known N sn).once after.class kept.class a b (after.class == kept.class) (same_key (key_at N after.class) (key_at N kept.class)) refl refl)

      pub keeps_is : keeps_method O N c name
          ≡ (same_option same_sig (introduced_sig (slice_get (face_at O before.class).entries before.entry)) (introduced_sig (slice_get (face_at N after.class).entries after.entry)) && (after.class == kept.class))
      keeps_is =
          ap (λ z. z && same_method (owner N (method_at O place name)) (owner N (owner O (method_at O place name)))) signatures
          ∙ ap (λ z. same_option same_sig (introduced_sig (slice_get (face_at O before.class).entries before.entry)) (introduced_sig (slice_get (face_at N after.class).entries after.entry)) && z) owners

-- the first entry that isn't kept

module _ (O N : List Class) (c : Class) where
  abbrev told_changed : List ℕ × ℕ → CompatBreach
  told_changed p = incompatible 5 c (Some p.0) p.1

  abbrev pub KeptTo : ℕ → Type 0
  KeptTo n = (i : ℕ) (e : Entry) → i < n → slice_get c.decl.face.entries i ≡ Some e → keeps_method O N c (entry_name e) ≡ true

  named : (n : ℕ) → KeptTo n → (i : ℕ) (y : List ℕ) → i < n → slice_get (order_of c) i ≡ Some y → keeps_method O N c y ≡ true
  named n f i y lt at = let r = name_get c.decl.face.entries i y at in subst (λ z. keeps_method O N c z ≡ true) r.2 (f i r.0 lt r.1)

  pub k5_kept : (n : ℕ) → length c.decl.face.entries ≤ n → KeptTo n → first (level_k5 O N c) ≡ None
  k5_kept n le f = nothing_mapped told_changed _ (none_failing (keeps_method O N c) (order_of c) (λ i y at.
      (let r = name_get c.decl.face.entries i y at in let l = (entry_number c.decl.face.entries i r.0 r.1).within in named n f i y (omega (arith, l, le)) at)))

  pub k5_lost : (n : ℕ) (e : Entry) → KeptTo n → slice_get c.decl.face.entries n ≡ Some e → keeps_method O N c (entry_name e) ≡ false → first (level_k5 O N c) ≡ Some (incompatible 5 c (Some (entry_name e)) n)
  k5_lost n e f at fails =
      let sum : n + 0 ≡ n = omega arith in
      first_mapped told_changed _ (entry_name e, n + 0) (first_failing (keeps_method O N c) 0 n (order_of c) (entry_name e) (named n f) (get_name c.decl.face.entries n e at) fails)
      ∙ ap (λ z. Some (incompatible 5 c (Some (entry_name e)) z)) sum

  pub next_kept : (n : ℕ) (own : Entry) → KeptTo n → slice_get c.decl.face.entries n ≡ Some own → keeps_method O N c (entry_name own) ≡ true → KeptTo (n + 1)
  next_kept n own f at t i e lt here = elim (less_next i n lt) [
    | inl less ↦ f i e less here
    | inr same ↦ (
        let one : Some own ≡ Some e = sym at ∙ ap (slice_get c.decl.face.entries) (sym same) ∙ here in
        let is : own ≡ e = cc in
        ap (λ z. keeps_method O N c (entry_name z)) (sym is) ∙ t)
  ]
