-- The bodies for the methods that a class introduces stand where they are said to.
use Rattle.std.proofs.Common.{◌≡◌, ℕ, zero, suc, ◌<◌, ◌==◌, inl, inr, Bool, true, false, if◌then◌else◌, List, [], ◌∷◌, ◌++◌, length, get_or, Option, Some, None, is_some, slice_get, refl, sym, ap, ◌∙◌, subst, arith, true≢false}
use Rattle.std.specs.Option.{option_map}
use Rattle.std.specs.Str.{bytes_eq}
use Rattle.std.proofs.lemmas.Bool.{eqb-true}
use Rattle.som_model.specs.declared.key.Module.TheVariants as modules
use Rattle.som_model.specs.declared.key.ClassKey.{ClassKey}
use Rattle.som_model.specs.declared.class.Entry.{Entry}
use Rattle.som_model.specs.declared.class.Entry.TheVariants as entries
use Rattle.som_model.specs.declared.class.Body.{Body}
use Rattle.som_model.specs.declared.class.Body.TheVariants as bodies
use Rattle.som_model.specs.Lists.{Mem, or_else}
use Rattle.som_model.specs.Keys.{same_key}
use Rattle.som_model.specs.Class.{Class, entry_of, introduced}
use Rattle.som_model.specs.Classes.{class_at}
use Rattle.som_model.specs.Kernel.{kernel}
use Rattle.som_model.specs.Implementation.{Held, OfKernel, body_named, held, introduced_body, is_kernel, override_of}
use Rattle.som_model.specs.Rules.{demand}
use Rattle.som_model.proofs.KeyLaws.{exact_bytes, exact_keys}
use Rattle.som_model.proofs.NamedLaws.{kernel_named}
use Rattle.som_model_laws.proofs.Members.{Apart, mem_split, not_true}
use Rattle.som_model_laws.proofs.Standing as standing
use Rattle.som_meta.specs.Numbering.{IsToken, Numbering, key_at, method_at, names_of}
use Rattle.som_class_layout_laws.specs.Schemes.{numbered}
use Rattle.som_class_layout_laws.proofs.Members.{demanded, entry_some, get_member, none_left}
use Rattle.som_class_bodies.specs.declared.adding.Way.TheVariants as ways
use Rattle.som_class_bodies.specs.Bodies.{IsSourced, held_body, source_body}
use Rattle.som_class_bodies.specs.Adding.{body_at, own_way_of, source_of}
use Rattle.som_class_bodies.proofs.Run.{IsRun, held_known, names, token_class}

-- the body of an introduced name is that at its place
pub body_there : (es : List Entry) (bs : List Body) (i : ℕ) → Apart (introduced es) → length bs ≡ length (introduced es) → i < length (introduced es)
    → (b : Body) × (slice_get bs i ≡ Some b) × (body_named es bs (get_or (introduced es) i []) ≡ Some (held_body b))
body_there [] bs i o l lt = absurd (omega (arith, lt))
body_there (entries.Moved x to ∷ es) bs i o l lt = body_there es bs i o l lt
body_there (entries.Introduced x sig way ∷ es) [] i o l lt = absurd (omega (arith, l))
body_there (entries.Introduced x sig way ∷ es) (bodies.User block ∷ bs) zero o l lt = let t = exact_bytes.one x in (bodies.User block, refl, rw t refl)
body_there (entries.Introduced x sig way ∷ es) (bodies.Get n ∷ bs) zero o l lt = let t = exact_bytes.one x in (bodies.Get n, refl, rw t refl)
body_there (entries.Introduced x sig way ∷ es) (bodies.Set n ∷ bs) zero o l lt = let t = exact_bytes.one x in (bodies.Set n, refl, rw t refl)
body_there (entries.Introduced x sig way ∷ es) (b ∷ bs) (suc i) o l lt =
    let name = get_or (introduced es) i [] in
    let less : i < length (introduced es) = omega (arith, lt) in
    let other : bytes_eq x name ≡ false = not_true (bytes_eq x name) (λ t. o.0 (subst (λ z. Mem z (introduced es)) (sym (exact_bytes.two x name t)) (get_member (introduced es) i less))) in
    let r = body_there es bs i o.1 (omega (arith, l)) less in
    (r.0, r.1, rw other r.2)

some_first : (x : Held) (q : Option Held) (o : Option Held) → o ≡ Some x → or_else o q ≡ Some x
some_first x q o e = ap (λ z. or_else z q) e

module _ (cs : List Class) (ks : List ClassKey) (run : IsRun cs ks) where
  abbrev all : List Class
  all = kernel ++ cs

  abbrev k : Numbering
  k = numbered cs ks

  -- there are as many bodies as introduced entries
  bodies_many : (c : Class) → Mem c all → is_kernel c.key ≡ false → length c.decl.bodies ≡ length (introduced c.decl.face.entries)
  bodies_many c m e = elim (mem_split c kernel cs m) [
    | inl kernels ↦ (let r = standing.kernel_key c kernels in absurd (true≢false (sym (ap is_kernel r.1 ∙ kernel_named modules.Kernel r.0) ∙ e)))
    | inr own ↦ (
        let parts = none_left (demand 14 c (length c.decl.bodies == length (introduced c.decl.face.entries))) _ (run.loads.bodies c own) in
        eqb-true (length c.decl.bodies) (length (introduced c.decl.face.entries)) (demanded 14 c (length c.decl.bodies == length (introduced c.decl.face.entries)) parts.0))
  ]

  -- a body for a method that its class introduces
  pub own_source : (t : ℕ × ℕ) (i : ℕ) → IsToken k t → IsSourced k (body_at t.0 t (source_of (own_way_of k t.0) t i))
  own_source t i is =
      let w = token_class cs ks run t is in
      let found = standing.found_is cs run.loads.faces.ordered (key_at k t.0) w.0 w.1 in
      by w.0 w.1 w.2 found.0 found.1 (is_kernel (key_at k t.0)) refl
    where
      at_own : (c : Class) → class_at all (key_at k t.0) ≡ Some c → c.key ≡ key_at k t.0 → (x : Held) → introduced_body c (method_at k t).name ≡ Some x → held all (key_at k t.0) (method_at k t) ≡ Some x
      at_own c e key x b =
          let own : same_key c.key (key_at k t.0) ≡ true = ap (λ z. same_key z (key_at k t.0)) key ∙ exact_keys.one (key_at k t.0) in
          held_known cs ks run (key_at k t.0) c e (method_at k t)
          ∙ some_first x (override_of all (method_at k t) c.decl.overrides) (if same_key c.key (key_at k t.0) then introduced_body c (method_at k t).name else None)
          (ap (λ (v : Bool). if v then introduced_body c (method_at k t).name else None) own ∙ b)

      by : (c : Class) → class_at all (key_at k t.0) ≡ Some c → names_of k t.0 ≡ introduced c.decl.face.entries → Mem c all → c.key ≡ key_at k t.0
          → (b : Bool) → is_kernel (key_at k t.0) ≡ b → IsSourced k (body_at t.0 t (source_of (if b then ways.Kernel else ways.Introduced) t i))
      by c e ns m key true low =
          let mem : Mem (method_at k t).name (introduced c.decl.face.entries) = subst (λ l. Mem (method_at k t).name l) ns (get_member (names_of k t.0) t.1 is.1) in
          let there = entry_some c.decl.face.entries (method_at k t).name mem in
          let body : introduced_body c (method_at k t).name ≡ Some (OfKernel (method_at k t).name) =
          ap (λ (v : Bool). if v then (if is_some (entry_of c.decl.face.entries (method_at k t).name) then Some (OfKernel (method_at k t).name) else None) else body_named c.decl.face.entries c.decl.bodies (method_at k t).name) (ap is_kernel key ∙ low)
          ∙ ap (λ (v : Bool). if v then Some (OfKernel (method_at k t).name) else None) there in
          record { class = is.0; method = is; held_is = OfKernel (method_at k t).name; has = at_own c e key (OfKernel (method_at k t).name) body; named = refl }
      by c e ns m key false low =
          let apart : Apart (introduced c.decl.face.entries) = subst Apart ns (names cs ks run t.0) in
          let less : t.1 < length (introduced c.decl.face.entries) = subst (λ (l : List (List ℕ)). t.1 < length l) ns is.1 in
          let r = body_there c.decl.face.entries c.decl.bodies t.1 apart (bodies_many c m (ap is_kernel key ∙ low)) less in
          let body : introduced_body c (method_at k t).name ≡ Some (held_body r.0) =
          ap (λ (v : Bool). if v then (if is_some (entry_of c.decl.face.entries (method_at k t).name) then Some (OfKernel (method_at k t).name) else None) else body_named c.decl.face.entries c.decl.bodies (method_at k t).name) (ap is_kernel key ∙ low)
          ∙ ap (λ (l : List (List ℕ)). body_named c.decl.face.entries c.decl.bodies (get_or l t.1 [])) ns ∙ r.2 in
          record {
            class = is.0;
            method = is;
            held_is = held_body r.0;
            has = at_own c e key (held_body r.0) body;
            named = ap (λ (q : Option Class). source_body q (method_at k t).name (source_of ways.Introduced t i)) e ∙ ap (option_map held_body) r.1;
          }
