-- The proxies that blocks name, and their numbers.
use Rattle.std.proofs.Common.{◌≡◌, ◌↔◌, Result, Ok, Err, IfOk, ℕ, ◌+◌, ◌<◌, ◌≤◌, inl, inr, Bool, true, false, if◌then◌else◌, List, [], ◌∷◌, ◌++◌, length, flat_map, take, get_or, refl, sym, ap, ◌∙◌, subst, append-nil, append_assoc}
use Rattle.std.proofs.lemmas.List.{map-append, take_all, take_more}
use Rattle.som_model.specs.declared.key.ClassKey.{ClassKey}
use Rattle.som_model.specs.declared.key.ClassKey.TheVariants as keys
use Rattle.som_model.specs.declared.syntax.Block.{Block}
use Rattle.som_model.specs.Lists.{Mem, some}
use Rattle.som_model.specs.Keys.{same_key}
use Rattle.som_model.specs.Class.{Class}
use Rattle.som_model.specs.Made.{blocks_of, proxies_in}
use Rattle.som_model.proofs.KeyLaws.{exact_keys}
use Rattle.som_model_laws.proofs.Members.{mem_left, mem_right, mem_split, some_mem}
use Rattle.som_meta.specs.Numbering.{Numbering}
use Rattle.som_class_ids.specs.declared.keyed.Keyed.{Keyed}
use Rattle.som_class_ids.specs.Classes.{classes_of}
use Rattle.som_class_ids.specs.Numbers.{with_key}
use Rattle.som_proxy_uses.specs.Proxied.{decl_proxies, declarations, proxies_of}
use Rattle.som_proxy_uses.proofs.Noting.{run_is}

-- what classes name, one class further

pub named_end : (ks : List Keyed) (x : Keyed) → flat_map decl_proxies (declarations (classes_of (ks ++ x ∷ []))) ≡ flat_map decl_proxies (declarations (classes_of ks)) ++ decl_proxies x.decl
named_end [] x = append-nil (decl_proxies x.decl)
named_end (y ∷ ks) x = ap (λ l. decl_proxies y.decl ++ l) (named_end ks x) ∙ sym (append_assoc (decl_proxies y.decl) (flat_map decl_proxies (declarations (classes_of ks))) (decl_proxies x.decl))

pub named_next : (ks : List Keyed) (i : ℕ) (x : Keyed) (named all : List ClassKey) → i < length ks → x ≡ get_or ks i x
    → proxies_of named ≡ flat_map decl_proxies (declarations (classes_of (take i ks))) → proxies_of all ≡ proxies_of named ++ decl_proxies x.decl
    → proxies_of all ≡ flat_map decl_proxies (declarations (classes_of (take (i + 1) ks)))
named_next ks i x named all lt is so next =
    next ∙ ap (λ l. l ++ decl_proxies x.decl) so ∙ sym (named_end (take i ks) x)
    ∙ ap (λ l. flat_map decl_proxies (declarations (classes_of l))) (ap (λ z. take i ks ++ z ∷ []) is ∙ sym (take_more ks i x lt))

pub named_all : (ks : List Keyed) (i : ℕ) (named : List ClassKey) → length ks ≤ i → proxies_of named ≡ flat_map decl_proxies (declarations (classes_of (take i ks)))
    → proxies_of named ≡ flat_map decl_proxies (declarations (classes_of ks))
named_all ks i named le so = so ∙ ap (λ l. flat_map decl_proxies (declarations (classes_of l))) (take_all i ks le)

pub named_run : (cs : List Class) (main : Block) (named all : List ClassKey) → proxies_of named ≡ flat_map decl_proxies (declarations cs) → proxies_of all ≡ proxies_of named ++ proxies_in main
    → proxies_of all ≡ flat_map proxies_in (blocks_of cs main)
named_run cs main named all so next = next ∙ ap (λ l. l ++ proxies_in main) so ∙ sym (run_is cs main)

-- the keys of numbers, one class further

pub with_classes : (k : Numbering) (key : ClassKey) → (with_key k key).classes ≡ k.classes
unfolding with_key
with_classes k key = by (some (same_key key) k.keys)
  where
    by : (b : Bool) → (if b then k else record { classes = k.classes; keys = k.keys ++ key ∷ [] }).classes ≡ k.classes
    by true = refl
    by false = refl

pub with_mem : (k : Numbering) (key x : ClassKey) → Mem x (with_key k key).keys ↔ Mem x (k.keys ++ key ∷ [])
unfolding with_key
with_mem k key x = by (some (same_key key) k.keys) refl
  where
    by : (b : Bool) → some (same_key key) k.keys ≡ b → Mem x (if b then k else record { classes = k.classes; keys = k.keys ++ key ∷ [] }).keys ↔ Mem x (k.keys ++ key ∷ [])
    by true e = (
      (λ m. mem_left x k.keys (key ∷ []) m),
      (λ m. elim (mem_split x k.keys (key ∷ []) m) [
        | inl old ↦ old
        | inr new ↦ elim new [
          | inl is ↦ (let r = some_mem (same_key key) k.keys e in subst (λ z. Mem z k.keys) (sym (exact_keys.two key r.0 r.2) ∙ sym is) r.1)
          | inr z ↦ absurd z
        ]
      ]),
    )
    by false e = ((λ m. m), (λ m. m))

-- a key stands in the longer list exactly where it stands in the longer other one
mem_more : (x y : ClassKey) (olds news all : List ClassKey) → Mem x olds ↔ Mem x news → Mem x all ↔ Mem x (olds ++ y ∷ []) → Mem x all ↔ Mem x (news ++ y ∷ [])
mem_more x y olds news all same more = (
  (λ m. elim (mem_split x olds (y ∷ []) (more.0 m)) [ inl k ↦ mem_left x news (y ∷ []) (same.0 k) | inr k ↦ mem_right x news (y ∷ []) k ]),
  (λ m. more.1 (elim (mem_split x news (y ∷ []) m) [ inl k ↦ mem_left x olds (y ∷ []) (same.1 k) | inr k ↦ mem_right x olds (y ∷ []) k ])),
)

pub proxied_next : (old now new : Numbering) (named : List ClassKey) (i : ℕ) (x of : ClassKey) → i < length named → x ≡ get_or named i x → of ≡ x
    → ((k : ClassKey) → Mem k now.keys ↔ Mem k (old.keys ++ proxies_of (take i named))) → new ≡ with_key now (keys.Proxy of)
    → (k : ClassKey) → Mem k new.keys ↔ Mem k (old.keys ++ proxies_of (take (i + 1) named))
proxied_next old now new named i x of lt is same so next k =
    let step : Mem k new.keys ↔ Mem k (now.keys ++ keys.Proxy of ∷ []) = subst (λ (z : Numbering). Mem k z.keys ↔ Mem k (now.keys ++ keys.Proxy of ∷ [])) (sym next) (with_mem now (keys.Proxy of) k) in
    let all : old.keys ++ proxies_of (take (i + 1) named) ≡ (old.keys ++ proxies_of (take i named)) ++ keys.Proxy of ∷ [] =
    ap (λ l. old.keys ++ proxies_of l) (take_more named i x lt ∙ ap (λ z. take i named ++ z ∷ []) (sym is ∙ sym same)) ∙ ap (λ l. old.keys ++ l) (map-append keys.Proxy (take i named) (of ∷ []))
    ∙ sym (append_assoc old.keys (proxies_of (take i named)) (keys.Proxy of ∷ [])) in
    subst (λ l. Mem k new.keys ↔ Mem k l) (sym all) (mem_more k (keys.Proxy of) now.keys (old.keys ++ proxies_of (take i named)) new.keys (so k) step)

pub proxied_none : (k : Numbering) (named : List ClassKey) (x : ClassKey) → Mem x k.keys ↔ Mem x (k.keys ++ proxies_of (take 0 named))
proxied_none k named x = subst (λ l. Mem x k.keys ↔ Mem x l) (sym (append-nil k.keys)) ((λ m. m), (λ m. m))

pub proxied_all : (old now : Numbering) (named : List ClassKey) (i : ℕ) → length named ≤ i → ((k : ClassKey) → Mem k now.keys ↔ Mem k (old.keys ++ proxies_of (take i named)))
    → (k : ClassKey) → Mem k now.keys ↔ Mem k (old.keys ++ proxies_of named)
proxied_all old now named i le so k = subst (λ l. Mem k now.keys ↔ Mem k (old.keys ++ proxies_of l)) (take_all i named le) (so k)

pub named_run_ok : {E : Type 0} (cs : List Class) (main : Block) (named : List ClassKey) (r : Result (List ClassKey) E) → proxies_of named ≡ flat_map decl_proxies (declarations cs)
    → IfOk r (λ all. proxies_of all ≡ proxies_of named ++ proxies_in main) → IfOk r (λ all. proxies_of all ≡ flat_map proxies_in (blocks_of cs main))
named_run_ok cs main named (Ok all) so next = named_run cs main named all so next
named_run_ok cs main named (Err e) so next = tt
