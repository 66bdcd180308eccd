-- What is kept goes along lists of releases, and levels of libraries load one above the other.
use Rattle.std.proofs.Common.{◌≡◌, ◌≤◌, ℕ, true, inl, inr, List, [], ◌∷◌, ◌++◌, append-nil, length, IsSome, refl, sym, ap, ◌∙◌, subst}
use Rattle.std.specs.Prelude.{is_some}
use Rattle.som_model.specs.declared.key.ClassKey.{ClassKey}
use Rattle.som_model.specs.declared.key.MethodRef.{MethodRef}
use Rattle.som_model.specs.declared.syntax.Block.{Block}
use Rattle.som_model.specs.declared.limits.TheConstants.{MAX_LAID_CLASSES}
use Rattle.som_model.specs.Lists.{Mem}
use Rattle.som_model.specs.Class.{Class}
use Rattle.som_model.specs.Compatible.{EachNext, order_of}
use Rattle.som_model.specs.Counts.{ClassCounted, block_counted}
use Rattle.som_model.specs.Kernel.{kernel}
use Rattle.som_model.specs.Loads.{FacesLoad, Loads}
use Rattle.som_model.specs.Owner.{entry_at, owner}
use Rattle.som_model_laws.specs.Keeping.{ClassesKeep}
use Rattle.som_model_laws.proofs.Keeping.{goes_along, keeps_itself}
use Rattle.som_model_laws.proofs.Members.{mem_right}
use Rattle.som_model_laws.proofs.Owners.{entry_is, owner_owns}
use Rattle.som_model_laws.proofs.Standing.{found}
use Rattle.som_release_laws.specs.Releasing.{AreKept, AreLoadable, HaveOtherKeys, IsCompiled, IsTower, Level, OwnersAreKept, stacked}
use Rattle.som_release_laws.proofs.Clients.{loaded}
use Rattle.som_release_laws.proofs.Exchange.{exchange_grows}
use Rattle.som_release_laws.proofs.Facts.{introduced_entry}
use Rattle.som_release_laws.proofs.Lists.{named_entry}
use Rattle.som_release_laws.proofs.Loading.{loadable_both}
use Rattle.som_release_laws.proofs.OneOwner.{exchange_owner, owner_itself}

abbrev ref : ClassKey → List ℕ → MethodRef
ref k name = record { class = k; name = name }

-- a name of a class's order is an entry of it
order_entry : (cs : List Class) → FacesLoad cs → (c : Class) (name : List ℕ) → Mem c cs → Mem name (order_of c) → IsSome (entry_at (kernel ++ cs) c.key name)
order_entry cs f c name m n =
    let there = found cs f.ordered c c.key (mem_right c kernel cs m) refl in
    subst (λ z. IsSome z) (sym (entry_is (kernel ++ cs) c.key name c there)) (named_entry c.decl.face.entries name n)

-- owners are kept of a list by itself
pub owners_itself : (cs : List Class) → FacesLoad cs → OwnersAreKept cs cs
owners_itself cs f c name m n = owner_itself cs f (ref c.key name) (order_entry cs f c name m n)

-- where owners are kept of classes, they are of each reference to what is there, those to the kernel's too
module _ (olds news : List Class) (fa : FacesLoad olds) (fn : FacesLoad news) (keep : ClassesKeep olds news) (kept : OwnersAreKept olds news) where
  abbrev AllKept : List Class → List Class → Type 0
  AllKept xs ys = (r : MethodRef) → IsSome (entry_at (kernel ++ xs) r.class r.name) → owner (kernel ++ ys) r ≡ owner (kernel ++ ys) (owner (kernel ++ xs) r)

  abbrev AllThere : List Class → List Class → Type 0
  AllThere xs ys = (k : ClassKey) (name : List ℕ) → IsSome (entry_at (kernel ++ xs) k name) → IsSome (entry_at (kernel ++ ys) k name)

  none_other : (c d : Class) → Mem c news → Mem d [] → c.key ≡ d.key → ⊥
  none_other c d m n e = n

  first : FacesLoad (olds ++ [])
  first = subst FacesLoad (sym (append-nil olds)) fa

  pub all_kept : AllKept olds news
  all_kept = subst (λ (xs : List Class). AllKept xs news) (append-nil olds)
      (subst (λ (ys : List Class). AllKept (olds ++ []) ys) (append-nil news) (exchange_owner olds news [] first fn keep none_other kept))

  pub all_there : AllThere olds news
  all_there = subst (λ (xs : List Class). AllThere xs news) (append-nil olds)
      (subst (λ (ys : List Class). AllThere (olds ++ []) ys) (append-nil news) (exchange_grows olds news [] first.ordered fn.ordered keep none_other).entries)

-- what is kept of a list by one in between, and of that by a newer one, is kept
pub owners_along : (olds mids news : List Class) → FacesLoad olds → FacesLoad mids → FacesLoad news → AreKept olds mids → AreKept mids news → OwnersAreKept olds news
owners_along olds mids news fa fm fn a b c name m n =
    let r = ref c.key name in
    let s = owner (kernel ++ olds) r in
    let r_old = order_entry olds fa c name m n in
    let i = introduced_entry (kernel ++ olds) s.name s.class (owner_owns olds fa r r_old).introduced in
    let r_mid = all_there olds mids fa fm a.0 a.1 c.key name r_old in
    let s_mid = all_there olds mids fa fm a.0 a.1 s.class s.name (ap is_some i.1) in
    all_kept mids news fm fn b.0 b.1 r r_mid
    ∙ ap (owner (kernel ++ news)) (a.1 c name m n)
    ∙ sym (all_kept mids news fm fn b.0 b.1 s s_mid)

pub kept_along : (olds mids news : List Class) → FacesLoad olds → FacesLoad mids → FacesLoad news → AreKept olds mids → AreKept mids news → AreKept olds news
kept_along olds mids news fa fm fn a b = (goes_along olds mids news fa.ordered fm.ordered fn.ordered a.0 b.0, owners_along olds mids news fa fm fn a b)

pub kept_itself : (cs : List Class) → FacesLoad cs → AreKept cs cs
kept_itself cs f = (keeps_itself cs f.ordered, owners_itself cs f)

-- along a list of releases

abbrev Stand : List (List Class) → Type 0
Stand rs = (cs : List Class) → Mem cs rs → FacesLoad cs

at_end : (xs : List (List Class)) (x : List Class) → Mem x (xs ++ x ∷ [])
at_end [] x = inl refl
at_end (y ∷ xs) x = inr (at_end xs x)

from_first : (a : List Class) (rs : List (List Class)) (last : List Class) → Stand (a ∷ (rs ++ last ∷ [])) → EachNext AreKept (a ∷ (rs ++ last ∷ [])) → AreKept a last
from_first a [] last stand next = next.0
from_first a (b ∷ rs) last stand next =
    kept_along a b last (stand a (inl refl)) (stand b (inr (inl refl))) (stand last (inr (inr (at_end rs last)))) next.0 (from_first b rs last (λ r m. stand r (inr m)) next.1)

rest_next : (a : List Class) (rs : List (List Class)) (last : List Class) → EachNext AreKept (a ∷ (rs ++ last ∷ [])) → EachNext AreKept (rs ++ last ∷ [])
rest_next a [] last next = tt
rest_next a (b ∷ rs) last next = next.1

pub kept_to_last : (rs : List (List Class)) (last olds : List Class) → ((cs : List Class) → Mem cs (rs ++ last ∷ []) → FacesLoad cs) → EachNext AreKept (rs ++ last ∷ []) → Mem olds (rs ++ last ∷ []) → AreKept olds last
kept_to_last [] last olds stand next (inl e) = subst (λ z. AreKept z last) (sym e) (kept_itself last (stand last (inl refl)))
kept_to_last [] last olds stand next (inr m) = absurd m
kept_to_last (a ∷ rs) last olds stand next (inl e) = subst (λ z. AreKept z last) (sym e) (from_first a rs last stand next)
kept_to_last (a ∷ rs) last olds stand next (inr m) = kept_to_last rs last olds (λ x n. stand x (inr n)) (rest_next a rs last next) m

pub loaded_along : (rs : List (List Class)) (last olds own : List Class) (main : Block) → ((cs : List Class) → Mem cs (rs ++ last ∷ []) → FacesLoad cs) → EachNext AreKept (rs ++ last ∷ []) → Mem olds (rs ++ last ∷ [])
    → IsCompiled olds own main → AreLoadable last → HaveOtherKeys last own
    → length (last ++ own) ≤ MAX_LAID_CLASSES → ((c : Class) → Mem c (last ++ own) → ClassCounted c.decl) → block_counted main ≡ true → Loads (last ++ own) main
loaded_along rs last olds own main stand next m compiled loadable apart =
    let k = kept_to_last rs last olds stand next m in
    loaded olds last own main compiled loadable k.0 k.1 apart

-- level by level
pub tower_loadable : (news : List Class) (ls : List Level) → AreLoadable news → IsTower news ls → AreLoadable (stacked news ls)
tower_loadable news [] loadable tower = loadable
tower_loadable news (l ∷ ls) loadable tower =
    let t = tower.0 in
    tower_loadable (news ++ l.own) ls (loadable_both l.olds news l.own l.main t.0 loadable t.1.0 t.1.1 t.2) tower.1
