-- Classes that break no rule can stand together.
use Rattle.std.proofs.Common.{◌≡◌, ℕ, zero, suc, ◌<◌, ◌≤◌, inl, inr, true, ◌&&◌, List, [], ◌∷◌, ◌++◌, map, flat_map, length, take, Option, Some, None, slice_get, refl, sym, ap, ◌∙◌, subst, arith, true≢false}
use Rattle.std.specs.Prelude.{is_some}
use Rattle.som_model.specs.declared.key.Module.TheVariants as modules
use Rattle.som_model.specs.declared.key.ClassKey.{ClassKey, out-ClassKey}
use Rattle.som_model.specs.declared.key.ClassKey.TheVariants as keys
use Rattle.som_model.specs.declared.class.Entry.{Entry}
use Rattle.som_model.specs.declared.class.Entry.TheVariants as entries
use Rattle.som_model.specs.declared.class.ClassFace.{ClassFace}
use Rattle.som_model.specs.declared.class.ClassDecl.{ClassDecl}
use Rattle.som_model.specs.declared.program.Release.{Release}
use Rattle.som_model.specs.declared.program.ClientProgram.{ClientProgram}
use Rattle.som_model.specs.Lists.{Mem, first, or_else}
use Rattle.som_model.specs.Keys.{same_key}
use Rattle.som_model.specs.Hierarchy.{Falls, Hierarchy}
use Rattle.som_model.specs.Ancestors.{Descends, itself, by_parent}
use Rattle.som_model.specs.Class.{Class, bare, class_in, entry_name}
use Rattle.som_model.specs.Classes.{class_at, client_classes, hierarchy, interface_classes, library_classes}
use Rattle.som_model.specs.Kernel.{kernel}
use Rattle.som_model.specs.Owner.{introduces}
use Rattle.som_model.specs.Rules.{RuleBreach, demand_of, is_proper, name_of, s1, s2, s3, s4, s5, s6, s7, s8, s9, s10, s14}
use Rattle.som_model.specs.Conforming.{ProgramOk, ReleaseOk, class_typed, each_after, first_of_members, first_of_names, main_typed}
use Rattle.som_model.specs.Loads.{FacesLoad, HasOwnKey, IsOrdered, keys_of}
use Rattle.som_model.proofs.KeyLaws.{both, exact_keys}
use Rattle.som_model.proofs.NamedLaws.{out_named}
use Rattle.som_model_laws.proofs.Members.{Apart, apart_doubles, mem_right, mem_split}
use Rattle.som_verify_classes.specs.Modules.{AreDeclared, module_in}
use Rattle.som_verify_classes.specs.Places.{IsTable, class_of_place}
use Rattle.som_verify_classes.specs.Plainly.{ClassesHold, Introduces, IsAmong}
use Rattle.som_verify_classes.proofs.Before.{none_both}
use Rattle.som_verify_classes.proofs.ClassTable.{is_table}
use Rattle.som_verify_classes.proofs.Falling.{falls}
use Rattle.som_verify_classes.proofs.KeyLists.{height_there}
use Rattle.som_verify_classes.proofs.Conformity.{or_none}
use Rattle.som_verify_classes.proofs.PlainFaces.{classes_say}
use Rattle.som_verify_classes.proofs.PlainLists.{differ_apart}
use Rattle.som_verify_classes.proofs.PlainNames.{say_names}
use Rattle.som_model_laws.proofs.Lists.{find_left, find_mem, get_mem, map_mem, mem_get, mem_map}
use Rattle.som_model_laws.proofs.Owners.{entry_class, entry_mem, moved_to}
use Rattle.som_model_laws.proofs.Standing.{named_one}
use Rattle.som_release_laws.specs.Releasing.{HaveParents, IsCompiled, IsReleased, Once}
use Rattle.som_release_laws.proofs.Facing.{demanded_of, s5_more}
use Rattle.som_release_laws.proofs.Facts.{introduced_entry}
use Rattle.som_release_laws.proofs.Lists.{flat_at}

pub nothing : {A : Type 0} (xs : List A) → first xs ≡ None → xs ≡ []
nothing [] e = refl
nothing (x ∷ xs) e = absurd (cc)

get_place : (cs : List Class) (i : ℕ) (c : Class) → slice_get cs i ≡ Some c → (i < length cs) × (class_of_place cs i ≡ c)
get_place [] i c e = absurd (cc)
get_place (x ∷ cs) zero c e = (omega arith, cc)
get_place (x ∷ cs) (suc i) c e = let r = get_place cs i c e in (omega (arith, r.0), r.1)

take_mem : {A : Type 0} (n : ℕ) (xs : List A) (q : ℕ) (x : A) → slice_get xs q ≡ Some x → q < n → Mem x (take n xs)
take_mem zero xs q x e lt = absurd (omega (arith, lt))
take_mem (suc n) [] q x e lt = absurd (cc)
take_mem (suc n) (y ∷ ys) zero x e lt = inl (cc)
take_mem (suc n) (y ∷ ys) (suc q) x e lt = inr (take_mem n ys q x e (omega (arith, lt)))

module _ {K : Type 0} (h : Hierarchy K) (falls : Falls h) where
  at_most : (x a : K) → Descends h x a → h.height a ≤ h.height x
  at_most x a itself = omega arith
  at_most x a (by_parent p m d) = let f = falls x p m in let g = at_most p a d in omega (arith, f, g)

  proper_lower : (x a : K) → Descends h x a → (a ≡ x → ⊥) → h.height a < h.height x
  proper_lower x a itself other = absurd (other refl)
  proper_lower x a (by_parent p m d) other = let f = falls x p m in let g = at_most p a d in omega (arith, f, g)

in_class : (cs : List Class) (k : ClassKey) (name : List ℕ) (e : Entry) (c : Class) → Mem c cs → c.key ≡ k → Mem e c.decl.face.entries → entry_name e ≡ name → moved_to (Some e) ≡ None → Introduces cs k name
in_class cs k name (entries.Introduced x sig way) c m key n same stays =
    record { class = c; there = m; named = key; sig = sig; way = way; entry = subst (λ z. Mem (entries.Introduced z sig way) c.decl.face.entries) same n }
in_class cs k name (entries.Moved x to) c m key n same stays = absurd (cc)

introduces_says : (cs : List Class) (k : ClassKey) (name : List ℕ) → introduces cs name k ≡ true → Introduces cs k name
introduces_says cs k name i =
    let e = introduced_entry cs name k i in
    let c = entry_class cs k name e.0 e.1 in
    let m = entry_mem c.0.decl.face.entries name e.0 c.2 in
    let f = find_mem (λ (z : Class). same_key z.key k) cs c.0 c.1 in
    in_class cs k name e.0 c.0 f.0 (exact_keys.two c.0.key k f.1) m.0 m.1 e.2

keys_apart : (cs : List Class) → ((c : Class) → Mem c cs → HasOwnKey c) → Apart (map name_of cs) → Apart (keys_of cs)
keys_apart [] own p = tt
keys_apart (x ∷ cs) own p = (
  (λ m. (let y = map_mem (λ (z : Class). z.key) x.key cs m in
      let a = own x (inl refl) in
      let b = own y.0 (inr y.1) in
      let same = (named_one a.module_ b.module_ (name_of x) (name_of y.0) (sym a.is ∙ y.2 ∙ b.is)).1 in
      p.0 (subst (λ z. Mem z (map name_of cs)) (sym same) (mem_map name_of y.0 cs y.1)))),
  keys_apart cs (λ c m. own c (inr m)) p.1,
)

among_key : (cs : List Class) (k : ClassKey) → IsAmong cs k → Mem k (keys_of cs)
among_key cs k a = subst (λ z. Mem z (keys_of cs)) a.named (mem_map (λ (z : Class). z.key) a.class cs a.there)

abbrev moves_up : List Class → Class → Entry → List RuleBreach
moves_up cs c (entries.Introduced name sig way) = []
moves_up cs c (entries.Moved name to) = demand_of 9 c name (is_proper cs c to && introduces cs name to)

-- classes with keys of their own that break none of S1 to S4 and S6 to S10
module _ (cs : List Class) (own : (c : Class) → Mem c cs → HasOwnKey c) (lower_rules : first_of_names kernel cs ≡ None) (upper_rules : first_of_members kernel cs ≡ None) where
  abbrev all : List Class
  all = kernel ++ cs

  declared : AreDeclared cs
  declared = record {
    by = λ c m. (let k = own c m in
        k.is ∙ ap (λ z. keys.Named z (name_of c)) (sym (ap (λ z. module_in (out-ClassKey z)) k.is ∙ ap module_in (out_named k.module_ (name_of c)))));
  }

  holds : ClassesHold cs
  holds = classes_say cs declared lower_rules upper_rules

  table : IsTable cs (map name_of all)
  table = is_table cs (map name_of all) declared refl (say_names cs holds.names)

  height_at : (i : ℕ) (c : Class) → slice_get all i ≡ Some c → (hierarchy all).height c.key ≡ suc i
  height_at i c e =
      let r = get_place all i c e in
      ap (λ (z : Class). (hierarchy all).height z.key) (sym r.1) ∙ sym (height_there cs (map name_of all) table i r.0)

  target_earlier : (i : ℕ) (c : Class) (name : List ℕ) (to : ClassKey) → slice_get cs i ≡ Some c → Mem (entries.Moved name to) c.decl.face.entries → Mem to (keys_of (kernel ++ take i cs))
  target_earlier i c name to e m =
      let in_cs = get_mem cs i c e in
      let up = holds.moved.above c name to in_cs m in
      let d = holds.moved.introduced c name to in_cs m in
      let q = mem_get all d.class d.there in
      let less = proper_lower (hierarchy all) (falls cs (map name_of all) table holds.stand) c.key to up.above up.other in
      let high = height_at (suc (suc (suc (suc i)))) c e in
      let low = height_at q.0 d.class q.1 in
      let same = ap (hierarchy all).height d.named in
      let lt : q.0 < suc (suc (suc (suc i))) = omega (arith, less, high, low, same) in
      subst (λ z. Mem z (keys_of (kernel ++ take i cs))) d.named (mem_map (λ (z : Class). z.key) d.class (kernel ++ take i cs) (take_mem (suc (suc (suc (suc i)))) all q.0 d.class q.1 lt))

  pub ordered : IsOrdered cs
  ordered = record {
    own = own;
    differ = apart_doubles same_key exact_keys.two [] (keys_of cs) (λ a m n. m) (keys_apart cs own (differ_apart name_of cs holds.names.own));
    parents = λ i c k e m. among_key (kernel ++ take i cs) k (holds.stand.parents i c k e m);
    metaclasses = λ i c k e is. among_key (kernel ++ take i cs) k (holds.stand.metaclass i c k e is);
    targets = target_earlier;
  }

  three_four : (first (flat_map s3 cs) ≡ None) × (first (flat_map (s4 all) cs) ≡ None)
  three_four =
      let a = or_none (first (each_after s1 kernel cs)) (or_else (first (each_after s2 kernel cs)) (or_else (first (flat_map s3 cs)) (first (flat_map (s4 all) cs)))) lower_rules in
      let b = or_none (first (each_after s2 kernel cs)) (or_else (first (flat_map s3 cs)) (first (flat_map (s4 all) cs))) a.1 in
      or_none (first (flat_map s3 cs)) (first (flat_map (s4 all) cs)) b.1

  six_up : (first (flat_map s6 cs) ≡ None) × (first (flat_map s7 cs) ≡ None) × (first (flat_map (s9 all) cs) ≡ None) × (first (flat_map (s10 all) cs) ≡ None)
  six_up =
      let a = or_none (first (flat_map s6 cs)) (or_else (first (flat_map s7 cs)) (or_else (first (flat_map (s8 all) cs)) (or_else (first (flat_map (s9 all) cs)) (first (flat_map (s10 all) cs))))) upper_rules in
      let b = or_none (first (flat_map s7 cs)) (or_else (first (flat_map (s8 all) cs)) (or_else (first (flat_map (s9 all) cs)) (first (flat_map (s10 all) cs)))) a.1 in
      let d = or_none (first (flat_map (s8 all) cs)) (or_else (first (flat_map (s9 all) cs)) (first (flat_map (s10 all) cs))) b.1 in
      let e = or_none (first (flat_map (s9 all) cs)) (first (flat_map (s10 all) cs)) d.1 in
      (a.0, b.0, e.0, e.1)

  each : (rule : Class → List RuleBreach) → first (flat_map rule cs) ≡ None → (c : Class) → Mem c cs → rule c ≡ []
  each rule e c m = flat_at rule cs c (nothing (flat_map rule cs) e) m

  moved_well : (c : Class) (name : List ℕ) (to : ClassKey) → Mem c cs → Mem (entries.Moved name to) c.decl.face.entries → (is_proper all c to ≡ true) × (introduces all name to ≡ true)
  moved_well c name to m n = both (is_proper all c to) (introduces all name to)
      (demanded_of 9 c name (is_proper all c to && introduces all name to) (flat_at (moves_up all c) c.decl.face.entries (entries.Moved name to) (each (s9 all) six_up.2 c m) n))

  pub faces_load : ((c : Class) → Mem c cs → s5 all c ≡ []) → FacesLoad cs
  faces_load types = record {
    ordered = ordered;
    parents = each s3 three_four.0;
    descend = each (s4 all) three_four.1;
    types = types;
    names = each s6 six_up.0;
    variables = each s7 six_up.1;
    above = λ c name to m n. (moved_well c name to m n).0;
    there = λ c name to m n. (let e = introduced_entry all name to (moved_well c name to m n).1 in ap is_some e.1);
  }

  pub inherited_all : (c : Class) → Mem c cs → s10 all c ≡ []
  inherited_all = each (s10 all) six_up.3

  pub once_all : Once all cs
  once_all c a b name m d e i j = holds.once.by c a b name m d e (introduces_says all a name i) (introduces_says all b name j)

-- releases and programs

pub library_own : (ds : List ClassDecl) (c : Class) → Mem c (map (class_in modules.Library) ds) → HasOwnKey c
library_own ds c m =
    let d = map_mem (class_in modules.Library) c ds m in
    subst HasOwnKey (sym d.2) (record { module_ = modules.Library; outside = λ e. absurd (cc); is = refl })

pub face_own : (fs : List ClassFace) (c : Class) → Mem c (map (λ (f : ClassFace). class_in modules.Library (bare f)) fs) → HasOwnKey c
face_own fs c m =
    let d = map_mem (λ (f : ClassFace). class_in modules.Library (bare f)) c fs m in
    subst HasOwnKey (sym d.2) (record { module_ = modules.Library; outside = λ e. absurd (cc); is = refl })

client_own : (ds : List ClassDecl) (c : Class) → Mem c (map (class_in modules.Client) ds) → HasOwnKey c
client_own ds c m =
    let d = map_mem (class_in modules.Client) c ds m in
    subst HasOwnKey (sym d.2) (record { module_ = modules.Client; outside = λ e. absurd (cc); is = refl })

-- a release that conforms, and of which each class has a parent
pub released : (r : Release) → ReleaseOk r → HaveParents (library_classes r) → IsReleased (library_classes r)
released r ok parents =
    let cs = library_classes r in
    let all = kernel ++ cs in
    let a = or_none (first_of_names kernel cs) (or_else (first (flat_map (s5 all) cs)) (or_else (first_of_members kernel cs) (first (flat_map s14 cs)))) ok.rules in
    let b = or_none (first (flat_map (s5 all) cs)) (or_else (first_of_members kernel cs) (first (flat_map s14 cs))) a.1 in
    let d = or_none (first_of_members kernel cs) (first (flat_map s14 cs)) b.1 in
    let own = library_own r.classes in
    record {
      faces = faces_load cs own a.0 d.0 (λ c m. flat_at (s5 all) cs c (nothing (flat_map (s5 all) cs) b.0) m);
      parents = parents;
      inherited = inherited_all cs own a.0 d.0;
      bodies = λ c m. flat_at s14 cs c (nothing (flat_map s14 cs) d.1) m;
      typed = λ c m. flat_at (class_typed all) cs c (nothing (flat_map (class_typed all) cs) ok.blocks) m;
    }

-- no two ancestors of a class of a release that conforms introduce one name
pub released_once : (r : Release) → ReleaseOk r → Once (kernel ++ library_classes r) (library_classes r)
released_once r ok =
    let cs = library_classes r in
    let all = kernel ++ cs in
    let a = or_none (first_of_names kernel cs) (or_else (first (flat_map (s5 all) cs)) (or_else (first_of_members kernel cs) (first (flat_map s14 cs)))) ok.rules in
    let b = or_none (first (flat_map (s5 all) cs)) (or_else (first_of_members kernel cs) (first (flat_map s14 cs))) a.1 in
    let d = or_none (first_of_members kernel cs) (first (flat_map s14 cs)) b.1 in
    once_all cs (library_own r.classes) a.0 d.0

-- a client program that conforms, where each class that it knows has a parent
pub compiled : (p : ClientProgram) → ProgramOk p → HaveParents (interface_classes p.base ++ client_classes p) → IsCompiled (interface_classes p.base) (client_classes p) p.main
compiled p ok parents =
    let base = interface_classes p.base in
    let mine = client_classes p in
    let cs = base ++ mine in
    let all = kernel ++ cs in
    let first_types = flat_map (s5 (kernel ++ base)) base in
    let later_types = flat_map (s5 all) mine in
    let a = or_none (first_of_names kernel cs) (or_else (first (first_types ++ later_types)) (or_else (first_of_members kernel cs) (first (flat_map s14 mine)))) ok.rules in
    let b = or_none (first (first_types ++ later_types)) (or_else (first_of_members kernel cs) (first (flat_map s14 mine))) a.1 in
    let d = or_none (first_of_members kernel cs) (first (flat_map s14 mine)) b.1 in
    let t = none_both first_types later_types b.0 in
    let q = none_both (flat_map (class_typed all) mine) (main_typed all p.main) ok.blocks in
    let own : (c : Class) → Mem c cs → HasOwnKey c = λ c m. elim (mem_split c base mine m) [ inl x ↦ face_own p.base.classes c x | inr y ↦ client_own p.classes c y ] in
    let grown : (k : ClassKey) → is_some (class_at (kernel ++ base) k) ≡ true → is_some (class_at all k) ≡ true = λ k e. more_known base mine k (class_at (kernel ++ base) k) refl e in
    record {
      faces = faces_load cs own a.0 d.0 (λ c m. elim (mem_split c base mine m) [
        | inl x ↦ s5_more (kernel ++ base) all grown c (flat_at (s5 (kernel ++ base)) base c (nothing first_types t.0) x)
        | inr y ↦ flat_at (s5 all) mine c (nothing later_types t.1) y
      ]);
      parents = parents;
      once = λ c x y name m. once_all cs own a.0 d.0 c x y name (mem_right c base mine m);
      inherited = λ c m. inherited_all cs own a.0 d.0 c (mem_right c base mine m);
      bodies = λ c m. flat_at s14 mine c (nothing (flat_map s14 mine) d.1) m;
      typed = λ c m. flat_at (class_typed all) mine c (nothing (flat_map (class_typed all) mine) q.0) m;
      main = nothing (main_typed all p.main) q.1;
    }
  where
    more_known : (base mine : List Class) (k : ClassKey) (o : Option Class) → class_at (kernel ++ base) k ≡ o → is_some o ≡ true → is_some (class_at (kernel ++ (base ++ mine)) k) ≡ true
    more_known base mine k None e s = absurd (true≢false (sym s))
    more_known base mine k (Some c) e s = ap is_some (find_left (λ (z : Class). same_key z.key k) (kernel ++ base) mine c e)
