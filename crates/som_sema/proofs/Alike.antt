-- Classes with the same names, parents and metaclasses.
use Rattle.std.proofs.Common.{◌≡◌, ℕ, zero, suc, Bool, true, false, if◌then◌else◌, List, [], ◌∷◌, ◌++◌, length, map, slice_index_or, Option, Some, None, is_some, refl, sym, ap, ◌∙◌, arith}
use Rattle.som_model.specs.Lists.{every, first, option_list}
use Rattle.som_model.specs.Keys.{same_key}
use Rattle.som_model.specs.Class.{Class, class_in}
use Rattle.som_model.specs.Classes.{class_at}
use Rattle.som_model.specs.Conforming.{each_after}
use Rattle.som_model.specs.Kernel.{kernel}
use Rattle.som_model.specs.Rules.{name_of, s2}
use Rattle.som_model.specs.declared.key.Module.{Module}
use Rattle.som_model.specs.declared.key.ClassKey.{ClassKey}
use Rattle.som_model_laws.proofs.Lists.{every_mem, mem_every}
use Rattle.som_verify_classes.specs.Places.{key_at, with_kernel}
use Rattle.som_verify_classes.specs.Modules.{AreDeclared}
use Rattle.som_verify_classes.proofs.PlainLists.{s1_doubles}
use Rattle.som_verify_classes.proofs.Before.{none_both, both_none, demanded}
use Rattle.som_verify_classes.proofs.PlainNames.{demand_none}
use Rattle.som_sema.specs.Ancestry.{IsAncestorTable}
use Rattle.som_sema.specs.declared.ancestry.AncestorTable.{AncestorTable}
use Rattle.som_sema_drafts.specs.Drafts.{InterfaceDraft, draft_classes}
use Rattle.som_sema_decls.specs.Finished.{declare}

pub record Core : Type 0 where
  pub key : ClassKey
  pub name : List ℕ
  pub parents : List ClassKey
  pub metaclass : Option ClassKey

abbrev pub core : Class → Core
core c = record { key = c.key; name = c.decl.face.name; parents = c.decl.face.parents; metaclass = c.decl.face.metaclass }

abbrev pub Alike : List Class → List Class → Type 0
Alike [] [] = Unit {0}
Alike (x ∷ xs) (y ∷ ys) = (core x ≡ core y) × Alike xs ys
Alike [] (y ∷ ys) = ⊥
Alike (x ∷ xs) [] = ⊥

pub alike_self : (xs : List Class) → Alike xs xs
alike_self [] = tt
alike_self (x ∷ xs) = (refl, alike_self xs)

pub alike_both : (xs ys us vs : List Class) → Alike xs ys → Alike us vs → Alike (xs ++ us) (ys ++ vs)
alike_both [] [] us vs a b = b
alike_both (x ∷ xs) (y ∷ ys) us vs a b = (a.0, alike_both xs ys us vs a.1 b)
alike_both [] (y ∷ ys) us vs a b = absurd a
alike_both (x ∷ xs) [] us vs a b = absurd a

pub alike_names : (xs ys : List Class) → Alike xs ys → map name_of xs ≡ map name_of ys
alike_names [] [] a = refl
alike_names (x ∷ xs) (y ∷ ys) a = let e = ap (λ (k : Core). k.name) a.0 in let r = alike_names xs ys a.1 in cc
alike_names [] (y ∷ ys) a = absurd a
alike_names (x ∷ xs) [] a = absurd a

pub alike_long : (xs ys : List Class) → Alike xs ys → length xs ≡ length ys
alike_long [] [] a = refl
alike_long (x ∷ xs) (y ∷ ys) a = ap suc (alike_long xs ys a.1)
alike_long [] (y ∷ ys) a = absurd a
alike_long (x ∷ xs) [] a = absurd a

pub alike_at : (xs ys : List Class) (i : ℕ) (d : Class) → Alike xs ys → core (slice_index_or xs i d) ≡ core (slice_index_or ys i d)
alike_at [] [] i d a = refl
alike_at (x ∷ xs) (y ∷ ys) zero d a = a.0
alike_at (x ∷ xs) (y ∷ ys) (suc i) d a = alike_at xs ys i d a.1
alike_at [] (y ∷ ys) i d a = absurd a
alike_at (x ∷ xs) [] i d a = absurd a

some_if : {A : Type 0} (b c : Bool) (x y : A) (o r : Option A) → b ≡ c → is_some o ≡ is_some r → is_some (if b then Some x else o) ≡ is_some (if c then Some y else r)
some_if true true x y o r e f = refl
some_if false false x y o r e f = f
some_if true false x y o r e f = cc
some_if false true x y o r e f = cc

pub alike_known : (xs ys : List Class) (k : ClassKey) → Alike xs ys → is_some (class_at xs k) ≡ is_some (class_at ys k)
alike_known [] [] k a = refl
alike_known (x ∷ xs) (y ∷ ys) k a =
    some_if (same_key x.key k) (same_key y.key k) x y (class_at xs k) (class_at ys k) (ap (λ (c : Core). same_key c.key k) a.0) (alike_known xs ys k a.1)
alike_known [] (y ∷ ys) k a = absurd a
alike_known (x ∷ xs) [] k a = absurd a

abbrev all_known : List Class → Core → Bool
all_known before c = every (λ k. is_some (class_at before k)) (c.parents ++ option_list c.metaclass)

alike_s2 : (bs cs : List Class) (x y : Class) → Alike bs cs → core x ≡ core y → first (s2 bs x) ≡ None → first (s2 cs y) ≡ None
alike_s2 bs cs x y a e f =
    let stands : all_known bs (core x) ≡ true = demanded 2 x (all_known bs (core x)) f in
    demand_none 2 y (all_known cs (core y))
    (ap (all_known cs) (sym e)
    ∙ mem_every (λ k. is_some (class_at cs k)) (x.decl.face.parents ++ option_list x.decl.face.metaclass)
    (λ k m. sym (alike_known bs cs k a) ∙ every_mem (λ k. is_some (class_at bs k)) k (x.decl.face.parents ++ option_list x.decl.face.metaclass) stands m))

alike_each : (bs cs xs ys : List Class) → Alike bs cs → Alike xs ys → first (each_after s2 bs xs) ≡ None → first (each_after s2 cs ys) ≡ None
alike_each bs cs [] [] a b e = refl
alike_each bs cs (x ∷ xs) (y ∷ ys) a b e =
    let p = none_both (s2 bs x) (each_after s2 (bs ++ x ∷ []) xs) e in
    both_none (s2 cs y) (each_after s2 (cs ++ y ∷ []) ys) (alike_s2 bs cs x y a b.0 p.0)
    (alike_each (bs ++ x ∷ []) (cs ++ y ∷ []) xs ys (alike_both bs cs (x ∷ []) (y ∷ []) a (b.0, tt)) b.1 p.1)
alike_each bs cs [] (y ∷ ys) a b e = absurd b
alike_each bs cs (x ∷ xs) [] a b e = absurd b

key_same : (xs ys : List Class) → Alike xs ys → (row : List ℕ) → map (key_at ys) row ≡ map (key_at xs) row
key_same xs ys a [] = refl
key_same xs ys a (p ∷ row) =
    let e = ap (λ (k : Core). k.key) (sym (alike_at xs ys p _ a)) in
    ap (λ k. k ∷ map (key_at ys) row) e ∙ ap (λ z. key_at xs p ∷ z) (key_same xs ys a row)

-- a table of ancestors of some classes is one of those that are like them
pub alike_table : (xs ys : List Class) (w : AncestorTable) → Alike xs ys → AreDeclared ys → IsAncestorTable xs w → IsAncestorTable ys w
alike_table xs ys w a d h =
    let all = alike_both kernel kernel xs ys (alike_self kernel) a in
    let names = alike_names xs ys a in
    let apart = (s1_doubles kernel xs).0 h.apart in
    record {
      declared = d;
      names = h.names ∙ alike_names (with_kernel xs) (with_kernel ys) all;
      apart = (s1_doubles kernel ys).1 (rw names at apart);
      stand = alike_each kernel kernel xs ys (alike_self kernel) a h.stand;
      lists = record {
        rows = h.lists.rows;
        are = record {
          long = h.lists.are.long ∙ alike_long (with_kernel xs) (with_kernel ys) all;
          low = h.lists.are.low;
          by = λ i lt.
              key_same (with_kernel xs) (with_kernel ys) all (slice_index_or h.lists.rows i [])
              ∙ h.lists.are.by i (omega (arith, lt, alike_long (with_kernel xs) (with_kernel ys) all))
              ∙ ap (λ (k : Core). k.parents) (alike_at (with_kernel xs) (with_kernel ys) i _ all);
        };
        lists = h.lists.lists;
      };
    }

-- a declaration is like its draft
pub alike_declared : (m : Module) (cs : List Class) (ds : List InterfaceDraft) → Alike (map (class_in m) (draft_classes ds)) (map (class_in m) (map (declare cs m) ds))
alike_declared m cs [] = tt
alike_declared m cs (d ∷ ds) = (refl, alike_declared m cs ds)
